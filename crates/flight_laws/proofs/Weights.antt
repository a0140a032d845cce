-- The parts of the work that is left, and what one change does to each.
use Rattle.std.proofs.Common.{◌≡◌, ◌≢◌, ℕ, zero, suc, ◌+◌, ◌≤◌, ◌<◌, ◌⊎◌, inl, inr, Bool, true, false, true≢false, cond, nat_eq, List, [], ◌∷◌, ◌++◌, length, drop, set, refl, sym, ap, ◌∙◌, subst, arith, eq-eqb}
use Rattle.std.specs.List.{count_by}
use Rattle.std.proofs.lemmas.Bool.{cases_eq}
use Rattle.std.proofs.lemmas.List.{get_or-set_same, get_or-set_other}
use Rattle.std.proofs.lemmas.List.Sums.{sum_by-set}
use Rattle.far_base.specs.declared.slot_state.SlotState.{SlotState}
use Rattle.far_base.specs.declared.slot_state.SlotState.TheVariants.{Free}
use Rattle.far_model.specs.Evictions.{is_free, state_at}
use Rattle.far_model.specs.Pass.{with_taken}
use Rattle.far_model.specs.View.{SwitchView, is_taken}
use Rattle.far_model.specs.Work.{untaken_from, wants_weight}
use Rattle.far_base.specs.declared.record.Record.{Record}
use Rattle.std.specs.Prelude.{Option}

-- ---- slots whose part was not taken

pub untaken_most : (v : SwitchView) (k n : ℕ) → untaken_from v k n ≤ n
untaken_most v k zero = omega arith
untaken_most v k (suc n) = by (is_taken v k) (untaken_most v (suc k) n)
  where
    by : (b : Bool) → untaken_from v (suc k) n ≤ n → cond {A = ℕ} b 0 1 + untaken_from v (suc k) n ≤ suc n
    by true h = omega (arith, h)
    by false h = omega (arith, h)

taken_other : (v : SwitchView) (i : ℕ) (view : Option Record) (j : ℕ) → j ≢ i → is_taken (with_taken v i view) j ≡ is_taken v j
taken_other v i view j ne = ap (λ n. nat_eq n v.snap) (get_or-set_other v.taken i j v.snap 0 ne)

pub taken_here : (v : SwitchView) (i : ℕ) (view : Option Record) → i < length v.taken → is_taken (with_taken v i view) i ≡ true
taken_here v i view h = ap (λ n. nat_eq n v.snap) (get_or-set_same v.taken i v.snap 0 h) ∙ eq-eqb v.snap v.snap refl

untaken_past : (v : SwitchView) (i : ℕ) (view : Option Record) (k n : ℕ) → i < k → untaken_from (with_taken v i view) k n ≡ untaken_from v k n
untaken_past v i view k zero h = refl
untaken_past v i view k (suc n) h =
    let one : cond {A = ℕ} (is_taken (with_taken v i view) k) 0 1 ≡ cond {A = ℕ} (is_taken v k) 0 1 = ap (λ b. cond {A = ℕ} b 0 1) (taken_other v i view k (λ e. omega arith)) in
    omega (arith, one, untaken_past v i view (suc k) n (omega arith))

-- a part that is taken is one less
pub untaken_less : (v : SwitchView) (i : ℕ) (view : Option Record) (k n : ℕ) → k ≤ i → i < k + n → i < length v.taken → is_taken v i ≡ false → suc (untaken_from (with_taken v i view) k n) ≡ untaken_from v k n
untaken_less v i view k zero a b w off = absurd (omega arith)
untaken_less v i view k (suc n) a b w off = by (λ more less. untaken_less v i view (suc k) n more less w off) (cases_eq i k)
  where
    by : (suc k ≤ i → i < suc k + n → suc (untaken_from (with_taken v i view) (suc k) n) ≡ untaken_from v (suc k) n) → (i ≡ k) ⊎ (i ≡ k → ⊥) → suc (untaken_from (with_taken v i view) k (suc n)) ≡ untaken_from v k (suc n)
    by later (inl e) =
        let now : cond {A = ℕ} (is_taken (with_taken v i view) k) 0 1 ≡ 0 = ap (λ b. cond {A = ℕ} b 0 1) (ap (is_taken (with_taken v i view)) (sym e) ∙ taken_here v i view w) in
        let was : cond {A = ℕ} (is_taken v k) 0 1 ≡ 1 = ap (λ b. cond {A = ℕ} b 0 1) (ap (is_taken v) (sym e) ∙ off) in
        omega (arith, now, was, untaken_past v i view (suc k) n (omega arith))
    by later (inr ne) =
        let one : cond {A = ℕ} (is_taken (with_taken v i view) k) 0 1 ≡ cond {A = ℕ} (is_taken v k) 0 1 = ap (λ b. cond {A = ℕ} b 0 1) (taken_other v i view k (λ e. ne (sym e))) in
        omega (arith, one, later (omega arith) (omega arith))

-- ---- wants

pub wants_more_room : (room : ℕ) (keys : List (List ℕ)) → wants_weight (suc room) keys ≤ wants_weight room keys
wants_more_room room [] = omega arith
wants_more_room zero (key ∷ keys) = omega (arith, flat keys)
  where
    flat : (keys : List (List ℕ)) → wants_weight zero keys ≤ 15 + wants_weight zero keys
    flat keys = omega arith
wants_more_room (suc room) (key ∷ keys) = omega (arith, wants_more_room room keys)

pub wants_room : (room other : ℕ) (keys : List (List ℕ)) → room ≤ other → wants_weight other keys ≤ wants_weight room keys
wants_room room zero keys h = let e : room ≡ 0 = omega arith in subst (λ n. wants_weight 0 keys ≤ wants_weight n keys) (sym e) (omega arith)
wants_room room (suc other) keys h = by (λ k. wants_room room other keys k) (cases_eq room (suc other))
  where
    by : (room ≤ other → wants_weight other keys ≤ wants_weight room keys) → (room ≡ suc other) ⊎ (room ≡ suc other → ⊥) → wants_weight (suc other) keys ≤ wants_weight room keys
    by f (inl e) = subst (λ n. wants_weight (suc other) keys ≤ wants_weight n keys) (sym e) (omega arith)
    by f (inr ne) = omega (arith, f (omega arith), wants_more_room other keys)

-- one more want weighs at most 18
pub wants_append : (room : ℕ) (keys : List (List ℕ)) (key : List ℕ) → wants_weight room (keys ++ key ∷ []) ≤ wants_weight room keys + 18
wants_append zero [] key = omega arith
wants_append (suc room) [] key = omega arith
wants_append zero (x ∷ keys) key = omega (arith, wants_append zero keys key)
wants_append (suc room) (x ∷ keys) key = omega (arith, wants_append room keys key)

-- the first want goes with the place that it had
pub wants_served : (room : ℕ) (keys : List (List ℕ)) → wants_weight room (drop 1 keys) ≤ wants_weight (suc room) keys
wants_served room [] = omega arith
wants_served room (key ∷ keys) = omega arith

-- the first want is dropped, and its place is there for the next
pub wants_dropped : (room : ℕ) (key : List ℕ) (keys : List (List ℕ)) → 3 + wants_weight room keys ≤ wants_weight room (key ∷ keys)
wants_dropped zero key keys = omega arith
wants_dropped (suc room) key keys = omega (arith, wants_more_room room keys)

-- ---- free slots

pub free_count_set : (slots : List SlotState) (i : ℕ) (new : SlotState) → i < length slots → count_by is_free (set slots i new) + cond {A = ℕ} (is_free (state_at slots i)) 1 0 ≡ count_by is_free slots + cond {A = ℕ} (is_free new) 1 0
free_count_set slots i new h = sum_by-set (λ x. cond {A = ℕ} (is_free x) 1 0) slots i new Free h

pub state_within : (slots : List SlotState) (i : ℕ) → is_free (state_at slots i) ≡ false → i < length slots
state_within [] i h = absurd (true≢false h)
state_within (x ∷ xs) zero h = omega arith
state_within (x ∷ xs) (suc i) h = omega (arith, state_within xs i h)

-- a slot that was not free is another one that is not
pub free_count_same : (slots : List SlotState) (i : ℕ) (new : SlotState) → is_free (state_at slots i) ≡ false → is_free new ≡ false → count_by is_free (set slots i new) ≡ count_by is_free slots
free_count_same slots i new a b =
    let was : cond {A = ℕ} (is_free (state_at slots i)) 1 0 ≡ 0 = ap (λ t. cond {A = ℕ} t 1 0) a in
    let now : cond {A = ℕ} (is_free new) 1 0 ≡ 0 = ap (λ t. cond {A = ℕ} t 1 0) b in
    omega (arith, free_count_set slots i new (state_within slots i a), was, now)

pub free_count_more : (slots : List SlotState) (i : ℕ) → is_free (state_at slots i) ≡ false → count_by is_free (set slots i Free) ≡ suc (count_by is_free slots)
free_count_more slots i a =
    let was : cond {A = ℕ} (is_free (state_at slots i)) 1 0 ≡ 0 = ap (λ t. cond {A = ℕ} t 1 0) a in
    omega (arith, free_count_set slots i Free (state_within slots i a), was)

pub free_count_less : (slots : List SlotState) (i : ℕ) (new : SlotState) → i < length slots → is_free (state_at slots i) ≡ true → is_free new ≡ false → suc (count_by is_free (set slots i new)) ≡ count_by is_free slots
free_count_less slots i new h a b =
    let was : cond {A = ℕ} (is_free (state_at slots i)) 1 0 ≡ 1 = ap (λ t. cond {A = ℕ} t 1 0) a in
    let now : cond {A = ℕ} (is_free new) 1 0 ≡ 0 = ap (λ t. cond {A = ℕ} t 1 0) b in
    omega (arith, free_count_set slots i new h, was, now)

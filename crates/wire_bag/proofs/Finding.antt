-- The first of a list that passes, and how many pass.
use Rattle.std.proofs.Common.{◌≡◌, ℕ, zero, suc, ◌+◌, ◌-◌, ◌%◌, ◌<◌, ◌≤◌, Bool, true, false, List, [], ◌∷◌, ◌++◌, length, map, drop, get_or, set, replicate, refl, sym, ap, ◌∙◌, subst, cond, Some, None, arith, eqb-true, nat_eq, mod-lt}
use Rattle.std.specs.Prelude.{Option, slice_get, slice_index}
use Rattle.std.specs.List.{count_by, remove}
use Rattle.std.proofs.lemmas.List.{get_or-replicate, get_or-set_same, get_or-set_other}
use Rattle.std.proofs.lemmas.List.Sums.{sum_by-append, sum_by-cons}
use Rattle.std.proofs.lemmas.Option.{same_Some}
use Rattle.far_base.specs.declared.party.Party.{Party}
use Rattle.far_base.specs.declared.party.Party.TheVariants.{Client, Switch, Server, Controller}
use Rattle.wire_bag.specs.Addressees.{AreCounted, first_by, is_at, is_to, oldest_to, place_of}
use Rattle.wire_bag.specs.BagView.{Message, is_same}

-- ---- the first

pub first_of_map : {A B : Type 0} (f : A → B) (p : B → Bool) (i : ℕ) (xs : List A) → first_by p i (map f xs) ≡ first_by (λ x. p (f x)) i xs
first_of_map f p i [] = refl
first_of_map f p i (x ∷ xs) = ap (λ (o : Option ℕ). cond (p (f x)) (Some i) o) (first_of_map f p (suc i) xs)

pub here : {A : Type 0} (p : A → Bool) (n i : ℕ) (xs : List A) (d : A) → i < length xs → p (get_or xs i d) ≡ true → first_by p n (drop i xs) ≡ Some n
here p n i [] d h k = absurd (omega arith)
here p n zero (y ∷ ys) d h k = rw k refl
here p n (suc i) (y ∷ ys) d h k = here p n i ys d (omega arith) k

pub further : {A : Type 0} (p : A → Bool) (n i : ℕ) (xs : List A) (d : A) → i < length xs → p (get_or xs i d) ≡ false → first_by p n (drop i xs) ≡ first_by p (n + 1) (drop (i + 1) xs)
further p n i [] d h k = absurd (omega arith)
further p n zero (y ∷ ys) d h k = let m : n + 1 ≡ suc n = omega arith in rw (k, m) refl
further p n (suc i) (y ∷ ys) d h k = let m : suc i + 1 ≡ suc (i + 1) = omega arith in rw m (further p n i ys d (omega arith) k)

pub nowhere : {A : Type 0} (p : A → Bool) (n i : ℕ) (xs : List A) → length xs ≤ i → first_by p n (drop i xs) ≡ None
nowhere p n zero [] h = refl
nowhere p n (suc i) [] h = refl
nowhere p n zero (x ∷ xs) h = absurd (omega arith)
nowhere p n (suc i) (x ∷ xs) h = nowhere p n i xs (omega arith)

-- ---- the counts

same_place : (a b : Party) → is_same a b ≡ true → place_of a ≡ place_of b
same_place (Client a) (Client b) h = ap (λ (n : ℕ). place_of (Client n)) (eqb-true a b h)
same_place (Server a) (Server b) h = ap (λ (n : ℕ). place_of (Server n)) (eqb-true a b h)
same_place Switch Switch h = refl
same_place Controller Controller h = refl
same_place _ _ h = absurd cc

at_its_place : (who : Party) (m : Message) → is_to who m ≡ true → is_at (place_of who) m ≡ true
at_its_place who m h = let e = same_place m.1 who h in rw e (grind arith)

-- where no message is counted at the place of a party, there is none to it
pub none_counted : (who : Party) (i : ℕ) (ms : List Message) → count_by (is_at (place_of who)) ms ≡ 0 → first_by (is_to who) i ms ≡ None
none_counted who i [] none = refl
none_counted who i (m ∷ ms) none = go (is_to who m) refl (none_counted who (suc i) ms)
  where
    sum : count_by (is_at (place_of who)) (m ∷ ms) ≡ cond {A = ℕ} (is_at (place_of who) m) 1 0 + count_by (is_at (place_of who)) ms
    sum = sum_by-cons (λ (y : Message). cond {A = ℕ} (is_at (place_of who) y) 1 0) m ms

    go : (b : Bool) → is_to who m ≡ b → (count_by (is_at (place_of who)) ms ≡ 0 → first_by (is_to who) (suc i) ms ≡ None) → cond b (Some i) (first_by (is_to who) (suc i) ms) ≡ None
    go true h more = let one : cond {A = ℕ} (is_at (place_of who) m) 1 0 ≡ 1 = ap (λ (b : Bool). cond {A = ℕ} b 1 0) (at_its_place who m h) in absurd (omega (arith, none, sum, one))
    go false h more = let zero_is : cond {A = ℕ} (is_at (place_of who) m) 1 0 + count_by (is_at (place_of who)) ms ≡ 0 = sym sum ∙ none in more (omega (arith, zero_is))

pub none_at_first : (place : ℕ) → place < 98 → slice_index (replicate {A = ℕ} 98 0) place ≡ 0
none_at_first place less = get_or-replicate {A = ℕ} 98 place 0 0 less

pub count_within : {A : Type 0} (p : A → Bool) (xs : List A) → count_by p xs ≤ length xs
count_within p [] = omega arith
count_within p (x ∷ xs) = go (p x) (count_within p xs) (sum_by-cons (λ y. cond {A = ℕ} (p y) 1 0) x xs)
  where
    go : (b : Bool) → count_by p xs ≤ length xs → count_by p (x ∷ xs) ≡ cond {A = ℕ} b 1 0 + count_by p xs → count_by p (x ∷ xs) ≤ length (x ∷ xs)
    go true h e = omega (arith, h, e)
    go false h e = omega (arith, h, e)

count_removed : {A : Type 0} (p : A → Bool) (xs : List A) (i : ℕ) (x : A) → slice_get xs i ≡ Some x → count_by p (remove xs i) + cond {A = ℕ} (p x) 1 0 ≡ count_by p xs
count_removed p [] i x h = absurd cc
count_removed p (y ∷ ys) zero x h =
    let sum = sum_by-cons (λ z. cond {A = ℕ} (p z) 1 0) y ys in
    let e : cond {A = ℕ} (p y) 1 0 ≡ cond {A = ℕ} (p x) 1 0 = ap (λ z. cond {A = ℕ} (p z) 1 0) (same_Some _ _ h) in
    omega (arith, sum, e)
count_removed p (y ∷ ys) (suc i) x h =
    let sum = sum_by-cons (λ z. cond {A = ℕ} (p z) 1 0) y ys in
    let more = sum_by-cons (λ z. cond {A = ℕ} (p z) 1 0) y (remove ys i) in
    let rest = count_removed p ys i x h in
    omega (arith, sum, more, rest)

at_own : (who : Party) (m : Message) → m.1 ≡ who → cond {A = ℕ} (is_at (place_of who) m) 1 0 ≡ 1
at_own who m e = ap (λ (b : Bool). cond {A = ℕ} b 1 0) (own m.1 who e)
  where
    own : (a b : Party) → a ≡ b → nat_eq (place_of a) (place_of b) ≡ true
    own a b e = rw e (grind arith)

at_other : (who : Party) (m : Message) (place : ℕ) → m.1 ≡ who → (place ≡ place_of who → ⊥) → cond {A = ℕ} (is_at place m) 1 0 ≡ 0
at_other who m place e ne = ap (λ (b : Bool). cond {A = ℕ} b 1 0) (other (nat_eq (place_of m.1) place) refl)
  where
    other : (b : Bool) → nat_eq (place_of m.1) place ≡ b → nat_eq (place_of m.1) place ≡ false
    other true k = absurd (ne (sym (eqb-true (place_of m.1) place k) ∙ ap place_of e))
    other false k = k

-- a message more
pub counted_put : (counts : List ℕ) (ms : List Message) (m : Message) (who : Party) → length counts ≡ 98 → place_of who < 98 → AreCounted counts ms → m.1 ≡ who
    → AreCounted (set counts (place_of who) (slice_index counts (place_of who) + 1)) (ms ++ m ∷ [])
counted_put counts ms m who size within h e place less = go (nat_eq place (place_of who)) refl
  where
    sum : count_by (is_at place) (ms ++ m ∷ []) ≡ count_by (is_at place) ms + cond {A = ℕ} (is_at place m) 1 0
    sum =
        let both = sum_by-append (λ (y : Message). cond {A = ℕ} (is_at place y) 1 0) ms (m ∷ []) in
        let one = sum_by-cons (λ (y : Message). cond {A = ℕ} (is_at place y) 1 0) m [] in
        omega (arith, both, one)

    go : (b : Bool) → nat_eq place (place_of who) ≡ b → slice_index (set counts (place_of who) (slice_index counts (place_of who) + 1)) place ≡ count_by (is_at place) (ms ++ m ∷ [])
    go true k =
        let same = eqb-true place (place_of who) k in
        let there : slice_index (set counts (place_of who) (slice_index counts (place_of who) + 1)) (place_of who) ≡ slice_index counts (place_of who) + 1 = get_or-set_same counts (place_of who) _ 0 (omega (arith, size, within)) in
        let own = at_own who m e in
        let was = h (place_of who) within in
        let all = sum in
        rw same (omega (arith, there, own, was, subst (λ (p : ℕ). count_by (is_at p) (ms ++ m ∷ []) ≡ count_by (is_at p) ms + cond {A = ℕ} (is_at p m) 1 0) same all))
    go false k =
        let ne : place ≡ place_of who → ⊥ = λ q. absurd (false≢ (sym k ∙ ap (λ (p : ℕ). nat_eq p (place_of who)) q ∙ self (place_of who))) in
        let there : slice_index (set counts (place_of who) (slice_index counts (place_of who) + 1)) place ≡ slice_index counts place = get_or-set_other counts (place_of who) place _ 0 ne in
        let none = at_other who m place e ne in
        let was = h place less in
        let all = sum in
        omega (arith, there, none, was, all)
      where
        self : (n : ℕ) → nat_eq n n ≡ true
        self n = grind arith

        false≢ : false ≡ true → ⊥
        false≢ q = cc

-- a message less
pub counted_taken : (counts : List ℕ) (ms : List Message) (i : ℕ) (m : Message) (who : Party) → length counts ≡ 98 → place_of who < 98 → AreCounted counts ms → slice_get ms i ≡ Some m → m.1 ≡ who
    → AreCounted (set counts (place_of who) (slice_index counts (place_of who) - 1)) (remove ms i)
counted_taken counts ms i m who size within h at e place less = go (nat_eq place (place_of who)) refl
  where
    go : (b : Bool) → nat_eq place (place_of who) ≡ b → slice_index (set counts (place_of who) (slice_index counts (place_of who) - 1)) place ≡ count_by (is_at place) (remove ms i)
    go true k =
        let same = eqb-true place (place_of who) k in
        let there : slice_index (set counts (place_of who) (slice_index counts (place_of who) - 1)) (place_of who) ≡ slice_index counts (place_of who) - 1 = get_or-set_same counts (place_of who) _ 0 (omega (arith, size, within)) in
        let own = at_own who m e in
        let was = h (place_of who) within in
        let all = count_removed (is_at (place_of who)) ms i m at in
        rw same (omega (arith, there, own, was, all))
    go false k =
        let ne : place ≡ place_of who → ⊥ = λ q. absurd (false≢ (sym k ∙ ap (λ (p : ℕ). nat_eq p (place_of who)) q ∙ self (place_of who))) in
        let there : slice_index (set counts (place_of who) (slice_index counts (place_of who) - 1)) place ≡ slice_index counts place = get_or-set_other counts (place_of who) place _ 0 ne in
        let none = at_other who m place e ne in
        let was = h place less in
        let all = count_removed (is_at place) ms i m at in
        omega (arith, there, none, was, all)
      where
        self : (n : ℕ) → nat_eq n n ≡ true
        self n = grind arith

        false≢ : false ≡ true → ⊥
        false≢ q = cc

-- a message is counted at the place of its addressee
pub some_counted : (counts : List ℕ) (ms : List Message) (i : ℕ) (m : Message) (who : Party) → place_of who < 98 → AreCounted counts ms → slice_get ms i ≡ Some m → m.1 ≡ who → 1 ≤ slice_index counts (place_of who)
some_counted counts ms i m who within h at e =
    let own = at_own who m e in
    let was = h (place_of who) within in
    let all = count_removed (is_at (place_of who)) ms i m at in
    omega (arith, own, was, all)

pub place_within : (who : Party) → place_of who < 98
place_within (Client n) = let m : n % 64 < 64 = mod-lt n (omega arith) in omega (arith, m)
place_within (Server n) = let m : n % 32 < 32 = mod-lt n (omega arith) in omega (arith, m)
place_within Switch = omega arith
place_within Controller = omega arith

-- The first want is served.
use Rattle.std.proofs.Common.{
  ◌≡◌,
  ◌≢◌,
  ◌⊎◌,
  inl,
  inr,
  ℕ,
  zero,
  suc,
  ◌+◌,
  ◌-◌,
  ◌<◌,
  ◌≤◌,
  Bool,
  true,
  false,
  List,
  [],
  ◌∷◌,
  ◌++◌,
  length,
  take,
  drop,
  refl,
  sym,
  ap,
  ◌∙◌,
  subst,
  arith,
  true≢false,
}
use Rattle.std.specs.Prelude.{Option, None, Some, if◌then◌else◌, is_some, nat_le, slice_get}
use Rattle.std.proofs.lemmas.Bool.{cases_Bool, cases_lt}
use Rattle.std.proofs.lemmas.Bool.Decides.{leb_tells}
use Rattle.std.proofs.lemmas.List.{take-append-drop}
use Rattle.std.proofs.lemmas.Option.{none-some, same_Some, slice_get_within}
use Rattle.far_base.specs.declared.slot_state.SlotState.{SlotState}
use Rattle.far_model.specs.Controller.{ControllerState, admits_want, first_want_dropped, makes_room, tick, tick_free, tick_room, tick_want, tick_wants}
use Rattle.far_model.specs.Evictions.{first_place, has_key, is_free, is_held, moved_on, or_from_front, victim}
use Rattle.far_model.specs.Members.{Among}
use Rattle.far_model.specs.Parties.{idle}
use Rattle.far_model.specs.View.{next_place}
use Rattle.far_model.proofs.Members.{among_append, among_at, place_of}
use Rattle.model_laws.specs.Ticks.{HasNoTick, HasWant, IsFirst, IsHindered, IsVictim, NonePasses, turn_from}

-- ---- first places

pub none_first : {X : Type 0} (test : X → Bool) (xs : List X) → NonePasses test xs → first_place test xs ≡ None
none_first test [] h = refl
none_first test (x ∷ xs) h = rw (h x (inl refl)) (rw (none_first test xs (λ y a. h y (inr a))) refl)

pub first_found : {X : Type 0} (test : X → Bool) (xs : List X) (i : ℕ) → IsFirst test xs i → first_place test xs ≡ Some i
first_found test [] i h = absurd (none-some h.there h.at)
first_found test (x ∷ xs) zero h =
    let passes : test x ≡ true = ap test (same_Some _ _ h.at) ∙ h.passes in
    rw passes refl
first_found test (x ∷ xs) (suc i) h =
    let rest : first_place test xs ≡ Some i = first_found test xs i (record {
      there = h.there;
      at = h.at;
      passes = h.passes;
      before = λ j y l a. h.before (suc j) y (omega arith) a;
    }) in
    let first : test x ≡ false = h.before 0 x (omega arith) refl in
    rw first (rw rest refl)

-- some place passes, or none
pub place_or_none : {X : Type 0} (test : X → Bool) (xs : List X) → ((i : ℕ) × (first_place test xs ≡ Some i)) ⊎ NonePasses test xs
place_or_none test [] = inr (λ x a. absurd a)
place_or_none test (x ∷ xs) = go (test x) refl (place_or_none test xs)
  where
    none : test x ≡ false → NonePasses test xs → NonePasses test (x ∷ xs)
    none e h y (inl same) = ap test same ∙ e
    none e h y (inr a) = h y a

    go : (b : Bool) → test x ≡ b → ((i : ℕ) × (first_place test xs ≡ Some i)) ⊎ NonePasses test xs
        → ((i : ℕ) × ((if b then Some 0 else next_place (first_place test xs)) ≡ Some i)) ⊎ NonePasses test (x ∷ xs)
    go true e k = inl (0, refl)
    go false e (inl p) = inl (suc p.0, ap next_place p.1)
    go false e (inr h) = inr (none e h)

-- where something passes there is a place
pub place_there : {X : Type 0} (test : X → Bool) (xs : List X) (x : X) → Among x xs → test x ≡ true → (i : ℕ) × (first_place test xs ≡ Some i)
place_there test xs x a h = go (place_or_none test xs)
  where
    go : ((i : ℕ) × (first_place test xs ≡ Some i)) ⊎ NonePasses test xs → (i : ℕ) × (first_place test xs ≡ Some i)
    go (inl p) = p
    go (inr none) = absurd (true≢false (sym h ∙ none x a))

-- ---- the victim

get_drop : {X : Type 0} (n : ℕ) (xs : List X) (i : ℕ) → slice_get (drop n xs) i ≡ slice_get xs (n + i)
get_drop zero xs i = let e : i ≡ 0 + i = omega arith in ap (slice_get xs) e
get_drop (suc n) [] i = refl
get_drop (suc n) (x ∷ xs) i = let e : suc (n + i) ≡ suc n + i = omega arith in get_drop n xs i ∙ ap (slice_get (x ∷ xs)) e

get_take : {X : Type 0} (n : ℕ) (xs : List X) (i : ℕ) → i < n → slice_get (take n xs) i ≡ slice_get xs i
get_take zero xs i h = absurd (omega arith)
get_take (suc n) [] i h = refl
get_take (suc n) (x ∷ xs) zero h = refl
get_take (suc n) (x ∷ xs) (suc i) h = get_take n xs i (omega arith)

get_taken : {X : Type 0} (n : ℕ) (xs : List X) (i : ℕ) (x : X) → slice_get (take n xs) i ≡ Some x → i < n
get_taken zero xs i x h = absurd (none-some x h)
get_taken (suc n) [] i x h = absurd (none-some x h)
get_taken (suc n) (y ∷ ys) zero x h = omega arith
get_taken (suc n) (y ∷ ys) (suc i) x h = omega (arith, get_taken n ys i x h)

turn_late : (hand n i : ℕ) → i < hand → turn_from hand n i ≡ n + i
turn_late hand n i h = go (leb_tells hand i)
  where
    go : ((nat_le hand i ≡ true) × (hand ≤ i)) ⊎ ((nat_le hand i ≡ false) × (i < hand)) → turn_from hand n i ≡ n + i
    go (inl p) = absurd (omega (arith, p.1))
    go (inr p) = rw p.0 refl

turn_early : (hand n i : ℕ) → hand ≤ i → turn_from hand n i ≡ i
turn_early hand n i h = go (leb_tells hand i)
  where
    go : ((nat_le hand i ≡ true) × (hand ≤ i)) ⊎ ((nat_le hand i ≡ false) × (i < hand)) → turn_from hand n i ≡ i
    go (inl p) = rw p.0 refl
    go (inr p) = absurd (omega (arith, p.1))

-- what is not held
not_held : (s : SlotState) → (is_held s ≡ true → ⊥) → is_held s ≡ false
not_held s h = go (cases_Bool (is_held s))
  where
    go : (is_held s ≡ true) ⊎ (is_held s ≡ false) → is_held s ≡ false
    go (inl e) = absurd (h e)
    go (inr e) = e

module _ (hand : ℕ) (slots : List SlotState) where
  from_hand : (i : ℕ) → IsVictim hand slots i → hand ≤ i → first_place is_held (drop hand slots) ≡ Some (i - hand)
  from_hand i h l = first_found is_held (drop hand slots) (i - hand) (record {
    there = h.there;
    at = get_drop hand slots (i - hand) ∙ ap (slice_get slots) (omega arith) ∙ h.at;
    passes = h.held;
    before = λ j s m a. not_held s (λ held. absurd (later j s m (sym (get_drop hand slots j) ∙ a) held));
  })
    where
      later : (j : ℕ) (s : SlotState) → j < i - hand → slice_get slots (hand + j) ≡ Some s → is_held s ≡ true → ⊥
      later j s m a held = omega (arith, m, l, h.first (hand + j) s a held, turn_early hand (length slots) i l, turn_early hand (length slots) (hand + j) (omega arith))

  none_from_hand : (i : ℕ) → IsVictim hand slots i → i < hand → NonePasses is_held (drop hand slots)
  none_from_hand i h l s a = not_held s (λ held. later held (place_of s (drop hand slots) a))
    where
      later : is_held s ≡ true → (j : ℕ) × (slice_get (drop hand slots) j ≡ Some s) → ⊥
      later held p =
          let at : slice_get slots (hand + p.0) ≡ Some s = sym (get_drop hand slots p.0) ∙ p.1 in
          omega (arith, l, h.first (hand + p.0) s at held, turn_late hand (length slots) i l, turn_early hand (length slots) (hand + p.0) (omega arith), slice_get_within slots (hand + p.0) s at)

  from_front : (i : ℕ) → IsVictim hand slots i → i < hand → first_place is_held (take hand slots) ≡ Some i
  from_front i h l = first_found is_held (take hand slots) i (record {
    there = h.there;
    at = get_take hand slots i l ∙ h.at;
    passes = h.held;
    before = λ j s m a. not_held s (λ held. later j s m (sym (get_take hand slots j (omega arith)) ∙ a) held);
  })
    where
      later : (j : ℕ) (s : SlotState) → j < i → slice_get slots j ≡ Some s → is_held s ≡ true → ⊥
      later j s m a held = omega (arith, m, l, h.first j s a held, turn_late hand (length slots) i l, turn_late hand (length slots) j (omega arith))

  pub victim_found : (i : ℕ) → IsVictim hand slots i → victim hand slots ≡ Some i
  victim_found i h = go (cases_lt i hand)
    where
      go : (i < hand) ⊎ (hand ≤ i) → victim hand slots ≡ Some i
      go (inl l) = rw (none_first is_held (drop hand slots) (none_from_hand i h l)) (from_front i h l)
      go (inr l) = rw (from_hand i h l) (ap Some (omega arith))

  pub no_victim : NonePasses is_held slots → victim hand slots ≡ None
  no_victim h = rw (none_first is_held (drop hand slots) (λ s a. h s (in_drop s a))) (none_first is_held (take hand slots) (λ s a. h s (in_take s a)))
    where
      in_drop : (s : SlotState) → Among s (drop hand slots) → Among s slots
      in_drop s a = let p = place_of s (drop hand slots) a in among_at s slots (hand + p.0) (sym (get_drop hand slots p.0) ∙ p.1)

      in_take : (s : SlotState) → Among s (take hand slots) → Among s slots
      in_take s a = let p = place_of s (take hand slots) a in among_at s slots p.0 (sym (get_take hand slots p.0 (get_taken hand slots p.0 s p.1)) ∙ p.1)

  pub victim_or_none : ((i : ℕ) × (victim hand slots ≡ Some i)) ⊎ NonePasses is_held slots
  victim_or_none = go (place_or_none is_held (drop hand slots)) (place_or_none is_held (take hand slots))
    where
      none : NonePasses is_held (drop hand slots) → NonePasses is_held (take hand slots) → (s : SlotState) → Among s (take hand slots ++ drop hand slots) → is_held s ≡ false
      none h k s a = either (among_append s (take hand slots) (drop hand slots) a)
        where
          either : Among s (take hand slots) ⊎ Among s (drop hand slots) → is_held s ≡ false
          either (inl b) = k s b
          either (inr b) = h s b

      go : ((i : ℕ) × (first_place is_held (drop hand slots) ≡ Some i)) ⊎ NonePasses is_held (drop hand slots) → ((i : ℕ) × (first_place is_held (take hand slots) ≡ Some i)) ⊎ NonePasses is_held (take hand slots)
          → ((i : ℕ) × (victim hand slots ≡ Some i)) ⊎ NonePasses is_held slots
      go (inl p) k = inl (hand + p.0, ap (λ o. or_from_front (moved_on hand o) (first_place is_held (take hand slots))) p.1)
      go (inr h) (inl p) = inl (p.0, ap (λ o. or_from_front (moved_on hand o) (first_place is_held (take hand slots))) (none_first is_held (drop hand slots) h) ∙ p.1)
      go (inr h) (inr k) = inr (λ s a. none h k s (subst (λ xs. Among s xs) (sym (take-append-drop hand slots)) a))

-- ---- the tick

module _ (c : ControllerState) where
  without_round : c.round ≡ None → tick c ≡ tick_wants c c.wants
  without_round h = ap (λ r. if is_some r then None else tick_wants c c.wants) h

  by_want : (key : List ℕ) → HasWant c key → tick c ≡ tick_want c key (first_place (has_key key) c.slots)
  by_want key h = without_round h.free_of_round ∙ ap (tick_wants c) h.first

  pub dropped_want : (key : List ℕ) (slot : SlotState) → HasWant c key → Among slot c.slots → has_key key slot ≡ true → tick c ≡ Some (idle (first_want_dropped c))
  dropped_want key slot h a k = let p = place_there (has_key key) c.slots slot a k in by_want key h ∙ ap (tick_want c key) p.1

  past_key : (key : List ℕ) → HasWant c key → NonePasses (has_key key) c.slots → tick c ≡ tick_free c key (first_place is_free c.slots)
  past_key key h n = by_want key h ∙ ap (tick_want c key) (none_first (has_key key) c.slots n)

  pub admitted_want : (key : List ℕ) (i : ℕ) → HasWant c key → NonePasses (has_key key) c.slots → IsFirst is_free c.slots i → tick c ≡ Some (admits_want c key i)
  admitted_want key i h n f = past_key key h n ∙ ap (tick_free c key) (first_found is_free c.slots i f)

  past_free : (key : List ℕ) → HasWant c key → NonePasses (has_key key) c.slots → NonePasses is_free c.slots → tick c ≡ tick_room c (victim c.hand c.slots)
  past_free key h n f = past_key key h n ∙ ap (tick_free c key) (none_first is_free c.slots f)

  pub room_made : (key : List ℕ) (i : ℕ) → HasWant c key → NonePasses (has_key key) c.slots → NonePasses is_free c.slots → c.eviction ≡ None → IsVictim c.hand c.slots i → tick c ≡ Some (makes_room c i)
  room_made key i h n f e v = past_free key h n f ∙ ap (tick_room c) (victim_found c.hand c.slots i v) ∙ ap (λ o. if is_some o then None else Some (makes_room c i)) e

  some_there : {X : Type 0} (o : Option X) → o ≢ None → is_some o ≡ true
  some_there None h = absurd (h refl)
  some_there (Some x) h = refl

  hindered : IsHindered c → tick c ≡ None
  hindered h = past_free h.key h.want h.without h.full ∙ go h.waits
    where
      by_room : (o : Option ℕ) → is_some c.eviction ≡ true → tick_room c o ≡ None
      by_room None e = refl
      by_room (Some i) e = rw e refl

      go : (c.eviction ≢ None) ⊎ NonePasses is_held c.slots → tick_room c (victim c.hand c.slots) ≡ None
      go (inl e) = by_room (victim c.hand c.slots) (some_there c.eviction e)
      go (inr n) = ap (tick_room c) (no_victim c.hand c.slots n)

  pub absent : HasNoTick c → tick c ≡ None
  absent (inl h) = rw (some_there c.round h) refl
  absent (inr (inl h)) = go c.round refl
    where
      go : (r : Option _) → c.round ≡ r → tick c ≡ None
      go None e = without_round e ∙ ap (tick_wants c) h
      go (Some r) e = rw e refl
  absent (inr (inr h)) = hindered h

  pub only_absent : tick c ≡ None → HasNoTick c
  only_absent none = by_round c.round refl
    where
      by_room : (key : List ℕ) → HasWant c key → NonePasses (has_key key) c.slots → NonePasses is_free c.slots → (e : Option _) → c.eviction ≡ e → ((i : ℕ) × (victim c.hand c.slots ≡ Some i)) ⊎ NonePasses is_held c.slots → HasNoTick c
      by_room key h n f e is (inr m) = inr (inr (record { key = key; want = h; without = n; full = f; waits = inr m }))
      by_room key h n f (Some e) is (inl p) = inr (inr (record { key = key; want = h; without = n; full = f; waits = inl (λ k. none-some e (sym k ∙ is)) }))
      by_room key h n f None is (inl p) =
          absurd (none-some (makes_room c p.0) (sym none ∙ past_free key h n f ∙ ap (tick_room c) p.1 ∙ ap (λ o. if is_some o then None else Some (makes_room c p.0)) is))

      by_free : (key : List ℕ) → HasWant c key → NonePasses (has_key key) c.slots → ((i : ℕ) × (first_place is_free c.slots ≡ Some i)) ⊎ NonePasses is_free c.slots → HasNoTick c
      by_free key h n (inl p) = absurd (none-some (admits_want c key p.0) (sym none ∙ past_key key h n ∙ ap (tick_free c key) p.1))
      by_free key h n (inr f) = by_room key h n f c.eviction refl (victim_or_none c.hand c.slots)

      by_key : (key : List ℕ) → HasWant c key → ((i : ℕ) × (first_place (has_key key) c.slots ≡ Some i)) ⊎ NonePasses (has_key key) c.slots → HasNoTick c
      by_key key h (inl p) = absurd (none-some (idle (first_want_dropped c)) (sym none ∙ by_want key h ∙ ap (tick_want c key) p.1))
      by_key key h (inr n) = by_free key h n (place_or_none is_free c.slots)

      by_wants : c.round ≡ None → (ws : List (List ℕ)) → c.wants ≡ ws → HasNoTick c
      by_wants r [] e = inr (inl e)
      by_wants r (key ∷ keys) e = by_key key (record { free_of_round = r; later = keys; first = e }) (place_or_none (has_key key) c.slots)

      by_round : (r : Option _) → c.round ≡ r → HasNoTick c
      by_round None e = by_wants e c.wants refl
      by_round (Some r) e = inl (λ k. none-some r (sym k ∙ e))

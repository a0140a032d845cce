-- The first place that passes, and the victim of an eviction.
use Rattle.std.proofs.Common.{◌≡◌, ℕ, zero, suc, ◌+◌, ◌<◌, ◌≤◌, ◌⊎◌, inl, inr, Bool, true, false, cond, not, ◌||◌, List, [], ◌∷◌, length, drop, take, get_or, refl, sym, ap, ◌∙◌, subst, arith}
use Rattle.std.specs.Prelude.{Option, None, Some, IfSome, IsTrue, is_some}
use Rattle.std.specs.List.{position_or_len, list_any}
use lib.Dec.{ltb}
use Rattle.std.proofs.lemmas.Bool.{cases_lt, lt-ltb, le-ltb}
use Rattle.std.proofs.Math.Bool.{or-false}
use Rattle.std.proofs.lemmas.Option.{none-some, same_Some}
use Rattle.std.proofs.lemmas.List.{get_or-drop, get_or-take, length-take, length-drop}
use Rattle.far_base.specs.declared.slot_state.SlotState.{SlotState}
use Rattle.far_base.specs.declared.slot_state.SlotState.TheVariants.{Free, Admitting, Held, Evicting}
use Rattle.far_model.specs.Evictions.{first_place, is_held, holds_key, moved_on, or_from_front, state_at, victim}
use Rattle.far_model.specs.View.{next_place}

abbrev pub counted_place : ℕ → ℕ → Option ℕ
counted_place place count = cond (ltb place count) (Some place) None

next_counted : (n m : ℕ) → next_place (counted_place n m) ≡ counted_place (suc n) (suc m)
next_counted n m = by (cases_lt n m)
  where
    by : (n < m) ⊎ (m ≤ n) → next_place (counted_place n m) ≡ counted_place (suc n) (suc m)
    by (inl h) = rw (lt-ltb n m h, lt-ltb (suc n) (suc m) (omega arith)) refl
    by (inr h) = rw (le-ltb n m h, le-ltb (suc n) (suc m) (omega arith)) refl

-- what std's `position` answers
pub place_is : {X : Type 0} (p : X → Bool) (xs : List X) → counted_place (position_or_len p xs) (length xs) ≡ first_place p xs
place_is p [] = refl
place_is p (x ∷ xs) = by (p x) (place_is p xs)
  where
    by : (b : Bool) → counted_place (position_or_len p xs) (length xs) ≡ first_place p xs → counted_place (cond (not b) (1 + position_or_len p xs) 0) (suc (length xs)) ≡ cond b (Some 0) (next_place (first_place p xs))
    by true rest = rw (lt-ltb 0 (suc (length xs)) (omega arith)) refl
    by false rest = let e : 1 + position_or_len p xs ≡ suc (position_or_len p xs) = omega arith in rw e (sym (next_counted (position_or_len p xs) (length xs)) ∙ ap next_place rest)

pub record Found {X : Type 0} (p : X → Bool) (xs : List X) (d : X) (i : ℕ) : Type 0 where
  pub within : i < length xs
  pub passes : p (get_or xs i d) ≡ true

pub first_some : {X : Type 0} (p : X → Bool) (xs : List X) (i : ℕ) (d : X) → first_place p xs ≡ Some i → Found p xs d i
first_some p [] i d h = absurd (none-some i h)
first_some p (x ∷ xs) i d h = go (λ j k. first_some p xs j d k) (p x) refl h
  where
    next : ((j : ℕ) → first_place p xs ≡ Some j → Found p xs d j) → (o : Option ℕ) → first_place p xs ≡ o → next_place o ≡ Some i → Found p (x ∷ xs) d i
    next f None e k = absurd (none-some i k)
    next f (Some j) e k = let h = f j e in subst (λ n. Found p (x ∷ xs) d n) (same_Some (suc j) i k) (record { within = let b = h.within in omega (arith, b); passes = h.passes })

    go : ((j : ℕ) → first_place p xs ≡ Some j → Found p xs d j) → (t : Bool) → p x ≡ t → cond t (Some 0) (next_place (first_place p xs)) ≡ Some i → Found p (x ∷ xs) d i
    go f true e k = subst (λ n. Found p (x ∷ xs) d n) (same_Some 0 i k) (record { within = omega arith; passes = e })
    go f false e k = next f (first_place p xs) refl k

-- a slot that may be a victim
pub record IsVictim (slots : List SlotState) (i : ℕ) : Type 0 where
  pub within : i < length slots
  pub held : is_held (state_at slots i) ≡ true

pub victim_is : (hand : ℕ) (slots : List SlotState) (i : ℕ) → victim hand slots ≡ Some i → IsVictim slots i
victim_is hand slots i h = go (first_place is_held (drop hand slots)) refl h
  where
    front : (o : Option ℕ) → first_place is_held (take hand slots) ≡ o → o ≡ Some i → IsVictim slots i
    front o e k =
        let f = first_some is_held (take hand slots) i Free (e ∙ k) in
        let below : i < hand = omega (arith, f.within, length-take hand slots) in
        record { within = omega (arith, f.within, length-take hand slots); held = ap is_held (sym (get_or-take hand slots i Free below)) ∙ f.passes }

    go : (o : Option ℕ) → first_place is_held (drop hand slots) ≡ o → or_from_front (moved_on hand o) (first_place is_held (take hand slots)) ≡ Some i → IsVictim slots i
    go None e k = front (first_place is_held (take hand slots)) refl k
    go (Some j) e k =
        let f = first_some is_held (drop hand slots) j Free e in
        subst (IsVictim slots) (same_Some (hand + j) i k) (record { within = omega (arith, f.within, length-drop hand slots); held = ap is_held (sym (get_or-drop hand slots j Free)) ∙ f.passes })

pub within_is : (hand : ℕ) (slots : List SlotState) (o : Option ℕ) → o ≡ victim hand slots → IfSome o (λ i. i < length slots)
within_is hand slots None e = tt
within_is hand slots (Some i) e = (victim_is hand slots i (sym e)).within

pub held_is : (hand : ℕ) (slots : List SlotState) (o : Option ℕ) → o ≡ victim hand slots → IfSome o (λ i. IsTrue (is_held (state_at slots i)))
held_is hand slots None e = tt
held_is hand slots (Some i) e = (victim_is hand slots i (sym e)).held

holds_held : (key : List ℕ) (st : SlotState) → holds_key key st ≡ true → is_held st ≡ true
holds_held key Free h = absurd cc
holds_held key (Admitting other tag) h = absurd cc
holds_held key (Held other tag) h = refl
holds_held key (Evicting other tag) h = absurd cc

pub key_held : (key : List ℕ) (slots : List SlotState) (o : Option ℕ) → o ≡ first_place (holds_key key) slots → IfSome o (λ i. IsTrue (is_held (state_at slots i)))
key_held key slots None e = tt
key_held key slots (Some i) e = holds_held key (state_at slots i) (first_some (holds_key key) slots i Free (sym e)).passes

-- ---- whether some slot is held

pub some_place : {X : Type 0} (p : X → Bool) (xs : List X) → is_some (first_place p xs) ≡ list_any p xs
some_place p [] = refl
some_place p (x ∷ xs) = by (p x) (some_place p xs)
  where
    next : (o : Option ℕ) → is_some (next_place o) ≡ is_some o
    next None = refl
    next (Some i) = refl

    by : (b : Bool) → is_some (first_place p xs) ≡ list_any p xs → is_some (cond b (Some 0) (next_place (first_place p xs))) ≡ (b || list_any p xs)
    by true rest = refl
    by false rest = next (first_place p xs) ∙ rest

-- the parts of a list before a place and from it on
any_split : {X : Type 0} (p : X → Bool) (n : ℕ) (xs : List X) → (list_any p (drop n xs) || list_any p (take n xs)) ≡ list_any p xs
any_split p zero [] = refl
any_split p zero (x ∷ xs) = or-false (list_any p (x ∷ xs))
any_split p (suc n) [] = refl
any_split p (suc n) (x ∷ xs) = by (p x) (list_any p (drop n xs)) (any_split p n xs)
  where
    by : (b d : Bool) → (d || list_any p (take n xs)) ≡ list_any p xs → (d || (b || list_any p (take n xs))) ≡ (b || list_any p xs)
    by true true rest = refl
    by true false rest = refl
    by false true rest = rest
    by false false rest = rest

pub some_victim : (hand : ℕ) (slots : List SlotState) → is_some (victim hand slots) ≡ list_any is_held slots
some_victim hand slots = by (first_place is_held (drop hand slots)) (first_place is_held (take hand slots)) (some_place is_held (drop hand slots)) (some_place is_held (take hand slots)) ∙ any_split is_held hand slots
  where
    by : (a b : Option ℕ) → is_some a ≡ list_any is_held (drop hand slots) → is_some b ≡ list_any is_held (take hand slots) → is_some (or_from_front (moved_on hand a) b) ≡ (list_any is_held (drop hand slots) || list_any is_held (take hand slots))
    by None b e f = rw (← e) f
    by (Some i) b e f = rw (← e) refl

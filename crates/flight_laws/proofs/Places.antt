-- The first place that passes, and the victim of an eviction.
use Rattle.std.proofs.Common.{◌≡◌, ℕ, suc, ◌+◌, ◌<◌, Bool, true, false, cond, List, [], ◌∷◌, length, drop, take, get_or, refl, sym, ap, ◌∙◌, subst, arith}
use Rattle.std.specs.Prelude.{Option, None, Some}
use Rattle.std.specs.List.{count_by}
use Rattle.std.proofs.lemmas.Option.{none-some, same_Some}
use Rattle.std.proofs.lemmas.List.{get_or-drop, get_or-take, length-take}
use Rattle.far_base.specs.declared.slot_state.SlotState.{SlotState}
use Rattle.far_base.specs.declared.slot_state.SlotState.TheVariants.{Free}
use Rattle.far_model.specs.Evictions.{first_place, is_held, moved_on, or_from_front, state_at, victim}
use Rattle.far_model.specs.View.{next_place}
use Rattle.flight_laws.proofs.Counts.{count_cons, counted_false}

pub record Found {X : Type 0} (p : X → Bool) (xs : List X) (d : X) (i : ℕ) : Type 0 where
  pub within : i < length xs
  pub passes : p (get_or xs i d) ≡ true

pub first_some : {X : Type 0} (p : X → Bool) (xs : List X) (i : ℕ) (d : X) → first_place p xs ≡ Some i → Found p xs d i
first_some p [] i d h = absurd (none-some i h)
first_some p (x ∷ xs) i d h = go (λ j k. first_some p xs j d k) (p x) refl h
  where
    next : ((j : ℕ) → first_place p xs ≡ Some j → Found p xs d j) → (o : Option ℕ) → first_place p xs ≡ o → next_place o ≡ Some i → Found p (x ∷ xs) d i
    next f None e k = absurd (none-some i k)
    next f (Some j) e k = let h = f j e in subst (λ n. Found p (x ∷ xs) d n) (same_Some (suc j) i k) (record { within = let b = h.within in omega (arith, b); passes = h.passes })

    go : ((j : ℕ) → first_place p xs ≡ Some j → Found p xs d j) → (t : Bool) → p x ≡ t → cond t (Some 0) (next_place (first_place p xs)) ≡ Some i → Found p (x ∷ xs) d i
    go f true e k = subst (λ n. Found p (x ∷ xs) d n) (same_Some 0 i k) (record { within = omega arith; passes = e })
    go f false e k = next f (first_place p xs) refl k

-- where no place passes, none does
pub first_none : {X : Type 0} (p : X → Bool) (xs : List X) → first_place p xs ≡ None → count_by p xs ≡ 0
first_none p [] h = refl
first_none p (x ∷ xs) h = go (λ k. first_none p xs k) (p x) refl h
  where
    next : (o : Option ℕ) → next_place o ≡ None → o ≡ None
    next None k = refl
    next (Some j) k = absurd cc

    go : (first_place p xs ≡ None → count_by p xs ≡ 0) → (t : Bool) → p x ≡ t → cond t (Some 0) (next_place (first_place p xs)) ≡ None → count_by p (x ∷ xs) ≡ 0
    go f true e k = absurd cc
    go f false e k = omega (arith, count_cons p x xs, counted_false p x e, f (next (first_place p xs) k))

pub victim_held : (hand : ℕ) (slots : List SlotState) (i : ℕ) → victim hand slots ≡ Some i → is_held (state_at slots i) ≡ true
victim_held hand slots i h = go (first_place is_held (drop hand slots)) refl h
  where
    front : (o : Option ℕ) → first_place is_held (take hand slots) ≡ o → o ≡ Some i → is_held (state_at slots i) ≡ true
    front o e k =
        let f = first_some is_held (take hand slots) i Free (e ∙ k) in
        let below : i < hand = omega (arith, f.within, length-take hand slots) in
        ap is_held (sym (get_or-take hand slots i Free below)) ∙ f.passes

    go : (o : Option ℕ) → first_place is_held (drop hand slots) ≡ o → or_from_front (moved_on hand o) (first_place is_held (take hand slots)) ≡ Some i → is_held (state_at slots i) ≡ true
    go None e k = front (first_place is_held (take hand slots)) refl k
    go (Some j) e k =
        let f = first_some is_held (drop hand slots) j Free e in
        ap (λ n. is_held (state_at slots n)) (sym (same_Some (hand + j) i k)) ∙ ap is_held (sym (get_or-drop hand slots j Free)) ∙ f.passes

-- where there is no victim, no slot is held
pub victim_none : (hand : ℕ) (slots : List SlotState) → victim hand slots ≡ None → (count_by is_held (drop hand slots) ≡ 0) × (count_by is_held (take hand slots) ≡ 0)
victim_none hand slots h = go (first_place is_held (drop hand slots)) refl h
  where
    go : (o : Option ℕ) → first_place is_held (drop hand slots) ≡ o → or_from_front (moved_on hand o) (first_place is_held (take hand slots)) ≡ None → (count_by is_held (drop hand slots) ≡ 0) × (count_by is_held (take hand slots) ≡ 0)
    go None e k = (first_none is_held (drop hand slots) e, first_none is_held (take hand slots) k)
    go (Some j) e k = absurd cc

-- A want is admitted: the controller asks, the switch takes the key, and the controller hears of it.
use Rattle.std.proofs.Common.{◌≡◌, ◌≢◌, ℕ, zero, suc, ◌<◌, ◌⊎◌, inl, inr, Bool, true, false, List, [], ◌∷◌, length, get_or, refl, sym, ◌∙◌, subst, arith}
use Rattle.std.specs.Prelude.{Option, Some, None, if◌then◌else◌, nat_eq}
use Rattle.std.proofs.lemmas.Bool.Decides.{eqb_tells}
use Rattle.std.proofs.lemmas.Option.{same_Some}
use Rattle.far_base.specs.declared.slot_state.SlotState.{SlotState}
use Rattle.far_base.specs.declared.slot_state.SlotState.TheVariants.{Free, Admitting, Held, Evicting}
use Rattle.far_model.specs.Evictions.{is_free, first_place}
use Rattle.far_model.specs.View.{next_place}

-- ---- places that pass

pub first_some : {X : Type 0} (p : X → Bool) (xs : List X) (i : ℕ) (d : X) → first_place p xs ≡ Some i → (i < length xs) × (p (get_or xs i d) ≡ true)
first_some p [] i d h = absurd cc
first_some p (x ∷ xs) i d h = go (λ j k. first_some p xs j d k) (p x) refl h
  where
    next : ((j : ℕ) → first_place p xs ≡ Some j → (j < length xs) × (p (get_or xs j d) ≡ true)) → (o : Option ℕ) → first_place p xs ≡ o → next_place o ≡ Some i → (i < length (x ∷ xs)) × (p (get_or (x ∷ xs) i d) ≡ true)
    next f None e k = absurd cc
    next f (Some j) e k =
        let h = f j e in
        subst (λ n. (n < length (x ∷ xs)) × (p (get_or (x ∷ xs) n d) ≡ true)) (same_Some (suc j) i k) (let b = h.0 in omega (arith, b), h.1)

    go : ((j : ℕ) → first_place p xs ≡ Some j → (j < length xs) × (p (get_or xs j d) ≡ true)) → (t : Bool) → p x ≡ t → (if t then Some 0 else next_place (first_place p xs)) ≡ Some i → (i < length (x ∷ xs)) × (p (get_or (x ∷ xs) i d) ≡ true)
    go f true e k = subst (λ n. (n < length (x ∷ xs)) × (p (get_or (x ∷ xs) n d) ≡ true)) (same_Some 0 i k) (omega arith, e)
    go f false e k = next f (first_place p xs) refl k

pub first_none : {X : Type 0} (p : X → Bool) (xs : List X) (i : ℕ) (d : X) → first_place p xs ≡ None → p d ≡ false → p (get_or xs i d) ≡ false
first_none p [] i d h off = off
first_none p (x ∷ xs) i d h off = go (λ j k. first_none p xs j d k off) (p x) refl h i
  where
    next : (o : Option ℕ) → first_place p xs ≡ o → next_place o ≡ None → first_place p xs ≡ None
    next None e k = e
    next (Some j) e k = absurd cc

    go : ((j : ℕ) → first_place p xs ≡ None → p (get_or xs j d) ≡ false) → (t : Bool) → p x ≡ t → (if t then Some 0 else next_place (first_place p xs)) ≡ None → (n : ℕ) → p (get_or (x ∷ xs) n d) ≡ false
    go f true e k n = absurd cc
    go f false e k zero = e
    go f false e k (suc n) = f n (next (first_place p xs) refl k)

pub free_is : (st : SlotState) → is_free st ≡ true → st ≡ Free
free_is Free h = refl
free_is (Admitting key tag) h = absurd cc
free_is (Held key tag) h = absurd cc
free_is (Evicting key tag) h = absurd cc

-- numbers that are the same or not
pub nat_cases : (a b : ℕ) → (a ≡ b) ⊎ (a ≢ b)
nat_cases a b = go (eqb_tells a b)
  where
    go : ((nat_eq a b ≡ true) × (a ≡ b)) ⊎ ((nat_eq a b ≡ false) × (a ≢ b)) → (a ≡ b) ⊎ (a ≢ b)
    go (inl p) = inl p.1
    go (inr p) = inr p.1

pub no_self : (st : SlotState) (key : List ℕ) (tag : ℕ) → st ≡ Free → st ≡ Admitting key tag → ⊥
no_self st key tag f h = let e : Free ≡ Admitting key tag = sym f ∙ h in cc

-- Where a key is bound, and what unbinding it does to the list.
use Rattle.std.proofs.Common.{◌≡◌, ◌≢◌, ℕ, zero, suc, true, false, ◌⊎◌, List, [], ◌∷◌, map, set, sym, subst, refl, ap, ap₂, ◌∙◌, inl, inr, arith, Option, None, Some}
use Rattle.std.specs.Prelude.{if◌then◌else◌}
use Rattle.std.proofs.lemmas.Bool.Decides.{eqb_tells}
use Rattle.far_model.specs.Log.{same_key}
use Rattle.far_model.specs.View.{bound_place, is_key_there, next_place, unbound}
use Rattle.lookup_table.specs.Table.{key_at}
use Rattle.lookup_table.specs.Sound.{Nowhere}

same_key_tells : (a b : List ℕ) → ((same_key a b ≡ true) × (a ≡ b)) ⊎ ((same_key a b ≡ false) × (a ≢ b))
same_key_tells [] [] = inl (refl, refl)
same_key_tells [] (y ∷ ys) = inr (refl, λ e. cc)
same_key_tells (x ∷ xs) [] = inr (refl, λ e. cc)
same_key_tells (x ∷ xs) (y ∷ ys) =
    elim (eqb_tells x y) [
      | inl e ↦ elim (same_key_tells xs ys) [
        | inl f ↦ inl (rw (e.0, f.0) refl, cc)
        | inr f ↦ inr (rw (e.0, f.0) refl, λ q. f.1 cc)
      ]
      | inr e ↦ inr (rw e.0 refl, λ q. e.1 cc)
    ]

-- a key is there exactly where it is the key that is there
pub there_tells : (key : List ℕ) (o : Option (List ℕ)) → ((is_key_there key o ≡ true) × (o ≡ Some key)) ⊎ ((is_key_there key o ≡ false) × (o ≢ Some key))
there_tells key None = inr (refl, λ e. cc)
there_tells key (Some other) =
    elim (same_key_tells key other) [
      | inl e ↦ inl (e.0, ap Some (sym e.1))
      | inr e ↦ inr (e.0, λ q. e.1 cc)
    ]

pub there_is : (key : List ℕ) (o : Option (List ℕ)) → is_key_there key o ≡ true → o ≡ Some key
there_is key o t = elim (there_tells key o) [ inl e ↦ e.1 | inr e ↦ absurd cc ]

pub is_there : (key : List ℕ) (o : Option (List ℕ)) → o ≡ Some key → is_key_there key o ≡ true
is_there key o t = elim (there_tells key o) [ inl e ↦ e.0 | inr e ↦ absurd (e.1 t) ]

not_there : (key : List ℕ) (o : Option (List ℕ)) → o ≢ Some key → is_key_there key o ≡ false
not_there key o n = elim (there_tells key o) [ inl e ↦ absurd (n e.1) | inr e ↦ e.0 ]

-- the key stands at place i alone
abbrev pub OnlyAt : List ℕ → ℕ → List (Option (List ℕ)) → Type 0
OnlyAt key i bound = (j : ℕ) → key_at bound j ≡ Some key → j ≡ i

-- a key that could stand there alone, and does not, stands nowhere
pub only_missing : (key : List ℕ) (bound : List (Option (List ℕ))) (i : ℕ) → OnlyAt key i bound → is_key_there key (key_at bound i) ≡ false → Nowhere key bound
only_missing key bound i o missing j e =
    let there : is_key_there key (key_at bound i) ≡ true = is_there key (key_at bound i) (subst (λ n. key_at bound n ≡ Some key) (o j e) e) in
    absurd cc

pub place_none : (key : List ℕ) (bound : List (Option (List ℕ))) → Nowhere key bound → bound_place key bound ≡ None
place_none key [] n = refl
place_none key (b ∷ bs) n =
    ap (λ c. if c then Some 0 else next_place (bound_place key bs)) (not_there key b (λ e. n 0 e))
    ∙ ap next_place (place_none key bs (λ j e. n (suc j) e))

pub place_is : (key : List ℕ) (bound : List (Option (List ℕ))) (i : ℕ) → key_at bound i ≡ Some key → OnlyAt key i bound → bound_place key bound ≡ Some i
place_is key [] i e o = absurd cc
place_is key (b ∷ bs) zero e o = ap (λ c. if c then Some 0 else next_place (bound_place key bs)) (is_there key b e)
place_is key (b ∷ bs) (suc i) e o =
    ap (λ c. if c then Some 0 else next_place (bound_place key bs)) (not_there key b (λ q. let n : 0 ≡ suc i = o 0 q in absurd (omega (arith, n))))
    ∙ ap next_place (place_is key bs i e (λ j q. let n : suc j ≡ suc i = o (suc j) q in omega (arith, n)))

-- a key that stands nowhere is unbound already
pub unbound_none : (key : List ℕ) (bound : List (Option (List ℕ))) → Nowhere key bound → map (unbound key) bound ≡ bound
unbound_none key [] n = refl
unbound_none key (b ∷ bs) n =
    ap₂ (λ x ys. x ∷ ys) (ap (λ c. if c then None else b) (not_there key b (λ e. n 0 e))) (unbound_none key bs (λ j e. n (suc j) e))

-- a key that stands at one place is unbound by that place
pub unbound_one : (key : List ℕ) (bound : List (Option (List ℕ))) (i : ℕ) → key_at bound i ≡ Some key → OnlyAt key i bound → map (unbound key) bound ≡ set bound i None
unbound_one key [] i e o = absurd cc
unbound_one key (b ∷ bs) zero e o =
    ap₂ (λ x ys. x ∷ ys) (ap (λ c. if c then None else b) (is_there key b e))
    (unbound_none key bs (λ j q. let n : suc j ≡ 0 = o (suc j) q in absurd (omega (arith, n))))
unbound_one key (b ∷ bs) (suc i) e o =
    ap₂ (λ x ys. x ∷ ys) (ap (λ c. if c then None else b) (not_there key b (λ q. let n : 0 ≡ suc i = o 0 q in absurd (omega (arith, n)))))
    (unbound_one key bs i e (λ j q. let n : suc j ≡ suc i = o (suc j) q in omega (arith, n)))

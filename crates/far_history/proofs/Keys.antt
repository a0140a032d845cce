-- Two keys are the same where their bytes are.
use Rattle.std.proofs.Common.{◌≡◌, ◌≢◌, ℕ, true, false, List, [], ◌∷◌, ◌⊎◌, refl, inl, inr}
use Rattle.std.proofs.lemmas.Bool.Decides.{eqb_tells}
use Rattle.far_model.specs.Log.{same_key}

pub same_key_tells : (a b : List ℕ) → ((same_key a b ≡ true) × (a ≡ b)) ⊎ ((same_key a b ≡ false) × (a ≢ b))
same_key_tells [] [] = inl (refl, refl)
same_key_tells [] (y ∷ ys) = inr (refl, λ e. cc)
same_key_tells (x ∷ xs) [] = inr (refl, λ e. cc)
same_key_tells (x ∷ xs) (y ∷ ys) =
    elim (eqb_tells x y) [
      | inl e ↦ elim (same_key_tells xs ys) [
        | inl f ↦ inl (rw (e.0, f.0) refl, cc)
        | inr f ↦ inr (rw (e.0, f.0) refl, λ q. f.1 cc)
      ]
      | inr e ↦ inr (rw e.0 refl, λ q. e.1 cc)
    ]

-- Keys are decided by their bytes.
use Rattle.std.proofs.Common.{◌≡◌, ◌≢◌, ℕ, ◌⊎◌, inl, inr, Bool, true, false, List, refl}
use Rattle.far_model.specs.Log.{same_key}
use Rattle.std.specs.Cmp.Lexicographic.{bytes_decides}

pub same_key_true : (a b : List ℕ) → same_key a b ≡ true → a ≡ b
same_key_true a b h = (bytes_decides a b).0 h

pub same_key_refl : (a : List ℕ) → same_key a a ≡ true
same_key_refl a = (bytes_decides a a).1 refl

-- two keys are the same or not
pub key_cases : (a b : List ℕ) → (a ≡ b) ⊎ (a ≢ b)
key_cases a b = go (same_key a b) refl
  where
    go : (t : Bool) → same_key a b ≡ t → (a ≡ b) ⊎ (a ≢ b)
    go true e = inl (same_key_true a b e)
    go false e = inr (λ p. let r : same_key a b ≡ true = (bytes_decides a b).1 p in absurd cc)

pub same_key_false : (a b : List ℕ) → a ≢ b → same_key a b ≡ false
same_key_false a b ne = go (same_key a b) refl
  where
    go : (t : Bool) → same_key a b ≡ t → same_key a b ≡ false
    go true e = absurd (ne (same_key_true a b e))
    go false e = e

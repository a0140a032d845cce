-- Whether two keys are the same bytes.
use Rattle.std.proofs.Common.{◌≡◌, ℕ, Bool, true, false, List, refl, sym}
use lib.Pointwise.{bytes_decides}
use Rattle.far_model.specs.Log.{same_key}

pub key_is : (a b : List ℕ) → same_key a b ≡ true → a ≡ b
key_is a b e = (bytes_decides a b).0 e

pub same_as_itself : (a : List ℕ) → same_key a a ≡ true
same_as_itself a = (bytes_decides a a).1 refl

alike : (p q : Bool) → (p ≡ true → q ≡ true) → (q ≡ true → p ≡ true) → p ≡ q
alike true q f g = sym (f refl)
alike false true f g = absurd cc (g refl)
alike false false f g = refl

pub either_way : (a b : List ℕ) → same_key a b ≡ same_key b a
either_way a b = alike (same_key a b) (same_key b a) (λ e. (bytes_decides b a).1 (sym (key_is a b e))) (λ e. (bytes_decides a b).1 (sym (key_is b a e)))

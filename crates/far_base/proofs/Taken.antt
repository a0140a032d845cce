-- A list about one of its items.
use Rattle.std.proofs.Common.{◌≡◌, ℕ, zero, suc, ◌+◌, List, [], ◌∷◌, ◌++◌, take, drop, slice_get, get_or, refl, sym, ap, subst, add-one, Some}
use Rattle.std.proofs.lemmas.Option.{same_Some}

module _ {X : Type 0} where
  to_it : (xs : List X) (i : ℕ) (x : X) → slice_get xs i ≡ Some x → take (suc i) xs ≡ take i xs ++ x ∷ []
  to_it [] i x e = absurd cc
  to_it (y ∷ ys) zero x e = ap (λ (z : X). z ∷ []) (same_Some y x e)
  to_it (y ∷ ys) (suc i) x e = ap (λ (l : List X). y ∷ l) (to_it ys i x e)

  from_it : (xs : List X) (i : ℕ) (x : X) → slice_get xs i ≡ Some x → drop i xs ≡ x ∷ drop (suc i) xs
  from_it [] i x e = absurd cc
  from_it (y ∷ ys) zero x e = ap (λ (z : X). z ∷ ys) (same_Some y x e)
  from_it (y ∷ ys) (suc i) x e = from_it ys i x e

  -- the items up to it
  pub taken : (xs : List X) (i : ℕ) (x : X) → slice_get xs i ≡ Some x → take (i + 1) xs ≡ take i xs ++ x ∷ []
  taken xs i x e = subst (λ (n : ℕ). take n xs ≡ take i xs ++ x ∷ []) (sym (add-one i)) (to_it xs i x e)

  -- the items from it on
  pub left : (xs : List X) (i : ℕ) (x : X) → slice_get xs i ≡ Some x → drop i xs ≡ x ∷ drop (i + 1) xs
  left xs i x e = subst (λ (n : ℕ). drop i xs ≡ x ∷ drop n xs) (sym (add-one i)) (from_it xs i x e)

  -- the item at its place, whatever stands for one that is missing
  pub got : (xs : List X) (i : ℕ) (x : X) → slice_get xs i ≡ Some x → x ≡ get_or xs i x
  got [] i x e = absurd cc
  got (y ∷ ys) zero x e = sym (same_Some y x e)
  got (y ∷ ys) (suc i) x e = got ys i x e

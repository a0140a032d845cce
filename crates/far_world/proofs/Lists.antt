-- Laws of lists and of answers.
use Rattle.std.proofs.Common.{◌≡◌, ℕ, zero, suc, ◌<◌, Bool, true, false, List, [], ◌∷◌, ◌++◌, length, get_or, take, drop, refl, subst, Some, arith}
use Rattle.std.specs.Prelude.{slice_get, OnOk, Ok, Err, Result, ◌&&◌}
use Rattle.std.proofs.Math.ListN.{drop_of_length-le}
use Rattle.std.proofs.Math.Seq.{take-length}
use Rattle.std.proofs.lemmas.List.{append-nil}
use Rattle.std.proofs.lemmas.Option.{same_Some}

-- within a list the default plays no part
pub get_or_any : {A : Type 0} → (xs : List A) (i : ℕ) (a b : A) → i < length xs → get_or xs i a ≡ get_or xs i b
get_or_any [] i a b h = absurd (omega arith)
get_or_any (x ∷ xs) zero a b h = refl
get_or_any (x ∷ xs) (suc i) a b h = get_or_any xs i a b (omega arith)

pub get_or_from : {A : Type 0} → (xs : List A) (i : ℕ) (a d : A) → slice_get xs i ≡ Some a → get_or xs i d ≡ a
get_or_from [] i a d h = absurd cc
get_or_from (x ∷ xs) zero a d h = same_Some _ _ h
get_or_from (x ∷ xs) (suc i) a d h = get_or_from xs i a d h

pub slice_get_there : {A : Type 0} → (xs : List A) (i : ℕ) → i < length xs → (a : A) × (slice_get xs i ≡ Some a)
slice_get_there [] i h = absurd (omega arith)
slice_get_there (x ∷ xs) zero h = (x, refl)
slice_get_there (x ∷ xs) (suc i) h = slice_get_there xs i (omega arith)

pub on_any : {A E P : Type 0} → P → (r : Result A E) → OnOk r P
on_any p (Ok x) = p
on_any p (Err e) = tt

pub and_true : (b : Bool) → (b && true) ≡ b
and_true true = refl
and_true false = refl

-- a whole list that was written in place of another
pub written_back : {A : Type 0} → (xs ys : List A) (n : ℕ) → length xs ≡ n → length ys ≡ n → take n (xs ++ drop (length xs) ys) ≡ xs
written_back xs ys n h k =
    let past : drop (length xs) ys ≡ [] = drop_of_length-le ys (omega (arith, h, k)) in
    rw (past, append-nil xs) (subst (λ (m : ℕ). take m xs ≡ xs) h (take-length xs))

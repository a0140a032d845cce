-- Lists of parties, and tests.
use Rattle.std.proofs.Common.{arith, ◌≡◌, ℕ, zero, suc, Bool, true, false, cond, List, [], ◌∷◌, set, get_or, replicate, refl, ap}
use Rattle.std.specs.List.{sum_by}
use Rattle.std.proofs.lemmas.List.Sums.{sum_by-cons}
use Rattle.far_model.specs.Members.{Each}

-- what holds of both branches
pub by_test : {A : Type 0} (P : A → Type 0) (b : Bool) (x y : A) → P x → P y → P (cond b x y)
by_test P true x y p q = p
by_test P false x y p q = q

-- what holds of the new element and of all before holds of all after
pub all_set : {A : Type 0} (P : A → Type 0) (xs : List A) (i : ℕ) (x d : A) → P x → ((c : ℕ) → P (get_or xs c d)) → (c : ℕ) → P (get_or (set xs i x) c d)
all_set P [] i x d new old c = old c
all_set P (y ∷ ys) zero x d new old zero = new
all_set P (y ∷ ys) zero x d new old (suc c) = old (suc c)
all_set P (y ∷ ys) (suc i) x d new old zero = old zero
all_set P (y ∷ ys) (suc i) x d new old (suc c) = all_set P ys i x d new (λ j. old (suc j)) c

pub get_or-replicate_default : {A : Type 0} (n i : ℕ) (a : A) → get_or (replicate n a) i a ≡ a
get_or-replicate_default zero i a = refl
get_or-replicate_default (suc n) zero a = refl
get_or-replicate_default (suc n) (suc i) a = get_or-replicate_default n i a

pub set-replicate : {A : Type 0} (n i : ℕ) (a : A) → set (replicate n a) i a ≡ replicate n a
set-replicate zero i a = refl
set-replicate (suc n) zero a = refl
set-replicate (suc n) (suc i) a = ap (λ xs. a ∷ xs) (set-replicate n i a)

-- a part that the new element shares with the old one is the same of all
pub set_field : {A B : Type 0} (f : A → B) (xs : List A) (i : ℕ) (x d : A) → f x ≡ f (get_or xs i d) → (c : ℕ) → f (get_or (set xs i x) c d) ≡ f (get_or xs c d)
set_field f [] i x d e c = refl
set_field f (y ∷ ys) zero x d e zero = e
set_field f (y ∷ ys) zero x d e (suc c) = refl
set_field f (y ∷ ys) (suc i) x d e zero = refl
set_field f (y ∷ ys) (suc i) x d e (suc c) = set_field f ys i x d e c

-- a sum stays where the new element weighs what the old one did
pub sum_by-set_same : {A : Type 0} (f : A → ℕ) (xs : List A) (i : ℕ) (x d : A) → f x ≡ f (get_or xs i d) → sum_by f (set xs i x) ≡ sum_by f xs
sum_by-set_same f [] i x d e = refl
sum_by-set_same f (y ∷ ys) zero x d e = omega (arith, e, sum_by-cons f x ys, sum_by-cons f y ys)
sum_by-set_same f (y ∷ ys) (suc i) x d e = omega (arith, sum_by-set_same f ys i x d e, sum_by-cons f y (set ys i x), sum_by-cons f y ys)

-- what follows for each
pub each_map : {A : Type 0} (P Q : A → Type 0) (xs : List A) → ((x : A) → P x → Q x) → Each P xs → Each Q xs
each_map P Q [] f h = tt
each_map P Q (x ∷ xs) f h = (f x h.0, each_map P Q xs f h.1)

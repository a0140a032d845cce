-- Laws of membership and order in lists.
use Rattle.std.proofs.Common.{◌≡◌, ℕ, zero, suc, ◌<◌, ◌⊎◌, inl, inr, List, [], ◌∷◌, ◌++◌, map, set, refl, sym, ap, ◌∙◌, subst, arith}
use Rattle.std.specs.Prelude.{Some, slice_get}
use Rattle.std.specs.List.{remove}
use Rattle.std.proofs.lemmas.Option.{same_Some}
use Rattle.far_model.specs.Members.{Among, Each, Pairs}

pub among_append_left : {A : Type 0} → (x : A) (xs ys : List A) → Among x xs → Among x (xs ++ ys)
among_append_left x [] ys h = absurd h
among_append_left x (z ∷ zs) ys (inl e) = inl e
among_append_left x (z ∷ zs) ys (inr h) = inr (among_append_left x zs ys h)

pub among_append_right : {A : Type 0} → (x : A) (xs ys : List A) → Among x ys → Among x (xs ++ ys)
among_append_right x [] ys h = h
among_append_right x (z ∷ zs) ys h = inr (among_append_right x zs ys h)

-- a member of two lists in a row is one of the first or of the second
pub among_append : {A : Type 0} → (x : A) (xs ys : List A) → Among x (xs ++ ys) → Among x xs ⊎ Among x ys
among_append x [] ys h = inr h
among_append x (z ∷ zs) ys (inl e) = inl (inl e)
among_append x (z ∷ zs) ys (inr h) = either (among_append x zs ys h)
  where
    either : Among x zs ⊎ Among x ys → (Among x (z ∷ zs)) ⊎ Among x ys
    either (inl k) = inl (inr k)
    either (inr k) = inr k

pub among_at : {A : Type 0} → (x : A) (xs : List A) (i : ℕ) → slice_get xs i ≡ Some x → Among x xs
among_at x [] i h = absurd cc
among_at x (y ∷ ys) zero h = inl (sym (same_Some _ _ h))
among_at x (y ∷ ys) (suc i) h = inr (among_at x ys i h)

-- each member stands somewhere
pub place_of : {A : Type 0} → (x : A) (xs : List A) → Among x xs → (i : ℕ) × (slice_get xs i ≡ Some x)
place_of x [] h = absurd h
place_of x (y ∷ ys) (inl e) = (0, ap Some (sym e))
place_of x (y ∷ ys) (inr h) = let p = place_of x ys h in (suc p.0, p.1)

pub among_remove : {A : Type 0} → (x : A) (xs : List A) (i : ℕ) → Among x (remove xs i) → Among x xs
among_remove x [] zero h = absurd h
among_remove x [] (suc i) h = absurd h
among_remove x (y ∷ ys) zero h = inr h
among_remove x (y ∷ ys) (suc i) (inl e) = inl e
among_remove x (y ∷ ys) (suc i) (inr h) = inr (among_remove x ys i h)

-- each member is the one that is removed or stays
pub among_out : {A : Type 0} → (x y : A) (xs : List A) (i : ℕ) → slice_get xs i ≡ Some y → Among x xs → (x ≡ y) ⊎ Among x (remove xs i)
among_out x y [] i h k = absurd k
among_out x y (z ∷ zs) zero h (inl e) = inl (e ∙ same_Some _ _ h)
among_out x y (z ∷ zs) zero h (inr k) = inr k
among_out x y (z ∷ zs) (suc i) h (inl e) = inr (inl e)
among_out x y (z ∷ zs) (suc i) h (inr k) = further (among_out x y zs i h k)
  where
    further : (x ≡ y) ⊎ Among x (remove zs i) → (x ≡ y) ⊎ Among x (remove (z ∷ zs) (suc i))
    further (inl e) = inl e
    further (inr m) = inr (inr m)

-- after one is set, a member is that one or was there before
pub among_set : {A : Type 0} → (x v : A) (xs : List A) (i : ℕ) → Among x (set xs i v) → (x ≡ v) ⊎ Among x xs
among_set x v [] zero h = absurd h
among_set x v [] (suc i) h = absurd h
among_set x v (y ∷ ys) zero (inl e) = inl e
among_set x v (y ∷ ys) zero (inr h) = inr (inr h)
among_set x v (y ∷ ys) (suc i) (inl e) = inr (inl e)
among_set x v (y ∷ ys) (suc i) (inr h) = further (among_set x v ys i h)
  where
    further : (x ≡ v) ⊎ Among x ys → (x ≡ v) ⊎ Among x (y ∷ ys)
    further (inl e) = inl e
    further (inr m) = inr (inr m)

pub among_map : {A B : Type 0} → (f : A → B) (x : A) (xs : List A) → Among x xs → Among (f x) (map f xs)
among_map f x [] h = absurd h
among_map f x (y ∷ ys) (inl e) = inl (ap f e)
among_map f x (y ∷ ys) (inr h) = inr (among_map f x ys h)

-- a member of a mapped list comes from a member
pub among_map_from : {A B : Type 0} → (f : A → B) (y : B) (xs : List A) → Among y (map f xs) → (x : A) × Among x xs × (y ≡ f x)
among_map_from f y [] h = absurd h
among_map_from f y (x ∷ xs) (inl e) = (x, inl refl, e)
among_map_from f y (x ∷ xs) (inr h) = let p = among_map_from f y xs h in (p.0, inr p.1, p.2)

pub each_among : {A : Type 0} → (P : A → Type 0) (x : A) (xs : List A) → Each P xs → Among x xs → P x
each_among P x [] h k = absurd k
each_among P x (y ∷ ys) h (inl e) = subst P (sym e) h.0
each_among P x (y ∷ ys) h (inr k) = each_among P x ys h.1 k

pub each_from_among : {A : Type 0} → (P : A → Type 0) (xs : List A) → ((x : A) → Among x xs → P x) → Each P xs
each_from_among P [] h = tt
each_from_among P (y ∷ ys) h = (h y (inl refl), each_from_among P ys (λ x k. h x (inr k)))

-- of two members of an ordered list one stands before the other, or they are one
pub pairs_among : {A : Type 0} → (R : A → A → Type 0) (x y : A) (xs : List A) → Pairs R xs → Among x xs → Among y xs → (x ≡ y) ⊎ (R x y ⊎ R y x)
pairs_among R x y [] h k m = absurd k
pairs_among R x y (z ∷ zs) h (inl e) (inl f) = inl (e ∙ sym f)
pairs_among R x y (z ∷ zs) h (inl e) (inr m) = inr (inl (subst (λ w. R w y) (sym e) (each_among (R z) y zs h.0 m)))
pairs_among R x y (z ∷ zs) h (inr k) (inl f) = inr (inr (subst (λ w. R w x) (sym f) (each_among (R z) x zs h.0 k)))
pairs_among R x y (z ∷ zs) h (inr k) (inr m) = pairs_among R x y zs h.1 k m

-- two ordered lists in a row are ordered where each of the first stands before each of the second
pub pairs_append : {A : Type 0} → (R : A → A → Type 0) (xs ys : List A) → Pairs R xs → Pairs R ys → ((x y : A) → Among x xs → Among y ys → R x y) → Pairs R (xs ++ ys)
pairs_append R [] ys h k m = k
pairs_append R (x ∷ xs) ys h k m = (each_from_among (R x) (xs ++ ys) (λ y a. first y (among_append y xs ys a)), pairs_append R xs ys h.1 k (λ z y a b. m z y (inr a) b))
  where
    first : (y : _) → Among y xs ⊎ Among y ys → R x y
    first y (inl a) = each_among (R x) y xs h.0 a
    first y (inr b) = m x y (inl refl) b

-- an earlier place of an ordered list stands before a later one
pub pairs_at : {A : Type 0} → (R : A → A → Type 0) (x y : A) (xs : List A) (i j : ℕ) → Pairs R xs → slice_get xs i ≡ Some x → slice_get xs j ≡ Some y → i < j → R x y
pairs_at R x y [] i j h p q l = absurd cc
pairs_at R x y (z ∷ zs) zero zero h p q l = absurd (omega arith)
pairs_at R x y (z ∷ zs) zero (suc j) h p q l = subst (λ w. R w y) (same_Some _ _ p) (each_among (R z) y zs h.0 (among_at y zs j q))
pairs_at R x y (z ∷ zs) (suc i) zero h p q l = absurd (omega arith)
pairs_at R x y (z ∷ zs) (suc i) (suc j) h p q l = pairs_at R x y zs i j h.1 p q (omega arith)

-- a strict order and the members determine the list
pub pairs_unique : {A : Type 0} → (R : A → A → Type 0) → ((x y : A) → R x y → R y x → ⊥) → (xs ys : List A) → Pairs R xs → Pairs R ys
    → ((x : A) → Among x xs → Among x ys) → ((x : A) → Among x ys → Among x xs) → xs ≡ ys
pairs_unique R strict [] [] h k f g = refl
pairs_unique R strict [] (y ∷ ys) h k f g = absurd (g y (inl refl))
pairs_unique R strict (x ∷ xs) [] h k f g = absurd (f x (inl refl))
pairs_unique {A} R strict (x ∷ xs) (y ∷ ys) h k f g =
    let e : x ≡ y = heads (f x (inl refl)) (g y (inl refl)) in
    let rest : xs ≡ ys = pairs_unique R strict xs ys h.1 k.1 (λ z a. (stays e z a (f z (inr a)))) (λ z a. back e z a (g z (inr a))) in
    λ i. e i ∷ rest i
  where
    heads : (x ≡ y) ⊎ Among x ys → (y ≡ x) ⊎ Among y xs → x ≡ y
    heads (inl e) b = e
    heads (inr a) (inl e) = sym e
    heads (inr a) (inr b) = absurd (strict x y (each_among (R x) y xs h.0 b) (each_among (R y) x ys k.0 a))

    stays : x ≡ y → (z : A) → Among z xs → (z ≡ y) ⊎ Among z ys → Among z ys
    stays e z a (inr b) = b
    stays e z a (inl d) = let r : R x x = subst (λ w. R x w) (d ∙ sym e) (each_among (R x) z xs h.0 a) in absurd (strict x x r r)

    back : x ≡ y → (z : A) → Among z ys → (z ≡ x) ⊎ Among z xs → Among z xs
    back e z a (inr b) = b
    back e z a (inl d) = let r : R y y = subst (λ w. R y w) (d ∙ e) (each_among (R y) z ys k.0 a) in absurd (strict y y r r)

-- the second of two lists in a row is ordered where both are
pub pairs_right : {A : Type 0} → (R : A → A → Type 0) (xs ys : List A) → Pairs R (xs ++ ys) → Pairs R ys
pairs_right R [] ys h = h
pairs_right R (x ∷ xs) ys h = pairs_right R xs ys h.1

-- so is the first
pub pairs_left : {A : Type 0} → (R : A → A → Type 0) (xs ys : List A) → Pairs R (xs ++ ys) → Pairs R xs
pairs_left R [] ys h = tt
pairs_left R (x ∷ xs) ys h = (each_from_among (R x) xs (λ y a. each_among (R x) y (xs ++ ys) h.0 (among_append_left y xs ys a)), pairs_left R xs ys h.1)

-- a list stays ordered where its members are mapped
pub pairs_map : {A B : Type 0} → (R : A → A → Type 0) (S : B → B → Type 0) (f : A → B) (xs : List A) → Pairs R xs → ((x y : A) → Among x xs → Among y xs → R x y → S (f x) (f y)) → Pairs S (map f xs)
pairs_map R S f [] h m = tt
pairs_map R S f (x ∷ xs) h m = (
  each_from_among (S (f x)) (map f xs) (λ y a. let p = among_map_from f y xs a in subst (λ w. S (f x) w) (sym p.2) (m x p.0 (inl refl) (inr p.1) (each_among (R x) p.0 xs h.0 p.1))),
  pairs_map R S f xs h.1 (λ z y a b. m z y (inr a) (inr b)),
)

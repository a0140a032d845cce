-- Which elements a filter leaves, and how many of a kind.
use Rattle.std.proofs.Common.{◌≡◌, inl, inr, ℕ, ◌+◌, ◌≤◌, Bool, true, false, cond, filter, length, take, slice_get, Some, List, [], ◌∷◌, ◌++◌, append-nil, refl, sym, ap, ◌∙◌, arith, count_by, sum_by, true≢false}
use Rattle.std.proofs.lemmas.List.Elements.{filter-append}
use Rattle.std.proofs.lemmas.List.Sums.{sum_by-cons}
use Rattle.std.specs.List.{AllByRecursion}
use Rattle.far_base.proofs.Taken.{taken}
use Rattle.far_model.specs.Members.{Among}

module _ {X : Type 0} (p : X → Bool) where
  left_or_out : (b : Bool) (y x : X) (ys zs : List X) → p y ≡ b → (Among x zs → Among x ys × (p x ≡ true)) → Among x (cond b (y ∷ zs) zs) → Among x (y ∷ ys) × (p x ≡ true)
  left_or_out true y x ys zs is rest (inl same) = (inl same, ap p same ∙ is)
  left_or_out true y x ys zs is rest (inr more) = (inr (rest more).0, (rest more).1)
  left_or_out false y x ys zs is rest more = (inr (rest more).0, (rest more).1)

  -- what is left stood in the list and passes the test
  pub left_passes : (xs : List X) (x : X) → Among x (filter p xs) → Among x xs × (p x ≡ true)
  left_passes [] x at = absurd at
  left_passes (y ∷ ys) x at = left_or_out (p y) y x ys (filter p ys) refl (left_passes ys x) at

  stays : (b : Bool) (y x : X) (ys zs : List X) → p y ≡ b → p x ≡ true → (Among x ys → Among x zs) → Among x (y ∷ ys) → Among x (cond b (y ∷ zs) zs)
  stays true y x ys zs is of rest (inl same) = inl same
  stays true y x ys zs is of rest (inr more) = inr (rest more)
  stays false y x ys zs is of rest (inl same) = absurd (true≢false (sym of ∙ (ap p same ∙ is)))
  stays false y x ys zs is of rest (inr more) = rest more

  -- what passes the test is left
  pub passes_left : (xs : List X) (x : X) → p x ≡ true → Among x xs → Among x (filter p xs)
  passes_left [] x is at = at
  passes_left (y ∷ ys) x is at = stays (p y) y x ys (filter p ys) refl is (passes_left ys x is) at

  no_longer : (b : Bool) (y : X) (n : ℕ) (zs : List X) → length zs ≤ n → length (cond b (y ∷ zs) zs) ≤ n + 1
  no_longer true y n zs le = omega arith
  no_longer false y n zs le = omega arith

  pub filter_length : (xs : List X) → length (filter p xs) ≤ length xs
  filter_length [] = omega arith
  filter_length (y ∷ ys) = omega (arith, no_longer (p y) y (length ys) (filter p ys) (filter_length ys))

  all_or_out : (b : Bool) (P : X → Type 0) (y : X) (zs : List X) → P y → AllByRecursion P zs → AllByRecursion P (cond b (y ∷ zs) zs)
  all_or_out true P y zs h rest = (h, rest)
  all_or_out false P y zs h rest = rest

  pub filter_keeps : (P : X → Type 0) (xs : List X) → AllByRecursion P xs → AllByRecursion P (filter p xs)
  filter_keeps P [] h = h
  filter_keeps P (y ∷ ys) h = all_or_out (p y) P y (filter p ys) h.0 (filter_keeps P ys h.1)

  weighs : (b : Bool) (f : X → ℕ) (y : X) (zs : List X) → sum_by f (cond b (y ∷ zs) zs) ≡ cond {A = ℕ} b (f y) 0 + sum_by f zs
  weighs true f y zs = sum_by-cons f y zs
  weighs false f y zs = omega arith

  pub filter_weighs : (f : X → ℕ) (y : X) (ys : List X) → sum_by f (filter p (y ∷ ys)) ≡ cond {A = ℕ} (p y) (f y) 0 + sum_by f (filter p ys)
  filter_weighs f y ys = weighs (p y) f y (filter p ys)

  some_or_none : (b : Bool) (n : ℕ) → cond {A = ℕ} b n 0 ≤ n
  some_or_none true n = omega arith
  some_or_none false n = omega arith

  pub filter_sum : (f : X → ℕ) (xs : List X) → sum_by f (filter p xs) ≤ sum_by f xs
  filter_sum f [] = omega arith
  filter_sum f (y ∷ ys) = omega (arith, filter_weighs f y ys, sum_by-cons f y ys, some_or_none (p y) (f y), filter_sum f ys)

  pub filter_count : (q : X → Bool) (xs : List X) → count_by q (filter p xs) ≤ count_by q xs
  filter_count q xs = filter_sum (λ x. cond {A = ℕ} (q x) 1 0) xs

  pub filter_all : (xs : List X) → ((x : X) → p x ≡ true) → filter p xs ≡ xs
  filter_all [] all = refl
  filter_all (y ∷ ys) all = ap (λ b. cond b (y ∷ filter p ys) (filter p ys)) (all y) ∙ ap (λ (zs : List X). y ∷ zs) (filter_all ys all)

  -- what is left of one element more
  pub taken_in : (xs : List X) (i : ℕ) (x : X) (before after : List X) → before ≡ filter p (take i xs) → slice_get xs i ≡ Some x → p x ≡ true → after ≡ before ++ x ∷ [] → after ≡ filter p (take (i + 1) xs)
  taken_in xs i x before after was at passes is =
      is ∙ ap (λ (l : List X). l ++ x ∷ []) was ∙ ap (λ b. filter p (take i xs) ++ cond b (x ∷ []) []) (sym passes) ∙ sym (ap (filter p) (taken xs i x at) ∙ filter-append p (take i xs) (x ∷ []))

  pub left_out : (xs : List X) (i : ℕ) (x : X) (before after : List X) → before ≡ filter p (take i xs) → slice_get xs i ≡ Some x → p x ≡ false → after ≡ before → after ≡ filter p (take (i + 1) xs)
  left_out xs i x before after was at fails is =
      is ∙ was ∙ sym (append-nil (filter p (take i xs))) ∙ ap (λ b. filter p (take i xs) ++ cond b (x ∷ []) []) (sym fails) ∙ sym (ap (filter p) (taken xs i x at) ∙ filter-append p (take i xs) (x ∷ []))

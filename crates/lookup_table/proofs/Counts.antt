-- How often a slot stands in a table, and where.
use Rattle.std.proofs.Common.{◌≡◌, ◌≢◌, ℕ, zero, suc, ◌+◌, ◌*◌, ◌<◌, ◌≤◌, Bool, true, false, ◌⊎◌, List, [], ◌∷◌, length, set, get_or, drop, cond, sym, refl, ap, ◌∙◌, inl, inr, arith, subst, Option, None, Some}
use Rattle.std.specs.Prelude.{eqb}
use Rattle.std.specs.List.{count_by, position, position_or_len}
use Rattle.std.proofs.lemmas.Bool.Decides.{eqb_tells}
use Rattle.std.proofs.lemmas.Grind.{common_steps}
use Rattle.std.proofs.lemmas.List.{get_or-take, get_or-drop, get_or-set_same, get_or-set_other, length-take, length-drop}
use Rattle.std.proofs.lemmas.List.Sums.{fails_before_first, sum_by-cons}
use Rattle.lookup_table.specs.Table.{key_at, bucket_cells}
use Rattle.lookup_table.specs.Sound.{times}

-- where nothing is found, everything fails the test
pub none_passes : {X : Type 0} (p : X → Bool) (xs : List X) (i : ℕ) (d : X) → position p xs ≡ None → i < length xs → p (get_or xs i d) ≡ false
none_passes p xs i d e b =
    let all : length xs ≤ position_or_len p xs = grind (arith, common_steps) in
    fails_before_first p xs i d (omega (arith, all, b))

pub record Passing {X : Type 0} (p : X → Bool) (xs : List X) (d : X) : Type 0 where
  pub at : ℕ
  pub within : at < length xs
  pub passes : p (get_or xs at d) ≡ true

pub count_cons : {X : Type 0} (p : X → Bool) (x : X) (xs : List X) → count_by p (x ∷ xs) ≡ cond {A = ℕ} (p x) 1 0 + count_by p xs
count_cons p x xs = sum_by-cons (λ y. cond {A = ℕ} (p y) 1 0) x xs

-- what is counted stands somewhere
pub counted_there : {X : Type 0} (p : X → Bool) (xs : List X) (d : X) → 0 < count_by p xs → Passing p xs d
counted_there p [] d h = absurd (omega (arith, h))
counted_there p (x ∷ xs) d h = go (λ k. counted_there p xs d k) (p x) refl (subst (λ n. 0 < n) (count_cons p x xs) h)
  where
    go : (0 < count_by p xs → Passing p xs d) → (t : Bool) → p x ≡ t → 0 < cond {A = ℕ} t 1 0 + count_by p xs → Passing p (x ∷ xs) d
    go later true e k = record { at = 0; within = omega arith; passes = e }
    go later false e k = let f = later (omega (arith, k)) in record { at = suc f.at; within = omega (arith, f.within); passes = f.passes }

-- what stands somewhere is counted
pub there_counted : {X : Type 0} (p : X → Bool) (xs : List X) (i : ℕ) (d : X) → i < length xs → p (get_or xs i d) ≡ true → 0 < count_by p xs
there_counted p [] i d b e = absurd (omega (arith, b))
there_counted p (x ∷ xs) zero d b e =
    let one : cond {A = ℕ} (p x) 1 0 ≡ 1 = ap (λ t. cond {A = ℕ} t 1 0) e in
    let all = count_cons p x xs in
    omega (arith, one, all)
there_counted p (x ∷ xs) (suc i) d b e =
    let later = there_counted p xs i d (omega (arith, b)) e in
    let all = count_cons p x xs in
    omega (arith, later, all)

-- what stands twice is counted twice
pub twice_counted : {X : Type 0} (p : X → Bool) (xs : List X) (i j : ℕ) (d : X) → i < j → j < length xs → p (get_or xs i d) ≡ true → p (get_or xs j d) ≡ true → 1 < count_by p xs
twice_counted p [] i j d l b e f = absurd (omega (arith, b))
twice_counted p (x ∷ xs) i zero d l b e f = absurd (omega (arith, l))
twice_counted p (x ∷ xs) zero (suc j) d l b e f =
    let one : cond {A = ℕ} (p x) 1 0 ≡ 1 = ap (λ t. cond {A = ℕ} t 1 0) e in
    let later = there_counted p xs j d (omega (arith, b)) f in
    let all = count_cons p x xs in
    omega (arith, one, later, all)
twice_counted p (x ∷ xs) (suc i) (suc j) d l b e f =
    let later = twice_counted p xs i j d (omega (arith, l)) (omega (arith, b)) e f in
    let all = count_cons p x xs in
    omega (arith, later, all)

-- a cell of a bucket, in the list of all
pub bucket_cell : (bucket cell : ℕ) (cells : List (Option ℕ)) → cell < 4 → get_or (bucket_cells bucket cells) cell None ≡ get_or cells (4 * bucket + cell) None
bucket_cell bucket cell cells b = get_or-take 4 (drop (4 * bucket) cells) cell None b ∙ get_or-drop (4 * bucket) cells cell None

pub bucket_length : (bucket : ℕ) (cells : List (Option ℕ)) → 4 * bucket + 4 ≤ length cells → length (bucket_cells bucket cells) ≡ 4
bucket_length bucket cells b = grind (arith, length-take, length-drop, b)

pub within_four : (bucket cell : ℕ) (cells : List (Option ℕ)) → cell < length (bucket_cells bucket cells) → cell < 4
within_four bucket cell cells b = let n = length-take 4 (drop (4 * bucket) cells) in omega (arith, n, b)

-- ---- one slot less, and one more

pub unset_key : (bound : List (Option (List ℕ))) (s x : ℕ) (k key : List ℕ) → key_at bound s ≡ Some k → key_at (set bound s None) x ≡ Some key → (x ≢ s) × (key_at bound x ≡ Some key)
unset_key bound s x k key h e = (ne, sym (get_or-set_other bound s x None None ne) ∙ e)
  where
    inside : s < length bound
    inside = grind (arith, common_steps, h)

    ne : x ≢ s
    ne q = let same : get_or (set bound s None) s None ≡ None = get_or-set_same bound s None None inside in
        let other : get_or (set bound s None) s None ≡ Some key = subst (λ n. get_or (set bound s None) n None ≡ Some key) q e in
        absurd cc

pub times_unset : (bound : List (Option (List ℕ))) (s x n : ℕ) (k : List ℕ) → key_at bound s ≡ Some k → n + cond {A = ℕ} (eqb x s) 1 0 ≡ times (key_at bound x) → n ≡ times (key_at (set bound s None) x)
times_unset bound s x n k h e =
    elim (eqb_tells x s) [
      | inl q ↦
          let one : n + 1 ≡ times (key_at bound x) = ap (λ t. n + cond {A = ℕ} t 1 0) (sym q.0) ∙ e in
          let is : times (key_at bound x) ≡ 1 = ap times (ap (key_at bound) q.1 ∙ h) in
          let none : times (key_at (set bound s None) x) ≡ 0 = ap times (ap (key_at (set bound s None)) q.1 ∙ get_or-set_same bound s None None inside) in
          omega (arith, one, is, none)
      | inr q ↦
          let same : n + 0 ≡ times (key_at bound x) = ap (λ t. n + cond {A = ℕ} t 1 0) (sym q.0) ∙ e in
          let kept : times (key_at (set bound s None) x) ≡ times (key_at bound x) = ap times (get_or-set_other bound s x None None q.1) in
          omega (arith, same, kept)
    ]
  where
    inside : s < length bound
    inside = grind (arith, common_steps, h)

pub set_key : (bound : List (Option (List ℕ))) (s x : ℕ) (k key : List ℕ) → s < length bound → key_at (set bound s (Some k)) x ≡ Some key → ((x ≡ s) × (key ≡ k)) ⊎ ((x ≢ s) × (key_at bound x ≡ Some key))
set_key bound s x k key b e =
    elim (eqb_tells x s) [
      | inl q ↦ inl (q.1, let same : key_at (set bound s (Some k)) x ≡ Some k = ap (key_at (set bound s (Some k))) q.1 ∙ get_or-set_same bound s (Some k) None b in cc)
      | inr q ↦ inr (q.1, sym (get_or-set_other bound s x (Some k) None q.1) ∙ e)
    ]

pub times_set : (bound : List (Option (List ℕ))) (s x n : ℕ) (k : List ℕ) → s < length bound → key_at bound s ≡ None → n ≡ times (key_at bound x) → n + cond {A = ℕ} (eqb x s) 1 0 ≡ times (key_at (set bound s (Some k)) x)
times_set bound s x n k b h e =
    elim (eqb_tells x s) [
      | inl q ↦
          let one : cond {A = ℕ} (eqb x s) 1 0 ≡ 1 = ap (λ t. cond {A = ℕ} t 1 0) q.0 in
          let none : times (key_at bound x) ≡ 0 = ap times (ap (key_at bound) q.1 ∙ h) in
          let is : times (key_at (set bound s (Some k)) x) ≡ 1 = ap times (ap (key_at (set bound s (Some k))) q.1 ∙ get_or-set_same bound s (Some k) None b) in
          omega (arith, one, none, is, e)
      | inr q ↦
          let zero_is : cond {A = ℕ} (eqb x s) 1 0 ≡ 0 = ap (λ t. cond {A = ℕ} t 1 0) q.0 in
          let kept : times (key_at (set bound s (Some k)) x) ≡ times (key_at bound x) = ap times (get_or-set_other bound s x (Some k) None q.1) in
          omega (arith, zero_is, kept, e)
    ]

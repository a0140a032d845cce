-- What stands at one number of a row of numbers, and nowhere else, added up over the row.
use Rattle.std.proofs.Common.{◌≡◌, ℕ, zero, suc, ◌+◌, ◌<◌, ◌≤◌, ◌≢◌, cond, nat_eq, List, [], ◌∷◌, refl, ap, arith, sum_by, ⊎_elim, eq-eqb, ne_eqb}
use Rattle.std.proofs.lemmas.Bool.{cases_eq}
use Rattle.std.proofs.lemmas.List.Sums.{sum_by-cons}
use Rattle.std.specs.List.{range_with_len}

abbrev at_one : ℕ → ℕ → ℕ → ℕ
at_one n weight i = cond {A = ℕ} (nat_eq n i) weight 0

sum_before : (n weight a len : ℕ) → n < a → sum_by (at_one n weight) (range_with_len a len) ≡ 0
sum_before n weight a zero lt = refl
sum_before n weight a (suc len) lt =
    let apart : n ≢ a = λ e. absurd (omega (arith, e)) in
    let here : at_one n weight a ≡ 0 = ap (λ b. cond {A = ℕ} b weight 0) (ne_eqb n a apart) in
    omega (arith, sum_by-cons (at_one n weight) a (range_with_len (a + 1) len), here, sum_before n weight (a + 1) len (omega arith))

pub sum_at_one : (n weight a len : ℕ) → a ≤ n → n < a + len → sum_by (at_one n weight) (range_with_len a len) ≡ weight
sum_at_one n weight a zero le lt = absurd (omega arith)
sum_at_one n weight a (suc len) le lt = ⊎_elim
    (λ (same : n ≡ a).
    let here : at_one n weight a ≡ weight = ap (λ b. cond {A = ℕ} b weight 0) (eq-eqb n a same) in
    omega (arith, sum_by-cons (at_one n weight) a (range_with_len (a + 1) len), here, sum_before n weight (a + 1) len (omega arith)))
    (λ (apart : n ≢ a).
    let here : at_one n weight a ≡ 0 = ap (λ b. cond {A = ℕ} b weight 0) (ne_eqb n a apart) in
    omega (arith, sum_by-cons (at_one n weight) a (range_with_len (a + 1) len), here, sum_at_one n weight (a + 1) len (omega arith) (omega arith)))
    (cases_eq n a)

pub sum_by_both : (f g h : ℕ → ℕ) (is : List ℕ) → ((i : ℕ) → f i ≡ g i + h i) → sum_by f is ≡ sum_by g is + sum_by h is
sum_by_both f g h [] same = refl
sum_by_both f g h (i ∷ is) same = omega (arith, sum_by-cons f i is, sum_by-cons g i is, sum_by-cons h i is, same i, sum_by_both f g h is same)

pub sum_of_none : (is : List ℕ) → sum_by (λ (i : ℕ). 0) is ≡ 0
sum_of_none [] = refl
sum_of_none (i ∷ is) = omega (arith, sum_by-cons (λ (j : ℕ). 0) i is, sum_of_none is)

-- A word of digits is the spelling of its value, and the spelling of a number is such a word.
use Rattle.std.proofs.Common.{◌≡◌, ℕ, zero, suc, ◌+◌, ◌*◌, ◌-◌, ◌^◌, ◌<◌, ◌≤◌, Bool, true, false, not, ◌&&◌, ◌||◌, List, [], ◌∷◌, length, get_or, drop, refl, arith, add-one, rules}
use Rattle.std.specs.Prelude.{nat_le, nat_eq, decimal}
use Rattle.std.specs.List.{list_all}
use Rattle.std.proofs.Math.Seq.{drop-cons}
use Rattle.std.proofs.lemmas.Bool.Decides.{nat_tests}
use Rattle.std.proofs.lemmas.Str.Parse.{IsNumeralModel, numerals_by_fold, digits_value_short}
use Rattle.std.proofs.lemmas.Fmt.{decimal-digits_value, digits_decimal, digits_value-decimal, length-decimal-le, decimal_nonempty, first_decimal, decimal_digit}
use Rattle.far_text.specs.Numbers.{is_digit, value_from, starts_zero, is_number}

pub and_true : (a b : Bool) → (a && b) ≡ true → (a ≡ true) × (b ≡ true)
and_true true b h = (refl, h)
and_true false b h = absurd cc

pub both_true : (a b : Bool) → a ≡ true → b ≡ true → (a && b) ≡ true
both_true true b h k = k
both_true false b h k = absurd cc

own : IsNumeralModel (λ ds. list_all is_digit ds ≡ true) (value_from 0)
own = numerals_by_fold _ (search rules) value_from (search rules)

pub record IsNumberWord (word : List ℕ) : Type 0 where
  pub some : 1 ≤ length word
  pub short : length word ≤ 19
  pub zero_alone : get_or word 0 0 ≡ 48 → length word ≡ 1
  pub digits : list_all is_digit word ≡ true

alone : (word : List ℕ) → (nat_eq (length word) 1 || not (starts_zero word)) ≡ true → get_or word 0 0 ≡ 48 → length word ≡ 1
alone [] h z = absurd (omega arith)
alone (c ∷ []) h z = refl
alone (c ∷ d ∷ cs) h z = grind (arith, nat_tests)

pub number_word : (word : List ℕ) → is_number word ≡ true → IsNumberWord word
number_word word h =
    let a : (((nat_le 1 (length word) && nat_le (length word) 19) && (nat_eq (length word) 1 || not (starts_zero word))) ≡ true) × (list_all is_digit word ≡ true) = and_true _ _ h in
    let b : ((nat_le 1 (length word) && nat_le (length word) 19) ≡ true) × ((nat_eq (length word) 1 || not (starts_zero word)) ≡ true) = and_true _ _ a.0 in
    let l : (nat_le 1 (length word) ≡ true) × (nat_le (length word) 19 ≡ true) = and_true _ _ b.0 in
    record { some = grind (arith, nat_tests); short = grind (arith, nat_tests); zero_alone = alone word b.1; digits = a.1 }

pub value_small : (word : List ℕ) → is_number word ≡ true → value_from 0 word < 10 ^ 19
value_small word h =
    let w : IsNumberWord word = number_word word h in
    digits_value_short own word 19 w.digits w.short

pub value_ge : (n : ℕ) (cs : List ℕ) → n ≤ value_from n cs
value_ge n [] = omega arith
value_ge n (c ∷ cs) = omega (arith, value_ge (n * 10 + (c - 48)) cs)

pub value_step : (n : ℕ) (word : List ℕ) (i : ℕ) → i < length word → value_from n (drop i word) ≡ value_from (n * 10 + (get_or word i 0 - 48)) (drop (i + 1) word)
value_step n word i h = rw (drop-cons word i 0 h) (rw (add-one i) refl)

pub digit_at : (word : List ℕ) (i : ℕ) → list_all is_digit word ≡ true → i < length word → (48 ≤ get_or word i 0) × (get_or word i 0 ≤ 57)
digit_at [] i h lt = absurd (omega arith)
digit_at (c ∷ cs) zero h lt =
    let a : (is_digit c ≡ true) × (list_all is_digit cs ≡ true) = and_true _ _ h in
    let b : (nat_le 48 c ≡ true) × (nat_le c 57 ≡ true) = and_true _ _ a.0 in
    (grind (arith, nat_tests), grind (arith, nat_tests))
digit_at (c ∷ cs) (suc i) h lt =
    let a : (is_digit c ≡ true) × (list_all is_digit cs ≡ true) = and_true _ _ h in
    digit_at cs i a.1 (omega arith)

-- what the next digit makes of the number so far stays small
pub step_small : (n : ℕ) (word : List ℕ) (i : ℕ) → is_number word ≡ true → i < length word → value_from n (drop i word) ≡ value_from 0 word → n * 10 + (get_or word i 0 - 48) < 10 ^ 19
step_small n word i h lt e =
    omega (arith, value_small word h, e, value_step n word i lt, value_ge (n * 10 + (get_or word i 0 - 48)) (drop (i + 1) word))

-- ---- the two ways

pub value_spelled : (word : List ℕ) → is_number word ≡ true → decimal (value_from 0 word) ≡ word
value_spelled word h =
    let w : IsNumberWord word = number_word word h in
    let small : value_from 0 word < 10 ^ 19 = value_small word h in
    decimal-digits_value own word w.digits w.some w.zero_alone (omega (arith, small))

one_alone : (word : List ℕ) → (get_or word 0 0 ≡ 48 → length word ≡ 1) → (nat_eq (length word) 1 || not (starts_zero word)) ≡ true
one_alone [] h = refl
one_alone (c ∷ []) h = refl
one_alone (c ∷ d ∷ cs) h = grind (arith, nat_tests)

zero_is_alone : (n : ℕ) → n < 10 ^ 19 → get_or (decimal n) 0 0 ≡ 48 → length (decimal n) ≡ 1
zero_is_alone zero lt e = rw (decimal_digit zero (omega arith)) refl
zero_is_alone (suc n) lt e = absurd (omega (arith, e, first_decimal (suc n) (omega arith) (omega arith)))

pub decimal_digits : (n : ℕ) → n < 10 ^ 19 → list_all is_digit (decimal n) ≡ true
decimal_digits n lt = digits_decimal own n (omega arith)

pub decimal_is_number : (n : ℕ) → n < 10 ^ 19 → is_number (decimal n) ≡ true
decimal_is_number n lt =
    let some : 1 ≤ length (decimal n) = omega (arith, decimal_nonempty n (omega arith)) in
    let short : length (decimal n) ≤ 19 = length-decimal-le 19 n (omega arith) lt (omega arith) in
    let a : nat_le 1 (length (decimal n)) ≡ true = grind (arith, nat_tests) in
    let b : nat_le (length (decimal n)) 19 ≡ true = grind (arith, nat_tests) in
    both_true _ _ (both_true _ _ (both_true _ _ a b) (one_alone (decimal n) (zero_is_alone n lt))) (decimal_digits n lt)

pub decimal_value : (n : ℕ) → n < 10 ^ 19 → value_from 0 (decimal n) ≡ n
decimal_value n lt = digits_value-decimal own n (omega arith)

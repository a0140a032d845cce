-- Words in which no fault is found are spelled as they are to be.
use Rattle.std.proofs.Common.{◌≡◌, ℕ, ◌≤◌, Bool, true, false, not, ◌&&◌, cond, List, [], ◌∷◌, length, refl, ap, ◌∙◌}
use Rattle.std.proofs.Common.{arith}
use Rattle.std.specs.Prelude.{Option, Some, None, IsSome, nat_eq, nat_le}
use Rattle.std.specs.List.{list_all}
use Rattle.std.proofs.lemmas.Bool.Decides.{nat_tests}
use Rattle.far_base.specs.Key.{is_visible, is_key_text}
use Rattle.far_base.specs.declared.key.TheConstants.{KEY_LENGTH}
use Rattle.far_text.specs.Numbers.{is_digit, is_number}
use Rattle.far_text.specs.Words.{body_bytes_of}
use Rattle.far_text.specs.declared.words.TheConstants.{NUMBER_DIGITS}
use Rattle.workload_reasons.specs.Spelled.{first_other, has_front_zero, marked}

pub none_other : (test : ℕ → Bool) (bytes : List ℕ) → first_other test bytes ≡ None → list_all test bytes ≡ true
none_other test [] e = refl
none_other test (b ∷ bs) e = go (test b) refl e (λ n. none_other test bs n)
  where
    go : (v : Bool) → test b ≡ v → cond (not v) (Some b) (first_other test bs) ≡ None
        → (first_other test bs ≡ None → list_all test bs ≡ true) → (test b && list_all test bs) ≡ true
    go true t n more = rw t (more n)
    go false t n more = absurd cc

pub number_is : (word : List ℕ) → nat_eq (length word) 0 ≡ false → length word ≤ NUMBER_DIGITS
    → has_front_zero word ≡ false → first_other is_digit word ≡ None → is_number word ≡ true
number_is [] some few zero digits = absurd cc
number_is (c ∷ []) some few zero digits = none_other is_digit (c ∷ []) digits
number_is (c ∷ d ∷ more) some few zero digits =
    let short : nat_le (length (c ∷ d ∷ more)) NUMBER_DIGITS ≡ true = grind (arith, nat_tests) in
    let any : nat_le 1 (length (c ∷ d ∷ more)) ≡ true = grind (arith, nat_tests) in
    let two : nat_eq (length (c ∷ d ∷ more)) 1 ≡ false = grind (arith, nat_tests) in
    rw (short, any, two, zero, none_other is_digit (c ∷ d ∷ more) digits) refl

pub key_is : (word : List ℕ) → nat_eq (length word) 0 ≡ false → length word ≤ KEY_LENGTH
    → first_other is_visible word ≡ None → is_key_text word ≡ true
key_is word some few visible =
    let there : nat_le 1 (length word) ≡ true = grind (arith, nat_tests) in
    let short : nat_le (length word) KEY_LENGTH ≡ true = grind (arith, nat_tests) in
    rw (there, short, none_other is_visible word visible) refl

pub body_is : (word text : List ℕ) → marked word ≡ Some text → first_other is_visible text ≡ None
    → IsSome (body_bytes_of word)
body_is [] text mark visible = absurd cc
body_is (c ∷ bytes) text mark visible = go (nat_eq c 61) refl mark
  where
    go : (v : Bool) → nat_eq c 61 ≡ v → cond v (Some bytes) None ≡ Some text
        → IsSome (cond (nat_eq c 61 && list_all is_visible bytes) (Some bytes) None)
    go true t e =
        let same : bytes ≡ text = cc in
        rw (t, none_other is_visible bytes (ap (first_other is_visible) same ∙ visible)) refl
    go false t e = absurd cc

-- Bytes have one text of hexadecimal digits.
use Rattle.std.proofs.Common.{◌≡◌, ℕ, suc, ◌/◌, ◌%◌, ◌<◌, Bool, true, false, not, cond, nat_eq, slice_index, List, [], ◌∷◌, Result, Ok, Err, refl, sym, ap, subst, ◌∙◌, arith}
use Rattle.std.specs.Prelude.{Some, None, bytes_eq}
use Rattle.std.proofs.lemmas.Bool.Decides.{nat_tests}
use Rattle.std.proofs.lemmas.Slice.Eq.{bytes_eq-Decides}
use Rattle.hex.specs.Hex.{IsBytes, decode_of, encode_lower, encode_with, hex_digit_value, lower_digits}
use Rattle.hex.specs.declared.error.FromHexError.{FromHexError}
use Rattle.hex.proofs.HexLemmas.{IsDigits-lower_digits, decode_of-encode_lower, decode_of-ok}
use Rattle.far_text.specs.Hex.{bytes_if, hex_of}
use Rattle.far_text.specs.Pieces.{lacks}
use Rattle.far_text.proofs.Digits.{both_true}
use Rattle.far_text.proofs.Spelling.{IsSpelling, some_is}

hex_by : (word bytes : List ℕ) (r : Result (List ℕ) FromHexError) → decode_of word ≡ r → bytes_if word r ≡ Some bytes → (word ≡ encode_lower bytes) × IsBytes bytes
hex_by word bytes (Err error) d e = absurd cc
hex_by word bytes (Ok found) d e = go (bytes_eq (encode_lower found) word) refl e
  where
    go : (b : Bool) → bytes_eq (encode_lower found) word ≡ b → cond b (Some found) None ≡ Some bytes → (word ≡ encode_lower bytes) × IsBytes bytes
    go true t e =
        let ok = decode_of-ok word found d in
        subst (λ (l : List ℕ). (word ≡ encode_lower l) × IsBytes l) (some_is found bytes e) (sym ((bytes_eq-Decides (encode_lower found) word).0 t), ok.3)
    go false t e = absurd cc

hex_takes : (word bytes : List ℕ) → hex_of word ≡ Some bytes → (word ≡ encode_lower bytes) × IsBytes bytes
unfolding hex_of
hex_takes word bytes e = hex_by word bytes (decode_of word) refl e

hex_again : (bytes : List ℕ) → IsBytes bytes → hex_of (encode_lower bytes) ≡ Some bytes
unfolding hex_of
hex_again bytes h =
    let same : bytes_eq (encode_lower bytes) (encode_lower bytes) ≡ true = (bytes_eq-Decides (encode_lower bytes) (encode_lower bytes)).1 refl in
    rw (decode_of-encode_lower bytes h, same) refl

pub hex_is : IsSpelling hex_of encode_lower IsBytes
hex_is = record { takes = hex_takes; again = hex_again }

-- ---- bytes that are no digits

digit_lacks : (mark d : ℕ) → hex_digit_value mark ≡ None → d < 16 → not (nat_eq (slice_index lower_digits d) mark) ≡ true
digit_lacks mark d other lt = go (nat_eq (slice_index lower_digits d) mark) refl
  where
    go : (b : Bool) → nat_eq (slice_index lower_digits d) mark ≡ b → not b ≡ true
    go false e = refl
    go true e =
        let same : slice_index lower_digits d ≡ mark = grind (arith, nat_tests) in
        let z : None ≡ Some d = sym other ∙ ap hex_digit_value (sym same) ∙ IsDigits-lower_digits d lt in
        absurd cc

-- a byte that is no digit does not stand in the text of bytes
pub hex_lacks : (mark : ℕ) (bytes : List ℕ) → hex_digit_value mark ≡ None → IsBytes bytes → lacks mark (encode_lower bytes) ≡ true
unfolding encode_with
hex_lacks mark [] other h = refl
hex_lacks mark (b ∷ bytes) other h =
    let small : b < 256 = h 0 in
    both_true _ _ (digit_lacks mark (b / 16) other (omega (arith, small))) (both_true _ _ (digit_lacks mark (b % 16) other (omega arith)) (hex_lacks mark bytes other (λ i. h (suc i))))

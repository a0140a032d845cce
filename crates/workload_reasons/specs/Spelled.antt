-- What is wrong with a word that is to be a number, a key or a body.
use Rattle.std.specs.Prelude.{◌≡◌, ℕ, ◌<◌, Bool, true, false, not, List, [], ◌∷◌, length, Option, Some, None, nat_eq}
use Rattle.std.specs.Prelude.{if◌then◌else◌}
use Rattle.std.specs.List.{find}
use Rattle.far_base.specs.Key.{is_visible}
use Rattle.far_base.specs.declared.key.TheConstants.{KEY_LENGTH}
use Rattle.far_text.specs.Numbers.{is_digit}
use Rattle.far_text.specs.Pieces.{cut_at}
use Rattle.far_text.specs.declared.words.TheConstants.{NUMBER_DIGITS}
use Rattle.workload_reasons.specs.declared.reason.NumberFault.{NumberFault}
use Rattle.workload_reasons.specs.declared.reason.NumberFault.TheVariants.{Empty, Byte, Digits, Zero}
use Rattle.workload_reasons.specs.declared.reason.KeyFault.{KeyFault}
use Rattle.workload_reasons.specs.declared.reason.KeyFault.TheVariants.{Empty as NoBytes, Byte as OtherByte, Length}
use Rattle.workload_reasons.specs.declared.reason.BodyFault.{BodyFault}
use Rattle.workload_reasons.specs.declared.reason.BodyFault.TheVariants.{Mark, Byte as BodyByte}

-- something is there, and it is so
abbrev pub Has : {A : Type 0} → Option A → (A → Type 0) → Type 0
Has None P = ⊥
Has (Some x) P = P x

-- the first byte that the test refuses
abbrev pub first_other : (ℕ → Bool) → List ℕ → Option ℕ
first_other test bytes = find (λ b. not (test b)) bytes

abbrev pub word_by : List ℕ → Option (List ℕ × List ℕ) → List ℕ
word_by words None = words
word_by words (Some c) = c.0

-- what stands before the first space, or all where there is none
abbrev pub first_word : List ℕ → List ℕ
first_word words = word_by words (cut_at 32 words)

-- a zero stands in front of another byte
abbrev pub has_front_zero : List ℕ → Bool
has_front_zero [] = false
has_front_zero (c ∷ []) = false
has_front_zero (c ∷ d ∷ more) = nat_eq c 48

-- why a word is no number
abbrev pub IsNumberFault : List ℕ → NumberFault → Type 0
IsNumberFault word Empty = word ≡ []
IsNumberFault word (Byte b) = first_other is_digit word ≡ Some b
IsNumberFault word (Digits count) = (count ≡ length word) × (NUMBER_DIGITS < count)
IsNumberFault word Zero = has_front_zero word ≡ true

-- why a word is no key
abbrev pub IsKeyFault : List ℕ → KeyFault → Type 0
IsKeyFault word NoBytes = word ≡ []
IsKeyFault word (OtherByte b) = first_other is_visible word ≡ Some b
IsKeyFault word (Length count) = (count ≡ length word) × (KEY_LENGTH < count)

-- the text begins with `=`, and this is the rest of it
abbrev pub marked : List ℕ → Option (List ℕ)
marked [] = None
marked (c ∷ text) = if nat_eq c 61 then Some text else None

-- why a word is no body
abbrev pub IsBodyFault : List ℕ → BodyFault → Type 0
IsBodyFault word Mark = marked word ≡ None
IsBodyFault word (BodyByte b) = Has (marked word) (λ text. first_other is_visible text ≡ Some b)

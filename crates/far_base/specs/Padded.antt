-- A text in an array that is longer.
use Rattle.std.proofs.Common.{arith, refl}
use Rattle.std.proofs.lemmas.List.{length-append, length-replicate, drop_at, take_at}
use Rattle.std.specs.Prelude.{◌≡◌, ℕ, ◌-◌, ◌≤◌, List, [], ◌++◌, length, take, drop, replicate, Bool, true, false}
use Rattle.std.specs.Prelude.{if◌then◌else◌, Option, None, Some}

-- the text, and zeros up to n bytes
abbrev pub padded : ℕ → List ℕ → List ℕ
padded n text = text ++ replicate (n - length text) 0

-- n bytes of which the first len are a text and the rest are zeros
pub record IsPadded (n len : ℕ) (bytes : List ℕ) : Type 0 where
  pub whole : length bytes ≡ n
  pub within : len ≤ n
  pub zeros : drop len bytes ≡ replicate (n - len) 0

-- the length of a text that may be absent
abbrev pub length_of : Option (List ℕ) → ℕ
length_of None = 0
length_of (Some text) = length text

-- the text, and nothing where it is absent
abbrev pub text_of : Option (List ℕ) → List ℕ
text_of None = []
text_of (Some text) = text

abbrev pub is_there : Option (List ℕ) → Bool
is_there None = false
is_there (Some text) = true

abbrev pub shown : Bool → List ℕ → Option (List ℕ)
shown present text = if present then Some text else None

pub padded_shows : (n : ℕ) (text : List ℕ) → length text ≤ n → IsPadded n (length text) (padded n text)
padded_shows n text h = record {
  whole = grind (arith, length-append, length-replicate);
  within = h;
  zeros = drop_at text (replicate (n - length text) 0) (length text) refl;
}

pub padded_text : (n : ℕ) (text : List ℕ) → take (length text) (padded n text) ≡ text
padded_text n text = take_at text (replicate (n - length text) 0) (length text) refl

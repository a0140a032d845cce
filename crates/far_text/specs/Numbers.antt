-- Numbers as words of a text.
use Rattle.std.specs.Prelude.{ℕ, ◌+◌, ◌-◌, ◌*◌, ◌≤◌, Bool, false, ◌&&◌, ◌||◌, not, nat_le, nat_eq, List, [], ◌∷◌}
use Rattle.std.specs.Prelude.{length, Option, Some, None, if◌then◌else◌}
use Rattle.std.specs.List.{list_all}
use Rattle.far_text.specs.declared.words.TheConstants.{NUMBER_DIGITS, NUMBER_LIMIT}

abbrev pub is_digit : ℕ → Bool
is_digit b = nat_le 48 b && nat_le b 57

-- the number that digits give, after what was read before them
abbrev pub value_from : ℕ → List ℕ → ℕ
value_from n [] = n
value_from n (c ∷ cs) = value_from (n * 10 + (c - 48)) cs

-- the first byte is the digit 0
abbrev pub starts_zero : List ℕ → Bool
starts_zero [] = false
starts_zero (c ∷ cs) = nat_eq c 48

-- one to nineteen digits, with no zero in front of others
abbrev pub is_number : List ℕ → Bool
is_number word = ((nat_le 1 (length word) && nat_le (length word) NUMBER_DIGITS)
    && (nat_eq (length word) 1 || not (starts_zero word)))
    && list_all is_digit word

-- the number that the word spells
abbrev pub number_of : List ℕ → Option ℕ
number_of word = if is_number word then Some (value_from 0 word) else None

-- a number of at most nineteen digits
abbrev pub IsNumber : ℕ → Type 0
IsNumber n = n ≤ NUMBER_LIMIT

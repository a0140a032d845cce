-- What a key is made of.
use Rattle.std.specs.Prelude.{ℕ, zero, suc, ◌+◌, ◌*◌, Bool, true, false, ◌&&◌, ◌||◌, nat_le, nat_eq}
use Rattle.std.specs.Prelude.{List, [], ◌∷◌, length, slice_index}
use Rattle.std.specs.Int.{from_be_bytes, w64}
use Rattle.std.specs.List.{list_all}
use Rattle.far_base.specs.declared.key.TheConstants.{KEY_LENGTH}

-- a byte that may stand in a key or a body
abbrev pub is_visible : ℕ → Bool
is_visible b = nat_le 33 b && nat_le b 126

-- a text that a key can be made of
abbrev pub is_key_text : List ℕ → Bool
is_key_text text = (nat_le 1 (length text) && nat_le (length text) KEY_LENGTH) && list_all is_visible text

abbrev pub all_zero : List ℕ → Bool
all_zero bytes = list_all (λ b. nat_eq b 0) bytes

-- visible bytes, then zeros only
abbrev pub visible_then_zeros : List ℕ → Bool
visible_then_zeros [] = true
visible_then_zeros (zero ∷ bs) = all_zero bs
visible_then_zeros (suc b ∷ bs) = is_visible (suc b) && visible_then_zeros bs

-- a byte that may stand before this one: a visible one, or a zero before a zero
abbrev pub fits_before : ℕ → ℕ → Bool
fits_before b next = is_visible b || (nat_eq b 0 && nat_eq next 0)

abbrev pub starts_visible : List ℕ → Bool
starts_visible [] = false
starts_visible (b ∷ bs) = is_visible b

-- the bytes of a key: one or more visible ones, then zeros, sixteen together
abbrev pub is_key : List ℕ → Bool
is_key bytes = nat_eq (length bytes) KEY_LENGTH && (starts_visible bytes && visible_then_zeros bytes)

-- the text of a key: its bytes before the zeros
abbrev pub key_text : List ℕ → List ℕ
key_text [] = []
key_text (zero ∷ bs) = []
key_text (suc b ∷ bs) = suc b ∷ key_text bs

-- the sum of the bytes, the first times the factor, the next times one more, and so on
abbrev pub weighted_sum : ℕ → List ℕ → ℕ
weighted_sum factor [] = 0
weighted_sum factor (b ∷ bs) = factor * b + weighted_sum (factor + 1) bs

-- the number that the first eight bytes write, the highest first
unfoldable pub front_of : List ℕ → ℕ
front_of key = from_be_bytes w64 (slice_index key 0 ∷ slice_index key 1 ∷ slice_index key 2 ∷ slice_index key 3
    ∷ slice_index key 4 ∷ slice_index key 5 ∷ slice_index key 6 ∷ slice_index key 7 ∷ [])

-- the number that the last eight bytes write, the highest first
unfoldable pub back_of : List ℕ → ℕ
back_of key = from_be_bytes w64 (slice_index key 8 ∷ slice_index key 9 ∷ slice_index key 10 ∷ slice_index key 11
    ∷ slice_index key 12 ∷ slice_index key 13 ∷ slice_index key 14 ∷ slice_index key 15 ∷ [])

-- What is kept of a body beside its cells: whether it is there, and its length.
use Rattle.std.specs.Prelude.{◌≡◌, ℕ, Bool, true, false, List, length, take, Option, None, Some}
use Rattle.std.proofs.Common.{refl, sym}

abbrev pub seen_shape : Bool → ℕ → Option ℕ
seen_shape true n = Some n
seen_shape false n = None

abbrev pub shape_there : Option ℕ → Bool
shape_there None = false
shape_there (Some n) = true

abbrev pub shape_length : Option ℕ → ℕ
shape_length None = 0
shape_length (Some n) = n

abbrev pub shape_back : (present : Bool) (n : ℕ) → (present ≡ false → n ≡ 0) → (shape_there
    (seen_shape present n) ≡ present) × (shape_length (seen_shape present n) ≡ n)
shape_back true n z = (refl, refl)
shape_back false n z = (refl, sym (z refl))

-- the shape of a body
abbrev pub shape_of : Option (List ℕ) → Option ℕ
shape_of None = None
shape_of (Some text) = Some (length text)

-- the body of this shape that begins these bytes
abbrev pub shaped : Option ℕ → List ℕ → Option (List ℕ)
shaped None bytes = None
shaped (Some n) bytes = Some (take n bytes)

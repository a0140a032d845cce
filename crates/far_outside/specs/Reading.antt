-- What reading to the end gives.
use Rattle.std.specs.Prelude.{◌≡◌, ℕ, ◌<◌, ◌≤◌, List, [], ◌++◌, length, Option, None, Some, Result, Ok, Err, ⊤}
use Rattle.far_outside.specs.declared.reading.ReadStop.{ReadStop}
use Rattle.far_outside.specs.declared.reading.ReadStop.TheVariants.{Memory, TooLarge, Failed}

-- the bytes are the next ones of the source
abbrev pub HasRead : Option (List ℕ) → Option (List ℕ) → List ℕ → Type 0
HasRead None now bytes = ⊤
HasRead (Some before) None bytes = ⊥
HasRead (Some before) (Some now) bytes = before ≡ bytes ++ now

-- the bytes are all that the source had left, and it is at its end
abbrev pub HasReadAll : Option (List ℕ) → Option (List ℕ) → List ℕ → Type 0
HasReadAll None now bytes = ⊤
HasReadAll (Some before) None bytes = ⊥
HasReadAll (Some before) (Some now) bytes = (bytes ≡ before) × (now ≡ [])

-- what is left is the end of what was left before
abbrev pub IsFurther : Option (List ℕ) → Option (List ℕ) → Type 0
IsFurther None now = ⊤
IsFurther (Some before) None = ⊥
IsFurther (Some before) (Some now) = (bytes : List ℕ) × (before ≡ bytes ++ now)

-- the source had more than so many bytes left
abbrev pub HadMore : Option (List ℕ) → ℕ → Type 0
HadMore None most = ⊤
HadMore (Some before) most = most < length before

-- the answer where no read failed: all where at most so many bytes were left, too large where more were
abbrev pub Settles : {T : Type 0} → ℕ → List ℕ → Result T ReadStop → Type 0
Settles most before (Ok bytes) = length before ≤ most
Settles most before (Err Memory) = ⊤
Settles most before (Err TooLarge) = most < length before
Settles most before (Err Failed) = ⊥

-- What a read and a write do to the bytes that a source has left and a sink was given, where those are told.
use Rattle.std.specs.Prelude.{◌≡◌, ℕ, ◌≤◌, List, [], ◌++◌, length, take, Option, None, Some, Result, Ok, Err, ⊤}
use Rattle.far_outside.specs.declared.sink.SinkFault.{SinkFault}
use Rattle.far_outside.specs.declared.sink.SinkFault.TheVariants.{Memory, Failed}

-- the first n bytes of the buffer were the next ones, and there were none only at the end
abbrev pub TookFront : List ℕ → List ℕ → ℕ → List ℕ → Type 0
TookFront before now n buf = (before ≡ take n buf ++ now) × (n ≡ 0 → before ≡ [])

abbrev pub TakesTold : {E : Type 0} → List ℕ → List ℕ → Result ℕ E → List ℕ → Type 0
TakesTold before now (Ok n) buf = TookFront before now n buf
TakesTold before now (Err e) buf = now ≡ before

-- a read took the next bytes, and none where it failed; a source that tells what it has left goes on telling
abbrev pub Takes : {E : Type 0} → Option (List ℕ) → Option (List ℕ) → Result ℕ E → List ℕ → Type 0
Takes None now result buf = ⊤
Takes (Some before) None result buf = ⊥
Takes (Some before) (Some now) result buf = TakesTold before now result buf

-- the piece was appended; where the write failed a front of it, and nothing where memory was refused
abbrev pub PutsTold : {T : Type 0} → List ℕ → List ℕ → List ℕ → Result T SinkFault → Type 0
PutsTold before now piece (Ok done) = now ≡ before ++ piece
PutsTold before now piece (Err Memory) = now ≡ before
PutsTold before now piece (Err Failed) = (n : ℕ) × (n ≤ length piece) × (now ≡ before ++ take n piece)

-- the same of a sink that may tell what it was given, and then goes on telling
abbrev pub Puts : {T : Type 0} → Option (List ℕ) → Option (List ℕ) → List ℕ → Result T SinkFault → Type 0
Puts None now piece result = ⊤
Puts (Some before) None piece result = ⊥
Puts (Some before) (Some now) piece result = PutsTold before now piece result

-- The lines of a text by their numbers, counted from 1.
use Rattle.std.specs.Prelude.{ℕ, ◌+◌, ◌-◌, Bool, true, false, List, [], ◌∷◌, drop, Option, Some, None, if◌then◌else◌}
use Rattle.std.specs.Prelude.{is_some, codes}
use Rattle.far_text.specs.Options.{◌>>=◌}
use Rattle.far_text.specs.Pieces.{Pieces, pieces}
use Rattle.workload.specs.Words.{named}

-- what stands between line ends from the line with this number on; the last piece of a text has no line end
abbrev pub from_line : ℕ → List ℕ → Pieces
from_line n text = drop (n - 1) (pieces 10 text)

abbrev pub first_whole : Pieces → Option (List ℕ)
first_whole [] = None
first_whole (last ∷ []) = None
first_whole (line ∷ next ∷ more) = Some line

-- the line with this number
abbrev pub line_of : List ℕ → ℕ → Option (List ℕ)
line_of text n = first_whole (from_line n text)

-- bytes without a line end, and no more
abbrev pub is_open : Pieces → Bool
is_open [] = false
is_open ([] ∷ []) = false
is_open ((b ∷ bs) ∷ []) = true
is_open (line ∷ next ∷ more) = false

-- the end of the text
abbrev pub is_over : Pieces → Bool
is_over [] = true
is_over ([] ∷ []) = true
is_over ((b ∷ bs) ∷ []) = false
is_over (line ∷ next ∷ more) = false

-- the number of clients that line 2 gives
abbrev pub clients_of : List ℕ → Option ℕ
clients_of text = line_of text 2 >>= named (codes "clients ")

-- the line gives a start number
abbrev pub is_start : List ℕ → Bool
is_start line = is_some (named (codes "random ") line)

-- the number of the first line behind n others that gives a start number
abbrev pub start_behind : ℕ → Pieces → Option ℕ
start_behind n [] = None
start_behind n (last ∷ []) = None
start_behind n (line ∷ next ∷ more) = if is_start line then Some (n + 1) else start_behind (n + 1) (next ∷ more)

-- the number of the first line behind the head that gives a start number
abbrev pub first_start : List ℕ → Option ℕ
first_start text = start_behind 5 (drop 5 (pieces 10 text))

-- Rows of picks as they are written one by one.
use Rattle.std.specs.Prelude.{ℕ, ◌-◌, ◌+◌, List, [], ◌∷◌, ◌++◌, map, nat_eq, if◌then◌else◌, codes}
use Rattle.workload.specs.Forms.{OfPicks}
use Rattle.workload.specs.Spelling.{number_text, spaced, line_end, lines_text, rows, rows_from}
use Rattle.workload.specs.declared.printer.TheConstants.{PICKS_PER_LINE}

-- a pick behind so many others of its line
abbrev pub pick_text : ℕ → ℕ → List ℕ
pick_text place pick = if nat_eq place 0
    then number_text (codes "picks ") pick
    else (if nat_eq place PICKS_PER_LINE then number_text (codes "\npicks ") pick else number_text (codes " ") pick)

abbrev pub next_place : ℕ → ℕ
next_place place = if nat_eq place PICKS_PER_LINE then 1 else place + 1

-- the rest of an open row, and the rows behind it
abbrev pub open_text : List (List ℕ) → List ℕ
open_text [] = line_end
open_text (row ∷ more) = spaced row ++ line_end ++ lines_text (map OfPicks more)

-- what is still to be written, where so many picks stand in the open line
abbrev pub rest_text : ℕ → List ℕ → List ℕ
rest_text place picks = if nat_eq place 0
    then lines_text (map OfPicks (rows picks))
    else open_text (rows_from (PICKS_PER_LINE - place) picks)

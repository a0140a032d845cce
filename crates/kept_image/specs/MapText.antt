-- How the map that a recovery leaves is written as a text.
use Rattle.std.specs.Prelude.{ℕ, List, [], ◌∷◌, ◌++◌, codes}
use Rattle.far_base.specs.declared.record.Record.{Record}
use Rattle.far_history.specs.Report as report
use Rattle.far_text.specs.Text.{text_line}

-- the records as the report of a run writes its final map, between a first and a last line
abbrev pub map_text : List Record → List ℕ
map_text records = text_line (codes "far 1 recovered" ∷ []) ++ report.map_text records ++ text_line (codes "end" ∷ [])

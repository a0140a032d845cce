-- The records of all servers.
use Rattle.std.specs.Prelude.{ℕ, max, List, [], ◌∷◌}
use Rattle.far_base.specs.declared.record.Record.{Record}
use Rattle.far_model.specs.Servers.{top_of}

-- the greatest number that a server has, or 0
abbrev pub top_of_all : List (List Record) → ℕ
top_of_all [] = 0
top_of_all (records ∷ rest) = max (top_of records) (top_of_all rest)

-- What contracts see of an array of registers.
use Rattle.std.specs.Prelude.{ℕ, List}
use Rattle.register_stages.specs.declared.array.RegArray.{RegArray}

-- the cells of an array
abbrev pub cells_of : {T : Type 0} → RegArray T → List T
cells_of a = a.cells.items

-- the place of an array among the arrays of a switch
abbrev pub place_of : {T : Type 0} → RegArray T → ℕ
place_of a = a.place

-- What contracts see of the hot cells.
use Rattle.std.specs.Prelude.{ℕ, List, slice_index_or, slice_set, replicate}
use Rattle.far_model.specs.Pass.{cell_of, in_era, counted}
use Rattle.far_model.specs.View.{HotCell, HOT_CELLS}

-- the count at which a key grows hot, or 0 for never, and the cells
pub record HotView : Type 0 where
  pub hot : ℕ
  pub cells : List HotCell

abbrev pub cold_cell : HotCell
cold_cell = record { era = 0; count = 0 }

abbrev pub cold : ℕ → HotView
cold hot = record { hot = hot; cells = replicate HOT_CELLS cold_cell }

-- the cell of a key as it is in an era
abbrev pub cell_in : List ℕ → ℕ → List HotCell → HotCell
cell_in key era cells = in_era era (slice_index_or cells (cell_of key) cold_cell)

-- the cells after a touch of a key in an era
abbrev pub touched_cells : ℕ → List ℕ → ℕ → List HotCell → List HotCell
touched_cells hot key era cells = slice_set cells (cell_of key) (counted hot (cell_in key era cells))

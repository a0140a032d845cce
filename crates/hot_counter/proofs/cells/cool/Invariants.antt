use Rattle.std.proofs.Common.{◌≡◌, replicate, take}
use Rattle.hot_counter.specs.HotView.{cold_cell}
use Rattle.hot_counter.proofs.cells.cool.Given as goal

abbrev pub invariant-loop-cell : goal.invariant-loop-cell
invariant-loop-cell l = take l.cell-index l.cell-items ≡ replicate l.cell-index cold_cell

use Rattle.std.proofs.Common.{◌≡◌, replicate}
use Rattle.hot_counter.specs.HotView.{cold_cell}
use Rattle.hot_counter.proofs.cells.cold_cells.Given as goal

abbrev pub invariant-loop : goal.invariant-loop
invariant-loop l = l.cells.items ≡ replicate l.counter cold_cell

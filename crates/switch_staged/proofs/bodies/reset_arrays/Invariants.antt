use Rattle.std.proofs.Common.{◌≡◌, ℕ, length, replicate, take}
use Rattle.switch_staged.specs.Rows.{zero_cell}
use Rattle.switch_staged.specs.Stages.{IsPart, all_cells}
use Rattle.switch_staged.proofs.bodies.reset_arrays.Given as goal

-- the first arrays have zeros
abbrev pub invariant-loop-k : goal.invariant-loop-k
invariant-loop-k l = record {
  cells : take l.k (all_cells l.arrays) ≡ replicate l.k (replicate l.slots zero_cell);
  count : length l.arrays ≡ length l.fn.arrays;
  part : (first : ℕ) → IsPart first l.slots l.fn.arrays → IsPart first l.slots l.arrays;
}

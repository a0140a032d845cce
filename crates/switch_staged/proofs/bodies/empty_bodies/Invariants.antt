use Rattle.std.proofs.Common.{◌≡◌, ◌+◌, ◌≤◌, length, replicate, vec_capacity}
use Rattle.switch_staged.specs.Rows.{zero_cell}
use Rattle.switch_staged.specs.Stages.{IsPart, all_cells}
use Rattle.switch_staged.proofs.bodies.empty_bodies.Given as goal

-- so many arrays stand, with zeros
abbrev pub invariant-loop-k : goal.invariant-loop-k
invariant-loop-k l = record {
  cells : all_cells l.arrays.items ≡ replicate l.k (replicate l.slots zero_cell);
  count : length l.arrays.items ≡ l.k;
  room : l.count ≤ vec_capacity l.arrays;
  part : IsPart (5 + l.first) l.slots l.arrays.items;
}

use Rattle.std.proofs.Common.{◌≡◌, ◌≤◌, ℕ, length, take, vec_capacity}
use Rattle.switch_staged.specs.Stages.{IsPart, all_cells}
use Rattle.switch_staged.proofs.bodies.copied_bodies.Given as goal

-- the first arrays have their copies
abbrev pub invariant-loop-k : goal.invariant-loop-k
invariant-loop-k l = record {
  cells : all_cells l.copy.items ≡ take l.k (all_cells l.arrays);
  count : length l.copy.items ≡ l.k;
  room : length l.arrays ≤ vec_capacity l.copy;
  part : (first slots : ℕ) → IsPart first slots l.arrays → IsPart first slots l.copy.items;
}

use Rattle.std.proofs.Common.{◌≡◌, ◌++◌, length, take, drop}
use Rattle.std.specs.List.{AllByRecursion}
use Rattle.switch_staged.specs.Overlap.{StaysBelow, stepped, shifted, gone}
use Rattle.switch_staged.specs.Stages.{IsPart, all_cells}
use Rattle.switch_staged.proofs.standing.tick_arrays.Given as goal

-- the stages so far and what the others will leave are what all will leave
abbrev pub invariant-loop-k : goal.invariant-loop-k
invariant-loop-k l = record {
  cells : take l.k (all_cells l.arrays) ++ stepped l.k (drop l.k (all_cells l.arrays)) (drop l.k l.standing) ≡ stepped 0 (all_cells l.fn.arrays) l.fn.standing;
  waiting : take l.k l.standing ++ shifted l.k (drop l.k (all_cells l.arrays)) (drop l.k l.standing) l.coming ≡ shifted 0 (all_cells l.fn.arrays) l.fn.standing l.fn.coming;
  last : gone l.k (drop l.k (all_cells l.arrays)) (drop l.k l.standing) l.coming ≡ gone 0 (all_cells l.fn.arrays) l.fn.standing l.fn.coming;
  count : length l.arrays ≡ 32;
  standing_count : length l.standing ≡ 32;
  part : IsPart 5 l.slots l.arrays;
  below : AllByRecursion (StaysBelow l.slots) l.standing;
  coming : StaysBelow l.slots l.coming;
}

use Rattle.std.proofs.Common.{◌≡◌, ◌*◌, ◌^◌, ◌≤◌, take}
use Rattle.far_history.specs.Tallies.{same_parts_stored}
use Rattle.far_history.proofs.summary.all_same_parts.Given as goal

abbrev pub invariant-loop-line : goal.invariant-loop-line
invariant-loop-line l = record {
  sum : l.total ≡ same_parts_stored (take l.line-index l.lines);
  within : l.total ≤ l.line-index * 2 ^ 32;
}

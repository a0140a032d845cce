use Rattle.std.proofs.Common.{◌≡◌, max, drop}
use Rattle.far_history.specs.Tallies.{greatest_stored}
use Rattle.far_history.proofs.summary.greatest_given.Given as goal

abbrev pub invariant-loop-line : goal.invariant-loop-line
invariant-loop-line l = max l.greatest (greatest_stored (drop l.line-index l.lines)) ≡ greatest_stored l.lines

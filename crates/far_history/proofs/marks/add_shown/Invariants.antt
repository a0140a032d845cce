use Rattle.std.proofs.Common.{◌≡◌, ◌++◌, drop}
use Rattle.far_history.specs.Marks.{shown_in}
use Rattle.far_history.proofs.marks.add_shown.Given as goal

abbrev pub invariant-loop-line : goal.invariant-loop-line
invariant-loop-line l = l.marks.items ++ shown_in l.table (drop l.line-index l.lines) ≡ l.initial.marks.items ++ shown_in l.table l.lines

use Rattle.std.proofs.Common.{◌≡◌, ◌++◌, drop}
use Rattle.far_history.specs.Report.{texts}
use Rattle.far_history.specs.Rows.{stored_text}
use Rattle.far_history.proofs.report.put_control.Given as goal

abbrev pub invariant-loop-line : goal.invariant-loop-line
invariant-loop-line l = l.out.items ++ texts (stored_text l.bytes) (drop l.line-index l.lines) ≡ l.initial.out.items ++ texts (stored_text l.bytes) l.lines

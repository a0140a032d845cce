use Rattle.std.proofs.Common.{◌≡◌, ◌++◌, drop}
use Rattle.far_history.specs.Marks.{row_marks}
use Rattle.far_history.proofs.marks.add_rows.Given as goal

abbrev pub invariant-loop-op : goal.invariant-loop-op
invariant-loop-op l = l.marks.items ++ row_marks l.op (drop l.op l.table) ≡ l.initial.marks.items ++ row_marks 0 l.table

use Rattle.std.proofs.Common.{◌≡◌, ◌++◌, drop}
use Rattle.far_history.specs.Report.{texts, record_text}
use Rattle.far_history.proofs.report.put_map.Given as goal

abbrev pub invariant-loop-record : goal.invariant-loop-record
invariant-loop-record l = l.out.items ++ texts record_text (drop l.record-index l.records) ≡ l.initial.out.items ++ texts record_text l.records

use Rattle.std.proofs.Common.{◌≡◌, ◌++◌, drop}
use Rattle.far_history.specs.Report as report
use Rattle.kept_image.proofs.printer.put_records.Given as goal

abbrev pub invariant-loop-rec : goal.invariant-loop-rec
invariant-loop-rec l = l.out.items ++ report.texts report.record_text (drop l.rec-index l.records) ≡ l.fn.out.items ++ report.texts report.record_text l.records

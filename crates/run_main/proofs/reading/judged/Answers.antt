use Rattle.std.proofs.Common.{Err, List, subst, sym}
use Rattle.log_audit.specs.Good.{IsFirstBad, IsGood}
use Rattle.log_audit.specs.declared.line.HistLine.{HistLine}
use Rattle.run_main.proofs.ReportReadings.{bad_settles, faulty_settles, good_settles}
use Rattle.run_main.specs.Saying.{SettlesReport}
use Rattle.run_main.specs.declared.status.Status.{Status}
use Rattle.run_main.proofs.reading.judged.Goals as goal

pub returns-in-Err-clause-settled : goal.returns-in-Err-clause-settled
returns-in-Err-clause-settled c =
    subst (λ (s : Status). SettlesReport {T = Unit {0}} c.args.text.now (Err s)) (sym c.from.ensures)
    (faulty_settles c.args.text.now c.in-Err.fault c.requires c.in-Err.ensures.only c.in-Err.ensures.first)

pub returns-in-Ok-None-clause-settled : goal.returns-in-Ok-None-clause-settled
returns-in-Ok-None-clause-settled c =
    good_settles c.args.text.now c.in-Ok.lines.items c.requires c.in-Ok.ensures.only c.in-Ok.ensures.first tt
    (subst IsGood c.deref.ensures.value (rw c.in-Ok-None.field-0-is at c.in-Ok-None.ensures.judged))

pub returns-in-Ok-Some-clause-settled : goal.returns-in-Ok-Some-clause-settled
returns-in-Ok-Some-clause-settled c =
    bad_settles c.args.text.now c.in-Ok.lines.items c.requires c.in-Ok.ensures.only c.in-Ok.ensures.first c.in-Ok-Some.count
    (subst (λ (l : List HistLine). IsFirstBad l c.in-Ok-Some.count) c.deref.ensures.value (rw c.in-Ok-Some.field-0-is at c.in-Ok-Some.ensures.judged))

use Rattle.run_main.proofs.ReportReadings.{err_told}
use Rattle.run_main.proofs.reading.judge_report.Goals as goal

pub returns-clause-cause : goal.returns-clause-cause
returns-clause-cause g c = err_told _ _ c.in_ok-text.text.items _ c.judged.result c.in_ok-text.ensures.whole
    (rw c.deref.ensures.value at c.judged.ensures.cause)

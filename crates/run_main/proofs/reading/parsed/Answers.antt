use Rattle.std.proofs.Common.{Err, subst, sym}
use Rattle.run_main.proofs.Judging.{reading_whole}
use Rattle.run_main.proofs.Readings.{settles_err, settles_ok}
use Rattle.run_main.specs.Saying.{SettlesReading}
use Rattle.run_main.specs.declared.status.Status.{Status}
use Rattle.run_main.proofs.reading.parsed.Goals as goal

pub returns-in-Ok-clause-settled : goal.returns-in-Ok-clause-settled
returns-in-Ok-clause-settled c = settles_ok c.args.text.now c.in-Ok.work c.requires c.in-Ok.ensures.first

pub returns-in-Ok-clause-whole : goal.returns-in-Ok-clause-whole
returns-in-Ok-clause-whole c = reading_whole c.args.text.now c.in-Ok.work c.in-Ok.ensures.found

pub returns-in-Err-clause-settled : goal.returns-in-Err-clause-settled
returns-in-Err-clause-settled c =
    subst (λ (s : Status). SettlesReading c.args.text.now (Err s)) (sym c.from.ensures)
    (settles_err c.args.text.now c.in-Err.fault c.requires c.in-Err.ensures.only c.in-Err.ensures.first)

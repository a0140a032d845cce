use Rattle.std.proofs.Common.{Err, subst, sym}
use Rattle.run_main.proofs.LineCalls.{line_parsing_fault, line_settles_err, line_settles_ok}
use Rattle.run_main.specs.LineCall.{IsLineParsingFault, SettlesLine}
use Rattle.run_main.specs.declared.status.Status.{Status}
use Rattle.run_main.proofs.line.parsed_line.Goals as goal

pub returns-in-Ok-clause-settled : goal.returns-in-Ok-clause-settled
returns-in-Ok-clause-settled c = line_settles_ok c.args.text.now c.in-Ok.line c.requires c.in-Ok.ensures.read

pub returns-in-Err-clause-settled : goal.returns-in-Err-clause-settled
returns-in-Err-clause-settled c =
    subst (λ (s : Status). SettlesLine c.args.text.now (Err s)) (sym c.from.ensures)
    (line_settles_err c.args.text.now c.in-Err.fault c.requires c.in-Err.ensures.read)

pub returns-in-Err-clause-cause : goal.returns-in-Err-clause-cause
returns-in-Err-clause-cause c =
    subst (IsLineParsingFault c.args.text.now) (sym c.from.ensures)
    (line_parsing_fault c.args.text.now c.in-Err.fault c.requires c.in-Err.ensures.read)

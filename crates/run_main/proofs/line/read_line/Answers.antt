use Rattle.run_main.proofs.LineCalls.{line_err_told}
use Rattle.run_main.proofs.line.read_line.Goals as goal

pub returns-clause-cause : goal.returns-clause-cause
returns-clause-cause g c = line_err_told _ _ c.in_ok-text.text.items _ c.parsed_line.result c.in_ok-text.ensures.whole
    (rw c.deref.ensures.value at c.parsed_line.ensures.cause)

use Rattle.run_main.proofs.ScriptReadings.{err_told}
use Rattle.run_main.proofs.reading.read_script.Goals as goal

pub returns-clause-cause : goal.returns-clause-cause
returns-clause-cause g c = err_told _ _ c.in_ok-text.text.items _ c.parsed_script.result c.in_ok-text.ensures.whole
    (rw c.deref.ensures.value at c.parsed_script.ensures.cause)

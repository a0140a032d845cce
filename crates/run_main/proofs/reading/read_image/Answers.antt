use Rattle.run_main.proofs.ImageReadings.{err_told}
use Rattle.run_main.proofs.reading.read_image.Goals as goal

pub returns-clause-cause : goal.returns-clause-cause
returns-clause-cause g c = err_told _ _ c.in_ok-text.text.items _ c.parsed_image.result c.in_ok-text.ensures.whole
    (rw c.deref.ensures.value at c.parsed_image.ensures.cause)

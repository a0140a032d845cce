use Rattle.run_laws.proofs.Telling.{told}
use Rattle.run_laws.proofs.histories.histories_are_told.Goals as goal

pub returns : goal.returns
returns c plan events valid r done = told plan events valid r done

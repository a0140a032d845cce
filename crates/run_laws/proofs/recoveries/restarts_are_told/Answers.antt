use Rattle.run_laws.proofs.Blocks.{restarts_are_told}
use Rattle.run_laws.proofs.recoveries.restarts_are_told.Goals as goal

pub returns : goal.returns
returns c plan events valid r = restarts_are_told plan events valid r

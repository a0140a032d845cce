use Rattle.run_laws.proofs.Steps.{holds}
use Rattle.run_laws.proofs.recoveries.absorbed_is_kept.Goals as goal

pub returns-clause-absorbed : goal.returns-clause-absorbed
returns-clause-absorbed c plan events valid r = (holds plan events valid r).stops.absorbed

pub returns-clause-stops : goal.returns-clause-stops
returns-clause-stops c plan events valid r = (holds plan events valid r).stops

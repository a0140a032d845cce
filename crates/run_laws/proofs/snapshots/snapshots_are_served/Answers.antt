use Rattle.run_laws.proofs.Steps.{holds}
use Rattle.run_laws.proofs.snapshots.snapshots_are_served.Goals as goal

pub returns : goal.returns
returns c plan events valid r = (holds plan events valid r).serving

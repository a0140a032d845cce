use Rattle.far_model.specs.Runs.{run}
use Rattle.far_model.specs.State.{opening}
use Rattle.recovery_laws.proofs.Laws.{release_drops}
use Rattle.run_laws.proofs.Runs.{stops_needed}
use Rattle.run_laws.proofs.Steps.{holds}
use Rattle.run_laws.proofs.recoveries.releases_are_safe.Goals as goal

pub returns-clause-dropped : goal.returns-clause-dropped
returns-clause-dropped c plan events valid r = λ i client point m at is to item a. release_drops plan (run plan (opening plan) events) i client point m (stops_needed plan events valid r) at is to item a

pub returns-clause-above : goal.returns-clause-above
returns-clause-above c plan events valid r = λ client item a. ((holds plan events valid r).snapshots.clients client).preserved item a

use Rattle.far_model.specs.Events.{keeping_of}
use Rattle.far_model.specs.Runs.{run}
use Rattle.far_model.specs.State.{opening}
use Rattle.flight_laws.proofs.Remembered.{starts_made}
use Rattle.flight_laws.proofs.SnapLogging.{event_logs}
use Rattle.flight_laws.proofs.SnapRuns.{completed_is_start, one_snapshot}
use Rattle.run_laws.proofs.Steps.{holds}
use Rattle.run_laws.proofs.snapshots.snapshots_are_cuts.Goals as goal

pub returns-clause-completed : goal.returns-clause-completed
returns-clause-completed c plan events valid r = completed_is_start plan events r (holds plan events valid r).snapshots (starts_made plan events)

pub returns-clause-one : goal.returns-clause-one
returns-clause-one c plan events valid r = λ id views other point own a b. one_snapshot plan events (holds plan events valid r).snapshots id views other point own a b

pub returns-clause-logged : goal.returns-clause-logged
returns-clause-logged c plan events valid r = λ e can. event_logs plan (run plan (opening plan) events) (keeping_of (run plan (opening plan) events) e) e

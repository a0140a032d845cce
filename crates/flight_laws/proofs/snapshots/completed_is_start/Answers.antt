use Rattle.flight_laws.proofs.Remembered.{starts_made}
use Rattle.flight_laws.proofs.SnapRuns.{completed_is_start, one_snapshot}
use Rattle.flight_laws.proofs.snapshots.completed_is_start.Goals as goal

pub returns-clause-completed : goal.returns-clause-completed
returns-clause-completed c plan events r h = completed_is_start plan events r h (starts_made plan events)

pub returns-clause-one : goal.returns-clause-one
returns-clause-one c plan events id views other point own h k l = one_snapshot plan events h id views other point own k l

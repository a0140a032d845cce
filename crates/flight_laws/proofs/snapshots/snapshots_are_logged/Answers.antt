use Rattle.flight_laws.proofs.SnapLogging.{event_logs}
use Rattle.flight_laws.proofs.snapshots.snapshots_are_logged.Goals as goal

pub returns : goal.returns
returns c plan s k e = event_logs plan s k e

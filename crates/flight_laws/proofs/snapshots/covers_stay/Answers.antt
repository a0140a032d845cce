use Rattle.flight_laws.proofs.SnapCompleting.{event_covers}
use Rattle.flight_laws.proofs.snapshots.covers_stay.Goals as goal

pub returns : goal.returns
returns c plan s p e h owed can = event_covers plan s p e h owed can

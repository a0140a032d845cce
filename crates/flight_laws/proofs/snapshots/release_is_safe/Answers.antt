use Rattle.flight_laws.proofs.SnapRuns.{release_safe}
use Rattle.flight_laws.proofs.snapshots.release_is_safe.Goals as goal

pub returns : goal.returns
returns c plan s starts rest m who point h there is within = release_safe plan s starts h rest m there who point is within

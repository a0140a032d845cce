use Rattle.flight_laws.proofs.Steps.{quiet_run, to_sound}
use Rattle.flight_laws.proofs.work.quiet_exactly_finished.Goals as goal

pub returns : goal.returns
returns c plan s valid h quiet = quiet_run plan s valid (to_sound plan s h) quiet

use Rattle.std.proofs.Common.{refl}
use Rattle.flight_laws.proofs.StopsStay.{recovery_begins}
use Rattle.flight_laws.proofs.stops.recoveries_begin.Goals as goal

pub returns-clause-begins : goal.returns-clause-begins
returns-clause-begins c plan events way stop finished others = recovery_begins plan events way stop finished others

pub returns-clause-kept : goal.returns-clause-kept
returns-clause-kept c plan k s = refl

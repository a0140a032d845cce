use Rattle.flight_laws.proofs.SnapOwing.{written_agree}
use Rattle.flight_laws.proofs.snapshots.written_records_agree.Goals as goal

pub returns : goal.returns
returns c plan s moment other r q differ a b same = written_agree plan s moment other r q differ a b same

use Rattle.model_laws.proofs.Serving.{dropped_want}
use Rattle.model_laws.proofs.ticks.wants_with_slots_are_dropped.Goals as goal

pub returns : goal.returns
returns g c key slot h a k = dropped_want c key slot h a k

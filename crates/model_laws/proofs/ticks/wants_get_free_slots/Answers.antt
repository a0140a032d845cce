use Rattle.model_laws.proofs.Serving.{admitted_want}
use Rattle.model_laws.proofs.ticks.wants_get_free_slots.Goals as goal

pub returns : goal.returns
returns g c key i h n f = admitted_want c key i h n f

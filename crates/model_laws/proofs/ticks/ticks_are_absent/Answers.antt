use Rattle.model_laws.proofs.Serving.{absent, only_absent}
use Rattle.model_laws.proofs.ticks.ticks_are_absent.Goals as goal

pub returns : goal.returns
returns g c = (only_absent c, absent c)

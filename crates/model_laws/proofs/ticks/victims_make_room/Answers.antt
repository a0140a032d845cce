use Rattle.model_laws.proofs.Serving.{room_made}
use Rattle.model_laws.proofs.ticks.victims_make_room.Goals as goal

pub returns : goal.returns
returns g c key i h n f e v = room_made c key i h n f e v

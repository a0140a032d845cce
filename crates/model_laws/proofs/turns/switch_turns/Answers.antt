use Rattle.std.proofs.Common.{refl}
use Rattle.model_laws.proofs.turns.switch_turns.Goals as goal

pub returns : goal.returns
returns c s rest packet p = (record { clients = refl }, record { servers = refl }, record { controller = refl })

use Rattle.flight_laws.proofs.Rooms.{bag_within_work}
use Rattle.flight_laws.proofs.Steps.{sound_works, to_sound}
use Rattle.flight_laws.proofs.work.room_needed.Goals as goal

pub returns : goal.returns
returns c plan s h = bag_within_work plan s (sound_works plan s (to_sound plan s h))

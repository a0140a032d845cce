use Rattle.flight_laws.proofs.Steps.{sound_lowers, to_sound}
use Rattle.flight_laws.proofs.work.work_lowered.Goals as goal

pub returns : goal.returns
returns c plan k s e h ans able = sound_lowers plan k s e (to_sound plan s h) ans able

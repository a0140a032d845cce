use Rattle.std.proofs.Common.{arith}
use Rattle.flight_laws.proofs.KeptRuns.{kept_holds}
use Rattle.flight_laws.proofs.Coming.{sound_comes}
use Rattle.flight_laws.proofs.runs.runs_are_sound.Goals as goal

pub returns-clause-sound : goal.returns-clause-sound
returns-clause-sound c plan events valid r = (kept_holds plan events valid r).sound

pub returns-clause-addressed : goal.returns-clause-addressed
returns-clause-addressed c plan events valid r = sound_comes plan _ (let n = valid.config.servers.0 in omega (arith, n)) (kept_holds plan events valid r).sound

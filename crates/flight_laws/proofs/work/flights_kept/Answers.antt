use Rattle.far_model.specs.State.{opening}
use Rattle.flight_laws.proofs.Steps.{from_sound, sound_opens, sound_step, to_sound}
use Rattle.flight_laws.proofs.Stated.{admissions_stated}
use Rattle.flight_laws.proofs.work.flights_kept.Goals as goal

pub returns-clause-admissions : goal.returns-clause-admissions
returns-clause-admissions c plan s h running = admissions_stated plan s ((to_sound plan s h).inv) running

pub returns-clause-opens : goal.returns-clause-opens
returns-clause-opens c plan = from_sound plan (opening plan) (sound_opens plan)

pub returns-clause-step : goal.returns-clause-step
returns-clause-step c plan k s e valid h ans able = from_sound plan _ (sound_step plan k s e valid (to_sound plan s h) ans able)

use Rattle.far_model.specs.State.{opening}
use Rattle.flight_laws.proofs.Drawing.{opens_in, run_in}
use Rattle.flight_laws.proofs.Roomy.{run_has_room}
use Rattle.flight_laws.proofs.runs.runs_have_room.Goals as goal

pub returns-clause-drawn : goal.returns-clause-drawn
returns-clause-drawn c plan events valid r = run_in plan 0 (opening plan) events (opens_in plan) r

pub returns-clause-room : goal.returns-clause-room
returns-clause-room c plan events valid r = run_has_room plan events valid r

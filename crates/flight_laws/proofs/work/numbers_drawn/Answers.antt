use Rattle.flight_laws.proofs.Drawing.{opens_in, step_in}
use Rattle.flight_laws.proofs.work.numbers_drawn.Goals as goal

pub returns-clause-opens : goal.returns-clause-opens
returns-clause-opens c plan = opens_in plan

pub returns-clause-step : goal.returns-clause-step
returns-clause-step c plan k ceiling s e h ans = step_in plan k ceiling s e h ans

use Rattle.std.proofs.Common.{arith}
use Rattle.far_model.specs.State.{opening}
use Rattle.flight_laws.proofs.Bounds.{bound_small, opening_within}
use Rattle.flight_laws.proofs.Working.{run_counted, step_counted}
use Rattle.flight_laws.proofs.flights.steps_counted.Goals as goal

pub returns-clause-step : goal.returns-clause-step
returns-clause-step c plan k s e able = step_counted plan k s e able

pub returns-clause-runs : goal.returns-clause-runs
returns-clause-runs c plan events r = omega (arith, run_counted plan (opening plan) events r)

pub returns-clause-bound : goal.returns-clause-bound
returns-clause-bound c plan = opening_within plan

pub returns-clause-small : goal.returns-clause-small
returns-clause-small c plan p = bound_small plan p

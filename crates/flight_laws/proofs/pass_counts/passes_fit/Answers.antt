use Rattle.std.proofs.Common.{refl, arith}
use Rattle.far_model.specs.State.{opening}
use Rattle.flight_laws.proofs.PassCounting.{event_fits, event_length, none_at_first, run_fits}
use Rattle.flight_laws.proofs.pass_counts.passes_fit.Goals as goal

pub returns-clause-step : goal.returns-clause-step
returns-clause-step c plan k s e kind size = event_fits plan k s e kind size

pub returns-clause-size : goal.returns-clause-size
returns-clause-size c plan k s e = event_length plan k s e

pub returns-clause-runs : goal.returns-clause-runs
returns-clause-runs c plan events kind = omega (arith, run_fits plan (opening plan) events kind refl, none_at_first kind)

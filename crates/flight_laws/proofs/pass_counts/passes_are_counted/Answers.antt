use Rattle.std.proofs.Common.{refl, arith}
use Rattle.far_model.specs.State.{opening}
use Rattle.flight_laws.proofs.PassCounting.{brought_running, event_counted, none_at_first, run_counted}
use Rattle.flight_laws.proofs.pass_counts.passes_are_counted.Goals as goal

pub returns-clause-step : goal.returns-clause-step
returns-clause-step c plan k s e kind size = event_counted plan k s e kind size

pub returns-clause-runs : goal.returns-clause-runs
returns-clause-runs c plan events kind = omega (arith, run_counted plan (opening plan) events kind refl, none_at_first kind)

pub returns-clause-running : goal.returns-clause-running
returns-clause-running c plan s e packet can is = brought_running plan s e packet can is

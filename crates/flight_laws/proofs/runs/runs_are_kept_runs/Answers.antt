use Rattle.far_model.proofs.Runs.{kept_events_run}
use Rattle.far_model.specs.State.{opening}
use Rattle.flight_laws.proofs.Ceilings.{kept_is_run, opening_within_none}
use Rattle.flight_laws.proofs.runs.runs_are_kept_runs.Goals as goal

pub returns-clause-run : goal.returns-clause-run
returns-clause-run c plan events r = kept_is_run plan 0 (opening plan) events (opening_within_none plan) r

pub returns-clause-state : goal.returns-clause-state
returns-clause-state c plan events = kept_events_run plan (opening plan) events

-- What holds at the end of a run.
use Rattle.std.proofs.Common.{List}
use Rattle.far_base.specs.Limits.{IsPlan}
use Rattle.far_base.specs.PlanView.{PlanView}
use Rattle.far_base.specs.declared.event.Event.{Event}
use Rattle.far_invariants.specs.Past.{past_of}
use Rattle.far_model.specs.Runs.{IsRun, run}
use Rattle.far_model.specs.State.{opening}
use Rattle.far_invariants.specs.StopNeeds.{Needs}
use Rattle.run_laws.proofs.Holding.{stops_need}
use Rattle.run_laws.proofs.Steps.{holds}

pub stops_needed : (plan : PlanView) (events : List Event) → IsPlan plan → IsRun plan (opening plan) events → Needs plan (run plan (opening plan) events)
stops_needed plan events valid r = let h = holds plan events valid r in stops_need plan (past_of plan events) (run plan (opening plan) events) valid h

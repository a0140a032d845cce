-- What holds in every state of every run.
use Rattle.std.specs.Prelude.{ℕ, List}
use Rattle.far_base.specs.Limits.{IsPlan}
use Rattle.far_base.specs.PlanView.{PlanView}
use Rattle.far_base.specs.declared.event.Event.{Event}
use Rattle.far_model.specs.Replies.{IsRunWith, KeptEvent, ceiling_with, run_with}
use Rattle.far_model.specs.Runs.{IsRun, run}
use Rattle.far_model.specs.State.{State, opening}

-- in every state of every run of every valid plan, of the plan, the events and the state
abbrev pub Always : (PlanView → List Event → State → Type 0) → Type 0
Always P = (plan : PlanView) (events : List Event) → IsPlan plan → IsRun plan (opening plan) events
    → P plan events (run plan (opening plan) events)

-- the same whatever keepers answer in kind and not above their ceiling, of the plan, the ceiling and the state
abbrev pub AlwaysWith : (PlanView → ℕ → State → Type 0) → Type 0
AlwaysWith P = (plan : PlanView) (events : List KeptEvent) → IsPlan plan → IsRunWith plan 0 (opening plan) events
    → P plan (ceiling_with plan 0 (opening plan) events) (run_with plan (opening plan) events)

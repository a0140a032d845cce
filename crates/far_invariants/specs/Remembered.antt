-- What is remembered of a run was so in the state in which it happened.
use Rattle.std.specs.Prelude.{◌≡◌, List, ◌∷◌, ◌++◌}
use Rattle.far_base.specs.PlanView.{PlanView}
use Rattle.far_base.specs.declared.event.Event.{Event}
use Rattle.far_model.specs.Members.{Among}
use Rattle.far_model.specs.Runs.{run}
use Rattle.far_model.specs.State.{State}

-- one of the events made it, in the state that the events before had left
pub record WasMadeBy {X : Type 0} (made_by : State → Event
    → List X) (plan : PlanView) (start : State) (events : List Event) (x : X) : Type 0 where
  pub earlier : List Event
  pub event : Event
  pub later : List Event
  pub split : events ≡ earlier ++ event ∷ later
  pub made : Among x (made_by (run plan start earlier) event)

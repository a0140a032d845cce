-- A world that was run to its end.
use Rattle.std.specs.Prelude.{◌≡◌, true}
use Rattle.far_base.specs.PlanView.{PlanView}
use Rattle.far_model.specs.Answered.{AllAnswered}
use Rattle.far_model.specs.Runs.{is_finished}
use Rattle.far_world.specs.Reached.{IsReached, IsRunOf, Ran}
use Rattle.far_world.specs.Scene.{Tells}

-- a finished world of this plan, in which every operation is answered; its state is that of the run of the plan by its
-- events
pub record IsEndOf (plan : PlanView) (w : Ran) : Type 0 where
  pub plan_is : w.plan ≡ plan
  pub finished : is_finished w.plan w.state ≡ true
  pub answered : AllAnswered w.plan w.state
  pub run : IsRunOf w.plan w.events w.state
  pub reached : IsReached w
  pub tells : Tells w.keeper.records

-- A world that opens, and one in which an event can happen.
use Rattle.std.specs.Prelude.{◌≡◌, ℕ, ◌≤◌, true, length, slice_index, is_some}
use Rattle.far_base.specs.Limits.{IsPlan}
use Rattle.far_base.specs.PlanView.{PlanView}
use Rattle.far_base.specs.declared.event.Event.{Event}
use Rattle.far_invariants.specs.Addressed.{AreAddressed}
use Rattle.far_invariants.specs.Room.{HasRoom}
use Rattle.far_invariants.specs.Sound.{IsSound}
use Rattle.far_model.specs.Events.{is_enabled}
use Rattle.far_model.specs.State.{State, opening}
use Rattle.far_world.specs.Scene.{KeeperView, Scene, Tells, told_by}

-- nothing has happened, and the keeper has begun with the plan's servers, all without records
pub record IsOpened (plan : PlanView) (before : KeeperView) (scene : Scene) : Type 0 where
  pub plan_is : scene.plan ≡ plan
  pub state : scene.state ≡ record (opening plan) { servers = scene.state.servers }
  pub records : scene.state.servers ≡ told_by plan.config.servers scene.keeper.records
  pub told : Tells scene.keeper.records → scene.state ≡ opening plan
  pub tells : is_some scene.keeper.records ≡ is_some before.records
  pub servers : scene.keeper.servers ≡ plan.config.servers
  pub ceiling : scene.keeper.ceiling ≡ 0
  pub later : before.faults ≤ scene.keeper.faults

-- the event can happen. The state is, but for the servers' records, that of a run with what keepers answer: so messages
-- come to parties that take them, and there is room for all that is drawn and sent
pub record IsReady (event : Event) (scene : Scene) : Type 0 where
  pub enabled : is_enabled scene.plan scene.state event ≡ true
  pub valid : IsPlan scene.plan
  pub there : State
  pub is : scene.state ≡ record there { servers = scene.state.servers }
  pub sound : IsSound scene.plan there
  pub addressed : AreAddressed scene.plan there
  pub room : HasRoom scene.plan scene.keeper.ceiling there
  pub records : scene.state.servers ≡ told_by scene.plan.config.servers scene.keeper.records
  pub told : Tells scene.keeper.records → length scene.state.servers ≡ scene.plan.config.servers
  pub servers : scene.keeper.servers ≡ scene.plan.config.servers
  pub passes : (i : ℕ) → slice_index there.passes i ≤ there.steps

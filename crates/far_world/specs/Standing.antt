-- What the turns of parties take for granted. All of it holds wherever an event can happen in a state that is reached.
use Rattle.std.specs.Prelude.{◌≡◌, ℕ, ◌^◌, ◌<◌, length, slice_index, None, []}
use Rattle.far_base.specs.Limits.{IsPlan}
use Rattle.far_invariants.specs.Addressed.{AreAddressed}
use Rattle.far_model.specs.Events.{Keeping}
use Rattle.far_model.specs.State.{client_at}
use Rattle.far_world.specs.Scene.{Scene, told_by}
use Rattle.controller_core.specs.Room.{HasRoom}
use Rattle.far_world.specs.Tasks.{FitsConfig}

-- the parties are those of the plan, each message comes to a party that takes it, and there is room for every number
pub record Stands (scene : Scene) : Type 0 where
  pub valid : IsPlan scene.plan
  pub keeper : scene.keeper.servers ≡ scene.plan.config.servers
  pub servers : length scene.state.servers ≡ scene.plan.config.servers
  pub told : scene.state.servers ≡ told_by scene.plan.config.servers scene.keeper.records
  pub switch : scene.state.switch.config ≡ scene.plan.config
  pub clients : length scene.state.clients ≡ scene.plan.config.clients
  pub addressed : AreAddressed scene.plan scene.state
  pub controller : FitsConfig scene.plan.config scene.state.controller
  pub room : HasRoom scene.state.controller
  pub steps : scene.state.steps < 2 ^ 28
  pub few : length scene.state.bag < 2 ^ 28
  pub counter : scene.state.switch.counter < 2 ^ 28
  pub passes : (i : ℕ) → slice_index scene.state.passes i < 2 ^ 28
  pub preserved : (c : ℕ) → length (client_at scene.state c).preserved < 2 ^ 28

-- an event in which no keeper is asked
abbrev pub unasked : Keeping
unasked = record { reply = None; records = [] }

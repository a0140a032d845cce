-- What the controller is asked in one step.
use Rattle.std.specs.Prelude.{◌≡◌, ◌+◌, ◌≤◌, true, false, length, is_some, Option, None, Some}
use Rattle.far_base.specs.declared.plan.Config.{Config}
use Rattle.far_model.specs.Controller.{ControllerState, controller_takes, evict_key, start_recovery, start_snapshot}
use Rattle.far_model.specs.Controller.{tick, wanted}
use Rattle.far_model.specs.Parties.{Turn, idle}
use Rattle.far_model.specs.Snapshots.{Job}
use Rattle.far_world.specs.declared.tasks.Task.{Task}
use Rattle.far_world.specs.declared.tasks.Task.TheVariants.{Take, Tick, Recover, Want, Evict, Snap}

abbrev pub tick_turn : ControllerState → Option (Turn ControllerState) → Turn ControllerState
tick_turn c None = idle c
tick_turn c (Some t) = t

-- what the controller does
abbrev pub task_turn : Config → ControllerState → Task → Turn ControllerState
task_turn config c (Take packet) = controller_takes config c packet.now
task_turn config c Tick = tick_turn c (tick c)
task_turn config c Recover = start_recovery config c
task_turn config c (Want key) = idle (wanted key c)
task_turn config c (Evict key) = evict_key key c
task_turn config c Snap = start_snapshot c

-- when it can be asked
abbrev pub MayDo : ControllerState → Task → Type 0
MayDo c (Take packet) = Unit {0}
MayDo c Tick = is_some (tick c) ≡ true
MayDo c Recover = is_some c.round ≡ false
MayDo c (Want key) = is_some c.round ≡ false
MayDo c (Evict key) = (is_some c.round ≡ false) × (is_some c.eviction ≡ false)
MayDo c Snap = (is_some c.round ≡ false) × (is_some c.job ≡ false)

-- the parts of a snapshot are as many as the slots, and a completed one has no more views
pub record FitsConfig (config : Config) (c : ControllerState) : Type 0 where
  pub parts : (job : Job) → c.job ≡ Some job → length job.parts ≡ config.slots
  pub views : length c.last.views ≤ config.slots

-- a turn of the controller sends and notes so much at most
pub record IsSmall (config : Config) (t : Turn ControllerState) : Type 0 where
  pub outs : length t.out ≤ config.clients + config.servers + config.slots + 1
  pub noted : length t.notes ≤ config.slots + 1
  pub views : length t.state.last.views ≤ config.slots

-- All parties of a world as contracts see them.
use Rattle.std.specs.Prelude.{◌≡◌, ℕ, ◌^◌, ◌<◌, Bool, true, List, [], replicate, is_some, length, Option, None, Some}
use Rattle.std.specs.List.{count_by}
use Rattle.far_base.specs.PlanView.{PlanView}
use Rattle.far_base.specs.declared.packet.Message.{Message}
use Rattle.far_base.specs.declared.record.Record.{Record}
use Rattle.far_history.specs.RoomyLog.{RoomyLog}
use Rattle.far_model.specs.Controller.{tick}
use Rattle.far_model.specs.Passes.{PASS_KINDS}
use Rattle.far_model.specs.State.{State}
use Rattle.far_model.specs.View.{SwitchView}
use Rattle.far_world.specs.Choices.{seat_can_send}
use Rattle.far_world.specs.Seats.{AreSeated, SeatView, clients_of}
use Rattle.controller_core.specs.ControllerView.{ControllerView}

-- what a keeper has: the servers' records where it tells them, the number of servers, the greatest number that was put,
-- and the count of its faults
pub record KeeperView : Type 0 where
  pub records : Option (List (List Record))
  pub servers : ℕ
  pub ceiling : ℕ
  pub faults : ℕ

abbrev pub keeper_of : Option (List (List Record)) → ℕ → ℕ → ℕ → KeeperView
keeper_of records servers ceiling faults = record {
  records = records;
  servers = servers;
  ceiling = ceiling;
  faults = faults;
}

-- a plan, the state of its parties, and what the keeper has
pub record Scene : Type 0 where
  pub plan : PlanView
  pub state : State
  pub keeper : KeeperView

-- whether a keeper tells the servers' records
abbrev pub Tells : Option (List (List Record)) → Type 0
Tells records = is_some records ≡ true

-- the records of each server; none where the keeper does not tell them
abbrev pub told_by : ℕ → Option (List (List Record)) → List (List Record)
told_by servers None = replicate servers []
told_by servers (Some all) = all

abbrev pub with_state : Scene → State → Scene
with_state scene state = record scene { state = state }

-- as before, but for the count of the keeper's faults
abbrev pub with_faults : Scene → ℕ → Scene
with_faults scene faults = record scene { keeper = record scene.keeper { faults = faults } }

-- the parties together
abbrev pub scene_of : PlanView → SwitchView → Bool → List SeatView → ControllerView → List Message → List ℕ → ℕ
    → RoomyLog → KeeperView → Scene
scene_of plan switch running seats controller bag passes done log keeper = record {
  plan = plan;
  state = record {
    switch = switch;
    running = running;
    clients = clients_of seats;
    servers = told_by plan.config.servers keeper.records;
    controller = controller.state;
    bag = bag;
    passes = passes;
    done = done;
    steps = log.steps;
    log = log.lines;
  };
  keeper = keeper;
}

-- the clients and the controller are those of the plan, and it is known how many clients can send, and whether the
-- controller has something to do for its first want
pub record IsFit (plan : PlanView) (seats : List SeatView) (able : ℕ) (controller : ControllerView) (can_tick : Bool)
    (passes : List ℕ) : Type 0 where
  pub seated : AreSeated plan.ops seats
  pub few : length seats < 2 ^ 16
  pub sends : able ≡ count_by seat_can_send seats
  pub config : controller.config ≡ plan.config
  pub ticks : can_tick ≡ is_some (tick controller.state)
  pub counts : length passes ≡ PASS_KINDS

-- The state of a world.
use Rattle.std.specs.Prelude.{ℕ, zero, suc, ◌+◌, Bool, true, List, [], ◌∷◌, ◌++◌, map, replicate, slice_index_or, None}
use Rattle.far_base.specs.PlanView.{PlanView}
use Rattle.far_base.specs.declared.log.LogEntry.{LogEntry}
use Rattle.far_base.specs.declared.log.LogLine.{LogLine}
use Rattle.far_base.specs.declared.packet.Message.{Message}
use Rattle.far_base.specs.declared.plan.OpLine.{OpLine}
use Rattle.far_base.specs.declared.record.Record.{Record}
use Rattle.far_model.specs.Clients.{ClientState, opening_client}
use Rattle.far_model.specs.Controller.{ControllerState, opening_controller}
use Rattle.far_model.specs.Passes.{no_passes}
use Rattle.far_model.specs.View.{SwitchView, opening_view}

-- the parties, the messages on their way (oldest first), how many packets of each kind have come to the running switch,
-- the number of orders done, the number of steps, and the log
pub record State : Type 0 where
  pub switch : SwitchView
  pub running : Bool
  pub clients : List ClientState
  pub servers : List (List Record)
  pub controller : ControllerState
  pub bag : List Message
  pub passes : List ℕ
  pub done : ℕ
  pub steps : ℕ
  pub log : List LogLine

abbrev pub clients_from : List OpLine → ℕ → ℕ → List ClientState
clients_from ops n zero = []
clients_from ops n (suc more) = opening_client ops n ∷ clients_from ops (suc n) more

abbrev pub opening : PlanView → State
opening plan = record {
  switch = opening_view plan.config 1 0;
  running = true;
  clients = clients_from plan.ops 0 plan.config.clients;
  servers = replicate plan.config.servers [];
  controller = opening_controller plan.config;
  bag = [];
  passes = no_passes;
  done = 0;
  steps = 0;
  log = [];
}

abbrev pub nobody : ClientState
nobody = record { waits = None; left = []; released = 0; preserved = [] }

abbrev pub client_at : State → ℕ → ClientState
client_at s c = slice_index_or s.clients c nobody

abbrev pub records_at : State → ℕ → List Record
records_at s server = slice_index_or s.servers server []

-- the moment of the step that is made now
abbrev pub now : State → ℕ
now s = s.steps + 1

abbrev pub line_at : ℕ → LogEntry → LogLine
line_at moment entry = record { moment = moment; entry = entry }

-- the log with what this step notes
abbrev pub noted : State → List LogEntry → List LogLine
noted s notes = s.log ++ map (line_at (now s)) notes

-- one step is made: the bag is this, and these are noted
abbrev pub stepped : State → List Message → List LogEntry → State
stepped s bag notes = record s { bag = bag; steps = now s; log = noted s notes }

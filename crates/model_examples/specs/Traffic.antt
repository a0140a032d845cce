-- What goes to and fro in a run: each event, each message that was taken, with its sender, and the whole log.
use Rattle.std.specs.Prelude.{ℕ, List, [], ◌∷◌, ◌++◌, slice_get, Option, None, Some}
use Rattle.far_base.specs.PlanView.{PlanView}
use Rattle.far_base.specs.declared.event.Event.{Event}
use Rattle.far_base.specs.declared.event.Event.TheVariants.{Deliver}
use Rattle.far_base.specs.declared.log.LogLine.{LogLine}
use Rattle.far_base.specs.declared.packet.Message.{Message}
use Rattle.far_model.specs.Events.{happens}
use Rattle.far_model.specs.Runs.{picked_events, run}
use Rattle.far_model.specs.State.{State, opening}

pub record Traffic : Type 0 where
  pub events : List Event
  pub taken : List Message
  pub log : List LogLine

abbrev pub message_in : Option Message → List Message
message_in None = []
message_in (Some m) = m ∷ []

-- the message that an event takes
abbrev pub taken_by : State → Event → List Message
taken_by s (Deliver i) = message_in (slice_get s.bag i)
taken_by s _ = []

-- the messages that the events take, in their order
abbrev pub taken_from : PlanView → State → List Event → List Message
taken_from plan s [] = []
taken_from plan s (e ∷ es) = taken_by s e ++ taken_from plan (happens plan s e) es

abbrev pub traffic_of_events : PlanView → List Event → Traffic
traffic_of_events plan events = record {
  events = events;
  taken = taken_from plan (opening plan) events;
  log = (run plan (opening plan) events).log;
}

abbrev pub run_traffic : PlanView → List ℕ → ℕ → Traffic
run_traffic plan picks most = traffic_of_events plan (picked_events plan most picks 0 (opening plan))

-- The events: when each can happen, and what it does.
use Rattle.std.specs.Prelude.{ℕ, suc, ◌+◌, Bool, true, false, ◌&&◌, ◌||◌, not, nat_eq, nat_le, if◌then◌else◌, List, []}
use Rattle.std.specs.Prelude.{◌∷◌, ◌++◌, length, map, remove, slice_get, slice_set, is_some, Option, None, Some}
use Rattle.std.specs.List.{list_any}
use Rattle.far_base.specs.PlanView.{PlanView}
use Rattle.far_base.specs.Limits.{due_number}
use Rattle.far_base.specs.declared.event.Event.{Event}
use Rattle.far_base.specs.declared.event.Event.TheVariants.{Send, Deliver, Tick, Recover, Restart, Order as OrderOf}
use Rattle.far_base.specs.declared.log.LogEntry.{LogEntry}
use Rattle.far_base.specs.declared.log.LogEntry.TheVariants.{Sent, Stopped, Recovered, RecItem}
use Rattle.far_base.specs.declared.packet.Message.{Message}
use Rattle.far_base.specs.declared.packet.Packet.{Packet}
use Rattle.far_base.specs.declared.packet.Packet.TheVariants.{Stored, TopIs}
use Rattle.far_base.specs.declared.party.Party.{Party}
use Rattle.far_base.specs.declared.party.Party.TheVariants.{Client, Switch, Server, Controller}
use Rattle.far_base.specs.declared.plan.OpLine.{OpLine}
use Rattle.far_base.specs.declared.plan.Order.{Order}
use Rattle.far_base.specs.declared.plan.Order.TheVariants.{Admit as AdmitOrder, Evict as EvictOrder, Snap as SnapOrder}
use Rattle.far_base.specs.declared.plan.Order.TheVariants.{Stop as StopOrder, StopAt as StopAtOrder}
use Rattle.far_base.specs.declared.record.Record.{Record}
use Rattle.far_model.specs.Clients.{ClientState, line_of, request, client_takes}
use Rattle.far_model.specs.Controller.{ControllerState, wanted, tick, evict_key, start_snapshot, start_recovery, ready}
use Rattle.far_model.specs.Controller.{restarted, controller_takes}
use Rattle.far_model.specs.KeyedRecords.{by_key}
use Rattle.far_model.specs.Members.{is_empty}
use Rattle.far_model.specs.Parties.{Turn, idle, to_party, messages_from}
use Rattle.far_model.specs.Pass.{Passed, pass, passed_out, pass_notes}
use Rattle.far_model.specs.Passes.{pass_count, with_pass}
use Rattle.far_model.specs.Servers.{server_keeps, server_reply}
use Rattle.far_model.specs.State.{State, client_at, records_at, stepped}
use Rattle.far_model.specs.View.{opening_view}

-- what the servers' keepers answer in one step: the reply to a packet, and at a restart all their records by key.
-- A keeper that does not tell its records may answer otherwise than the rule of a server
pub record Keeping : Type 0 where
  pub reply : Option Packet
  pub records : List Record

-- ---- what each event does

abbrev pub client_turn : State → ℕ → List Message → Turn ClientState → State
client_turn s c rest t = record (stepped s (rest ++ messages_from (Client c) t.out) t.notes) {
  clients = slice_set s.clients c t.state;
}

abbrev pub controller_turn : State → List Message → Turn ControllerState → State
controller_turn s rest t = record (stepped s (rest ++ messages_from Controller t.out) t.notes) { controller = t.state }

abbrev pub switch_turn : State → List Message → Packet → Passed → State
switch_turn s rest packet p = record (stepped s (rest ++ messages_from Switch (passed_out p)) (pass_notes packet p)) {
  switch = p.view;
  passes = with_pass s.passes packet;
}

-- replies to the switch's forwards go to the switch, and those to the controller's packets to the controller
abbrev pub reply_goes_to : Packet → Party
reply_goes_to (Stored job) = Controller
reply_goes_to (TopIs round server top) = Controller
reply_goes_to _ = Switch

abbrev pub reply_message : ℕ → Option Packet → List Message
reply_message server None = []
reply_message server (Some packet) = record { from = Server server; to = reply_goes_to packet; packet = packet } ∷ []

abbrev pub server_turn : State → ℕ → List Message → Packet → Option Packet → State
server_turn s server rest packet reply = record (stepped s (rest ++ reply_message server reply) []) {
  servers = slice_set s.servers server (server_keeps (records_at s server) packet);
}

-- the rest of the bag, the addressee, the packet
abbrev pub handled : PlanView → Keeping → State → List Message → Party → Packet → State
handled plan k s rest (Client c) packet = client_turn s c rest (client_takes plan.ops c (client_at s c) packet)
handled plan k s rest Switch packet = switch_turn s rest packet (pass s.switch packet)
handled plan k s rest (Server n) packet = server_turn s n rest packet k.reply
handled plan k s rest Controller packet = controller_turn s rest (controller_takes plan.config s.controller packet)

abbrev pub delivers : PlanView → Keeping → State → ℕ → Option Message → State
delivers plan k s i None = s
delivers plan k s i (Some m) = handled plan k s (remove s.bag i) m.to m.packet

-- the next operation of a client goes to the switch
abbrev pub next_sent : List OpLine → ℕ → ClientState → List ℕ → Turn ClientState
next_sent ops c client [] = idle client
next_sent ops c client (op ∷ left) = record {
  state = record client { waits = Some op; left = left };
  out = to_party Switch (request c op (line_of ops op)) ∷ [];
  notes = Sent op (line_of ops op) ∷ [];
}

abbrev pub sends : PlanView → State → ℕ → State
sends plan s c = client_turn s c s.bag (next_sent plan.ops c (client_at s c) (client_at s c).left)

abbrev pub ticks : State → Option (Turn ControllerState) → State
ticks s None = s
ticks s (Some t) = controller_turn s s.bag t

abbrev pub recovers : PlanView → State → State
recovers plan s = controller_turn s s.bag (start_recovery plan.config s.controller)

abbrev pub recovery_items : List Record → List LogEntry
recovery_items records = map (λ (r : Record). RecItem r) records

-- the switch runs again, empty, under the new epoch and counter
abbrev pub restarts : PlanView → Keeping → State → Option ℕ → State
restarts plan k s None = s
restarts plan k s (Some counter) =
    record (stepped s s.bag (Recovered counter (length k.records) ∷ recovery_items k.records)) {
      switch = opening_view plan.config (s.controller.epoch + 1) counter;
      running = true;
      controller = restarted s.controller;
    }

-- the switch loses its memory
abbrev pub stops : PlanView → State → State
stops plan s = record (stepped s s.bag (Stopped ∷ [])) { switch = opening_view plan.config 0 0; running = false }

abbrev pub does_order : PlanView → State → Option Order → State
does_order plan s None = s
does_order plan s (Some (AdmitOrder step key)) = controller_turn s s.bag (idle (wanted key s.controller))
does_order plan s (Some (EvictOrder step key)) = controller_turn s s.bag (evict_key key s.controller)
does_order plan s (Some (SnapOrder step)) = controller_turn s s.bag (start_snapshot s.controller)
does_order plan s (Some (StopOrder step)) = stops plan s
does_order plan s (Some (StopAtOrder kind times)) = stops plan s

-- the state after an event, whatever the keepers answer
abbrev pub happens_with : PlanView → Keeping → State → Event → State
happens_with plan k s (Send c) = sends plan s c
happens_with plan k s (Deliver i) = delivers plan k s i (slice_get s.bag i)
happens_with plan k s Tick = ticks s (tick s.controller)
happens_with plan k s Recover = recovers plan s
happens_with plan k s Restart = restarts plan k s (ready s.controller)
happens_with plan k s (OrderOf j) = record (does_order plan s (slice_get plan.orders j)) { done = s.done + 1 }

-- ---- what keepers answer by the rule of a server

abbrev pub reply_at : State → Party → Packet → Option Packet
reply_at s (Server n) packet = server_reply n (records_at s n) packet
reply_at s _ packet = None

abbrev pub reply_to : State → Option Message → Option Packet
reply_to s None = None
reply_to s (Some m) = reply_at s m.to m.packet

abbrev pub all_records : List (List Record) → List Record
all_records [] = []
all_records (records ∷ servers) = records ++ all_records servers

-- all records of all servers, by key
abbrev pub all_listed : List (List Record) → List Record
all_listed servers = by_key (all_records servers)

abbrev pub reply_in : State → Event → Option Packet
reply_in s (Deliver i) = reply_to s (slice_get s.bag i)
reply_in s _ = None

abbrev pub keeping_of : State → Event → Keeping
keeping_of s e = record { reply = reply_in s e; records = all_listed s.servers }

-- the state after an event, where the keepers answer by the rule of a server
abbrev pub happens : PlanView → State → Event → State
happens plan s e = happens_with plan (keeping_of s e) s e

-- ---- when events can happen

abbrev pub has_next : List ℕ → Bool
has_next [] = false
has_next (op ∷ left) = true

-- no open operation, and one left to send
abbrev pub can_send : ClientState → Bool
can_send client = not (is_some client.waits) && has_next client.left

abbrev pub is_switch : Party → Bool
is_switch Switch = true
is_switch _ = false

-- a message to a stopped switch waits
abbrev pub can_deliver : Bool → Message → Bool
can_deliver running m = running || not (is_switch m.to)

-- the switch is stopped, no round is under way, and nothing that the switch sent is on its way
abbrev pub can_recover : State → Bool
can_recover s = not s.running
    && (not (is_some s.controller.round) && not (list_any (λ (m : Message). is_switch m.from) s.bag))

abbrev pub is_possible : State → Order → Bool
is_possible s (AdmitOrder step key) = not (is_some s.controller.round)
is_possible s (EvictOrder step key) = s.running
    && (not (is_some s.controller.eviction) && not (is_some s.controller.round))
is_possible s (SnapOrder step) = s.running && (not (is_some s.controller.job) && not (is_some s.controller.round))
is_possible s (StopOrder step) = s.running
is_possible s (StopAtOrder kind times) = s.running

-- what an order waits for, as far as it has come: the steps, or the passes of a kind
abbrev pub counted_for : State → Order → ℕ
counted_for s (AdmitOrder step key) = s.steps
counted_for s (EvictOrder step key) = s.steps
counted_for s (SnapOrder step) = s.steps
counted_for s (StopOrder step) = s.steps
counted_for s (StopAtOrder kind times) = pass_count s.passes kind

-- ---- the choices

abbrev pub send_choices : ℕ → List ClientState → List Event
send_choices c [] = []
send_choices c (client ∷ clients) = if can_send client then Send c ∷ send_choices (suc c) clients
    else send_choices (suc c) clients

abbrev pub deliver_choices : Bool → ℕ → List Message → List Event
deliver_choices running i [] = []
deliver_choices running i (m ∷ bag) = if can_deliver running m then Deliver i ∷ deliver_choices running (suc i) bag
    else deliver_choices running (suc i) bag

abbrev pub choice_if : Bool → Event → List Event
choice_if test e = if test then e ∷ [] else []

-- the events other than orders that can happen, in the order in which a pick counts them
abbrev pub choices : State → List Event
choices s = send_choices 0 s.clients ++ deliver_choices s.running 0 s.bag
    ++ choice_if (is_some (tick s.controller)) Tick ++ choice_if (can_recover s) Recover
    ++ choice_if (is_some (ready s.controller)) Restart

-- the first order that is not done can happen where it is possible, once its number has come or nothing else can happen
abbrev pub is_order_due : State → Option Order → Bool
is_order_due s None = false
is_order_due s (Some order) = is_possible s order
    && (nat_le (due_number order) (counted_for s order) || is_empty (choices s))

abbrev pub is_order_enabled : PlanView → State → Bool
is_order_enabled plan s = is_order_due s (slice_get plan.orders s.done)

abbrev pub can_deliver_some : Bool → Option Message → Bool
can_deliver_some running None = false
can_deliver_some running (Some m) = can_deliver running m

abbrev pub is_enabled : PlanView → State → Event → Bool
is_enabled plan s (Send c) = can_send (client_at s c)
is_enabled plan s (Deliver i) = can_deliver_some s.running (slice_get s.bag i)
is_enabled plan s Tick = is_some (tick s.controller)
is_enabled plan s Recover = can_recover s
is_enabled plan s Restart = is_some (ready s.controller)
is_enabled plan s (OrderOf j) = nat_eq j s.done && is_order_enabled plan s

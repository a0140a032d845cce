-- The work that is left in a state: a sum of weights that each event lowers.
use Rattle.std.specs.Prelude.{ℕ, zero, suc, ◌+◌, ◌-◌, ◌*◌, Bool, false, ◌&&◌, not, if◌then◌else◌, List, [], ◌∷◌, length}
use Rattle.std.specs.Prelude.{drop, is_some, Option, None, Some}
use Rattle.std.specs.List.{count_by, sum_by}
use Rattle.far_base.specs.Limits.{is_slot_order, is_snap, is_stop}
use Rattle.far_base.specs.PlanView.{PlanView}
use Rattle.far_base.specs.declared.packet.Message.{Message}
use Rattle.far_base.specs.declared.packet.Packet.{Packet}
use Rattle.far_base.specs.declared.packet.Packet.TheVariants.{GetReq, WriteReq, GetFwd, WriteFwd, GetRep, WriteRep}
use Rattle.far_base.specs.declared.packet.Packet.TheVariants.{GetAns, WriteAns, Hot, Admit, AdmitAck, Peek, PeekAns}
use Rattle.far_base.specs.declared.packet.Packet.TheVariants.{Remove, RemoveAns, SnapStart, SnapBegun, SnapRead}
use Rattle.far_base.specs.declared.packet.Packet.TheVariants.{SnapPart, Store, Stored, Release, Ask, Told, TopAsk}
use Rattle.far_base.specs.declared.packet.Packet.TheVariants.{TopIs, SnapSame, SnapFrom}
use Rattle.far_base.specs.declared.party.Party.{Party}
use Rattle.far_base.specs.declared.party.Party.TheVariants.{Client}
use Rattle.far_base.specs.declared.plan.Order.{Order}
use Rattle.far_base.specs.declared.plan.Order.TheVariants.{Admit as AdmitOrder, Evict as EvictOrder, Snap as SnapOrder}
use Rattle.far_base.specs.declared.plan.Order.TheVariants.{Stop as StopOrder, StopAt as StopAtOrder}
use Rattle.far_base.specs.declared.record.Record.{Record}
use Rattle.far_base.specs.declared.slot_state.Due.TheVariants.{Peeked, Removed}
use Rattle.far_model.specs.Clients.{ClientState, script}
use Rattle.far_model.specs.Controller.{ControllerState, is_evicting_job}
use Rattle.far_model.specs.Evictions.{Eviction, is_free, waits_for}
use Rattle.far_model.specs.Rounds.{Round}
use Rattle.far_model.specs.State.{State}
use Rattle.far_model.specs.View.{SwitchView, is_taken}

-- ---- the bound on the steps of a plan

abbrev pub work_bound : PlanView → ℕ
work_bound plan =
    32 * (length plan.ops + count_by is_slot_order plan.orders + plan.config.slots + plan.config.clients
    + plan.config.servers + 1)
    * (count_by is_snap plan.orders + count_by is_stop plan.orders + 1)

-- ---- the weight of each thing

-- of a switch that is stopped, before recovery begins
abbrev pub stopped_weight : PlanView → ℕ
stopped_weight plan =
    2 * plan.config.clients + 3 * length plan.ops + 2 * plan.config.slots + 2 * plan.config.servers + 2

abbrev pub order_weight : PlanView → Order → ℕ
order_weight plan (AdmitOrder step key) = 19
order_weight plan (EvictOrder step key) = 15
order_weight plan (SnapOrder step) = 2 * plan.config.slots + plan.config.clients + 3
order_weight plan (StopOrder step) = stopped_weight plan + 1
order_weight plan (StopAtOrder kind times) = stopped_weight plan + 1

abbrev pub is_peeking : ℕ → ℕ → Option Eviction → Bool
is_peeking i tag None = false
is_peeking i tag (Some e) = waits_for Peeked i tag e

abbrev pub is_removing : ℕ → ℕ → Option Eviction → Bool
is_removing i tag None = false
is_removing i tag (Some e) = waits_for Removed i tag e

abbrev pub tries_of : Option Eviction → ℕ
tries_of None = 0
tries_of (Some e) = e.tries

-- a step of the eviction at its present try, from 12 down to 1; one of an eviction that was dropped is only taken
abbrev pub eviction_weight : ControllerState → Bool → ℕ → ℕ → ℕ
eviction_weight c belongs weight dropped = if belongs then weight - 4 * tries_of c.eviction else dropped

abbrev pub told_weight : Option Record → ℕ
told_weight None = 1
told_weight (Some item) = 3

abbrev pub asked_weight : PlanView → Party → ℕ
asked_weight plan (Client c) = 2 + 3 * length (script plan.ops c)
asked_weight plan _ = 2

abbrev pub packet_weight : PlanView → ControllerState → Party → Packet → ℕ
packet_weight plan c to (GetReq caller op key) = 23
packet_weight plan c to (WriteReq caller op key body) = 23
packet_weight plan c to (GetFwd caller op key tag) = 3
packet_weight plan c to (WriteFwd caller op key num body) = 3
packet_weight plan c to (GetRep caller op key tag num body) = 2
packet_weight plan c to (WriteRep caller op key num body) = 2
packet_weight plan c to (GetAns caller op key num body near) = 1
packet_weight plan c to (WriteAns caller op key num kept) = 1
packet_weight plan c to (Hot key) = 19
packet_weight plan c to (Admit epoch i key tag) = 2
packet_weight plan c to (AdmitAck i tag) = 1
packet_weight plan c to (Peek epoch i tag) = if is_peeking i tag c.eviction then 14 else 2
packet_weight plan c to (PeekAns i tag latest num body) = if is_peeking i tag c.eviction then 13 else 1
packet_weight plan c to (Remove epoch i tag latest num) = eviction_weight c (is_removing i tag c.eviction) 14 2
packet_weight plan c to (RemoveAns i tag done latest num body) = eviction_weight c (is_removing i tag c.eviction) 13 1
packet_weight plan c to (SnapStart epoch id) = 2 * plan.config.slots + 2
packet_weight plan c to (SnapBegun id point) = plan.config.slots + 1
packet_weight plan c to (SnapRead epoch id i) = 1
packet_weight plan c to (SnapPart id i view) = 1
packet_weight plan c to (Store job item) = eviction_weight c (is_evicting_job job c.eviction) 12 2
packet_weight plan c to (Stored job) = eviction_weight c (is_evicting_job job c.eviction) 11 1
packet_weight plan c to (Release point) = 1
packet_weight plan c to (Ask round) = asked_weight plan to
packet_weight plan c to (Told round caller total item) = told_weight item
packet_weight plan c to (TopAsk round) = 2
packet_weight plan c to (TopIs round server top) = 1
packet_weight plan c to (SnapSame id i) = 1
packet_weight plan c to (SnapFrom epoch id base) = 2 * plan.config.slots + 2

abbrev pub message_weight : PlanView → ControllerState → Message → ℕ
message_weight plan c m = packet_weight plan c m.to m.packet

-- operations that were not sent
abbrev pub client_weight : ClientState → ℕ
client_weight client = 24 * length client.left

abbrev pub is_for_want : Option Eviction → Bool
is_for_want None = false
is_for_want (Some e) = e.for_want

-- how many of the first wants have a slot: one a free slot, and one where an eviction makes room
abbrev pub room : ControllerState → ℕ
room c = count_by is_free c.slots + (if is_for_want c.eviction then 1 else 0)

-- a want is 18, and 3 where it has a slot
abbrev pub wants_weight : ℕ → List (List ℕ) → ℕ
wants_weight room [] = 0
wants_weight zero (key ∷ keys) = 18 + wants_weight zero keys
wants_weight (suc room) (key ∷ keys) = 3 + wants_weight room keys

-- slots whose part was not taken, from slot i on
abbrev pub untaken_from : SwitchView → ℕ → ℕ → ℕ
untaken_from v i zero = 0
untaken_from v i (suc more) = (if is_taken v i then 0 else 1) + untaken_from v (suc i) more

abbrev pub job_weight : PlanView → ControllerState → ℕ
job_weight plan c = if is_some c.job then plan.config.clients else 0

abbrev pub round_weight : PlanView → Option Round → ℕ
round_weight plan None = 0
round_weight plan (Some r) = if r.asked then 1 else 2 * plan.config.servers + 1

-- a stopped switch that waits for its recovery
abbrev pub stop_weight : PlanView → State → ℕ
stop_weight plan s = if not s.running && not (is_some s.controller.round) then stopped_weight plan else 0

abbrev pub work_left : PlanView → State → ℕ
work_left plan s = sum_by client_weight s.clients
    + sum_by (message_weight plan s.controller) s.bag
    + wants_weight (room s.controller) s.controller.wants
    + untaken_from s.switch 0 (length s.switch.slots)
    + job_weight plan s.controller
    + round_weight plan s.controller.round
    + stop_weight plan s
    + sum_by (order_weight plan) (drop s.done plan.orders)

-- The machine as named steps: one row for each case of the tables. A row says who acts, which packet was taken, what is
-- sent, what is noted, and what that party is after it; all else stays, since the state after a step is the turn of one
-- party (`switch_turn`, `client_turn`, `server_turn`, `controller_turn` of Events). That each enabled event of a state
-- is a row is proved once, whatever keepers answer.
use Rattle.std.specs.Prelude.{◌≡◌, ℕ, ◌+◌, ◌-◌, ◌<◌, ◌≤◌, Bool, true, false, not, ◌&&◌, ◌||◌, nat_eq, nat_lt, nat_le}
use Rattle.std.specs.Prelude.{List, [], ◌∷◌}
use Rattle.std.specs.Prelude.{◌++◌, length, remove, slice_get, slice_set, slice_index_or, is_some, Option, None, Some}
use Rattle.far_base.specs.PlanView.{PlanView}
use Rattle.far_base.specs.declared.event.Event.{Event}
use Rattle.far_base.specs.declared.event.Event.TheVariants.{Send, Deliver, Tick, Recover, Restart, Order as OrderOf}
use Rattle.far_base.specs.declared.log.LogEntry.TheVariants.{Answered, Sent, Admitted, Evicted, Kept as KeptNote}
use Rattle.far_base.specs.declared.packet.Message.{Message}
use Rattle.far_base.specs.declared.packet.Out.{Out}
use Rattle.far_base.specs.declared.packet.Packet.{Packet}
use Rattle.far_base.specs.declared.packet.Packet.TheVariants.{GetReq, WriteReq, GetFwd, WriteFwd, GetRep, WriteRep}
use Rattle.far_base.specs.declared.packet.Packet.TheVariants.{GetAns, WriteAns, Hot, Admit, AdmitAck, Peek, PeekAns}
use Rattle.far_base.specs.declared.packet.Packet.TheVariants.{Remove, RemoveAns, SnapStart, SnapBegun, SnapRead}
use Rattle.far_base.specs.declared.packet.Packet.TheVariants.{SnapPart, SnapSame, SnapFrom, Store, Stored, Release, Ask}
use Rattle.far_base.specs.declared.packet.Packet.TheVariants.{Told}
use Rattle.far_base.specs.declared.packet.Packet.TheVariants.{TopAsk, TopIs}
use Rattle.far_base.specs.declared.party.Party.{Party}
use Rattle.far_base.specs.declared.party.Party.TheVariants.{Client, Switch, Server, Controller}
use Rattle.far_base.specs.declared.plan.Config.{Config}
use Rattle.far_base.specs.declared.plan.OpLine.{OpLine}
use Rattle.far_base.specs.declared.plan.Order.{Order}
use Rattle.far_base.specs.declared.plan.Order.TheVariants.{Admit as AdmitOrder, Evict as EvictOrder, Snap as SnapOrder}
use Rattle.far_base.specs.declared.plan.Order.TheVariants.{Stop as StopOrder, StopAt as StopAtOrder}
use Rattle.far_base.specs.declared.record.Record.{Record}
use Rattle.far_base.specs.declared.slot_state.Due.{Due}
use Rattle.far_base.specs.declared.slot_state.Due.TheVariants.{Peeked, Removed}
use Rattle.far_base.specs.declared.slot_state.SlotState.TheVariants.{Free, Admitting, Held}
use Rattle.far_model.specs.Clients.{ClientState, answered_record, closed, line_of, released_to, request, tells}
use Rattle.far_model.specs.Controller.{ControllerState, with_state, to_servers, store_of, first_want_dropped}
use Rattle.far_model.specs.Controller.{admits_want, evicts, makes_room, completes, store_outs, told_round}
use Rattle.far_model.specs.Controller.{start_snapshot}
use Rattle.far_model.specs.Controller.{start_recovery, ready, is_evicting_job, tick}
use Rattle.far_model.specs.Events.{Keeping, can_recover, client_turn, controller_turn, is_possible, restarts}
use Rattle.far_model.specs.Events.{server_turn}
use Rattle.far_model.specs.Events.{stops, switch_turn}
use Rattle.far_model.specs.Evictions.{Eviction, TRIES, is_admitting, after_store, first_place, has_key, holds_key}
use Rattle.far_model.specs.Evictions.{is_free, removing}
use Rattle.far_model.specs.Evictions.{shown_item, state_at, storing, victim, waits_for, waits_job}
use Rattle.far_model.specs.KeyedRecords.{put_record}
use Rattle.far_model.specs.Parties.{Turn, idle, to_party}
use Rattle.far_model.specs.Pass.{Passed, absorbing, dropped, grows_hot, hot_cell, is_as_before, is_slot_there, is_under}
use Rattle.far_model.specs.Pass.{may_go, numbered, raised, sent_to, takes_reply, touched, with_slot, with_taken}
use Rattle.far_model.specs.Rounds.{Round, asks_tops, has_told, telling_at}
use Rattle.far_model.specs.Snapshots.{Job, completed, has_begun, has_part, is_whole, part_reads, with_part, with_same}
use Rattle.far_model.specs.State.{State, client_at}
use Rattle.far_model.specs.View.{SlotView, SwitchView, bind_key, empty_slot, entry_place, held_record, is_taken}
use Rattle.far_model.specs.View.{server_of}
use Rattle.far_model.specs.View.{shown_body, slot_at}

-- ---- the switch

-- a touch of a key: whether the controller is told that it has grown hot
pub data TouchRow (v : SwitchView) (key : List ℕ) : Option Out → Type 0 where
  StaysCold : grows_hot v.config.hot (hot_cell key v) ≡ false → TouchRow v key None
  GrowsHot : grows_hot v.config.hot (hot_cell key v) ≡ true → TouchRow v key (sent_to Controller (Hot key))

-- the part of a slot as it leaves: in full, or the same as that of the last completed snapshot
pub data PartRow (v : SwitchView) (i : ℕ) : Packet → Type 0 where
  PartShown : is_as_before v i ≡ false → PartRow v i (SnapPart v.snap i (held_record (slot_at v i)))
  PartSame : is_as_before v i ≡ true → PartRow v i (SnapSame v.snap i)

-- a change of a slot's record: its part was taken, or leaves now
pub data ChangeRow (v : SwitchView) (i : ℕ) (slot : SlotView) : SwitchView → Option Out → Type 0 where
  ChangesOnly : is_taken v i ≡ true → ChangeRow v i slot (with_slot v i slot) None
  ChangesFirst : (part : Packet) → is_taken v i ≡ false → PartRow v i part
      → ChangeRow v i slot (with_taken (with_slot v i slot) i (held_record (slot_at v i))) (sent_to Controller part)

-- a reply of a server comes by
pub data ReplyRow (v : SwitchView) (tag : Option ℕ) (key : List ℕ) (num : ℕ) (body : Option (List ℕ))
    : SwitchView → Option Out → Type 0 where
  ReplyPassed : entry_place key v ≡ None → ReplyRow v tag key num body v None
  ReplyTaken : (i : ℕ) (w : SwitchView) (part : Option Out) → entry_place key v ≡ Some i
      → takes_reply tag num (slot_at v i) ≡ true → ChangeRow v i (absorbing num body (slot_at v i)) w part
      → ReplyRow v tag key num body w part
  ReplyRaised : (i : ℕ) → entry_place key v ≡ Some i → takes_reply tag num (slot_at v i) ≡ false
      → ReplyRow v tag key num body (with_slot v i (raised num (slot_at v i))) None

abbrev pub leaves : SwitchView → Option Out → Option Out → Passed
leaves view first second = record { view = view; first = first; second = second }

-- why a packet is dropped
abbrev pub IsDropped : SwitchView → Packet → Type 0
IsDropped v (GetReq caller op key) = ⊥
IsDropped v (WriteReq caller op key body) = ⊥
IsDropped v (GetRep caller op key tag num body) = ⊥
IsDropped v (WriteRep caller op key num body) = ⊥
IsDropped v (Admit epoch i key tag) = is_slot_there v epoch i ≡ false
IsDropped v (Peek epoch i tag) = is_slot_there v epoch i ≡ false
IsDropped v (Remove epoch i tag latest num) = is_slot_there v epoch i ≡ false
IsDropped v (SnapStart epoch id) = nat_eq epoch v.epoch ≡ false
IsDropped v (SnapFrom epoch id base) = nat_eq epoch v.epoch ≡ false
IsDropped v (SnapRead epoch id i) = (is_slot_there v epoch i && (nat_eq id v.snap && not (is_taken v i))) ≡ false
IsDropped v _ = Unit {0}

pub data PassRow (v : SwitchView) : Packet → Passed → Type 0 where
  ReadHit : (caller op : ℕ) (key : List ℕ) (i : ℕ) → entry_place key v ≡ Some i → (slot_at v i).latest ≡ true
      → PassRow v (GetReq caller op key)
      (leaves v (sent_to (Client caller) (GetAns caller op key (slot_at v i).num (slot_at v i).body true)) None)
  ReadOutdated : (caller op : ℕ) (key : List ℕ) (i : ℕ) → entry_place key v ≡ Some i → (slot_at v i).latest ≡ false
      → PassRow v (GetReq caller op key)
      (leaves v (sent_to (Server (server_of v.config key)) (GetFwd caller op key (slot_at v i).tag)) None)
  ReadMiss : (caller op : ℕ) (key : List ℕ) (hot : Option Out) → entry_place key v ≡ None → TouchRow v key hot
      → PassRow v (GetReq caller op key)
      (leaves (touched key v) (sent_to (Server (server_of v.config key)) (GetFwd caller op key 0)) hot)
  WriteHit : (caller op : ℕ) (key : List ℕ) (body : Option (List ℕ)) (i : ℕ) (w : SwitchView) (part : Option Out)
      → entry_place key v ≡ Some i
      → ChangeRow (numbered v) i (absorbing (numbered v).counter body (slot_at v i)) w part
      → PassRow v (WriteReq caller op key body)
      (leaves w (sent_to (Client caller) (WriteAns caller op key (numbered v).counter true)) part)
  WriteMiss : (caller op : ℕ) (key : List ℕ) (body : Option (List ℕ)) (hot : Option Out) → entry_place key v ≡ None
      → TouchRow (numbered v) key hot
      → PassRow v (WriteReq caller op key body)
      (leaves (touched key (numbered v))
      (sent_to (Server (server_of v.config key)) (WriteFwd caller op key (numbered v).counter body)) hot)
  ReadReply : (caller op : ℕ) (key : List ℕ) (tag num : ℕ) (body : Option (List ℕ)) (w : SwitchView) (part : Option Out)
      → ReplyRow v (Some tag) key num body w part
      → PassRow v (GetRep caller op key tag num body)
      (leaves w (sent_to (Client caller) (GetAns caller op key num body false)) part)
  WriteReply : (caller op : ℕ) (key : List ℕ) (num : ℕ) (body : Option (List ℕ)) (w : SwitchView) (part : Option Out)
      → ReplyRow v None key num body w part
      → PassRow v (WriteRep caller op key num body)
      (leaves w (sent_to (Client caller) (WriteAns caller op key num false)) part)
  AdmitBinds : (epoch i : ℕ) (key : List ℕ) (tag : ℕ) → is_slot_there v epoch i ≡ true → (slot_at v i).valid ≡ false
      → PassRow v (Admit epoch i key tag)
      (leaves (with_slot (record v { bound = bind_key key i v.bound }) i
      (record { key = Some key; tag = tag; valid = true; latest = false; num = 0; body = None }))
      (sent_to Controller (AdmitAck i tag)) None)
  AdmitLate : (epoch i : ℕ) (key : List ℕ) (tag : ℕ) → is_slot_there v epoch i ≡ true → (slot_at v i).valid ≡ true
      → PassRow v (Admit epoch i key tag)
      (leaves (with_slot (record v { bound = bind_key key i v.bound }) i (slot_at v i)) None None)
  PeekShows : (epoch i tag : ℕ) → is_slot_there v epoch i ≡ true → is_under tag (slot_at v i) ≡ true
      → PassRow v (Peek epoch i tag) (leaves v (sent_to Controller
      (PeekAns i tag (slot_at v i).latest (slot_at v i).num (shown_body (slot_at v i)))) None)
  PeekGone : (epoch i tag : ℕ) → is_slot_there v epoch i ≡ true → is_under tag (slot_at v i) ≡ false
      → PassRow v (Peek epoch i tag) (leaves v (sent_to Controller (PeekAns i tag false 0 None)) None)
  RemoveLatest : (epoch i tag : ℕ) (latest : Bool) (num : ℕ) (w : SwitchView) (part : Option Out)
      → is_slot_there v epoch i ≡ true → may_go tag latest num (slot_at v i) ≡ true
      → is_under tag (slot_at v i) ≡ true → (slot_at v i).latest ≡ true → ChangeRow v i empty_slot w part
      → PassRow v (Remove epoch i tag latest num) (leaves w (sent_to Controller
      (RemoveAns i tag true (slot_at v i).latest (slot_at v i).num (shown_body (slot_at v i)))) part)
  RemoveOutdated : (epoch i tag : ℕ) (latest : Bool) (num : ℕ)
      → is_slot_there v epoch i ≡ true → may_go tag latest num (slot_at v i) ≡ true
      → is_under tag (slot_at v i) ≡ true → (slot_at v i).latest ≡ false
      → PassRow v (Remove epoch i tag latest num) (leaves (with_slot v i empty_slot) (sent_to Controller
      (RemoveAns i tag true (slot_at v i).latest (slot_at v i).num (shown_body (slot_at v i)))) None)
  RemoveNot : (epoch i tag : ℕ) (latest : Bool) (num : ℕ) → is_slot_there v epoch i ≡ true
      → may_go tag latest num (slot_at v i) ≡ false → is_under tag (slot_at v i) ≡ true
      → PassRow v (Remove epoch i tag latest num) (leaves v (sent_to Controller
      (RemoveAns i tag false (slot_at v i).latest (slot_at v i).num (shown_body (slot_at v i)))) None)
  RemoveGone : (epoch i tag : ℕ) (latest : Bool) (num : ℕ) → is_slot_there v epoch i ≡ true
      → is_under tag (slot_at v i) ≡ false
      → PassRow v (Remove epoch i tag latest num)
      (leaves v (sent_to Controller (RemoveAns i tag false false 0 None)) None)
  SnapBegins : (id : ℕ) → PassRow v (SnapStart v.epoch id)
      (leaves (record v { snap = id; base = 0 }) (sent_to Controller (SnapBegun id v.counter)) None)
  SnapBeginsFrom : (id base : ℕ) → PassRow v (SnapFrom v.epoch id base)
      (leaves (record v { snap = id; base = base }) (sent_to Controller (SnapBegun id v.counter)) None)
  PartRead : (epoch i : ℕ) (part : Packet) → is_slot_there v epoch i ≡ true → is_taken v i ≡ false → PartRow v i part
      → PassRow v (SnapRead epoch v.snap i)
      (leaves (with_taken v i (held_record (slot_at v i))) (sent_to Controller part) None)
  Drops : (packet : Packet) → IsDropped v packet → PassRow v packet (dropped v)

-- ---- the servers

abbrev pub server_heeds : Packet → Bool
server_heeds (GetFwd caller op key tag) = true
server_heeds (WriteFwd caller op key num body) = true
server_heeds (Store job item) = true
server_heeds (TopAsk round) = true
server_heeds _ = false

-- a server answers in kind, with any number and body
pub data ServerRow (n : ℕ) : Packet → Option Packet → Type 0 where
  ReadServed : (caller op : ℕ) (key : List ℕ) (tag num : ℕ) (body : Option (List ℕ))
      → ServerRow n (GetFwd caller op key tag) (Some (GetRep caller op key tag num body))
  WriteServed : (caller op : ℕ) (key : List ℕ) (put : ℕ) (written : Option (List ℕ)) (num : ℕ) (body : Option (List ℕ))
      → ServerRow n (WriteFwd caller op key put written) (Some (WriteRep caller op key num body))
  ItemServed : (job : ℕ) (item : Record) → ServerRow n (Store job item) (Some (Stored job))
  TopServed : (round top : ℕ) → ServerRow n (TopAsk round) (Some (TopIs round n top))
  ServerIgnores : (packet : Packet) → server_heeds packet ≡ false → ServerRow n packet None

-- ---- the clients

abbrev pub turn_of : {A : Type 0} → A → List Out → List Rattle.far_base.specs.declared.log.LogEntry.LogEntry → Turn A
turn_of state out notes = record { state = state; out = out; notes = notes }

abbrev pub client_heeds : Packet → Bool
client_heeds (GetAns caller op key num body near) = true
client_heeds (WriteAns caller op key num kept) = true
client_heeds (Release point) = true
client_heeds (Ask round) = true
client_heeds _ = false

pub data ClientRow (ops : List OpLine) (client : ℕ) (s : ClientState) : Packet → Turn ClientState → Type 0 where
  ReadAnswered : (caller op : ℕ) (key : List ℕ) (num : ℕ) (body : Option (List ℕ)) (near : Bool)
      → ClientRow ops client s (GetAns caller op key num body near) (turn_of (closed s) [] (Answered op ∷ []))
  WriteAnswered : (caller op : ℕ) (key : List ℕ) (num : ℕ) (kept : Bool)
      → (kept && nat_lt s.released num) ≡ false
      → ClientRow ops client s (WriteAns caller op key num kept) (turn_of (closed s) [] (Answered op ∷ []))
  WritePreserved : (caller op : ℕ) (key : List ℕ) (num : ℕ) → s.released < num
      → ClientRow ops client s (WriteAns caller op key num true)
      (turn_of (record (closed s) { preserved = put_record (answered_record ops op num) s.preserved }) []
      (Answered op ∷ []))
  Released : (point : ℕ) → ClientRow ops client s (Release point) (turn_of (released_to point s) [] [])
  Asked : (round : ℕ) → ClientRow ops client s (Ask round) (turn_of s (tells round client s.preserved) [])
  ClientIgnores : (packet : Packet) → client_heeds packet ≡ false → ClientRow ops client s packet (idle s)

-- ---- the controller

-- a job of a snapshot goes on, or is whole
pub data JobRow (config : Config) (c : ControllerState) (job : Job) (out : List Out)
    : Turn ControllerState → Type 0 where
  Gathers : is_whole job ≡ false → JobRow config c job out (turn_of (record c { job = Some job }) out [])
  Completes : is_whole job ≡ true → JobRow config c job out (completes config c (completed job) job.sames)

-- a round goes on, or asks for the tops
pub data RoundRow (config : Config) (c : ControllerState) (r : Round) (out : List Out)
    : Turn ControllerState → Type 0 where
  Waits : asks_tops r ≡ false → RoundRow config c r out (turn_of (record c { round = Some r }) out [])
  AsksTops : asks_tops r ≡ true → RoundRow config c r out (turn_of
      (record c { round = Some (record r { asked = true }) }) (out ++ to_servers 0 config.servers (TopAsk r.number)) [])

abbrev pub stores_item : Config → ControllerState → Eviction → Record → Turn ControllerState
stores_item config c e item =
    turn_of (record c { eviction = Some (storing c.next_job item e); next_job = c.next_job + 1 })
    (store_of config c.next_job item ∷ []) []

abbrev pub sends_removal : ControllerState → Eviction → Packet → Turn ControllerState
sends_removal c e packet = turn_of (record c { eviction = Some (removing e) }) (to_party Switch packet ∷ []) []

-- the eviction that is under way goes on
pub data EvictionRow (config : Config) (c : ControllerState) (e : Eviction)
    : Packet → Turn ControllerState → Type 0 where
  PeekedLatest : (i tag num : ℕ) (body : Option (List ℕ)) → waits_for Peeked i tag e ≡ true
      → EvictionRow config c e (PeekAns i tag true num body) (stores_item config c e (shown_item e num body))
  PeekedOutdated : (i tag num : ℕ) (body : Option (List ℕ)) → waits_for Peeked i tag e ≡ true
      → EvictionRow config c e (PeekAns i tag false num body)
      (sends_removal c e (Remove e.epoch e.slot e.tag false 0))
  ItemStored : (job : ℕ) → waits_job job e ≡ true
      → EvictionRow config c e (Stored job) (sends_removal c e (after_store e))
  RemovalDone : (i tag : ℕ) (latest : Bool) (num : ℕ) (body : Option (List ℕ)) → waits_for Removed i tag e ≡ true
      → EvictionRow config c e (RemoveAns i tag true latest num body) (turn_of
      (record (with_state c e.slot Free) { eviction = None }) [] (Evicted e.slot e.key e.tries ∷ []))
  RemovalAgain : (i tag : ℕ) (latest : Bool) (num : ℕ) (body : Option (List ℕ)) → waits_for Removed i tag e ≡ true
      → nat_eq e.tries TRIES ≡ false
      → EvictionRow config c e (RemoveAns i tag false latest num body) (stores_item config c e (shown_item e num body))
  GivenUp : (i tag : ℕ) (latest : Bool) (num : ℕ) (body : Option (List ℕ)) → waits_for Removed i tag e ≡ true
      → e.tries ≡ TRIES → e.for_want ≡ false
      → EvictionRow config c e (RemoveAns i tag false latest num body) (turn_of
      (record (with_state c e.slot (Held e.key e.tag)) { eviction = None }) [] (KeptNote e.slot e.key num ∷ []))
  GivenUpForWant : (i tag : ℕ) (latest : Bool) (num : ℕ) (body : Option (List ℕ)) → waits_for Removed i tag e ≡ true
      → e.tries ≡ TRIES → e.for_want ≡ true
      → EvictionRow config c e (RemoveAns i tag false latest num body) (turn_of
      (first_want_dropped (record (with_state c e.slot (Held e.key e.tag)) { eviction = None })) []
      (KeptNote e.slot e.key num ∷ []))

-- the snapshot that is under way goes on
pub data SnapshotRow (config : Config) (c : ControllerState) (job : Job) : Packet → Turn ControllerState → Type 0 where
  Begun : (point : ℕ) (t : Turn ControllerState) → has_begun job ≡ false
      → JobRow config c (record job { begun = Some point }) (part_reads c.epoch job.id 0 job.parts) t
      → SnapshotRow config c job (SnapBegun job.id point) t
  PartCame : (i : ℕ) (view : Option Record) (t : Turn ControllerState) → i < length job.parts → has_part job i ≡ false
      → JobRow config c (with_part job i view) [] t → SnapshotRow config c job (SnapPart job.id i view) t
  SameCame : (i : ℕ) (view : Option Record) (t : Turn ControllerState) → slice_get c.last.views i ≡ Some view
      → i < length job.parts → has_part job i ≡ false
      → JobRow config c (with_same job i view) [] t → SnapshotRow config c job (SnapSame job.id i) t

-- the round of recovery that is under way goes on
pub data RecoveryRow (config : Config) (c : ControllerState) (r : Round) : Packet → Turn ControllerState → Type 0 where
  ClientTold : (caller total : ℕ) (item : Option Record) (t : Turn ControllerState) → caller < length r.told
      → has_told (telling_at r caller) ≡ false
      → RoundRow config (record c { next_job = c.next_job + length (store_outs config c.next_job item) })
      (told_round r caller total (length (store_outs config c.next_job item))) (store_outs config c.next_job item) t
      → RecoveryRow config c r (Told r.number caller total item) t
  RoundStored : (job : ℕ) (t : Turn ControllerState) → r.first_job ≤ job → job < c.next_job
      → nat_eq r.stores 0 ≡ false → RoundRow config c (record r { stores = r.stores - 1 }) [] t
      → RecoveryRow config c r (Stored job) t
  TopTold : (server top : ℕ) → r.asked ≡ true → server < length r.tops → slice_index_or r.tops server None ≡ None
      → RecoveryRow config c r (TopIs r.number server top) (turn_of
      (record c { round = Some (record r { tops = slice_set r.tops server (Some top) }) }) [] [])

-- ---- what the controller heeds

abbrev pub heeds_answer : Due → ℕ → ℕ → Option Eviction → Bool
heeds_answer due i tag None = false
heeds_answer due i tag (Some e) = waits_for due i tag e

abbrev pub heeds_begun : ℕ → Option Job → Bool
heeds_begun id None = false
heeds_begun id (Some job) = nat_eq job.id id && not (has_begun job)

abbrev pub heeds_part : ℕ → ℕ → Option Job → Bool
heeds_part id i None = false
heeds_part id i (Some job) = nat_eq job.id id && (nat_lt i (length job.parts) && not (has_part job i))

abbrev pub heeds_told : ℕ → ℕ → Option Round → Bool
heeds_told number caller None = false
heeds_told number caller (Some r) =
    nat_eq r.number number && (nat_lt caller (length r.told) && not (has_told (telling_at r caller)))

abbrev pub heeds_stored : ControllerState → ℕ → Option Round → Bool
heeds_stored c job None = false
heeds_stored c job (Some r) = nat_le r.first_job job && (nat_lt job c.next_job && not (nat_eq r.stores 0))

abbrev pub heeds_top : ℕ → ℕ → Option Round → Bool
heeds_top number server None = false
heeds_top number server (Some r) = nat_eq r.number number
    && (r.asked && (nat_lt server (length r.tops) && not (is_some (slice_index_or r.tops server None))))

-- whether the packet is one that the controller waits for; all others change nothing
abbrev pub heeds : ControllerState → Packet → Bool
heeds c (Hot key) = not (is_some c.round)
heeds c (AdmitAck i tag) = is_admitting tag (state_at c.slots i)
heeds c (PeekAns i tag latest num body) = heeds_answer Peeked i tag c.eviction
heeds c (RemoveAns i tag done latest num body) = heeds_answer Removed i tag c.eviction
heeds c (SnapBegun id point) = heeds_begun id c.job
heeds c (SnapPart id i view) = heeds_part id i c.job
heeds c (SnapSame id i) = is_some (slice_get c.last.views i) && heeds_part id i c.job
heeds c (Stored job) = is_evicting_job job c.eviction || heeds_stored c job c.round
heeds c (Told number caller total item) = heeds_told number caller c.round
heeds c (TopIs number server top) = heeds_top number server c.round
heeds c _ = false

-- the controller takes a packet
pub data RuleRow (config : Config) (c : ControllerState) : Packet → Turn ControllerState → Type 0 where
  Wants : (key : List ℕ) → c.round ≡ None
      → RuleRow config c (Hot key) (idle (record c { wants = c.wants ++ key ∷ [] }))
  Acked : (i tag : ℕ) (key : List ℕ) → state_at c.slots i ≡ Admitting key tag
      → RuleRow config c (AdmitAck i tag) (turn_of (with_state c i (Held key tag)) [] (Admitted i key tag ∷ []))
  Evicts : (e : Eviction) (packet : Packet) (t : Turn ControllerState) → c.eviction ≡ Some e
      → EvictionRow config c e packet t → RuleRow config c packet t
  Snaps : (job : Job) (packet : Packet) (t : Turn ControllerState) → c.job ≡ Some job
      → SnapshotRow config c job packet t → RuleRow config c packet t
  Recovering : (r : Round) (packet : Packet) (t : Turn ControllerState) → c.round ≡ Some r
      → RecoveryRow config c r packet t → RuleRow config c packet t
  Ignores : (packet : Packet) → heeds c packet ≡ false → RuleRow config c packet (idle c)

pub data TickRow (c : ControllerState) : Turn ControllerState → Type 0 where
  WantDropped : (key : List ℕ) (keys : List (List ℕ)) (i : ℕ) → c.round ≡ None → c.wants ≡ key ∷ keys
      → first_place (has_key key) c.slots ≡ Some i → TickRow c (idle (first_want_dropped c))
  WantAdmitted : (key : List ℕ) (keys : List (List ℕ)) (i : ℕ) → c.round ≡ None → c.wants ≡ key ∷ keys
      → first_place (has_key key) c.slots ≡ None → first_place is_free c.slots ≡ Some i
      → TickRow c (admits_want c key i)
  RoomMade : (key : List ℕ) (keys : List (List ℕ)) (i : ℕ) → c.round ≡ None → c.wants ≡ key ∷ keys
      → first_place is_free c.slots ≡ None → victim c.hand c.slots ≡ Some i → c.eviction ≡ None
      → TickRow c (makes_room c i)

pub data OrderRow (s : State) (c : ControllerState) : Order → Turn ControllerState → Type 0 where
  WantOrdered : (step : ℕ) (key : List ℕ) → c.round ≡ None
      → OrderRow s c (AdmitOrder step key) (idle (record c { wants = c.wants ++ key ∷ [] }))
  EvictionOrdered : (step : ℕ) (key : List ℕ) (i : ℕ) → s.running ≡ true → c.eviction ≡ None → c.round ≡ None
      → first_place (holds_key key) c.slots ≡ Some i → OrderRow s c (EvictOrder step key) (evicts c false i)
  NoneToEvict : (step : ℕ) (key : List ℕ) → first_place (holds_key key) c.slots ≡ None
      → OrderRow s c (EvictOrder step key) (idle c)
  SnapshotOrdered : (step : ℕ) → s.running ≡ true → c.job ≡ None → c.round ≡ None
      → OrderRow s c (SnapOrder step) (start_snapshot c)

abbrev pub IsStop : Order → Type 0
IsStop (StopOrder step) = Unit {0}
IsStop (StopAtOrder kind times) = Unit {0}
IsStop _ = ⊥

-- ---- the table

abbrev pub message : Party → Party → Packet → Message
message from to packet = record { from = from; to = to; packet = packet }

abbrev pub ordered : State → State → State
ordered s t = record t { done = s.done + 1 }

pub data Step (plan : PlanView) (k : Keeping) (s : State) : Event → State → Type 0 where
  Sends : (c op : ℕ) (left : List ℕ) → (client_at s c).waits ≡ None → (client_at s c).left ≡ op ∷ left
      → Step plan k s (Send c) (client_turn s c s.bag (turn_of (record (client_at s c) { waits = Some op; left = left })
      (to_party Switch (request c op (line_of plan.ops op)) ∷ []) (Sent op (line_of plan.ops op) ∷ [])))
  ClientTakes : (i : ℕ) (from : Party) (c : ℕ) (packet : Packet) (t : Turn ClientState)
      → slice_get s.bag i ≡ Some (message from (Client c) packet) → ClientRow plan.ops c (client_at s c) packet t
      → Step plan k s (Deliver i) (client_turn s c (remove s.bag i) t)
  Passes : (i : ℕ) (from : Party) (packet : Packet) (p : Passed) → slice_get s.bag i ≡ Some (message from Switch packet)
      → s.running ≡ true → PassRow s.switch packet p
      → Step plan k s (Deliver i) (switch_turn s (remove s.bag i) packet p)
  Serves : (i : ℕ) (from : Party) (n : ℕ) (packet : Packet) (reply : Option Packet)
      → slice_get s.bag i ≡ Some (message from (Server n) packet) → k.reply ≡ reply → ServerRow n packet reply
      → Step plan k s (Deliver i) (server_turn s n (remove s.bag i) packet reply)
  Rules : (i : ℕ) (from : Party) (packet : Packet) (t : Turn ControllerState)
      → slice_get s.bag i ≡ Some (message from Controller packet) → RuleRow plan.config s.controller packet t
      → Step plan k s (Deliver i) (controller_turn s (remove s.bag i) t)
  Ticks : (t : Turn ControllerState) → tick s.controller ≡ Some t → TickRow s.controller t
      → Step plan k s Tick (controller_turn s s.bag t)
  Recovers : can_recover s ≡ true
      → Step plan k s Recover (controller_turn s s.bag (start_recovery plan.config s.controller))
  Restarts : (counter : ℕ) → ready s.controller ≡ Some counter
      → Step plan k s Restart (restarts plan k s (Some counter))
  Orders : (order : Order) (t : Turn ControllerState) → slice_get plan.orders s.done ≡ Some order
      → is_possible s order ≡ true → OrderRow s s.controller order t
      → Step plan k s (OrderOf s.done) (ordered s (controller_turn s s.bag t))
  Stops : (order : Order) → slice_get plan.orders s.done ≡ Some order → IsStop order → s.running ≡ true
      → Step plan k s (OrderOf s.done) (ordered s (stops plan s))

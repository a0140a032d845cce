-- The rules of the controller.
use Rattle.std.specs.Prelude.{ℕ, zero, suc, ◌+◌, ◌-◌, Bool, true, false, ◌&&◌, not, nat_eq, nat_le, nat_lt}
use Rattle.std.specs.Prelude.{if◌then◌else◌, List, [], ◌∷◌, ◌++◌, length, replicate, slice_get, slice_index_or}
use Rattle.std.specs.Prelude.{slice_set, is_some, drop, Option, None, Some}
use Rattle.far_base.specs.declared.log.LogEntry.TheVariants.{Admitted, Evicted, Kept as KeptNote, Snapped}
use Rattle.far_base.specs.declared.packet.Out.{Out}
use Rattle.far_base.specs.declared.packet.Packet.{Packet}
use Rattle.far_base.specs.declared.packet.Packet.TheVariants.{Hot, Admit, AdmitAck, PeekAns, RemoveAns, SnapStart}
use Rattle.far_base.specs.declared.packet.Packet.TheVariants.{SnapBegun, SnapPart, Store, Stored, Release, Ask, Told}
use Rattle.far_base.specs.declared.packet.Packet.TheVariants.{TopAsk, TopIs, SnapSame, SnapFrom}
use Rattle.far_base.specs.declared.party.Party.TheVariants.{Client, Switch, Server}
use Rattle.far_base.specs.declared.plan.Config.{Config}
use Rattle.far_base.specs.declared.record.Record.{Record}
use Rattle.far_base.specs.declared.slot_state.SlotState.{SlotState}
use Rattle.far_base.specs.declared.slot_state.SlotState.TheVariants.{Free, Admitting, Held, Evicting}
use Rattle.far_base.specs.declared.slot_state.Due.TheVariants.{Peeked, Removed}
use Rattle.far_model.specs.Evictions.{Eviction, Next, Send, Store as StoreNext, Done, Kept, is_free, has_key, holds_key}
use Rattle.far_model.specs.Evictions.{is_admitting, first_place, state_at, key_in, tag_in, victim, hand_after}
use Rattle.far_model.specs.Evictions.{begins_eviction, peek_of, after_peek, after_store, after_removal, waits_for}
use Rattle.far_model.specs.Evictions.{waits_job, storing, removing}
use Rattle.far_model.specs.Parties.{Turn, idle, to_party}
use Rattle.far_model.specs.Rounds.{Round, new_round, has_told, tells_one, telling_at, asks_tops, ready_counter}
use Rattle.far_model.specs.Snapshots.{Job, SnapshotView, no_snapshot, new_job, has_part, has_begun, is_whole, completed}
use Rattle.far_model.specs.Snapshots.{part_reads, view_items, view_records, with_part, with_same}
use Rattle.far_model.specs.View.{server_of}

pub record ControllerState : Type 0 where
  pub epoch : ℕ
  pub slots : List SlotState
  pub next_tag : ℕ
  pub hand : ℕ
  pub wants : List (List ℕ)
  pub eviction : Option Eviction
  pub job : Option Job
  pub last : SnapshotView
  pub last_epoch : ℕ
  pub round : Option Round
  pub next_job : ℕ
  pub next_id : ℕ
  pub next_round : ℕ

abbrev pub opening_controller : Config → ControllerState
opening_controller config = record {
  epoch = 1;
  slots = replicate config.slots Free;
  next_tag = 1;
  hand = 0;
  wants = [];
  eviction = None;
  job = None;
  last = no_snapshot;
  last_epoch = 0;
  round = None;
  next_job = 1;
  next_id = 1;
  next_round = 1;
}

abbrev pub with_state : ControllerState → ℕ → SlotState → ControllerState
with_state c i state = record c { slots = slice_set c.slots i state }

-- one message for each of so many parties, from number n on
abbrev pub to_clients : ℕ → ℕ → Packet → List Out
to_clients n zero packet = []
to_clients n (suc more) packet = to_party (Client n) packet ∷ to_clients (suc n) more packet

abbrev pub to_servers : ℕ → ℕ → Packet → List Out
to_servers n zero packet = []
to_servers n (suc more) packet = to_party (Server n) packet ∷ to_servers (suc n) more packet

abbrev pub store_of : Config → ℕ → Record → Out
store_of config job item = to_party (Server (server_of config item.key)) (Store job item)

-- ---- wants

abbrev pub wanted : List ℕ → ControllerState → ControllerState
wanted key c = if is_some c.round then c else record c { wants = c.wants ++ key ∷ [] }

abbrev pub first_want_dropped : ControllerState → ControllerState
first_want_dropped c = record c { wants = drop 1 c.wants }

-- a free slot is bound to the first want under the next tag
abbrev pub admits_want : ControllerState → List ℕ → ℕ → Turn ControllerState
admits_want c key i = record {
  state = record (first_want_dropped (with_state c i (Admitting key c.next_tag))) { next_tag = c.next_tag + 1 };
  out = to_party Switch (Admit c.epoch i key c.next_tag) ∷ [];
  notes = [];
}

-- the slot is to be freed
abbrev pub evicts : ControllerState → Bool → ℕ → Turn ControllerState
evicts c for_want i =
    let state = state_at c.slots i in
    let e = begins_eviction c.epoch i (key_in state) (tag_in state) for_want in record {
      state = record (with_state c i (Evicting e.key e.tag)) { eviction = Some e };
      out = to_party Switch (peek_of e) ∷ [];
      notes = [];
    }

-- the victim makes room for the first want
abbrev pub makes_room : ControllerState → ℕ → Turn ControllerState
makes_room c i = evicts (record c { hand = hand_after i c.slots }) true i

abbrev pub tick_room : ControllerState → Option ℕ → Option (Turn ControllerState)
tick_room c None = None
tick_room c (Some i) = if is_some c.eviction then None else Some (makes_room c i)

abbrev pub tick_free : ControllerState → List ℕ → Option ℕ → Option (Turn ControllerState)
tick_free c key None = tick_room c (victim c.hand c.slots)
tick_free c key (Some i) = Some (admits_want c key i)

abbrev pub tick_want : ControllerState → List ℕ → Option ℕ → Option (Turn ControllerState)
tick_want c key (Some i) = Some (idle (first_want_dropped c))
tick_want c key None = tick_free c key (first_place is_free c.slots)

abbrev pub tick_wants : ControllerState → List (List ℕ) → Option (Turn ControllerState)
tick_wants c [] = None
tick_wants c (key ∷ keys) = tick_want c key (first_place (has_key key) c.slots)

-- the first want is served: dropped where a slot has its key, admitted where a slot is free, else a victim is sought;
-- none of this where there is no want, in a round, or while an eviction is under way and no slot is free
abbrev pub tick : ControllerState → Option (Turn ControllerState)
tick c = if is_some c.round then None else tick_wants c c.wants

-- the order to evict: a held slot with the key is to be freed
abbrev pub evict_held : ControllerState → Option ℕ → Turn ControllerState
evict_held c None = idle c
evict_held c (Some i) = evicts c false i

abbrev pub evict_key : List ℕ → ControllerState → Turn ControllerState
evict_key key c = evict_held c (first_place (holds_key key) c.slots)

-- ---- admissions

abbrev pub acked_state : SlotState → SlotState
acked_state s = Held (key_in s) (tag_in s)

-- an admitting slot with that tag is held
abbrev pub acknowledged : ControllerState → ℕ → ℕ → Turn ControllerState
acknowledged c i tag = if is_admitting tag (state_at c.slots i)
    then record {
      state = with_state c i (acked_state (state_at c.slots i));
      out = [];
      notes = Admitted i (key_in (state_at c.slots i)) tag ∷ [];
    }
    else idle c

-- ---- evictions

abbrev pub drop_want_if : Bool → ControllerState → ControllerState
drop_want_if for_want c = if for_want then first_want_dropped c else c

abbrev pub evicts_on : Config → ControllerState → Eviction → Next → Turn ControllerState
evicts_on config c e (Send packet) = record {
  state = record c { eviction = Some (removing e) };
  out = to_party Switch packet ∷ [];
  notes = [];
}
evicts_on config c e (StoreNext item) = record {
  state = record c { eviction = Some (storing c.next_job item e); next_job = c.next_job + 1 };
  out = store_of config c.next_job item ∷ [];
  notes = [];
}
evicts_on config c e (Done tries) = record {
  state = record (with_state c e.slot Free) { eviction = None };
  out = [];
  notes = Evicted e.slot e.key tries ∷ [];
}
evicts_on config c e (Kept tries last) = record {
  state = drop_want_if e.for_want (record (with_state c e.slot (Held e.key e.tag)) { eviction = None });
  out = [];
  notes = KeptNote e.slot e.key last.num ∷ [];
}

abbrev pub peek_answered : Config → ControllerState → ℕ → ℕ → Bool → ℕ → Option (List ℕ) → Option Eviction
    → Turn ControllerState
peek_answered config c i tag latest num body None = idle c
peek_answered config c i tag latest num body (Some e) = if waits_for Peeked i tag e
    then evicts_on config c e (after_peek e latest num body) else idle c

abbrev pub removal_answered : Config → ControllerState → ℕ → ℕ → Bool → ℕ → Option (List ℕ) → Option Eviction
    → Turn ControllerState
removal_answered config c i tag done num body None = idle c
removal_answered config c i tag done num body (Some e) = if waits_for Removed i tag e
    then evicts_on config c e (after_removal e done num body) else idle c

-- ---- snapshots

-- whether the last completed snapshot is of the present epoch
abbrev pub is_last_present : ControllerState → Bool
is_last_present c = nat_eq c.last_epoch c.epoch && nat_lt 0 c.last.id

-- a snapshot begins by difference where the last completed one is of the present epoch
abbrev pub start_packet : ControllerState → Packet
start_packet c = if is_last_present c then SnapFrom c.epoch c.next_id c.last.id else SnapStart c.epoch c.next_id

-- the order to take a snapshot
abbrev pub start_snapshot : ControllerState → Turn ControllerState
start_snapshot c = record {
  state = record c { job = Some (new_job c.next_id (length c.slots)); next_id = c.next_id + 1 };
  out = to_party Switch (start_packet c) ∷ [];
  notes = [];
}

-- a whole job is the last completed snapshot, and all clients are told its point
abbrev pub completes : Config → ControllerState → SnapshotView → ℕ → Turn ControllerState
completes config c s sames = record {
  state = record c { job = None; last = s; last_epoch = c.epoch };
  out = to_clients 0 config.clients (Release s.point);
  notes = Snapped s.id s.point (length (view_records s.views)) sames ∷ view_items 0 s.views;
}

abbrev pub job_turn : Config → ControllerState → Job → List Out → Turn ControllerState
job_turn config c job out = if is_whole job then completes config c (completed job) job.sames
    else record { state = record c { job = Some job }; out = out; notes = [] }

abbrev pub snapshot_begun : Config → ControllerState → ℕ → ℕ → Option Job → Turn ControllerState
snapshot_begun config c id point None = idle c
snapshot_begun config c id point (Some job) = if nat_eq job.id id && not (has_begun job)
    then job_turn config c (record job { begun = Some point }) (part_reads c.epoch id 0 job.parts)
    else idle c

abbrev pub part_came : Config → ControllerState → ℕ → ℕ → Option Record → Option Job → Turn ControllerState
part_came config c id i view None = idle c
part_came config c id i view (Some job) = if nat_eq job.id id && (nat_lt i (length job.parts) && not (has_part job i))
    then job_turn config c (with_part job i view) []
    else idle c

-- the last completed snapshot's view of the slot, where it has one, is added as the part
abbrev pub same_part : Config → ControllerState → ℕ → ℕ → Job → Option (Option Record) → Turn ControllerState
same_part config c id i job None = idle c
same_part config c id i job (Some view) = if nat_eq job.id id && (nat_lt i (length job.parts) && not (has_part job i))
    then job_turn config c (with_same job i view) []
    else idle c

abbrev pub same_came : Config → ControllerState → ℕ → ℕ → Option Job → Turn ControllerState
same_came config c id i None = idle c
same_came config c id i (Some job) = same_part config c id i job (slice_get c.last.views i)

-- ---- rounds of recovery

-- the next jobs for records, in order
abbrev pub stores_of : Config → ℕ → List Record → List Out
stores_of config job [] = []
stores_of config job (r ∷ rs) = store_of config job r ∷ stores_of config (suc job) rs

abbrev pub numbered_records : List Record → List Record
numbered_records [] = []
numbered_records (r ∷ rs) = if nat_eq r.num 0 then numbered_records rs else r ∷ numbered_records rs

-- what a recovery stores of the last completed snapshot
abbrev pub snapshot_stores : ControllerState → List Record
snapshot_stores c = numbered_records (view_records c.last.views)

-- recovery begins: all that concerned the lost memory is dropped, clients are asked, and the snapshot is stored
abbrev pub start_recovery : Config → ControllerState → Turn ControllerState
start_recovery config c = let items = snapshot_stores c in record {
  state = record c {
    slots = replicate (length c.slots) Free;
    hand = 0;
    wants = [];
    eviction = None;
    job = None;
    round = Some (new_round c.next_round c.next_job config.clients config.servers (length items));
    next_job = c.next_job + length items;
    next_round = c.next_round + 1;
  };
  out = to_clients 0 config.clients (Ask c.next_round) ++ stores_of config c.next_job items;
  notes = [];
}

abbrev pub store_outs : Config → ℕ → Option Record → List Out
store_outs config job None = []
store_outs config job (Some item) = store_of config job item ∷ []

-- the tops are asked once all is told and stored
abbrev pub round_turn : Config → ControllerState → Round → List Out → Turn ControllerState
round_turn config c r out = if asks_tops r
    then record {
      state = record c { round = Some (record r { asked = true }) };
      out = out ++ to_servers 0 config.servers (TopAsk r.number);
      notes = [];
    }
    else record { state = record c { round = Some r }; out = out; notes = [] }

abbrev pub told_round : Round → ℕ → ℕ → ℕ → Round
told_round r caller total stores = record r {
  told = slice_set r.told caller (tells_one total (telling_at r caller));
  stores = r.stores + stores;
}

abbrev pub client_told : Config → ControllerState → ℕ → ℕ → ℕ → Option Record → Option Round → Turn ControllerState
client_told config c number caller total item None = idle c
client_told config c number caller total item (Some r) = if nat_eq r.number number
    && (nat_lt caller (length r.told) && not (has_told (telling_at r caller)))
    then (let new = length (store_outs config c.next_job item) in
    let outs = store_outs config c.next_job item in
    round_turn config (record c { next_job = c.next_job + new }) (told_round r caller total new) outs)
    else idle c

abbrev pub round_stored : Config → ControllerState → ℕ → Option Round → Turn ControllerState
round_stored config c job None = idle c
round_stored config c job (Some r) = if nat_le r.first_job job && (nat_lt job c.next_job && not (nat_eq r.stores 0))
    then round_turn config c (record r { stores = r.stores - 1 }) []
    else idle c

abbrev pub is_evicting_job : ℕ → Option Eviction → Bool
is_evicting_job job None = false
is_evicting_job job (Some e) = waits_job job e

abbrev pub store_answered : Config → ControllerState → ℕ → Option Eviction → Turn ControllerState
store_answered config c job None = round_stored config c job c.round
store_answered config c job (Some e) = if waits_job job e
    then record {
      state = record c { eviction = Some (removing e) };
      out = to_party Switch (after_store e) ∷ [];
      notes = [];
    }
    else round_stored config c job c.round

abbrev pub top_told : Config → ControllerState → ℕ → ℕ → ℕ → Option Round → Turn ControllerState
top_told config c number server top None = idle c
top_told config c number server top (Some r) = if nat_eq r.number number
    && (r.asked && (nat_lt server (length r.tops) && not (is_some (slice_index_or r.tops server None))))
    then record {
      state = record c { round = Some (record r { tops = slice_set r.tops server (Some top) }) };
      out = [];
      notes = [];
    }
    else idle c

abbrev pub ready_in : Option Round → Option ℕ
ready_in None = None
ready_in (Some r) = ready_counter r

-- the new counter, where a round is ready
abbrev pub ready : ControllerState → Option ℕ
ready c = ready_in c.round

-- the round ends and the epoch rises
abbrev pub restarted : ControllerState → ControllerState
restarted c = record c { epoch = c.epoch + 1; round = None }

-- ---- the rule for a packet

abbrev pub controller_takes : Config → ControllerState → Packet → Turn ControllerState
controller_takes config c (Hot key) = idle (wanted key c)
controller_takes config c (AdmitAck i tag) = acknowledged c i tag
controller_takes config c (PeekAns i tag latest num body) = peek_answered config c i tag latest num body c.eviction
controller_takes config c (RemoveAns i tag done latest num body) =
    removal_answered config c i tag done num body c.eviction
controller_takes config c (SnapBegun id point) = snapshot_begun config c id point c.job
controller_takes config c (SnapPart id i view) = part_came config c id i view c.job
controller_takes config c (SnapSame id i) = same_came config c id i c.job
controller_takes config c (Stored job) = store_answered config c job c.eviction
controller_takes config c (Told number caller total item) = client_told config c number caller total item c.round
controller_takes config c (TopIs number server top) = top_told config c number server top c.round
controller_takes config c _ = idle c

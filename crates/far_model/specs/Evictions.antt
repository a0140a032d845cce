-- Slots as the controller knows them, and one eviction: peek, store at the server, remove, at most three times.
use Rattle.std.specs.Prelude.{ℕ, ◌+◌, Bool, true, false, ◌&&◌, nat_eq, if◌then◌else◌, List, [], ◌∷◌, length, take, drop}
use Rattle.std.specs.Prelude.{slice_index_or, Option, None, Some}
use Rattle.far_base.specs.declared.packet.Packet.{Packet}
use Rattle.far_base.specs.declared.packet.Packet.TheVariants.{Peek, Remove}
use Rattle.far_base.specs.declared.record.Record.{Record}
use Rattle.far_base.specs.declared.slot_state.SlotState.{SlotState}
use Rattle.far_base.specs.declared.slot_state.SlotState.TheVariants.{Free, Admitting, Held, Evicting}
use Rattle.far_base.specs.declared.slot_state.Due.{Due}
use Rattle.far_base.specs.declared.slot_state.Due.TheVariants.{Peeked, Stored, Removed, Over}
use Rattle.far_model.specs.Log.{same_key}
use Rattle.far_model.specs.View.{next_place}

-- ---- the slots

abbrev pub is_free : SlotState → Bool
is_free Free = true
is_free _ = false

abbrev pub is_held : SlotState → Bool
is_held (Held key tag) = true
is_held _ = false

-- whether a slot is not free and has the key
abbrev pub has_key : List ℕ → SlotState → Bool
has_key key Free = false
has_key key (Admitting other tag) = same_key other key
has_key key (Held other tag) = same_key other key
has_key key (Evicting other tag) = same_key other key

-- whether a slot is held and has the key
abbrev pub holds_key : List ℕ → SlotState → Bool
holds_key key (Held other tag) = same_key other key
holds_key key _ = false

abbrev pub is_admitting : ℕ → SlotState → Bool
is_admitting tag (Admitting key own) = nat_eq own tag
is_admitting tag _ = false

-- the first place that passes
abbrev pub first_place : {X : Type 0} → (X → Bool) → List X → Option ℕ
first_place p [] = None
first_place p (x ∷ xs) = if p x then Some 0 else next_place (first_place p xs)

abbrev pub state_at : List SlotState → ℕ → SlotState
state_at slots i = slice_index_or slots i Free

abbrev pub key_in : SlotState → List ℕ
key_in Free = []
key_in (Admitting key tag) = key
key_in (Held key tag) = key
key_in (Evicting key tag) = key

abbrev pub tag_in : SlotState → ℕ
tag_in Free = 0
tag_in (Admitting key tag) = tag
tag_in (Held key tag) = tag
tag_in (Evicting key tag) = tag

abbrev pub moved_on : ℕ → Option ℕ → Option ℕ
moved_on n None = None
moved_on n (Some i) = Some (n + i)

abbrev pub or_from_front : Option ℕ → Option ℕ → Option ℕ
or_from_front (Some i) front = Some i
or_from_front None front = front

-- the first held slot from the hand on, going round
abbrev pub victim : ℕ → List SlotState → Option ℕ
victim hand slots =
    or_from_front (moved_on hand (first_place is_held (drop hand slots))) (first_place is_held (take hand slots))

-- the hand stands after the victim, and after the last slot at 0 again
abbrev pub hand_after : ℕ → List SlotState → ℕ
hand_after i slots = if nat_eq (i + 1) (length slots) then 0 else i + 1

-- ---- one eviction

-- the slot, what it waits for, the removals sent so far, and the job and record of its last store
pub record Eviction : Type 0 where
  pub epoch : ℕ
  pub slot : ℕ
  pub key : List ℕ
  pub tag : ℕ
  pub for_want : Bool
  pub due : Due
  pub tries : ℕ
  pub job : ℕ
  pub item : Record

abbrev pub TRIES : ℕ
TRIES = 3

-- what comes next
pub data Next : Type 0 where
  Send : (packet : Packet) → Next
  Store : (item : Record) → Next
  Done : (tries : ℕ) → Next
  Kept : (tries : ℕ) (last : Record) → Next

abbrev pub no_item : List ℕ → Record
no_item key = record { key = key; num = 0; body = None }

-- an eviction begins with a look at the slot
abbrev pub begins_eviction : ℕ → ℕ → List ℕ → ℕ → Bool → Eviction
begins_eviction epoch slot key tag for_want = record {
  epoch = epoch;
  slot = slot;
  key = key;
  tag = tag;
  for_want = for_want;
  due = Peeked;
  tries = 0;
  job = 0;
  item = no_item key;
}

abbrev pub peek_of : Eviction → Packet
peek_of e = Peek e.epoch e.slot e.tag

abbrev pub shown_item : Eviction → ℕ → Option (List ℕ) → Record
shown_item e num body = record { key = e.key; num = num; body = body }

-- a latest slot's record goes to its server first; an outdated one can be removed at once
abbrev pub after_peek : Eviction → Bool → ℕ → Option (List ℕ) → Next
after_peek e latest num body = if latest then Store (shown_item e num body)
    else Send (Remove e.epoch e.slot e.tag false 0)

-- what was stored may be removed, where the slot still has that number
abbrev pub after_store : Eviction → Packet
after_store e = Remove e.epoch e.slot e.tag true e.item.num

-- a slot that changed meanwhile is stored again, and after the third removal it stays
abbrev pub after_removal : Eviction → Bool → ℕ → Option (List ℕ) → Next
after_removal e done num body = if done then Done e.tries
    else (if nat_eq e.tries TRIES then Kept TRIES (shown_item e num body) else Store (shown_item e num body))

-- whether the eviction waits for this answer of this slot and tag
abbrev pub is_due : Due → Due → Bool
is_due Peeked Peeked = true
is_due Stored Stored = true
is_due Removed Removed = true
is_due Over Over = true
is_due _ _ = false

abbrev pub waits_for : Due → ℕ → ℕ → Eviction → Bool
waits_for due slot tag e = is_due e.due due && (nat_eq e.slot slot && nat_eq e.tag tag)

abbrev pub waits_job : ℕ → Eviction → Bool
waits_job job e = is_due e.due Stored && nat_eq e.job job

abbrev pub storing : ℕ → Record → Eviction → Eviction
storing job item e = record e { due = Stored; job = job; item = item }

abbrev pub removing : Eviction → Eviction
removing e = record e { due = Removed; tries = e.tries + 1 }

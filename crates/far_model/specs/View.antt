-- What contracts see of a switch.
use Rattle.std.specs.Prelude.{ℕ, suc, ◌%◌, Bool, true, false, ◌&&◌, nat_eq, if◌then◌else◌, List, [], ◌∷◌, map}
use Rattle.std.specs.Prelude.{replicate, slice_set, slice_index_or, sum, Option, None, Some}
use Rattle.far_base.specs.declared.plan.Config.{Config}
use Rattle.far_base.specs.declared.record.Record.{Record}
use Rattle.far_model.specs.Log.{same_key}

-- a slot: whether it is valid, and of which key and tag; where it is latest it has a record of the key, and where it is
-- outdated a number alone
pub record SlotView : Type 0 where
  pub key : Option (List ℕ)
  pub tag : ℕ
  pub valid : Bool
  pub latest : Bool
  pub num : ℕ
  pub body : Option (List ℕ)

-- a slot that holds no key
abbrev pub empty_slot : SlotView
empty_slot = record { key = None; tag = 0; valid = false; latest = false; num = 0; body = None }

-- how often keys of one cell were met in an era
pub record HotCell : Type 0 where
  pub era : ℕ
  pub count : ℕ

abbrev pub HOT_CELLS : ℕ
HOT_CELLS = 256

-- what is remembered of a record: its key and number
pub record Mark : Type 0 where
  pub key : List ℕ
  pub num : ℕ

abbrev pub mark_of : Option Record → Option Mark
mark_of None = None
mark_of (Some r) = Some (record { key = r.key; num = r.num })

abbrev pub same_mark : Option Mark → Option Mark → Bool
same_mark None None = true
same_mark None (Some b) = false
same_mark (Some a) None = false
same_mark (Some a) (Some b) = same_key a.key b.key && nat_eq a.num b.num

-- the switch: per slot the key that is bound to it, the slot, the era in which its last part of a snapshot was taken,
-- and the mark that it had when that part was taken; `base` is the snapshot that parts may refer to, or 0
pub record SwitchView : Type 0 where
  pub config : Config
  pub epoch : ℕ
  pub counter : ℕ
  pub snap : ℕ
  pub base : ℕ
  pub bound : List (Option (List ℕ))
  pub slots : List SlotView
  pub taken : List ℕ
  pub shown : List (Option Mark)
  pub hot : List HotCell

-- a switch with no memory but these
abbrev pub opening_view : Config → ℕ → ℕ → SwitchView
opening_view config epoch counter = record {
  config = config;
  epoch = epoch;
  counter = counter;
  snap = 0;
  base = 0;
  bound = replicate config.slots None;
  slots = replicate config.slots empty_slot;
  taken = replicate config.slots 0;
  shown = replicate config.slots None;
  hot = replicate HOT_CELLS (record { era = 0; count = 0 });
}

-- the server of a key
abbrev pub server_of : Config → List ℕ → ℕ
server_of config key = sum key % config.servers

abbrev pub slot_at : SwitchView → ℕ → SlotView
slot_at v i = slice_index_or v.slots i empty_slot

abbrev pub is_key_there : List ℕ → Option (List ℕ) → Bool
is_key_there key None = false
is_key_there key (Some other) = same_key key other

abbrev pub next_place : Option ℕ → Option ℕ
next_place None = None
next_place (Some i) = Some (suc i)

-- the first slot that the key is bound to
abbrev pub bound_place : List ℕ → List (Option (List ℕ)) → Option ℕ
bound_place key [] = None
bound_place key (b ∷ bs) = if is_key_there key b then Some 0 else next_place (bound_place key bs)

-- whether a slot is valid and of the key
abbrev pub is_slot_of : List ℕ → SlotView → Bool
is_slot_of key slot = slot.valid && is_key_there key slot.key

abbrev pub entry_if : List ℕ → SwitchView → Option ℕ → Option ℕ
entry_if key v None = None
entry_if key v (Some i) = if is_slot_of key (slot_at v i) then Some i else None

-- the place of the entry of a key: the slot that is bound to the key, is valid and has the key
abbrev pub entry_place : List ℕ → SwitchView → Option ℕ
entry_place key v = entry_if key v (bound_place key v.bound)

abbrev pub unbound : List ℕ → Option (List ℕ) → Option (List ℕ)
unbound key b = if is_key_there key b then None else b

-- the key is bound to the slot, and to no other
abbrev pub bind_key : List ℕ → ℕ → List (Option (List ℕ)) → List (Option (List ℕ))
bind_key key i bound = slice_set (map (unbound key) bound) i (Some key)

abbrev pub keyed_record : Option (List ℕ) → ℕ → Option (List ℕ) → Option Record
keyed_record None num body = None
keyed_record (Some key) num body = Some (record { key = key; num = num; body = body })

-- the record that a slot holds: of a latest slot alone
abbrev pub held_record : SlotView → Option Record
held_record slot = if slot.latest then keyed_record slot.key slot.num slot.body else None

-- an outdated slot shows no body
abbrev pub shown_body : SlotView → Option (List ℕ)
shown_body slot = if slot.latest then slot.body else None

abbrev pub taken_at : SwitchView → ℕ → ℕ
taken_at v i = slice_index_or v.taken i 0

abbrev pub shown_at : SwitchView → ℕ → Option Mark
shown_at v i = slice_index_or v.shown i None

-- whether the slot's part of the present snapshot was taken; with no snapshot all are
abbrev pub is_taken : SwitchView → ℕ → Bool
is_taken v i = nat_eq (taken_at v i) v.snap

-- One pass of a packet through the switch: the table of cases.
use Rattle.std.specs.Prelude.{ℕ, ◌+◌, ◌%◌, max, Bool, true, false, not, ◌&&◌, nat_lt, nat_le, nat_eq, if◌then◌else◌}
use Rattle.std.specs.Prelude.{List, [], ◌∷◌, ◌++◌, slice_set, slice_index_or, Option, None, Some}
use Rattle.far_base.specs.Key.{weighted_sum}
use Rattle.far_base.specs.declared.log.LogEntry.{LogEntry}
use Rattle.far_base.specs.declared.log.LogEntry.TheVariants.{Numbered, Emitted}
use Rattle.far_base.specs.declared.packet.Out.{Out}
use Rattle.far_base.specs.declared.packet.Packet.{Packet}
use Rattle.far_base.specs.declared.packet.Packet.TheVariants.{GetReq, WriteReq, GetFwd, WriteFwd, GetRep, WriteRep}
use Rattle.far_base.specs.declared.packet.Packet.TheVariants.{GetAns, WriteAns, Hot, Admit, AdmitAck, Peek, PeekAns}
use Rattle.far_base.specs.declared.packet.Packet.TheVariants.{Remove, RemoveAns, SnapStart, SnapBegun, SnapRead}
use Rattle.far_base.specs.declared.packet.Packet.TheVariants.{SnapPart, SnapSame, SnapFrom}
use Rattle.far_base.specs.declared.party.Party.{Party}
use Rattle.far_base.specs.declared.record.Record.{Record}
use Rattle.far_base.specs.declared.party.Party.TheVariants.{Client, Server, Controller}
use Rattle.far_model.specs.View.{SlotView, SwitchView, HotCell, HOT_CELLS, slot_at, entry_place, server_of, bind_key}
use Rattle.far_model.specs.View.{held_record, shown_body, mark_of, same_mark, taken_at, shown_at, is_taken, empty_slot}

-- what a pass leaves: the view, and at most two packets
pub record Passed : Type 0 where
  pub view : SwitchView
  pub first : Option Out
  pub second : Option Out

abbrev pub sent_to : Party → Packet → Option Out
sent_to to packet = Some (record { to = to; packet = packet })

-- a packet that is dropped: no change and nothing out
abbrev pub dropped : SwitchView → Passed
dropped v = record { view = v; first = None; second = None }

-- ---- hot cells

abbrev pub in_era : ℕ → HotCell → HotCell
in_era era cell = if nat_eq cell.era era then cell else record { era = era; count = 0 }

-- the count rises, and begins anew where it reaches `hot`; with `hot` 0 nothing is counted
abbrev pub counted : ℕ → HotCell → HotCell
counted hot cell = if nat_eq hot 0 then cell
    else record { era = cell.era; count = if nat_le hot (cell.count + 1) then 0 else cell.count + 1 }

-- whether the key has grown hot by this touch
abbrev pub grows_hot : ℕ → HotCell → Bool
grows_hot hot cell = if nat_eq hot 0 then false else nat_le hot (cell.count + 1)

abbrev pub cell_of : List ℕ → ℕ
cell_of key = weighted_sum 1 key % HOT_CELLS

abbrev pub hot_cell : List ℕ → SwitchView → HotCell
hot_cell key v = in_era v.snap (slice_index_or v.hot (cell_of key) (record { era = 0; count = 0 }))

-- the key's hot cell is touched
abbrev pub touched : List ℕ → SwitchView → SwitchView
touched key v = record v { hot = slice_set v.hot (cell_of key) (counted v.config.hot (hot_cell key v)) }

abbrev pub told_hot : List ℕ → SwitchView → Option Out
told_hot key v = if grows_hot v.config.hot (hot_cell key v) then sent_to Controller (Hot key) else None

-- ---- the first change of a slot in an era

-- whether the slot's last part was of the snapshot that parts may refer to, and it has the same mark now
abbrev pub is_as_before : SwitchView → ℕ → Bool
is_as_before v i = nat_lt 0 v.base
    && (nat_eq (taken_at v i) v.base && same_mark (shown_at v i) (mark_of (held_record (slot_at v i))))

-- the part of a slot that leaves: what the slot holds before it changes
abbrev pub part_packet : SwitchView → ℕ → Packet
part_packet v i = if is_as_before v i then SnapSame v.snap i else SnapPart v.snap i (held_record (slot_at v i))

abbrev pub part_of : SwitchView → ℕ → Option Out
part_of v i = sent_to Controller (part_packet v i)

abbrev pub with_slot : SwitchView → ℕ → SlotView → SwitchView
with_slot v i slot = record v { slots = slice_set v.slots i slot }

-- the slot's part is taken, and its mark is that of this view
abbrev pub with_taken : SwitchView → ℕ → Option Record → SwitchView
with_taken v i view = record v { taken = slice_set v.taken i v.snap; shown = slice_set v.shown i (mark_of view) }

-- the record of slot i is set or taken away: where its part was not taken, it leaves now
abbrev pub changed_view : SwitchView → ℕ → SlotView → SwitchView
changed_view v i slot = if is_taken v i then with_slot v i slot
    else with_taken (with_slot v i slot) i (held_record (slot_at v i))

abbrev pub part_left : SwitchView → ℕ → Option Out
part_left v i = if is_taken v i then None else part_of v i

abbrev pub changes : SwitchView → ℕ → SlotView → Option Out → Passed
changes v i slot out = record { view = changed_view v i slot; first = out; second = part_left v i }

-- ---- reads and writes

abbrev pub read_at : SwitchView → ℕ → ℕ → List ℕ → SlotView → Passed
read_at v caller op key slot = record {
  view = v;
  first = if slot.latest
      then sent_to (Client caller) (GetAns caller op key slot.num slot.body true)
      else sent_to (Server (server_of v.config key)) (GetFwd caller op key slot.tag);
  second = None;
}

-- a read: answered by a latest entry, else forwarded, with the tag of an outdated entry
abbrev pub read_passes : SwitchView → ℕ → ℕ → List ℕ → Option ℕ → Passed
read_passes v caller op key (Some i) = read_at v caller op key (slot_at v i)
read_passes v caller op key None = record {
  view = touched key v;
  first = sent_to (Server (server_of v.config key)) (GetFwd caller op key 0);
  second = told_hot key v;
}

-- the slot takes a record, and is latest
abbrev pub absorbing : ℕ → Option (List ℕ) → SlotView → SlotView
absorbing num body slot = record slot { latest = true; num = num; body = body }

-- a write that has got the counter's number: absorbed by an entry, else forwarded
abbrev pub write_passes : SwitchView → ℕ → ℕ → List ℕ → Option (List ℕ) → Option ℕ → Passed
write_passes v caller op key body (Some i) =
    changes v i (absorbing v.counter body (slot_at v i))
    (sent_to (Client caller) (WriteAns caller op key v.counter true))
write_passes v caller op key body None = record {
  view = touched key v;
  first = sent_to (Server (server_of v.config key)) (WriteFwd caller op key v.counter body);
  second = told_hot key v;
}

abbrev pub numbered : SwitchView → SwitchView
numbered v = record v { counter = v.counter + 1 }

-- ---- replies of servers

abbrev pub is_tag : Option ℕ → ℕ → Bool
is_tag None own = false
is_tag (Some tag) own = nat_eq tag own

-- whether an entry takes the record of a reply: a latest one where the reply is newer; an outdated one where the
-- reply answers a read that left under the entry's tag, and is no older than what the entry knows
abbrev pub takes_reply : Option ℕ → ℕ → SlotView → Bool
takes_reply tag num slot = if slot.latest then nat_lt slot.num num else is_tag tag slot.tag && nat_le slot.num num

-- an outdated entry that does not take the record knows its number from now on
abbrev pub raised : ℕ → SlotView → SlotView
raised num slot = if slot.latest then slot else record slot { num = max slot.num num }

abbrev pub reply_passes : SwitchView → Option ℕ → ℕ → Option (List ℕ) → Option Out → Option ℕ → Passed
reply_passes v tag num body out None = record { view = v; first = out; second = None }
reply_passes v tag num body out (Some i) = if takes_reply tag num (slot_at v i)
    then changes v i (absorbing num body (slot_at v i)) out
    else record { view = with_slot v i (raised num (slot_at v i)); first = out; second = None }

-- ---- what the controller asks

-- a control packet is dropped where its epoch is not the switch's, or its slot is not there
abbrev pub is_slot_there : SwitchView → ℕ → ℕ → Bool
is_slot_there v epoch i = nat_eq epoch v.epoch && nat_lt i v.config.slots

-- a slot that is not valid takes the key and the tag, and is outdated
abbrev pub admitted : List ℕ → ℕ → SlotView → SlotView
admitted key tag slot = if slot.valid then slot
    else record { key = Some key; tag = tag; valid = true; latest = false; num = 0; body = None }

abbrev pub admits : SwitchView → ℕ → List ℕ → ℕ → Passed
admits v i key tag = record {
  view = with_slot (record v { bound = bind_key key i v.bound }) i (admitted key tag (slot_at v i));
  first = if (slot_at v i).valid then None else sent_to Controller (AdmitAck i tag);
  second = None;
}

-- whether the slot is valid and still of this tag
abbrev pub is_under : ℕ → SlotView → Bool
is_under tag slot = slot.valid && nat_eq slot.tag tag

abbrev pub peeks : SwitchView → ℕ → ℕ → SlotView → Passed
peeks v i tag slot = record {
  view = v;
  first = if is_under tag slot
      then sent_to Controller (PeekAns i tag slot.latest slot.num (shown_body slot))
      else sent_to Controller (PeekAns i tag false 0 None);
  second = None;
}

-- a slot of this tag may go where it is outdated, or where its record is the one of this number
abbrev pub may_go : ℕ → Bool → ℕ → SlotView → Bool
may_go tag latest num slot = is_under tag slot && (if slot.latest then latest && nat_eq slot.num num else true)

abbrev pub removed_answer : ℕ → ℕ → Bool → SlotView → Option Out
removed_answer i tag done slot = if is_under tag slot
    then sent_to Controller (RemoveAns i tag done slot.latest slot.num (shown_body slot))
    else sent_to Controller (RemoveAns i tag false false 0 None)

abbrev pub removes : SwitchView → ℕ → ℕ → Bool → ℕ → SlotView → Passed
removes v i tag latest num slot = if may_go tag latest num slot
    then (if slot.latest
    then changes v i empty_slot (removed_answer i tag true slot)
    else record { view = with_slot v i empty_slot; first = removed_answer i tag true slot; second = None })
    else record { view = v; first = removed_answer i tag false slot; second = None }

abbrev pub starts_snapshot : SwitchView → ℕ → ℕ → Passed
starts_snapshot v id base = record {
  view = record v { snap = id; base = base };
  first = sent_to Controller (SnapBegun id v.counter);
  second = None;
}

abbrev pub reads_part : SwitchView → ℕ → ℕ → Passed
reads_part v id i = if nat_eq id v.snap && not (is_taken v i)
    then record { view = with_taken v i (held_record (slot_at v i)); first = part_of v i; second = None }
    else dropped v

-- ---- the table

abbrev pub pass : SwitchView → Packet → Passed
pass v (GetReq caller op key) = read_passes v caller op key (entry_place key v)
pass v (WriteReq caller op key body) = write_passes (numbered v) caller op key body (entry_place key v)
pass v (GetRep caller op key tag num body) =
    reply_passes v (Some tag) num body (sent_to (Client caller) (GetAns caller op key num body false))
    (entry_place key v)
pass v (WriteRep caller op key num body) =
    reply_passes v None num body (sent_to (Client caller) (WriteAns caller op key num false)) (entry_place key v)
pass v (Admit epoch i key tag) = if is_slot_there v epoch i then admits v i key tag else dropped v
pass v (Peek epoch i tag) = if is_slot_there v epoch i then peeks v i tag (slot_at v i) else dropped v
pass v (Remove epoch i tag latest num) = if is_slot_there v epoch i then removes v i tag latest num (slot_at v i)
    else dropped v
pass v (SnapStart epoch id) = if nat_eq epoch v.epoch then starts_snapshot v id 0 else dropped v
pass v (SnapFrom epoch id base) = if nat_eq epoch v.epoch then starts_snapshot v id base else dropped v
pass v (SnapRead epoch id i) = if is_slot_there v epoch i then reads_part v id i else dropped v
pass v _ = dropped v

abbrev pub outs_of : Option Out → List Out
outs_of None = []
outs_of (Some out) = out ∷ []

-- what leaves, in order
abbrev pub passed_out : Passed → List Out
passed_out p = outs_of p.first ++ outs_of p.second

-- ---- what the log keeps of a pass

-- a write gets the counter's new value as its number
abbrev pub numbered_note : SwitchView → Packet → List LogEntry
numbered_note v (WriteReq caller op key body) = Numbered op v.counter ∷ []
numbered_note v _ = []

-- an answer that leaves is what the operation is answered with
abbrev pub emitted_note : Packet → List LogEntry
emitted_note (GetAns caller op key num body near) = Emitted op num body near ∷ []
emitted_note (WriteAns caller op key num kept) = Emitted op num None kept ∷ []
emitted_note _ = []

abbrev pub emitted_notes : Option Out → List LogEntry
emitted_notes None = []
emitted_notes (Some out) = emitted_note out.packet

abbrev pub pass_notes : Packet → Passed → List LogEntry
pass_notes packet p = numbered_note p.view packet ++ emitted_notes p.first

-- What leaves when a flight has passed all stages.
use Rattle.std.specs.Prelude.{◌≡◌, ℕ, Bool, true, false, if◌then◌else◌, List, Option, None, Some}
use Rattle.far_base.specs.declared.packet.Out.{Out}
use Rattle.far_base.specs.declared.packet.Packet.{Packet}
use Rattle.far_base.specs.declared.packet.Packet.TheVariants.{GetReq, WriteReq, GetFwd, WriteFwd, GetRep, WriteRep}
use Rattle.far_base.specs.declared.packet.Packet.TheVariants.{GetAns, WriteAns, Hot, Admit, AdmitAck, Peek, PeekAns}
use Rattle.far_base.specs.declared.packet.Packet.TheVariants.{Remove, RemoveAns, SnapStart, SnapBegun, SnapRead}
use Rattle.far_base.specs.declared.packet.Packet.TheVariants.{SnapPart, SnapSame, SnapFrom}
use Rattle.far_base.specs.declared.plan.Config.{Config}
use Rattle.far_base.specs.declared.party.Party.TheVariants.{Client, Server, Controller}
use Rattle.far_model.specs.View.{SlotView, server_of, held_record, shown_body}
use Rattle.far_model.specs.Pass.{sent_to, is_under, removed_answer}
use Rattle.switch_staged.specs.declared.cells.Head.{Head}
use Rattle.switch_staged.specs.declared.flight.Act.{Act}
use Rattle.switch_staged.specs.declared.flight.Act.TheVariants.{Keep, Absorb, Raise, Bind, Clear}
use Rattle.switch_staged.specs.declared.flight.Part.{Part}
use Rattle.switch_staged.specs.declared.flight.Part.TheVariants.{Stays, Same, Whole}
use Rattle.switch_staged.specs.declared.flight.Course.{Course}
use Rattle.switch_staged.specs.Rows.{joined}
use Rattle.switch_staged.specs.Shapes.{shaped}

-- a slot of this head whose cells have these bytes
abbrev pub slot_of : Head → List ℕ → SlotView
slot_of h bytes = record {
  key = h.key;
  tag = h.tag;
  valid = h.valid;
  latest = h.latest;
  num = h.num;
  body = shaped h.shape bytes;
}

-- what the slot was
abbrev pub old_slot : Course → SlotView
old_slot f = slot_of f.found (joined f.cells)

abbrev pub is_clear : Act → Bool
is_clear Keep = false
is_clear Absorb = false
is_clear Raise = false
is_clear Bind = false
is_clear Clear = true

abbrev pub read_out : Config → Option ℕ → ℕ → ℕ → List ℕ → SlotView → Option Out
read_out config None caller op key slot = sent_to (Server (server_of config key)) (GetFwd caller op key 0)
read_out config (Some i) caller op key slot = if slot.latest
    then sent_to (Client caller) (GetAns caller op key slot.num slot.body true)
    else sent_to (Server (server_of config key)) (GetFwd caller op key slot.tag)

abbrev pub write_out : Config → Option ℕ → ℕ → ℕ → List ℕ → ℕ → Option (List ℕ) → Option Out
write_out config None caller op key num body = sent_to (Server (server_of config key)) (WriteFwd caller op key num body)
write_out config (Some i) caller op key num body = sent_to (Client caller) (WriteAns caller op key num true)

abbrev pub peek_out : ℕ → ℕ → SlotView → Option Out
peek_out i tag slot = if is_under tag slot
    then sent_to Controller (PeekAns i tag slot.latest slot.num (shown_body slot))
    else sent_to Controller (PeekAns i tag false 0 None)

abbrev pub part_out : ℕ → Option ℕ → Part → SlotView → Option Out
part_out snap None part slot = None
part_out snap (Some i) Stays slot = None
part_out snap (Some i) Same slot = sent_to Controller (SnapSame snap i)
part_out snap (Some i) Whole slot = sent_to Controller (SnapPart snap i (held_record slot))

abbrev pub flight_part : Course → Option Out
flight_part f = part_out f.gate.snap f.place f.part (old_slot f)

unfoldable pub first_for : Config → Course → Packet → Option Out
first_for config f (GetReq caller op key) = read_out config f.place caller op key (old_slot f)
first_for config f (WriteReq caller op key body) = write_out config f.place caller op key f.gate.counter body
first_for config f (GetRep caller op key tag num body) = sent_to (Client caller) (GetAns caller op key num body false)
first_for config f (WriteRep caller op key num body) = sent_to (Client caller) (WriteAns caller op key num false)
first_for config f (Admit epoch i key tag) = if f.found.valid then None else sent_to Controller (AdmitAck i tag)
first_for config f (Peek epoch i tag) = peek_out i tag (old_slot f)
first_for config f (Remove epoch i tag latest num) = removed_answer i tag (is_clear f.act) (old_slot f)
first_for config f (SnapStart epoch id) = sent_to Controller (SnapBegun id f.gate.counter)
first_for config f (SnapFrom epoch id base) = sent_to Controller (SnapBegun id f.gate.counter)
first_for config f (SnapRead epoch id i) = flight_part f
first_for config f _ = None

abbrev pub first_out : Config → Course → Option Out
first_out config f = if f.live then first_for config f f.packet else None

abbrev pub hot_out : Bool → List ℕ → Option Out
hot_out hot key = if hot then sent_to Controller (Hot key) else None

abbrev pub hot_or_part : Option ℕ → Course → List ℕ → Option Out
hot_or_part None f key = hot_out f.hot key
hot_or_part (Some i) f key = flight_part f

unfoldable pub second_for : Course → Packet → Option Out
second_for f (GetReq caller op key) = hot_or_part f.place f key
second_for f (WriteReq caller op key body) = hot_or_part f.place f key
second_for f (SnapRead epoch id i) = None
second_for f _ = flight_part f

abbrev pub second_out : Course → Option Out
second_out f = if f.live then second_for f f.packet else None

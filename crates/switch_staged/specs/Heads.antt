-- What the first stages do with a packet.
use Rattle.std.specs.Prelude.{◌≡◌, ℕ, zero, suc, ◌+◌, ◌*◌, max, Bool, true, false, not, ◌&&◌, nat_eq, nat_lt, nat_le}
use Rattle.std.specs.Prelude.{if◌then◌else◌, List, [], ◌∷◌, ◌++◌, length, map, take, drop, replicate, slice_set}
use Rattle.std.specs.Prelude.{slice_index_or, Option, None, Some}
use Rattle.far_base.specs.Padded.{padded, text_of, shown, length_of, is_there}
use Rattle.far_base.specs.declared.body.TheConstants.{BODY_LIMIT}
use Rattle.far_base.specs.declared.packet.Packet.{Packet}
use Rattle.far_base.specs.declared.packet.Packet.TheVariants.{GetReq, WriteReq, GetRep, WriteRep, Admit, Peek, Remove}
use Rattle.far_base.specs.declared.packet.Packet.TheVariants.{SnapStart, SnapRead, SnapFrom}
use Rattle.far_base.specs.declared.plan.Config.{Config}
use Rattle.far_model.specs.View.{SlotView, SwitchView, HotCell, Mark, bound_place, bind_key, same_mark, is_key_there}
use Rattle.far_model.specs.View.{is_slot_of}
use Rattle.far_model.specs.Pass.{is_tag, in_era, counted, grows_hot, cell_of, takes_reply, may_go}
use Rattle.switch_staged.specs.declared.cells.Gate.{Gate}
use Rattle.switch_staged.specs.declared.cells.Head.{Head}
use Rattle.switch_staged.specs.declared.flight.Act.{Act}
use Rattle.switch_staged.specs.declared.flight.Act.TheVariants.{Keep, Absorb, Raise, Bind, Clear}
use Rattle.switch_staged.specs.Rows.{BODY_CELLS, cut_cells}
use Rattle.switch_staged.specs.Shapes.{shape_of}

-- ---- stage 0

abbrev pub set_snap : Gate → ℕ → ℕ → ℕ → Gate
set_snap g epoch id base = if nat_eq epoch g.epoch then record {
  epoch = g.epoch;
  counter = g.counter;
  snap = id;
  base = base;
} else g

unfoldable pub gate_after : Gate → Packet → Gate
gate_after g (WriteReq caller op key body) = record {
  epoch = g.epoch;
  counter = g.counter + 1;
  snap = g.snap;
  base = g.base;
}
gate_after g (SnapStart epoch id) = set_snap g epoch id 0
gate_after g (SnapFrom epoch id base) = set_snap g epoch id base
gate_after g _ = g

abbrev pub is_in_reach : Config → Gate → ℕ → ℕ → Bool
is_in_reach config g epoch slot = nat_eq epoch g.epoch && nat_lt slot config.slots

-- whether the packet is not dropped
unfoldable pub goes_on : Config → Gate → Packet → Bool
goes_on config g (GetReq caller op key) = true
goes_on config g (WriteReq caller op key body) = true
goes_on config g (GetRep caller op key tag num body) = true
goes_on config g (WriteRep caller op key num body) = true
goes_on config g (Admit epoch slot key tag) = is_in_reach config g epoch slot
goes_on config g (Peek epoch slot tag) = is_in_reach config g epoch slot
goes_on config g (Remove epoch slot tag latest num) = is_in_reach config g epoch slot
goes_on config g (SnapRead epoch id slot) = is_in_reach config g epoch slot
goes_on config g (SnapStart epoch id) = nat_eq epoch g.epoch
goes_on config g (SnapFrom epoch id base) = nat_eq epoch g.epoch
goes_on config g _ = false

-- ---- stage 1

-- the slot that the packet goes to
unfoldable pub place_for : List (Option (List ℕ)) → Packet → Option ℕ
place_for bound (GetReq caller op key) = bound_place key bound
place_for bound (WriteReq caller op key body) = bound_place key bound
place_for bound (GetRep caller op key tag num body) = bound_place key bound
place_for bound (WriteRep caller op key num body) = bound_place key bound
place_for bound (Admit epoch slot key tag) = Some slot
place_for bound (Peek epoch slot tag) = Some slot
place_for bound (Remove epoch slot tag latest num) = Some slot
place_for bound (SnapRead epoch id slot) = Some slot
place_for bound _ = None

unfoldable pub bound_after : List (Option (List ℕ)) → Packet → List (Option (List ℕ))
bound_after bound (Admit epoch slot key tag) = bind_key key slot bound
bound_after bound _ = bound

-- ---- stage 2

-- a slot of this head, without its body
abbrev pub bare : Head → SlotView
bare h = record { key = h.key; tag = h.tag; valid = h.valid; latest = h.latest; num = h.num; body = None }

abbrev pub empty_head : Head
empty_head = record { key = None; tag = 0; valid = false; latest = false; num = 0; shape = None }

-- whether the slot is the entry of the packet's key; a packet for a slot takes every slot
unfoldable pub is_own : Packet → Head → Bool
is_own (GetReq caller op key) h = is_slot_of key (bare h)
is_own (WriteReq caller op key body) h = is_slot_of key (bare h)
is_own (GetRep caller op key tag num body) h = is_slot_of key (bare h)
is_own (WriteRep caller op key num body) h = is_slot_of key (bare h)
is_own _ h = true

-- what a packet does with its slot, at this count of the counter
unfoldable pub act_for : Packet → Head → Act
act_for (WriteReq caller op key body) h = Absorb
act_for (GetRep caller op key tag num body) h = if takes_reply (Some tag) num (bare h) then Absorb else Raise
act_for (WriteRep caller op key num body) h = if takes_reply None num (bare h) then Absorb else Raise
act_for (Admit epoch slot key tag) h = if h.valid then Keep else Bind
act_for (Remove epoch slot tag latest num) h = if may_go tag latest num (bare h) then Clear else Keep
act_for _ h = Keep

-- the number of the record that a packet brings
unfoldable pub new_num : ℕ → Packet → ℕ
new_num counter (WriteReq caller op key body) = counter
new_num counter (GetRep caller op key tag num body) = num
new_num counter (WriteRep caller op key num body) = num
new_num counter _ = 0

-- the body of the record that a packet brings
unfoldable pub new_body : Packet → Option (List ℕ)
new_body (WriteReq caller op key body) = body
new_body (GetRep caller op key tag num body) = body
new_body (WriteRep caller op key num body) = body
new_body _ = None

-- the head of a slot that was bound to what the packet says
unfoldable pub bound_head : Packet → Head
bound_head (Admit epoch slot key tag) = record {
  key = Some key;
  tag = tag;
  valid = true;
  latest = false;
  num = 0;
  shape = None;
}
bound_head _ = empty_head

unfoldable pub acted : Act → ℕ → Packet → Head → Head
acted Keep counter packet h = h
acted Absorb counter packet h = record {
  key = h.key;
  tag = h.tag;
  valid = h.valid;
  latest = true;
  num = new_num counter packet;
  shape = shape_of (new_body packet);
}
acted Raise counter packet h = if h.latest then h else record {
  key = h.key;
  tag = h.tag;
  valid = h.valid;
  latest = h.latest;
  num = max h.num (new_num counter packet);
  shape = h.shape;
}
acted Bind counter packet h = bound_head packet
acted Clear counter packet h = empty_head

unfoldable pub head_after : ℕ → Packet → Head → Head
head_after counter packet h = if is_own packet h then acted (act_for packet h) counter packet h else h

-- the body that the cells are to have
unfoldable pub body_after : Act → Packet → Option (List ℕ)
body_after Absorb packet = new_body packet
body_after _ packet = None

-- whether the cells of the body are written
abbrev pub writes : Act → Bool
writes Keep = false
writes Absorb = true
writes Raise = false
writes Bind = true
writes Clear = true

unfoldable pub cells_of_body : Option (List ℕ) → List (List ℕ)
cells_of_body body = cut_cells (padded BODY_LIMIT (text_of body))

-- What each stage does with its array and with the flight.
use Rattle.register_stages.specs.declared.array.RegArray.{RegArray}
use Rattle.register_stages.specs.Arrays.{cells_of, place_of}
use Rattle.std.specs.Prelude.{⊤, ◌<◌, length, map, ◌≡◌, ℕ, zero, suc, ◌+◌, Bool, true, false, not, ◌&&◌, ◌||◌, nat_eq}
use Rattle.std.specs.Prelude.{nat_lt, if◌then◌else◌, List, [], ◌∷◌, replicate, slice_set, slice_index_or, Option, None}
use Rattle.std.specs.Prelude.{Some}
use Rattle.far_base.specs.declared.packet.Packet.{Packet}
use Rattle.far_base.specs.declared.packet.Packet.TheVariants.{GetReq, WriteReq, SnapRead, Admit}
use Rattle.far_base.specs.declared.plan.Config.{Config}
use Rattle.far_model.specs.View.{HotCell, Mark, same_mark}
use Rattle.far_model.specs.Pass.{in_era, counted, grows_hot, cell_of}
use Rattle.switch_staged.specs.declared.cells.Gate.{Gate}
use Rattle.switch_staged.specs.declared.cells.Head.{Head}
use Rattle.switch_staged.specs.declared.cells.Taken.{Taken}
use Rattle.switch_staged.specs.declared.flight.Act.{Act}
use Rattle.switch_staged.specs.declared.flight.Act.TheVariants.{Keep, Absorb, Raise, Bind, Clear}
use Rattle.switch_staged.specs.declared.flight.Part.{Part}
use Rattle.switch_staged.specs.declared.flight.Part.TheVariants.{Stays, Same, Whole}
use Rattle.switch_staged.specs.declared.flight.Course.{Course}
use Rattle.switch_staged.specs.Heads.{gate_after, goes_on, place_for, bound_after, is_own, act_for, head_after}
use Rattle.switch_staged.specs.Heads.{empty_head, body_after, cells_of_body, writes}
use Rattle.switch_staged.specs.Rows.{zero_cell, BODY_CELLS, row, with_row}

-- ---- the token of a pass

-- where a stage leaves the token: behind it, where the packet goes to something there, else as it was
abbrev pub token_past : {A : Type 0} → Option A → ℕ → ℕ → ℕ
token_past None behind token = token
token_past (Some x) behind token = behind

-- where so many stages from `first` on leave it
abbrev pub token_behind : ℕ → ℕ → ℕ → ℕ
token_behind count first token = if nat_lt 0 count then first + count else token

-- ---- stage 0

abbrev pub closed_gate : Gate
closed_gate = record { epoch = 0; counter = 0; snap = 0; base = 0 }

abbrev pub gate_of : List Gate → Gate
gate_of gates = slice_index_or gates 0 closed_gate

abbrev pub gates_after : List Gate → Packet → List Gate
gates_after gates packet = slice_set gates 0 (gate_after (gate_of gates) packet)

-- a packet that has passed no stage
abbrev pub waiting : Packet → Course
waiting packet = record {
  packet = packet;
  live = false;
  gate = closed_gate;
  place = None;
  found = empty_head;
  act = Keep;
  part = Stays;
  hot = false;
  cells = replicate BODY_CELLS zero_cell;
}

abbrev pub entered : Config → Gate → Packet → Course
entered config g packet = record {
  packet = packet;
  live = goes_on config g packet;
  gate = gate_after g packet;
  place = None;
  found = empty_head;
  act = Keep;
  part = Stays;
  hot = false;
  cells = replicate BODY_CELLS zero_cell;
}

-- ---- stage 1

abbrev pub table_after : List (Option (List ℕ)) → Course → List (Option (List ℕ))
table_after bound f = if f.live then bound_after bound f.packet else bound

abbrev pub looked_up : List (Option (List ℕ)) → Course → Course
looked_up bound f = record f { place = if f.live then place_for bound f.packet else None }

-- ---- stage 2

abbrev pub set_at : {T : Type 0} → List T → Option ℕ → T → List T
set_at xs None x = xs
set_at xs (Some i) x = slice_set xs i x

abbrev pub head_at : List Head → ℕ → Head
head_at heads i = slice_index_or heads i empty_head

abbrev pub heads_at : List Head → Option ℕ → Course → List Head
heads_at heads None f = heads
heads_at heads (Some i) f = slice_set heads i (head_after f.gate.counter f.packet (head_at heads i))

abbrev pub heads_after : List Head → Course → List Head
heads_after heads f = heads_at heads f.place f

-- the packet has met its slot
abbrev pub met : Head → Course → Course
met h f = record f {
  found = h;
  act = act_for f.packet h;
  cells = cells_of_body (body_after
      (act_for f.packet h) f.packet);
}

-- the slot is not of the packet's key
abbrev pub missed : Course → Course
missed f = record f { place = None }

abbrev pub headed_with : Head → Course → Course
headed_with h f = if is_own f.packet h then met h f else missed f

abbrev pub headed_at : List Head → Option ℕ → Course → Course
headed_at heads None f = f
headed_at heads (Some i) f = headed_with (head_at heads i) f

abbrev pub headed : List Head → Course → Course
headed heads f = headed_at heads f.place f

-- ---- stage 3

-- whether the record that the slot shows changes
unfoldable pub changes_record : Act → Head → Bool
changes_record Keep h = false
changes_record Absorb h = true
changes_record Raise h = false
changes_record Bind h = false
changes_record Clear h = h.latest

-- whether the slot's part is to leave, where it was not taken
unfoldable pub wants_part : Course → Packet → Bool
wants_part f (SnapRead epoch id slot) = nat_eq id f.gate.snap
wants_part f packet = changes_record f.act f.found

abbrev pub mark_of_key : Option (List ℕ) → ℕ → Option Mark
mark_of_key None num = None
mark_of_key (Some key) num = Some (record { key = key; num = num })

-- the mark of what a slot shows
unfoldable pub head_mark : Head → Option Mark
head_mark h = if h.latest then mark_of_key h.key h.num else None

abbrev pub leaves_now : Course → Taken → Bool
leaves_now f t = wants_part f f.packet && not (nat_eq t.era f.gate.snap)

unfoldable pub is_base : Course → Taken → Bool
is_base f t = nat_lt 0 f.gate.base && (nat_eq t.era f.gate.base && same_mark t.mark (head_mark f.found))

abbrev pub part_for : Course → Taken → Part
part_for f t = if leaves_now f t then (if is_base f t then Same else Whole) else Stays

unfoldable pub taken_after : Course → Taken → Taken
taken_after f t = if leaves_now f t then record { era = f.gate.snap; mark = head_mark f.found } else t

abbrev pub no_taken : Taken
no_taken = record { era = 0; mark = None }

abbrev pub taken_at_place : List Taken → Option ℕ → Course → List Taken
taken_at_place cells None f = cells
taken_at_place cells (Some i) f = slice_set cells i (taken_after f (slice_index_or cells i no_taken))

abbrev pub parted_with : Taken → Course → Course
parted_with t f = record f { part = part_for f t }

abbrev pub parted_at : List Taken → Option ℕ → Course → Course
parted_at cells None f = f
parted_at cells (Some i) f = parted_with (slice_index_or cells i no_taken) f

abbrev pub no_hot : HotCell
no_hot = record { era = 0; count = 0 }

-- the key whose hot cell a packet without an entry touches
unfoldable pub key_touched : Packet → Option (List ℕ)
key_touched (GetReq caller op key) = Some key
key_touched (WriteReq caller op key body) = Some key
key_touched _ = None

abbrev pub touch_key : Option ℕ → Packet → Option (List ℕ)
touch_key None packet = key_touched packet
touch_key (Some i) packet = None

abbrev pub hot_for : ℕ → List HotCell → List ℕ → HotCell
hot_for snap cells key = in_era snap (slice_index_or cells (cell_of key) no_hot)

abbrev pub hots_at : ℕ → ℕ → List HotCell → Option (List ℕ) → List HotCell
hots_at hot snap cells None = cells
hots_at hot snap cells (Some key) = slice_set cells (cell_of key) (counted hot (hot_for snap cells key))

abbrev pub grown_at : ℕ → ℕ → List HotCell → Option (List ℕ) → Bool
grown_at hot snap cells None = false
grown_at hot snap cells (Some key) = grows_hot hot (hot_for snap cells key)

abbrev pub hots_after : Config → List HotCell → Course → List HotCell
hots_after config cells f = hots_at config.hot f.gate.snap cells (touch_key f.place f.packet)

abbrev pub warmed : Config → List HotCell → Course → Course
warmed config cells f = record f { hot = grown_at config.hot f.gate.snap cells (touch_key f.place f.packet) }

-- ---- the stages of the body

abbrev pub rows_at : Option ℕ → List (List (List ℕ)) → Course → List (List (List ℕ))
rows_at None arrays f = arrays
rows_at (Some i) arrays f = if writes f.act then with_row i arrays f.cells else arrays

abbrev pub carried_at : Option ℕ → List (List (List ℕ)) → Course → Course
carried_at None arrays f = f
carried_at (Some i) arrays f = record f { cells = row i arrays }

-- a place is a cell of the array
abbrev pub InReach : {T : Type 0} → Option ℕ → List T → Type 0
InReach None xs = ⊤
InReach (Some i) xs = i < length xs

-- the cell that stage `at` of the body leaves
unfoldable pub cell_after : ℕ → Course → List ℕ → List ℕ
cell_after at f old = if writes f.act then slice_index_or f.cells at zero_cell else old

abbrev pub array_at : Option ℕ → ℕ → List (List ℕ) → Course → List (List ℕ)
array_at None at array f = array
array_at (Some i) at array f = slice_set array i (cell_after at f (slice_index_or array i zero_cell))

abbrev pub array_after : ℕ → List (List ℕ) → Course → List (List ℕ)
array_after at array f = array_at f.place at array f

abbrev pub carry_at : Option ℕ → ℕ → List (List ℕ) → Course → Course
carry_at None at array f = f
carry_at (Some i) at array f = record f { cells = slice_set f.cells at (slice_index_or array i zero_cell) }

abbrev pub carried : ℕ → List (List ℕ) → Course → Course
carried at array f = carry_at f.place at array f

-- the arrays, from stage `at` of the body on
abbrev pub arrays_after : ℕ → List (List (List ℕ)) → Course → List (List (List ℕ))
arrays_after at [] f = []
arrays_after at (a ∷ rest) f = array_after at a f ∷ arrays_after (suc at) rest (carried at a f)

-- the flight after them
abbrev pub carried_all : ℕ → List (List (List ℕ)) → Course → Course
carried_all at [] f = f
carried_all at (a ∷ rest) f = carried_all (suc at) rest (carried at a f)

-- arrays of cells at the places from `first` on, with a cell for each slot
abbrev pub IsPart : ℕ → ℕ → List (RegArray (List ℕ)) → Type 0
IsPart first slots [] = ⊤
IsPart first slots (a ∷ rest) = (place_of a ≡ first) × (length (cells_of a) ≡ slots) × IsPart (suc first) slots rest

abbrev pub all_cells : List (RegArray (List ℕ)) → List (List (List ℕ))
all_cells arrays = map cells_of arrays

abbrev pub PlaceBelow : Option ℕ → ℕ → Type 0
PlaceBelow None n = ⊤
PlaceBelow (Some i) n = i < n

-- a slot that is to be bound is there
unfoldable pub AdmitsWithin : ℕ → Packet → Type 0
AdmitsWithin n (Admit epoch slot key tag) = slot < n
AdmitsWithin n _ = ⊤

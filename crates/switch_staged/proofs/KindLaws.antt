-- A pass through the stages is the pass of the table.
use Rattle.std.proofs.Common.{◌≡◌, ℕ, zero, suc, ◌+◌, ◌*◌, ◌-◌, ◌<◌, ◌≤◌, Bool, true, false, List, [], ◌∷◌, ◌++◌, length, map, take, drop, sym, refl, ap, ◌∙◌, subst, arith, rules, Option, None, Some}
use Rattle.std.specs.Prelude.{slice_set, slice_index_or, if◌then◌else◌, nat_eq, nat_lt, ◌&&◌, not}
use Rattle.std.proofs.lemmas.List.{take_at, length-append, length-replicate}
use Rattle.std.proofs.Math.ListN.{get_or-map}
use Rattle.far_base.specs.Padded.{padded, text_of}
use Rattle.far_base.specs.declared.packet.Out.{Out}
use Rattle.far_base.specs.declared.packet.Packet.{Packet}
use Rattle.far_base.specs.declared.packet.Packet.TheVariants.{GetReq, WriteReq, GetRep, WriteRep, WriteAns, GetAns, Remove, SnapPart, SnapSame}
use Rattle.far_base.specs.declared.party.Party.TheVariants.{Client, Controller}
use Rattle.far_base.specs.declared.plan.Config.{Config}
use Rattle.far_model.specs.View.{SlotView, SwitchView, Mark, slot_at, taken_at, shown_at, held_record, mark_of, same_mark, is_slot_of, entry_if, bound_place, empty_slot}
use Rattle.far_model.specs.Pass.{Passed, pass, sent_to, with_slot, with_taken, absorbing, numbered, write_passes, changes}
use Rattle.switch_staged.specs.declared.cells.Head.{Head}
use Rattle.switch_staged.specs.declared.cells.Taken.{Taken}
use Rattle.switch_staged.specs.declared.flight.Act.TheVariants.{Keep, Absorb, Raise, Bind, Clear}
use Rattle.switch_staged.specs.declared.flight.Course.{Course}
use Rattle.switch_staged.specs.declared.flight.Part.TheVariants.{Stays, Same, Whole}
use Rattle.switch_staged.specs.Heads.{writes, is_own, act_for, acted, head_after, empty_head, bare, cells_of_body, body_after, gate_after, goes_on, place_for, bound_after, new_num, new_body}
use Rattle.switch_staged.specs.Stages.{head_at, met, taken_after, part_for, no_taken, wants_part, leaves_now, is_base, head_mark, PlaceBelow, key_touched, changes_record, entered}
use Rattle.switch_staged.specs.Rows.{row, joined, cut, cut_cells, CELL_LENGTH, BODY_CELLS}
use Rattle.switch_staged.specs.Shapes.{shaped, shape_of}
use Rattle.switch_staged.specs.Whole.{Registers, Fits, view_of, slots_of, eras_of, marks_of, from_heads, staged}
use Rattle.switch_staged.specs.Emits.{slot_of, first_out, second_out, part_out, first_for, second_for}
use Rattle.switch_staged.specs.Changes.{ended, rows_left, bytes_left, changes_at, part_at, before_at}
use Rattle.switch_staged.proofs.RowLaws.{cut_joined}
use Rattle.switch_staged.proofs.SlotLaws.{set_same, slot_is}
use Rattle.switch_staged.proofs.HitLaws.{old_taken, heads_own, heads_other, taken_hit, taken_miss, view_sets, mark_is}

-- ---- the first change

-- what the stages leave where the slot's record changes, and where its part leaves
abbrev pub Left : SwitchView → ℕ → SlotView → SlotView → Course → Taken → Option Out → Passed
Left v i old slot f t out = record {
  view = record v { slots = slice_set v.slots i slot; taken = slice_set v.taken i (taken_after f t).era; shown = slice_set v.shown i (taken_after f t).mark };
  first = out;
  second = part_out f.gate.snap (Some i) (part_for f t) old;
}

-- the view with the era and the base of the flight
abbrev pub in_time : SwitchView → Course → SwitchView
in_time v f = record v { snap = f.gate.snap; base = f.gate.base }

base_is : (v : SwitchView) (f : Course) (t : Taken) (bytes : List ℕ) → is_base f t ≡ before_at (in_time v f) (slot_of f.found bytes) t.era t.mark
unfolding is_base
base_is v f t bytes = ap (λ m. nat_lt 0 f.gate.base && (nat_eq t.era f.gate.base && same_mark t.mark m)) (mark_is f.found bytes)

abbrev pub Flagged : SwitchView → ℕ → Course → Taken → SlotView → SlotView → Option Out → Bool → Passed
Flagged v i f t slot old out leaves = record {
  view = record (in_time v f) { slots = slice_set v.slots i slot; taken = slice_set v.taken i (if leaves then record { era = f.gate.snap; mark = head_mark f.found } else t).era; shown = slice_set v.shown i (if leaves then record { era = f.gate.snap; mark = head_mark f.found } else t).mark };
  first = out;
  second = part_out f.gate.snap (Some i) (if leaves then (if is_base f t then Same else Whole) else Stays) old;
}

abbrev pub Other : SwitchView → ℕ → Course → Taken → SlotView → SlotView → Option Out → Bool → Passed
Other v i f t slot old out e = record {
  view = if e then with_slot (in_time v f) i slot else with_taken (with_slot (in_time v f) i slot) i (held_record old);
  first = out;
  second = if e then None else part_at (in_time v f) i old t.era t.mark;
}

one_part : (v : SwitchView) (i : ℕ) (old : SlotView) (k : Bool) → part_out v.snap (Some i) (if k then Same else Whole) old ≡ sent_to Controller (if k then SnapSame v.snap i else SnapPart v.snap i (held_record old))
one_part v i old true = refl
one_part v i old false = refl

changed_at : (v : SwitchView) (i : ℕ) (f : Course) (t : Taken) (slot : SlotView) (bytes : List ℕ) (out : Option Out) → slice_index_or v.taken i 0 ≡ t.era → slice_index_or v.shown i None ≡ t.mark
    → (e : Bool) → Flagged v i f t slot (slot_of f.found bytes) out (not e) ≡ Other v i f t slot (slot_of f.found bytes) out e
changed_at v i f t slot bytes out et mt true =
    ap (λ es. record { view = record (in_time v f) { slots = slice_set v.slots i slot; taken = es; shown = slice_set v.shown i t.mark }; first = out; second = None }) (ap (slice_set v.taken i) (sym et) ∙ set_same v.taken i 0)
    ∙ ap (λ ms. record { view = record (in_time v f) { slots = slice_set v.slots i slot; shown = ms }; first = out; second = None }) (ap (slice_set v.shown i) (sym mt) ∙ set_same v.shown i None)
changed_at v i f t slot bytes out et mt false =
    ap (λ m. record { view = record (in_time v f) { slots = slice_set v.slots i slot; taken = slice_set v.taken i f.gate.snap; shown = slice_set v.shown i m }; first = out; second = part_out f.gate.snap (Some i) (if is_base f t then Same else Whole) (slot_of f.found bytes) }) (mark_is f.found bytes)
    ∙ ap (λ s. record { view = with_taken (with_slot (in_time v f) i slot) i (held_record (slot_of f.found bytes)); first = out; second = s })
    (ap (λ k. part_out f.gate.snap (Some i) (if k then Same else Whole) (slot_of f.found bytes)) (base_is v f t bytes) ∙ one_part (in_time v f) i (slot_of f.found bytes) _)

pub changed : (v : SwitchView) (i : ℕ) (f : Course) (t : Taken) (slot : SlotView) (bytes : List ℕ) (out : Option Out) → wants_part f f.packet ≡ true
    → slice_index_or v.taken i 0 ≡ t.era → slice_index_or v.shown i None ≡ t.mark
    → Left (in_time v f) i (slot_of f.found bytes) slot f t out ≡ changes_at (in_time v f) i (slot_of f.found bytes) t.era t.mark slot out
unfolding taken_after
changed v i f t slot bytes out w et mt =
    ap (λ b. Flagged v i f t slot (slot_of f.found bytes) out (b && not (nat_eq t.era f.gate.snap))) w
    ∙ changed_at v i f t slot bytes out et mt (nat_eq t.era f.gate.snap)

pub unchanged : (v : SwitchView) (i : ℕ) (f : Course) (t : Taken) (slot old : SlotView) (out : Option Out) → wants_part f f.packet ≡ false
    → slice_index_or v.taken i 0 ≡ t.era → slice_index_or v.shown i None ≡ t.mark
    → Left (in_time v f) i old slot f t out ≡ record { view = with_slot (in_time v f) i slot; first = out; second = None }
unfolding taken_after
unchanged v i f t slot old out w et mt =
    ap (λ b. Flagged v i f t slot old out (b && not (nat_eq t.era f.gate.snap))) w
    ∙ ap (λ es. record { view = record (in_time v f) { slots = slice_set v.slots i slot; taken = es; shown = slice_set v.shown i t.mark }; first = out; second = None }) (ap (slice_set v.taken i) (sym et) ∙ set_same v.taken i 0)
    ∙ ap (λ ms. record { view = record (in_time v f) { slots = slice_set v.slots i slot; shown = ms }; first = out; second = None }) (ap (slice_set v.shown i) (sym mt) ∙ set_same v.shown i None)

-- ---- a packet that meets its slot

abbrev pub row_bytes : Registers → ℕ → List ℕ
row_bytes r i = joined (row i r.arrays)

-- the flight after all stages
abbrev pub landed : Registers → ℕ → Course → Course
landed r i f = record (met (head_at r.heads i) f) { part = part_for (met (head_at r.heads i) f) (old_taken r i); hot = false; cells = row i r.arrays }

-- the slot after it
abbrev pub slot_after : Registers → ℕ → Course → SlotView
slot_after r i f = slot_of (acted (act_for f.packet (head_at r.heads i)) f.gate.counter f.packet (head_at r.heads i))
    (joined (bytes_left (cells_of_body (body_after (act_for f.packet (head_at r.heads i)) f.packet)) (row i r.arrays) (writes (act_for f.packet (head_at r.heads i)))))

cut_length : (n : ℕ) (bytes : List ℕ) → length (cut n bytes) ≡ n
cut_length zero bytes = refl
cut_length (suc n) bytes = ap suc (cut_length n (drop CELL_LENGTH bytes))

pub body_cells : (body : Option (List ℕ)) → length (cells_of_body body) ≡ BODY_CELLS
unfolding cells_of_body cut_cells
body_cells body = cut_length BODY_CELLS (padded 256 (text_of body))

pub own_passes : (config : Config) (r : Registers) (f : Course) (i : ℕ) → Fits config r → i < config.slots → f.place ≡ Some i → is_own f.packet (head_at r.heads i) ≡ true
    → from_heads config r f ≡ record {
      view = record (view_of config r) { slots = slice_set (slots_of config.slots r.heads r.arrays) i (slot_after r i f); taken = slice_set (eras_of r.taken) i (taken_after (met (head_at r.heads i) f) (old_taken r i)).era; shown = slice_set (marks_of r.taken) i (taken_after (met (head_at r.heads i) f) (old_taken r i)).mark };
      first = first_out config (landed r i f);
      second = second_out (landed r i f);
    }
own_passes config r f i fits b p o =
    let h = head_at r.heads i in
    let f2 = met h f in
    heads_own config r f i p o
    ∙ taken_hit config (record r { heads = slice_set r.heads i (acted (act_for f.packet h) f.gate.counter f.packet h) }) f2 i p (body_cells _ ∙ sym fits.count)
    ∙ ap (λ v. record { view = v; first = first_out config (landed r i f); second = second_out (landed r i f) })
    (view_sets config r i (acted (act_for f.packet h) f.gate.counter f.packet h) (taken_after f2 (old_taken r i)) f2 fits b (body_cells _))

pub slot_at_is : (config : Config) (r : Registers) (i : ℕ) → Fits config r → i < config.slots → slot_at (view_of config r) i ≡ slot_of (head_at r.heads i) (row_bytes r i)
slot_at_is config r i fits b = slot_is config.slots i r.heads r.arrays empty_head empty_slot fits.heads fits.arrays b

pub era_is : (config : Config) (r : Registers) (i : ℕ) → taken_at (view_of config r) i ≡ (old_taken r i).era
era_is config r i = get_or-map (λ (t : Taken). t.era) r.taken i no_taken

pub kept_mark_is : (config : Config) (r : Registers) (i : ℕ) → shown_at (view_of config r) i ≡ (old_taken r i).mark
kept_mark_is config r i = get_or-map (λ (t : Taken). t.mark) r.taken i no_taken

-- a body that is cut into its cells and read from them again
pub body_back : (body : Option (List ℕ)) → length (text_of body) ≤ 256 → shaped (shape_of body) (joined (cells_of_body body)) ≡ body
unfolding cells_of_body cut_cells
body_back None l = refl
body_back (Some text) l =
    ap (λ t. Some (take (length text) t)) (cut_joined BODY_CELLS (padded 256 text) (grind (arith, l, length-append, length-replicate)))
    ∙ ap Some (take_at text _ (length text) refl)

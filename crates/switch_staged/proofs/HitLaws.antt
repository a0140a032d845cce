-- A flight with a slot, and one without.
use Rattle.std.proofs.Common.{◌≡◌, ℕ, zero, suc, ◌+◌, ◌*◌, ◌<◌, ◌≤◌, Bool, true, false, List, [], ◌∷◌, ◌++◌, length, map, take, drop, sym, refl, ap, ◌∙◌, subst, arith, rules, Option, None, Some}
use Rattle.std.specs.Prelude.{slice_set, slice_index_or, if◌then◌else◌, nat_eq, nat_lt, ◌&&◌, not}
use Rattle.std.proofs.lemmas.List.{map-set, length-set}
use Rattle.far_base.specs.declared.packet.Out.{Out}
use Rattle.far_base.specs.declared.packet.Packet.{Packet}
use Rattle.far_base.specs.declared.plan.Config.{Config}
use Rattle.far_model.specs.View.{SlotView, SwitchView, Mark, slot_at, taken_at, shown_at, held_record, mark_of, same_mark, empty_slot}
use Rattle.far_model.specs.Pass.{Passed, with_slot, with_taken, changes}
use Rattle.switch_staged.specs.declared.cells.Head.{Head}
use Rattle.switch_staged.specs.declared.cells.Taken.{Taken}
use Rattle.switch_staged.specs.declared.flight.Course.{Course}
use Rattle.switch_staged.specs.declared.flight.Part.{Part}
use Rattle.switch_staged.specs.declared.flight.Part.TheVariants.{Stays, Same, Whole}
use Rattle.switch_staged.specs.Heads.{writes, is_own, act_for, acted, head_after, empty_head}
use Rattle.switch_staged.specs.Stages.{head_at, met, missed, headed_with, headed_at, heads_at, taken_after, part_for, parted_at, taken_at_place, no_taken, hots_at, grown_at, key_touched, touch_key, hots_after, warmed, arrays_after, carried_all, wants_part, leaves_now, is_base, head_mark, mark_of_key}
use Rattle.switch_staged.specs.Rows.{row, with_row, joined, all_bytes, AreFull, BODY_CELLS}
use Rattle.switch_staged.specs.Whole.{Registers, Fits, view_of, slots_of, eras_of, marks_of, from_bodies, from_hot, from_taken, from_heads}
use Rattle.switch_staged.specs.Emits.{slot_of, first_out, second_out, part_out}
use Rattle.switch_staged.specs.Changes.{ended, rows_left, bytes_left, changes_at, part_at, before_at}
use Rattle.switch_staged.proofs.SlotLaws.{set_same, carries_row, writes_row, keeps_row, carries_nothing, writes_nothing, slot_is, slot_sets, slot_heads}

-- the stages of the bodies with a slot
pub bodies_hit : (config : Config) (r : Registers) (f : Course) (i : ℕ) → f.place ≡ Some i → length f.cells ≡ length r.arrays
    → from_bodies config r f ≡ ended config (record r { arrays = rows_left i r.arrays f }) (record f { cells = row i r.arrays })
bodies_hit config r f i p l =
    ap (λ a. record { view = view_of config (record r { arrays = a }); first = first_out config (carried_all 0 r.arrays f); second = second_out (carried_all 0 r.arrays f) }) (arrays (writes f.act) refl)
    ∙ ap (λ g. record { view = view_of config (record r { arrays = rows_left i r.arrays f }); first = first_out config g; second = second_out g }) (carries_row i 0 [] f.cells r.arrays f p refl refl l)
  where
    arrays : (w : Bool) → writes f.act ≡ w → arrays_after 0 r.arrays f ≡ rows_left i r.arrays f
    arrays true e = writes_row i 0 [] f.cells r.arrays f p e refl refl l ∙ ap (λ b. if b then with_row i r.arrays f.cells else r.arrays) (sym e)
    arrays false e = keeps_row i 0 r.arrays f p e ∙ ap (λ b. if b then with_row i r.arrays f.cells else r.arrays) (sym e)

pub bodies_miss : (config : Config) (r : Registers) (f : Course) → f.place ≡ None → from_bodies config r f ≡ ended config r f
bodies_miss config r f p =
    ap (λ a. record { view = view_of config (record r { arrays = a }); first = first_out config (carried_all 0 r.arrays f); second = second_out (carried_all 0 r.arrays f) }) (writes_nothing 0 r.arrays f p)
    ∙ ap (λ g. record { view = view_of config r; first = first_out config g; second = second_out g }) (carries_nothing 0 r.arrays f p)

abbrev pub old_taken : Registers → ℕ → Taken
old_taken r i = slice_index_or r.taken i no_taken

-- from the taken parts on, with a slot
pub taken_hit : (config : Config) (r : Registers) (f : Course) (i : ℕ) → f.place ≡ Some i → length f.cells ≡ length r.arrays
    → from_taken config r f ≡ ended config (record r { taken = slice_set r.taken i (taken_after f (old_taken r i)); arrays = rows_left i r.arrays f })
    (record f { part = part_for f (old_taken r i); hot = false; cells = row i r.arrays })
taken_hit config r f i p l =
    ap (λ q. from_hot config (record r { taken = taken_at_place r.taken q f }) (parted_at r.taken q f)) p
    ∙ ap (λ q. from_bodies config (record r { taken = slice_set r.taken i (taken_after f (old_taken r i)); hot = hots_at config.hot f.gate.snap r.hot (touch_key q f.packet) })
    (record f { part = part_for f (old_taken r i); hot = grown_at config.hot f.gate.snap r.hot (touch_key q f.packet) })) p
    ∙ bodies_hit config (record r { taken = slice_set r.taken i (taken_after f (old_taken r i)) }) (record f { part = part_for f (old_taken r i); hot = false }) i p l

-- and without one
pub taken_miss : (config : Config) (r : Registers) (f : Course) → f.place ≡ None
    → from_taken config r f ≡ ended config (record r { hot = hots_at config.hot f.gate.snap r.hot (key_touched f.packet) }) (record f { hot = grown_at config.hot f.gate.snap r.hot (key_touched f.packet) })
taken_miss config r f p =
    ap (λ q. from_hot config (record r { taken = taken_at_place r.taken q f }) (parted_at r.taken q f)) p
    ∙ ap (λ q. from_bodies config (record r { hot = hots_at config.hot f.gate.snap r.hot (touch_key q f.packet) }) (record f { hot = grown_at config.hot f.gate.snap r.hot (touch_key q f.packet) })) p
    ∙ bodies_miss config (record r { hot = hots_at config.hot f.gate.snap r.hot (key_touched f.packet) }) (record f { hot = grown_at config.hot f.gate.snap r.hot (key_touched f.packet) }) p

-- the slot is the packet's
pub heads_own : (config : Config) (r : Registers) (f : Course) (i : ℕ) → f.place ≡ Some i → is_own f.packet (head_at r.heads i) ≡ true
    → from_heads config r f ≡ from_taken config (record r { heads = slice_set r.heads i (acted (act_for f.packet (head_at r.heads i)) f.gate.counter f.packet (head_at r.heads i)) }) (met (head_at r.heads i) f)
unfolding head_after
heads_own config r f i p o =
    ap (λ q. from_taken config (record r { heads = heads_at r.heads q f }) (headed_at r.heads q f)) p
    ∙ ap (λ b. from_taken config (record r { heads = slice_set r.heads i (if b then acted (act_for f.packet (head_at r.heads i)) f.gate.counter f.packet (head_at r.heads i) else head_at r.heads i) }) (if b then met (head_at r.heads i) f else missed f)) o

-- the slot is of another key
pub heads_other : (config : Config) (r : Registers) (f : Course) (i : ℕ) → f.place ≡ Some i → is_own f.packet (head_at r.heads i) ≡ false
    → from_heads config r f ≡ from_taken config r (missed f)
unfolding head_after
heads_other config r f i p o =
    ap (λ q. from_taken config (record r { heads = heads_at r.heads q f }) (headed_at r.heads q f)) p
    ∙ ap (λ b. from_taken config (record r { heads = slice_set r.heads i (if b then acted (act_for f.packet (head_at r.heads i)) f.gate.counter f.packet (head_at r.heads i) else head_at r.heads i) }) (if b then met (head_at r.heads i) f else missed f)) o
    ∙ ap (λ hs. from_taken config (record r { heads = hs }) (missed f)) (set_same r.heads i empty_head)

-- the view after a slot's head, cells and taken part were set
pub view_sets : (config : Config) (r : Registers) (i : ℕ) (h : Head) (t : Taken) (f : Course) → Fits config r → i < config.slots → length f.cells ≡ BODY_CELLS
    → view_of config (record r { heads = slice_set r.heads i h; taken = slice_set r.taken i t; arrays = rows_left i r.arrays f })
    ≡ record (view_of config r) { slots = slice_set (slots_of config.slots r.heads r.arrays) i (slot_of h (joined (bytes_left f.cells (row i r.arrays) (writes f.act)))); taken = slice_set (eras_of r.taken) i t.era; shown = slice_set (marks_of r.taken) i t.mark }
view_sets config r i h t f fits b l =
    ap (λ s. record (view_of config r) { slots = s; taken = eras_of (slice_set r.taken i t); shown = marks_of (slice_set r.taken i t) }) (slots (writes f.act))
    ∙ ap (λ e. record (view_of config r) { slots = slice_set (slots_of config.slots r.heads r.arrays) i (slot_of h (joined (bytes_left f.cells (row i r.arrays) (writes f.act)))); taken = e; shown = marks_of (slice_set r.taken i t) }) (map-set (λ (x : Taken). x.era) r.taken i t)
    ∙ ap (λ m. record (view_of config r) { slots = slice_set (slots_of config.slots r.heads r.arrays) i (slot_of h (joined (bytes_left f.cells (row i r.arrays) (writes f.act)))); taken = slice_set (eras_of r.taken) i t.era; shown = m }) (map-set (λ (x : Taken). x.mark) r.taken i t)
  where
    slots : (w : Bool) → slots_of config.slots (slice_set r.heads i h) (if w then with_row i r.arrays f.cells else r.arrays)
        ≡ slice_set (slots_of config.slots r.heads r.arrays) i (slot_of h (joined (bytes_left f.cells (row i r.arrays) w)))
    slots true = slot_sets config.slots i r.heads r.arrays h f.cells (l ∙ sym fits.count) fits.arrays
    slots false = slot_heads config.slots i r.heads r.arrays h fits.arrays b

-- the mark of what a slot shows
pub mark_is : (h : Head) (bytes : List ℕ) → head_mark h ≡ mark_of (held_record (slot_of h bytes))
unfolding head_mark
mark_is h bytes = by h.latest h.key
  where
    by : (latest : Bool) (key : Option (List ℕ)) → (if latest then mark_of_key key h.num else None) ≡ mark_of (held_record (slot_of (record h { latest = latest; key = key }) bytes))
    by true None = refl
    by true (Some key) = refl
    by false key = refl

-- A packet that meets its slot, by what it does with it.
use Rattle.std.proofs.Common.{◌≡◌, ℕ, zero, suc, ◌+◌, ◌<◌, ◌≤◌, Bool, true, false, List, length, sym, refl, ap, ◌∙◌, subst, arith, rules, Option, None, Some}
use Rattle.std.specs.Prelude.{slice_set, slice_index_or, if◌then◌else◌, max}
use Rattle.far_base.specs.declared.plan.Config.{Config}
use Rattle.far_base.specs.declared.packet.Out.{Out}
use Rattle.far_base.specs.declared.packet.Packet.{Packet}
use Rattle.far_model.specs.View.{SlotView, SwitchView, slot_at}
use Rattle.far_model.specs.Pass.{Passed, raised, with_slot}
use Rattle.switch_staged.specs.declared.cells.Head.{Head}
use Rattle.switch_staged.specs.declared.flight.Act.{Act}
use Rattle.switch_staged.specs.declared.flight.Act.TheVariants.{Keep, Absorb, Raise, Bind, Clear}
use Rattle.switch_staged.specs.declared.flight.Course.{Course}
use Rattle.switch_staged.specs.Heads.{writes, is_own, act_for, acted, cells_of_body, body_after}
use Rattle.switch_staged.specs.Stages.{head_at, met, taken_after, part_for}
use Rattle.switch_staged.specs.Rows.{row, joined}
use Rattle.switch_staged.specs.Whole.{Registers, Fits, view_of, slots_of, eras_of, marks_of, from_heads}
use Rattle.switch_staged.specs.Emits.{slot_of, first_out, second_out}
use Rattle.switch_staged.specs.Changes.{bytes_left}
use Rattle.switch_staged.proofs.SlotLaws.{set_same}
use Rattle.switch_staged.proofs.HitLaws.{old_taken}
use Rattle.switch_staged.proofs.KindLaws.{own_passes, row_bytes, slot_at_is}

abbrev pub met_as : Act → Head → Course → Course
met_as a h f = record f { found = h; act = a; cells = cells_of_body (body_after a f.packet) }

abbrev pub landed_as : Act → Registers → ℕ → Course → Course
landed_as a r i f = record f { found = head_at r.heads i; act = a; part = part_for (met_as a (head_at r.heads i) f) (old_taken r i); hot = false; cells = row i r.arrays }

abbrev pub slot_as : Act → Registers → ℕ → Course → SlotView
slot_as a r i f = slot_of (acted a f.gate.counter f.packet (head_at r.heads i)) (joined (bytes_left (cells_of_body (body_after a f.packet)) (row i r.arrays) (writes a)))

abbrev pub outcome_as : Config → Registers → Course → ℕ → Act → Passed
outcome_as config r f i a = record {
  view = record (view_of config r) { slots = slice_set (slots_of config.slots r.heads r.arrays) i (slot_as a r i f); taken = slice_set (eras_of r.taken) i (taken_after (met_as a (head_at r.heads i) f) (old_taken r i)).era; shown = slice_set (marks_of r.taken) i (taken_after (met_as a (head_at r.heads i) f) (old_taken r i)).mark };
  first = first_out config (landed_as a r i f);
  second = second_out (landed_as a r i f);
}

pub own_acts : (config : Config) (r : Registers) (f : Course) (i : ℕ) (a : Act) → Fits config r → i < config.slots → f.place ≡ Some i → is_own f.packet (head_at r.heads i) ≡ true → act_for f.packet (head_at r.heads i) ≡ a
    → from_heads config r f ≡ outcome_as config r f i a
own_acts config r f i a fits b p o e = own_passes config r f i fits b p o ∙ ap (outcome_as config r f i) e

pub slot_raised : (h : Head) (num : ℕ) (bytes : List ℕ) → slot_of (if h.latest then h else record { key = h.key; tag = h.tag; valid = h.valid; latest = h.latest; num = max h.num num; shape = h.shape }) bytes ≡ raised num (slot_of h bytes)
slot_raised h num bytes = by h.latest
  where
    by : (x : Bool) → slot_of (if x then h else record { key = h.key; tag = h.tag; valid = h.valid; latest = h.latest; num = max h.num num; shape = h.shape }) bytes ≡ (if x then slot_of h bytes else record (slot_of h bytes) { num = max h.num num })
    by true = refl
    by false = refl

-- a slot that is set to what it is
pub same_slot : (config : Config) (r : Registers) (i : ℕ) → Fits config r → i < config.slots → with_slot (view_of config r) i (slot_of (head_at r.heads i) (row_bytes r i)) ≡ view_of config r
same_slot config r i fits b = ap (λ s. record (view_of config r) { slots = s }) (ap (slice_set (slots_of config.slots r.heads r.arrays) i) (sym (slot_at_is config r i fits b)) ∙ set_same (slots_of config.slots r.heads r.arrays) i _)

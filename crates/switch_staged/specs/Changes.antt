-- The first change of a slot, where what it was stands beside the view.
use Rattle.std.specs.Prelude.{◌≡◌, ℕ, Bool, true, false, ◌&&◌, nat_eq, nat_lt, if◌then◌else◌, List, slice_set, Option}
use Rattle.std.specs.Prelude.{None, Some}
use Rattle.far_base.specs.declared.packet.Out.{Out}
use Rattle.far_base.specs.declared.packet.Packet.{Packet}
use Rattle.far_base.specs.declared.packet.Packet.TheVariants.{SnapPart, SnapSame}
use Rattle.far_base.specs.declared.party.Party.TheVariants.{Controller}
use Rattle.far_base.specs.declared.plan.Config.{Config}
use Rattle.far_model.specs.View.{SlotView, SwitchView, Mark, held_record, mark_of, same_mark}
use Rattle.far_model.specs.Pass.{Passed, sent_to, with_slot, with_taken}
use Rattle.switch_staged.specs.declared.flight.Course.{Course}
use Rattle.switch_staged.specs.Heads.{writes, cells_of_body}
use Rattle.switch_staged.specs.Shapes.{shaped}
use Rattle.switch_staged.specs.Rows.{with_row, joined}
use Rattle.switch_staged.specs.Emits.{first_out, second_out}
use Rattle.switch_staged.specs.Whole.{Registers, view_of}

abbrev pub before_at : SwitchView → SlotView → ℕ → Option Mark → Bool
before_at v old era mark = nat_lt 0 v.base && (nat_eq era v.base && same_mark mark (mark_of (held_record old)))

abbrev pub part_at : SwitchView → ℕ → SlotView → ℕ → Option Mark → Option Out
part_at v i old era mark = sent_to Controller (if before_at v old era mark then SnapSame v.snap i
    else SnapPart v.snap i (held_record old))

abbrev pub changes_at : SwitchView → ℕ → SlotView → ℕ → Option Mark → SlotView → Option Out → Passed
changes_at v i old era mark slot out = record {
  view = if nat_eq era v.snap then with_slot v i slot else with_taken (with_slot v i slot) i (held_record old);
  first = out;
  second = if nat_eq era v.snap then None else part_at v i old era mark;
}

abbrev pub ended : Config → Registers → Course → Passed
ended config r f = record { view = view_of config r; first = first_out config f; second = second_out f }

abbrev pub rows_left : ℕ → List (List (List ℕ)) → Course → List (List (List ℕ))
rows_left i arrays f = if writes f.act then with_row i arrays f.cells else arrays

abbrev pub bytes_left : List (List ℕ) → List (List ℕ) → Bool → List (List ℕ)
bytes_left new old w = if w then new else old

-- the cells of a slot are those of its body
abbrev pub IsCut : Option ℕ → List (List ℕ) → Type 0
IsCut shape cells = cells ≡ cells_of_body (shaped shape (joined cells))

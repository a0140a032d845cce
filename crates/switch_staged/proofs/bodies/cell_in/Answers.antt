use Rattle.std.proofs.Common.{rules, arith, sym, subst, ap, ◌∙◌, length, ◌<◌}
use Rattle.std.specs.Prelude.{slice_index_or}
use Rattle.std.proofs.lemmas.Option.{get_or_from_slice_get}
use Rattle.register_stages.specs.Arrays.{cells_of}
use Rattle.switch_staged.specs.Rows.{zero_cell}
use Rattle.switch_staged.proofs.PassLaws.{part_slots, get_map}
use Rattle.switch_staged.proofs.bodies.cell_in.Goals as goal

pub look-requires : goal.look-requires
look-requires c =
    let p = c.requires.part in
    subst (λ a. c.args.slot < length (cells_of a)) (sym c.index-arrays-at.is) (subst (λ n. c.args.slot < n) (sym (part_slots p.0 p.1 c.args.arrays.now c.args.at c.index-arrays-at.result p.3 c.requires.at)) p.2)

pub returns : goal.returns
returns c =
    sym (get_or_from_slice_get _ c.args.slot c.look.result zero_cell c.look.ensures)
    ∙ ap (λ a. slice_index_or (cells_of a) c.args.slot zero_cell) c.index-arrays-at.is
    ∙ ap (λ x. slice_index_or x c.args.slot zero_cell) (sym (get_map c.args.arrays.now c.args.at c.index-arrays-at.result c.requires.at))

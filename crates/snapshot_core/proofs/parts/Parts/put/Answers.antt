use Rattle.std.proofs.Common.{◌≡◌, ◌<◌, false, true, arith, ap, sym, ◌∙◌, length, get_or}
use Rattle.std.proofs.lemmas.List.{length-set}
use Rattle.std.specs.Prelude.{is_some, slice_set, slice_index_or, None, Some}
use Rattle.snapshot_core.proofs.Counted.{parts_length, part_there, parts_set, lacking_set}
use Rattle.snapshot_core.proofs.parts.Parts.put.Goals as goal

pub index_mut-requires : goal.index_mut-requires
index_mut-requires c =
    omega (arith, c.requires.slot, ap length c.self.view_is, parts_length c.self.inside.come.items c.self.inside.views.items c.self.invariant.alike)

pub index_mut-requires-2 : goal.index_mut-requires-2
index_mut-requires-2 c =
    omega (arith, c.requires.slot, ap length c.self.view_is, parts_length c.self.inside.come.items c.self.inside.views.items c.self.invariant.alike)

pub overflow_sub-self : goal.overflow_sub-self
overflow_sub-self c =
    let first : get_or c.self.inside.come.items c.args.slot false ≡ false =
    sym (part_there c.self.inside.come.items c.self.inside.views.items c.args.slot c.self.invariant.alike)
    ∙ ap (λ parts. is_some (slice_index_or parts c.args.slot None)) c.self.view_is ∙ c.requires.first in
    let within : c.args.slot < length c.self.inside.come.items =
    omega (arith, c.requires.slot, ap length c.self.view_is, parts_length c.self.inside.come.items c.self.inside.views.items c.self.invariant.alike) in
    omega (arith, lacking_set c.self.inside.come.items c.args.slot within first, c.self.invariant.count)

pub invariant_of-self : goal.invariant_of-self
invariant_of-self c =
    let first : get_or c.self.inside.come.items c.args.slot false ≡ false =
    sym (part_there c.self.inside.come.items c.self.inside.views.items c.args.slot c.self.invariant.alike)
    ∙ ap (λ parts. is_some (slice_index_or parts c.args.slot None)) c.self.view_is ∙ c.requires.first in
    let within : c.args.slot < length c.self.inside.come.items =
    omega (arith, c.requires.slot, ap length c.self.view_is, parts_length c.self.inside.come.items c.self.inside.views.items c.self.invariant.alike) in
    record {
      alike = length-set c.self.inside.come.items c.args.slot true ∙ c.self.invariant.alike ∙ sym (length-set c.self.inside.views.items c.args.slot c.args.view);
      count = omega (arith, lacking_set c.self.inside.come.items c.args.slot within first, c.self.invariant.count);
      few = omega (arith, length-set c.self.inside.come.items c.args.slot true, c.self.invariant.few);
    }

pub returns : goal.returns
returns c =
    parts_set c.self.inside.come.items c.self.inside.views.items c.args.slot c.args.view c.self.invariant.alike
    ∙ ap (λ parts. slice_set parts c.args.slot (Some c.args.view)) c.self.view_is

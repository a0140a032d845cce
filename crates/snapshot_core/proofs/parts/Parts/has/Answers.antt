use Rattle.std.proofs.Common.{◌≡◌, ap, sym, ◌∙◌, false, Bool, Option, None, get_or, arith, List}
use Rattle.std.specs.Prelude.{is_some, slice_index_or}
use Rattle.std.specs.Option.{unwrap_or}
use Rattle.snapshot_core.proofs.Counted.{part_there}
use Rattle.snapshot_core.proofs.parts.Parts.has.Goals as goal

pub returns : goal.returns
returns c =
    let found : c.unwrap_or.result ≡ get_or c.deref.result.now c.args.slot false = c.unwrap_or.ensures ∙ ap (λ (o : Option Bool). unwrap_or o false) c.copied.ensures ∙ c.get.ensures.lookup.4 (omega arith) false in
    found
    ∙ ap (λ (come : List Bool). get_or come c.args.slot false) c.deref.ensures.value
    ∙ sym (part_there c.self.inside.come.items c.self.inside.views.items c.args.slot c.self.invariant.alike)
    ∙ ap (λ parts. is_some (slice_index_or parts c.args.slot None)) c.self.view_is

use Rattle.std.proofs.Common.{ap, sym, ◌∙◌}
use Rattle.std.specs.Prelude.{is_some, nat_eq}
use Rattle.std.specs.List.{list_all}
use Rattle.snapshot_core.proofs.Counted.{none_lacking}
use Rattle.snapshot_core.proofs.parts.Parts.all.Goals as goal

pub returns : goal.returns
returns c =
    ap (λ n. nat_eq n 0) c.self.invariant.count
    ∙ sym (none_lacking c.self.inside.come.items c.self.inside.views.items c.self.invariant.alike)
    ∙ ap (list_all is_some) c.self.view_is

use Rattle.std.proofs.Common.{ap, sym, ◌∙◌, map}
use Rattle.std.specs.Prelude.{is_some}
use Rattle.std.specs.List.{list_all}
use Rattle.far_model.specs.Snapshots.{view_in}
use Rattle.snapshot_core.proofs.Counted.{views_back}
use Rattle.snapshot_core.proofs.parts.Parts.into_views.Goals as goal

pub returns : goal.returns
returns c =
    sym (views_back c.self.inside.come.items c.self.inside.views.items c.self.invariant.alike (ap (list_all is_some) c.self.view_is ∙ c.requires))
    ∙ ap (map view_in) c.self.view_is

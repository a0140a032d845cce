use Rattle.std.proofs.Common.{◌+◌, take, [], ◌∷◌}
use Rattle.far_base.specs.declared.kept.KeptPlace.TheVariants.{Snap}
use Rattle.far_model.specs.Kept.{placed_in}
use Rattle.far_model.specs.Snapshots.{view_records}
use Rattle.far_world.proofs.Keeping.{goes_on, views_on}
use Rattle.far_world.proofs.kept_list.place_views.Goals as goal

pub loop-i-preserved : goal.loop-i-preserved
loop-i-preserved c = goes_on c.args.into.now.items (placed_in Snap (view_records (take c.loop-i.i c.args.views.now))) (placed_in Snap (view_records (c.index-views-i.result ∷ []))) (placed_in Snap (view_records (take (c.loop-i.i + 1) c.args.views.now)))
    c.loop-i.into.items c.place_view.new.into.items c.loop-i.invariant c.in_ok-place_view.ensures (views_on c.args.views.now c.loop-i.i c.index-views-i.result c.loop-i-test.true c.index-views-i.is)

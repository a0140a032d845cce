use Rattle.std.proofs.Common.{◌≡◌, ◌++◌, take}
use Rattle.far_base.specs.declared.kept.KeptPlace.TheVariants.{Snap}
use Rattle.far_model.specs.Kept.{placed_in}
use Rattle.far_model.specs.Snapshots.{view_records}
use Rattle.far_world.proofs.kept_list.place_views.Given as goal

abbrev pub invariant-loop-i : goal.invariant-loop-i
invariant-loop-i l = l.into.items ≡ l.initial.into.items ++ placed_in Snap (view_records (take l.i l.views))

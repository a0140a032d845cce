use Rattle.std.proofs.Common.{◌≡◌, ◌++◌, take}
use Rattle.far_model.specs.Kept.{placed_in}
use Rattle.far_world.proofs.kept_list.place_all.Given as goal

abbrev pub invariant-loop-rec : goal.invariant-loop-rec
invariant-loop-rec l = l.into.items ≡ l.initial.into.items ++ placed_in l.place (take l.rec-index l.records)

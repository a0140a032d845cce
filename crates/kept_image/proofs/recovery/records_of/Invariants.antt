use Rattle.std.proofs.Common.{◌≡◌, take}
use Rattle.far_model.specs.Kept.{records_in}
use Rattle.kept_image.proofs.recovery.records_of.Given as goal

abbrev pub invariant-loop-item : goal.invariant-loop-item
invariant-loop-item l = l.records.items ≡ records_in (take l.item-index l.items)

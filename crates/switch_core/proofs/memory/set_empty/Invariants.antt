use Rattle.std.proofs.Common.{◌≡◌, replicate, take}
use Rattle.far_model.specs.View.{empty_slot}
use Rattle.switch_core.proofs.memory.set_empty.Given as goal

abbrev pub invariant-loop-slot : goal.invariant-loop-slot
invariant-loop-slot l = take l.slot-index l.slot-items ≡ replicate l.slot-index empty_slot

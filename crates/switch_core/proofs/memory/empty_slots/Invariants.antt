use Rattle.std.proofs.Common.{◌≡◌, ◌≤◌, replicate, vec_capacity}
use Rattle.far_model.specs.View.{empty_slot}
use Rattle.switch_core.proofs.memory.empty_slots.Given as goal

abbrev pub invariant-loop : goal.invariant-loop
invariant-loop l = (l.slots.items ≡ replicate l.counter empty_slot) × (l.count ≤ vec_capacity l.slots)

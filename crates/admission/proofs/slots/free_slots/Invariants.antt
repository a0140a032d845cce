use Rattle.std.proofs.Common.{◌≡◌, replicate}
use Rattle.far_base.specs.declared.slot_state.SlotState.TheVariants.{Free}
use Rattle.admission.proofs.slots.free_slots.Given as goal

abbrev pub invariant-loop : goal.invariant-loop
invariant-loop l = l.slots.items ≡ replicate l.counter Free

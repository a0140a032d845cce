use Rattle.std.proofs.Common.{sym, arith}
use Rattle.std.proofs.lemmas.List.{length-replicate}
use Rattle.far_base.specs.declared.slot_state.SlotState.TheVariants.{Free}
use Rattle.admission.proofs.Free.{count_all}
use Rattle.admission.proofs.slots.Admission.new.Goals as goal

pub invariant_of-result : goal.invariant_of-result
invariant_of-result c = rw c.in_ok-free_slots.ensures (omega (arith, c.ranges.slots.fits, length-replicate c.args.slots Free), (omega arith, sym (count_all c.args.slots)))

use Rattle.std.proofs.Common.{vec_len, arith}
use Rattle.std.proofs.lemmas.List.{length-replicate}
use Rattle.far_base.specs.declared.slot_state.SlotState.TheVariants.{Free}
use Rattle.admission.proofs.Free.{count_all}
use Rattle.admission.proofs.slots.Admission.clear.Goals as goal

pub invariant_of-self : goal.invariant_of-self
invariant_of-self c =
    let count = vec_len c.self.inside.slots in
    rw (c.fill.ensures.items (λ y e. e))
    (omega (arith, length-replicate count Free, c.self.invariant.0, c.self.inside.slots.ok.0), (omega arith, omega (arith, c.len-self-inside.ensures, c.fill.ensures.len, count_all count)))

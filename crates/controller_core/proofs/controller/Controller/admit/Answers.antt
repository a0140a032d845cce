use Rattle.std.proofs.Common.{◌≡◌, Some, ap}
use Rattle.std.specs.Prelude.{slice_set}
use Rattle.far_base.specs.declared.slot_state.SlotState.TheVariants.{Admitting}
use Rattle.far_model.specs.Evictions.{first_place, is_free}
use Rattle.admission.specs.AdmissionView.{AdmissionView}
use Rattle.controller_core.specs.Inside.{view_of}
use Rattle.controller_core.proofs.Slots.{free_place, still_fit}
use Rattle.controller_core.proofs.controller.Controller.admit.Goals as goal

pub invariant_of-self : goal.invariant_of-self
invariant_of-self c =
    let admission = c.self.inside.admission in
    let place : first_place is_free admission.slots ≡ Some c.in-Some.slot = cc in
    let slots : c.next_admit.new.self.slots ≡ slice_set admission.slots c.in-Some.slot (Admitting c.args.key admission.next_tag) = ap (λ (a : AdmissionView). a.slots) c.in-Some.ensures.admitted in
    still_fit (view_of c.self.inside) c.next_admit.new.self.slots c.next_admit.new.self.next_tag c.next_admit.new.self.hand c.drop_first.new.self c.in-Some.slot (Admitting c.args.key admission.next_tag) slots (free_place admission.slots c.in-Some.slot place) c.self.invariant

use Rattle.std.proofs.Common.{◌≡◌, not, nat_eq, subst}
use Rattle.std.specs.Prelude.{is_some}
use Rattle.far_model.specs.Evictions.{first_place, is_free}
use Rattle.admission.specs.AdmissionView.{AdmissionView}
use Rattle.admission.proofs.Free.{tells_free}
use Rattle.admission.proofs.slots.Admission.has_free.Goals as goal

pub returns : goal.returns
returns c = subst (λ (a : AdmissionView). not (nat_eq c.self.inside.free 0) ≡ is_some (first_place is_free a.slots)) c.self.view_is (tells_free c.self.inside.free c.self.inside.slots.items c.self.invariant.1.1)

-- What a part that leaves relies on.
use Rattle.far_invariants.specs.Operations.{AdmitsOther, Relies}
use Rattle.std.proofs.Common.{ℕ}
use Rattle.far_base.specs.PlanView.{PlanView}
use Rattle.far_base.specs.declared.packet.Packet.TheVariants.{SnapPart, SnapSame}
use Rattle.far_model.specs.Pass.{part_packet, is_as_before}
use Rattle.far_model.specs.State.{State}
use Rattle.far_model.specs.View.{SwitchView, slot_at, held_record}
use Rattle.flight_laws.proofs.Lists.{by_test}

-- the part of a slot relies on nothing, and admits nothing
pub part_relies : (plan : PlanView) (t : State) (v : SwitchView) (i : ℕ) → Relies plan t (part_packet v i)
part_relies plan t v i = by_test (Relies plan t) (is_as_before v i) (SnapSame v.snap i) (SnapPart v.snap i (held_record (slot_at v i))) tt tt

pub part_admits : (v : SwitchView) (i tag : ℕ) → AdmitsOther tag (part_packet v i)
part_admits v i tag = by_test (AdmitsOther tag) (is_as_before v i) (SnapSame v.snap i) (SnapPart v.snap i (held_record (slot_at v i))) tt tt

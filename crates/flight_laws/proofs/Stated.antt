-- The invariant of admissions in its older words, while the switch runs.
use Rattle.far_invariants.specs.Slots.{AdmissionIs, AdmissionsInFlight}
use Rattle.std.proofs.Common.{◌≡◌, ℕ, ◌<◌, true, refl}
use Rattle.far_base.specs.PlanView.{PlanView}
use Rattle.far_base.specs.declared.packet.Packet.{Packet}
use Rattle.far_base.specs.declared.packet.Packet.TheVariants.{Admit, AdmitAck}
use Rattle.far_invariants.specs.Flights.{OfAdmission, subject}
use Rattle.far_model.specs.State.{State}
use Rattle.far_invariants.specs.InFlight.{AdmissionFits, AdmissionMeets}
use Rattle.flight_laws.proofs.SwitchKeeps.{Inv, running_no_round}

pub admissions_stated : (plan : PlanView) (s : State) → Inv plan s → s.running ≡ true → AdmissionsInFlight s
admissions_stated plan s h running = record {
  packets = λ m a. of m.packet (λ i tag e. h.admissions.drawn m i tag a e) (h.admissions.fits m a) (h.admissions.meets running m a);
  one = h.admissions.one (running_no_round plan s h.rounds running);
  once = h.admissions.once;
}
  where
    of : (p : Packet) → ((i tag : ℕ) → subject p ≡ OfAdmission i tag → tag < s.controller.next_tag) → AdmissionFits s.controller p → AdmissionMeets s.switch s.controller.epoch p → AdmissionIs s p
    of (Admit epoch i key tag) d f g = (d i tag refl, λ e. (f (running_no_round plan s h.rounds running) e, g e))
    of (AdmitAck i tag) d f g = (f.0, f.1, g.0)
    of _ d f g = tt

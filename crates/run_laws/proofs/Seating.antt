-- Slots and admissions across events: what is the same as in runs without stops, and steps that change no owner.
use Rattle.far_invariants.specs.Slots.{FitsState, IsGiven, AdmissionIs, is_admission_of, admits_under, admission_count}
use Rattle.std.proofs.Common.{◌≡◌, ℕ, ◌≤◌, ◌⊎◌, inl, inr, true, false, length, sym, ap, ◌∙◌, subst, arith}
use Rattle.std.specs.Prelude.{None}
use Rattle.std.specs.List.{count_by}
use Rattle.far_base.specs.PlanView.{PlanView}
use Rattle.far_base.specs.declared.packet.Message.{Message}
use Rattle.far_base.specs.declared.packet.Packet.{Packet}
use Rattle.far_base.specs.declared.packet.Packet.TheVariants.{Admit, AdmitAck}
use Rattle.far_model.specs.Evictions.{state_at}
use Rattle.far_model.specs.Members.{Among}
use Rattle.far_model.specs.State.{State}
use Rattle.far_model.specs.View.{slot_at}
use Rattle.record_laws.proofs.Seats.{is_admission_packet, no_admission_of, admits_no_tag, SameSlots, fits_same, place_same, Seats, SameBag}
use Rattle.far_invariants.specs.Seated.{AdmissionStands, Seated}

-- ---- while the switch runs, outside a round, nothing is new

abbrev pub IsPast : ℕ → Packet → Type 0
IsPast present (Admit epoch i key tag) = epoch ≤ present
IsPast present _ = Unit {0}

-- no admission on its way is of an epoch to come
abbrev pub ArePast : State → Type 0
ArePast s = (m : Message) → Among m s.bag → IsPast s.controller.epoch m.packet

pub seats_of : (plan : PlanView) (s : State) → Seated plan s → s.running ≡ true → s.controller.round ≡ None → Seats plan s
seats_of plan s h runs outside = record {
  running = runs;
  slots = record {
    epoch = h.slots.epoch runs;
    bounds = h.slots.bounds;
    slots = h.slots.slots;
    states = h.slots.states;
    fits = h.slots.fits runs;
    apart = h.slots.apart;
    drawn = h.slots.drawn;
    owned = h.slots.owned;
  };
  admissions = record { packets = λ m a. packet m.packet (h.admissions.packets m a); one = h.admissions.one outside; once = h.admissions.once };
}
  where
    packet : (p : Packet) → AdmissionStands s p → AdmissionIs s p
    packet (Admit epoch i key tag) a = (a.0, λ e. let f = a.2 e outside in (f.0, f.1 runs))
    packet (AdmitAck i tag) a = (a.0, a.1, a.2 runs)
    packet _ a = tt

pub seated_of : (plan : PlanView) (s : State) → Seats plan s → ArePast s → Seated plan s
seated_of plan s h past = record {
  slots = record {
    epoch = λ runs. h.slots.epoch;
    bounds = h.slots.bounds;
    slots = h.slots.slots;
    states = h.slots.states;
    fits = λ runs. h.slots.fits;
    apart = h.slots.apart;
    drawn = h.slots.drawn;
    owned = h.slots.owned;
  };
  admissions = record { packets = λ m a. packet m.packet (h.admissions.packets m a) (past m a); one = λ outside. h.admissions.one; once = h.admissions.once };
}
  where
    packet : (p : Packet) → AdmissionIs s p → IsPast s.controller.epoch p → AdmissionStands s p
    packet (Admit epoch i key tag) a b = (a.0, b, λ e outside. let f = a.1 e in (f.0, λ runs. f.1))
    packet (AdmitAck i tag) a b = (a.0, a.1, λ runs. a.2)
    packet _ a b = tt

-- ---- a step that changes no owner and no state, and neither sends nor takes an admission

pub record SeatsStay (s t : State) : Type 0 where
  pub running : t.running ≡ s.running
  pub round : t.controller.round ≡ None → s.controller.round ≡ None
  pub slots : SameSlots s.switch t.switch
  pub epoch : t.controller.epoch ≡ s.controller.epoch
  pub states : t.controller.slots ≡ s.controller.slots
  pub tags : s.controller.next_tag ≤ t.controller.next_tag
  pub bag : SameBag s t

admission_stays : (s t : State) → SeatsStay s t → (p : Packet) → AdmissionStands s p → AdmissionStands t p
admission_stays s t same (Admit epoch i key tag) h = (
  let b = h.0 in let more = same.tags in omega (arith, b, more),
  let b = h.1 in let e = same.epoch in omega (arith, b, e),
  λ e outside. let p = h.2 (e ∙ same.epoch) (same.round outside) in (ap (λ l. state_at l i) same.states ∙ p.0, λ runs. (same.slots.owners i).valid ∙ p.1 (sym same.running ∙ runs)),
)
admission_stays s t same (AdmitAck i tag) h = (h.0, ap (λ l. state_at l i) same.states ∙ h.1, λ runs. (same.slots.owners i).valid ∙ h.2 (sym same.running ∙ runs))
admission_stays s t same _ h = tt

pub admission_free : (s : State) (p : Packet) → is_admission_packet p ≡ false → AdmissionStands s p
admission_free s (Admit epoch i key tag) h = absurd cc
admission_free s (AdmitAck i tag) h = absurd cc
admission_free s _ h = tt

pub seated_last : (plan : PlanView) (s t : State) → Seated plan s → SeatsStay s t → Seated plan t
seated_last plan s t h same = record {
  slots = record {
    epoch = λ runs. same.slots.epoch ∙ h.slots.epoch (sym same.running ∙ runs) ∙ sym same.epoch;
    bounds = ap length same.slots.bound ∙ h.slots.bounds;
    slots = same.slots.size ∙ h.slots.slots;
    states = ap length same.states ∙ h.slots.states;
    fits = λ runs i. subst (λ l. FitsState (slot_at t.switch i) (state_at l i)) (sym same.states) (fits_same (slot_at t.switch i) (slot_at s.switch i) (state_at s.controller.slots i) (same.slots.owners i) (h.slots.fits (sym same.running ∙ runs) i));
    apart = λ i j key other tag own ne a b. h.slots.apart i j key other tag own ne (subst (λ l. IsGiven key tag (state_at l i)) same.states a) (subst (λ l. IsGiven other own (state_at l j)) same.states b);
    drawn = λ i key tag a. let b = h.slots.drawn i key tag (subst (λ l. IsGiven key tag (state_at l i)) same.states a) in let more = same.tags in omega (arith, b, more);
    owned = λ i key valid k. place_same s.switch t.switch same.slots key ∙ h.slots.owned i key (sym (same.slots.owners i).valid ∙ valid) (sym (same.slots.owners i).key ∙ k);
  };
  admissions = record {
    packets = λ m a. packet m (same.bag.news m a);
    one = λ outside i. ap (λ e. count_by (λ (m : Message). is_admission_of i e m.packet) t.bag) same.epoch ∙ same.bag.count (λ q. is_admission_of i s.controller.epoch q) (no_admission_of i s.controller.epoch)
        ∙ h.admissions.one (same.round outside) i ∙ ap (λ l. admission_count (state_at l i)) (sym same.states);
    once = λ tag. let e = same.bag.count (λ q. admits_under tag q) (admits_no_tag tag) in let b = h.admissions.once tag in omega (arith, e, b);
  };
}
  where
    packet : (m : Message) → Among m s.bag ⊎ (is_admission_packet m.packet ≡ false) → AdmissionStands t m.packet
    packet m (inl a) = admission_stays s t same m.packet (h.admissions.packets m a)
    packet m (inr off) = admission_free t m.packet off

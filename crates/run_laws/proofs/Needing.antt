-- What numbers and slots give to evictions.
use Rattle.far_invariants.specs.Slots.{IsSlotOf, FitsState}
use Rattle.far_invariants.specs.Numbers.{entry}
use Rattle.far_invariants.specs.Holds.{Numbers}
use Rattle.std.proofs.Common.{◌≡◌, ℕ, ◌<◌, true, List, subst}
use Rattle.std.specs.Prelude.{Some}
use Rattle.far_base.specs.PlanView.{PlanView}
use Rattle.far_base.specs.declared.packet.Packet.{Packet}
use Rattle.far_base.specs.declared.packet.Packet.TheVariants.{Admit, AdmitAck}
use Rattle.far_base.specs.declared.slot_state.SlotState.TheVariants.{Held}
use Rattle.far_model.specs.Evictions.{state_at}
use Rattle.far_model.specs.State.{State}
use Rattle.far_model.specs.View.{SlotView, slot_at}
use Rattle.record_laws.proofs.Seats.{owner}
use Rattle.far_invariants.specs.Evictions.{Content, written_in}
use Rattle.far_invariants.specs.EvictionNeeds as theirs
use Rattle.far_invariants.specs.SeatNeeds.{Needs, SeatNeeds}
use Rattle.far_invariants.specs.Seated.{AdmissionStands, Seated}

-- while the switch runs, a held slot has its key and tag
pub held_fits : (plan : PlanView) (s : State) → Seated plan s → s.running ≡ true → (i : ℕ) (key : List ℕ) (tag : ℕ) → state_at s.controller.slots i ≡ Held key tag → IsSlotOf key tag (slot_at s.switch i)
held_fits plan s h runs i key tag at = subst (FitsState (slot_at s.switch i)) at (h.slots.fits runs i)

-- all that evictions need of slots and numbers, whatever is said of what slots hold
pub evictions_need_of : (plan : PlanView) {c : Content} (s : State) → Seated plan s → SeatNeeds plan c s → 0 < plan.config.servers
    → ((key : List ℕ) (slot : SlotView) → entry key s.switch ≡ Some slot → slot.latest ≡ true → c s key slot.num slot.body) → theirs.Needs plan c s
evictions_need_of plan s h need servers slots = record {
  routed = need.routed;
  some_server = servers;
  outside = need.outside;
  freed = need.freed;
  epoch = h.slots.epoch;
  states = h.slots.states;
  held = λ runs i key tag at. held_fits plan s h runs i key tag at;
  given = λ runs i key valid k. owner (slot_at s.switch i) (state_at s.controller.slots i) key (h.slots.fits runs i) valid k;
  owned = λ i key tag is. h.slots.owned i key is.0 is.1;
  packets = λ m a. packet m.packet (h.admissions.packets m a);
  slots = slots;
}
  where
    packet : (p : Packet) → AdmissionStands s p → theirs.PacketNeeds plan s p
    packet (Admit own i key tag) a = λ runs same. (a.2 same (need.outside runs)).0
    packet (AdmitAck i tag) a = (a.0, a.1)
    packet _ a = tt

pub seat_needs : (plan : PlanView) (s : State) → Needs plan s → SeatNeeds plan (written_in plan) s
seat_needs plan s need = record { routed = need.routed; outside = need.outside; freed = need.freed; evictions = need.evictions }

-- where keepers tell
pub evictions_need : (plan : PlanView) (s : State) → Numbers plan s → Needs plan s → theirs.Needs plan (written_in plan) s
evictions_need plan s h need = evictions_need_of plan s h.seated (seat_needs plan s need) h.keeps.some_server (λ key slot is latest. (h.keeps.slots key slot is).written latest)

-- Slots, their owners, and admissions on their way.
use Rattle.std.specs.Prelude.{◌≡◌, ◌≢◌, ℕ, ◌<◌, ◌≤◌, ◌⊎◌, Bool, true, false, ◌&&◌, nat_eq, List, length, Some}
use Rattle.std.specs.List.{count_by}
use Rattle.far_base.specs.PlanView.{PlanView}
use Rattle.far_base.specs.declared.packet.Message.{Message}
use Rattle.far_base.specs.declared.packet.Packet.{Packet}
use Rattle.far_base.specs.declared.packet.Packet.TheVariants.{Admit, AdmitAck}
use Rattle.far_base.specs.declared.slot_state.SlotState.{SlotState}
use Rattle.far_base.specs.declared.slot_state.SlotState.TheVariants.{Free, Admitting, Held as HeldSlot, Evicting}
use Rattle.far_model.specs.Evictions.{state_at}
use Rattle.far_model.specs.Members.{Among}
use Rattle.far_model.specs.State.{State}
use Rattle.far_model.specs.View.{SlotView, slot_at, entry_place}

-- a valid slot of this key and tag
abbrev pub IsSlotOf : List ℕ → ℕ → SlotView → Type 0
IsSlotOf key tag slot = (slot.valid ≡ true) × (slot.key ≡ Some key) × (slot.tag ≡ tag)

-- what a slot of the switch is by the controller's state of it
abbrev pub FitsState : SlotView → SlotState → Type 0
FitsState slot Free = slot.valid ≡ false
FitsState slot (Admitting key tag) = (slot.valid ≡ false) ⊎ IsSlotOf key tag slot
FitsState slot (HeldSlot key tag) = IsSlotOf key tag slot
FitsState slot (Evicting key tag) = (slot.valid ≡ false) ⊎ IsSlotOf key tag slot

-- the controller has given the slot to the key under the tag
abbrev pub IsGiven : List ℕ → ℕ → SlotState → Type 0
IsGiven key tag Free = ⊥
IsGiven key tag (Admitting other own) = (other ≡ key) × (own ≡ tag)
IsGiven key tag (HeldSlot other own) = (other ≡ key) × (own ≡ tag)
IsGiven key tag (Evicting other own) = (other ≡ key) × (own ≡ tag)

-- a valid slot is given to its key under its tag; no two slots have one key or one tag, and a key is bound to its slot
pub record SlotsAreOwned (plan : PlanView) (s : State) : Type 0 where
  pub epoch : s.switch.epoch ≡ s.controller.epoch
  pub bounds : length s.switch.bound ≡ plan.config.slots
  pub slots : length s.switch.slots ≡ plan.config.slots
  pub states : length s.controller.slots ≡ plan.config.slots
  pub fits : (i : ℕ) → FitsState (slot_at s.switch i) (state_at s.controller.slots i)
  pub apart : (i j : ℕ) (key other : List ℕ) (tag own : ℕ) → i ≢ j → IsGiven key tag (state_at s.controller.slots i)
      → IsGiven other own (state_at s.controller.slots j) → (key ≢ other) × (tag ≢ own)
  pub drawn : (i : ℕ) (key : List ℕ) (tag : ℕ) → IsGiven key tag (state_at s.controller.slots i)
      → tag < s.controller.next_tag
  pub owned : (i : ℕ) (key : List ℕ) → (slot_at s.switch i).valid ≡ true → (slot_at s.switch i).key ≡ Some key
      → entry_place key s.switch ≡ Some i

-- an admission on its way of the controller's epoch is that of a slot that is being admitted and is not valid; one that
-- comes back is that of a slot that is being admitted and is valid
abbrev pub AdmissionIs : State → Packet → Type 0
AdmissionIs s (Admit epoch i key tag) = (tag < s.controller.next_tag)
    × (epoch ≡ s.controller.epoch → (state_at s.controller.slots i ≡ Admitting key tag)
    × ((slot_at s.switch i).valid ≡ false))
AdmissionIs s (AdmitAck i tag) = (key : List ℕ) × (state_at s.controller.slots i ≡ Admitting key tag)
    × ((slot_at s.switch i).valid ≡ true)
AdmissionIs s _ = Unit {0}

abbrev pub is_admission_of : ℕ → ℕ → Packet → Bool
is_admission_of i epoch (Admit own j key tag) = nat_eq own epoch && nat_eq j i
is_admission_of i epoch (AdmitAck j tag) = nat_eq j i
is_admission_of i epoch _ = false

abbrev pub admits_under : ℕ → Packet → Bool
admits_under tag (Admit epoch i key own) = nat_eq own tag
admits_under tag _ = false

abbrev pub admission_count : SlotState → ℕ
admission_count Free = 0
admission_count (Admitting key tag) = 1
admission_count (HeldSlot key tag) = 0
admission_count (Evicting key tag) = 0

-- each slot that is being admitted has exactly one such packet on its way, no other slot has one, and no tag is
-- admitted twice
pub record AdmissionsInFlight (s : State) : Type 0 where
  pub packets : (m : Message) → Among m s.bag → AdmissionIs s m.packet
  pub one : (i : ℕ)
      → count_by (λ (m : Message). is_admission_of i s.controller.epoch m.packet) s.bag
      ≡ admission_count (state_at s.controller.slots i)
  pub once : (tag : ℕ) → count_by (λ (m : Message). admits_under tag m.packet) s.bag ≤ 1

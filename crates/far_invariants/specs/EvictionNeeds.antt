-- What evictions need of the other subjects in the state before an event.
use Rattle.far_invariants.specs.Slots.{IsSlotOf, IsGiven}
use Rattle.far_invariants.specs.Numbers.{entry}
use Rattle.std.specs.Prelude.{◌≡◌, ℕ, ◌<◌, is_some, true, List, length, Option, None, Some}
use Rattle.far_base.specs.PlanView.{PlanView}
use Rattle.far_base.specs.declared.packet.Message.{Message}
use Rattle.far_base.specs.declared.packet.Packet.{Packet}
use Rattle.far_base.specs.declared.packet.Packet.TheVariants.{GetReq, WriteReq, GetRep, WriteRep, Admit, AdmitAck, Told}
use Rattle.far_model.specs.Clients.{line_of}
use Rattle.far_base.specs.declared.record.Record.{Record}
use Rattle.far_base.specs.declared.slot_state.SlotState.TheVariants.{Free, Admitting, Held}
use Rattle.far_model.specs.Evictions.{state_at}
use Rattle.far_invariants.specs.Evictions.{Content}
use Rattle.far_invariants.specs.Flights.{IsRouted}
use Rattle.far_model.specs.Members.{Among}
use Rattle.far_model.specs.Snapshots.{view_records}
use Rattle.far_model.specs.State.{State}
use Rattle.far_model.specs.View.{SlotView, slot_at, entry_place}

abbrev pub RecordIsWritten : PlanView → Content → State → Record → Type 0
RecordIsWritten plan c s r = c s r.key r.num r.body

abbrev pub ItemIsWritten : PlanView → Content → State → Option Record → Type 0
ItemIsWritten plan c s None = Unit {0}
ItemIsWritten plan c s (Some r) = RecordIsWritten plan c s r

-- of slots: an admission is of a slot that is being admitted, while the switch runs that of its epoch, and always one
-- that comes back
abbrev pub PacketNeeds : PlanView → State → Packet → Type 0
PacketNeeds plan s (Admit own i key tag) = s.running ≡ true → own ≡ s.controller.epoch
    → state_at s.controller.slots i ≡ Admitting key tag
PacketNeeds plan s (AdmitAck i tag) = (key : List ℕ) × (state_at s.controller.slots i ≡ Admitting key tag)
PacketNeeds plan s _ = Unit {0}

pub record Needs (plan : PlanView) (c : Content) (s : State) : Type 0 where
  -- flights: where messages go, and that the parties are as many as the plan says
  pub routed : IsRouted plan s
  -- the plan itself
  pub some_server : 0 < plan.config.servers
  -- stops: a round is under way only while the switch is stopped, and no slot is given to a key then
  pub outside : s.running ≡ true → s.controller.round ≡ None
  pub freed : is_some s.controller.round ≡ true → (i : ℕ) → state_at s.controller.slots i ≡ Free
  -- slots: the epoch, the sizes, what a held slot has, to whom a valid slot is given, and that it is the entry of its
  -- key
  pub epoch : s.running ≡ true → s.switch.epoch ≡ s.controller.epoch
  pub states : length s.controller.slots ≡ plan.config.slots
  pub held : s.running ≡ true → (i : ℕ) (key : List ℕ) (tag : ℕ) → state_at s.controller.slots i ≡ Held key tag
      → IsSlotOf key tag (slot_at s.switch i)
  pub given : s.running ≡ true → (i : ℕ) (key : List ℕ) → (slot_at s.switch i).valid ≡ true
      → (slot_at s.switch i).key ≡ Some key → IsGiven key (slot_at s.switch i).tag (state_at s.controller.slots i)
  pub owned : (i : ℕ) (key : List ℕ) (tag : ℕ) → IsSlotOf key tag (slot_at s.switch i)
      → entry_place key s.switch ≡ Some i
  pub packets : (m : Message) → Among m s.bag → PacketNeeds plan s m.packet
  -- numbers: what latest slots have was written
  pub slots : (key : List ℕ) (slot : SlotView) → entry key s.switch ≡ Some slot → slot.latest ≡ true
      → c s key slot.num slot.body

abbrev pub ToldIsWritten : PlanView → Content → State → Packet → Type 0
ToldIsWritten plan c s (Told round caller total item) = ItemIsWritten plan c s item
ToldIsWritten plan c s _ = Unit {0}

-- what they need in rounds of recovery: what clients tell and what the last snapshot holds was written (numbers)
pub record RoundNeeds (plan : PlanView) (c : Content) (s : State) : Type 0 where
  pub last : (r : Record) → Among r (view_records s.controller.last.views) → RecordIsWritten plan c s r
  pub told : (m : Message) → Among m s.bag → ToldIsWritten plan c s m.packet

-- numbers: a packet of an operation carries the operation's key
abbrev pub PacketIsOnKey : PlanView → Packet → Type 0
PacketIsOnKey plan (GetReq caller op key) = (line_of plan.ops op).key ≡ key
PacketIsOnKey plan (WriteReq caller op key body) = (line_of plan.ops op).key ≡ key
PacketIsOnKey plan (GetRep caller op key tag num body) = (line_of plan.ops op).key ≡ key
PacketIsOnKey plan (WriteRep caller op key num body) = (line_of plan.ops op).key ≡ key
PacketIsOnKey plan _ = Unit {0}

abbrev pub PacketsAreOnKey : PlanView → State → Type 0
PacketsAreOnKey plan s = (m : Message) → Among m s.bag → PacketIsOnKey plan m.packet

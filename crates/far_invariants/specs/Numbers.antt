-- Numbers, replies and records: what is exposed, and that servers, slots and replies are current.
use Rattle.far_invariants.specs.Covers.{IsAnsweredNear, look}
use Rattle.std.specs.Prelude.{◌≡◌, ℕ, ◌<◌, ◌≤◌, max, ◌⊎◌, Bool, true, false, if◌then◌else◌, List, Option, None, Some}
use Rattle.far_base.specs.PlanView.{PlanView}
use Rattle.far_base.specs.declared.log.LogEntry.TheVariants.{Sent, Numbered, Emitted}
use Rattle.far_base.specs.declared.log.LogLine.{LogLine}
use Rattle.far_base.specs.declared.packet.Message.{Message}
use Rattle.far_base.specs.declared.packet.Packet.{Packet}
use Rattle.far_base.specs.declared.packet.Packet.TheVariants.{GetFwd, WriteFwd, GetRep, WriteRep}
use Rattle.far_model.specs.Clients.{line_of}
use Rattle.far_model.specs.Coherent.{IsOwnNumber, ReachesOwnNumber}
use Rattle.far_model.specs.Members.{Among}
use Rattle.far_model.specs.State.{State, line_at}
use Rattle.far_model.specs.View.{SlotView, SwitchView, slot_at, entry_place}

-- each number of the key that was exposed up to the moment is at most n
abbrev pub ExposedAtMostBy : PlanView → List LogLine → List ℕ → ℕ → ℕ → Type 0
ExposedAtMostBy plan log key moment n = (at op num : ℕ) (body : Option (List ℕ)) (near : Bool)
    → Among (line_at at (Emitted op num body near)) log → (line_of plan.ops op).key ≡ key → at ≤ moment → num ≤ n

-- each number of the key that was exposed is at most n
abbrev pub ExposedAtMost : PlanView → List LogLine → List ℕ → ℕ → Type 0
ExposedAtMost plan log key n = (at op num : ℕ) (body : Option (List ℕ)) (near : Bool)
    → Among (line_at at (Emitted op num body near)) log → (line_of plan.ops op).key ≡ key → num ≤ n

abbrev pub slot_if : SwitchView → Option ℕ → Option SlotView
slot_if v None = None
slot_if v (Some i) = Some (slot_at v i)

-- the slot of a key, where it has one
abbrev pub entry : List ℕ → SwitchView → Option SlotView
entry key v = slot_if v (entry_place key v)

abbrev pub reach_by : ℕ → Option SlotView → ℕ
reach_by stored None = stored
reach_by stored (Some slot) = if slot.latest then slot.num else stored

-- the number with which a read of the key would be answered: a latest slot's, and else the server's
abbrev pub reach : PlanView → State → List ℕ → ℕ
reach plan s key = reach_by (look plan s key).num (entry key s.switch)

-- the number is that of a write on the key with this body that was numbered by the moment
pub record IsNumberOf (plan : PlanView) (log : List LogLine) (moment : ℕ) (key : List ℕ) (num : ℕ)
    (body : Option (List ℕ)) : Type 0 where
  pub op : ℕ
  pub own : IsOwnNumber log moment op num
  pub on_key : (line_of plan.ops op).key ≡ key
  pub same_body : (line_of plan.ops op).body ≡ body

-- a record is that of a write on its key that was numbered by the moment; number 0 stands for none
pub record IsWritten (plan : PlanView) (log : List LogLine) (moment : ℕ) (key : List ℕ) (num : ℕ)
    (body : Option (List ℕ)) : Type 0 where
  pub none : num ≡ 0 → body ≡ None
  pub some : 0 < num → IsNumberOf plan log moment key num body

-- a write has one number, no two writes have the same, and a running switch has counted all
pub record NumbersDiffer (s : State) : Type 0 where
  pub once : (at other_at op num other : ℕ) → Among (line_at at (Numbered op num)) s.log
      → Among (line_at other_at (Numbered op other)) s.log → num ≡ other
  pub differ : (at other_at op other num : ℕ) → Among (line_at at (Numbered op num)) s.log
      → Among (line_at other_at (Numbered other num)) s.log → op ≡ other
  pub counted : s.running ≡ true → (at op num : ℕ) → Among (line_at at (Numbered op num)) s.log → num ≤ s.switch.counter

-- what a server replied is at most what it has, and to a write at least the write's own number
abbrev pub IsServed : PlanView → State → Packet → Type 0
IsServed plan s (GetRep caller op key tag num body) = num ≤ (look plan s key).num
IsServed plan s (WriteRep caller op key num body) = (num ≤ (look plan s key).num)
    × ReachesOwnNumber s.log s.steps op num
IsServed plan s _ = Unit {0}

abbrev pub RepliesAreServed : PlanView → State → Type 0
RepliesAreServed plan s = (m : Message) → Among m s.bag → IsServed plan s m.packet

abbrev pub IsForwardOf : ℕ → ℕ → Packet → Type 0
IsForwardOf op num (WriteFwd caller other key own body) = (other ≡ op) × (own ≡ num)
IsForwardOf op num _ = ⊥

-- the write is on its way to its server
pub record IsForwarded (s : State) (op num : ℕ) : Type 0 where
  pub message : Message
  pub there : Among message s.bag
  pub is : IsForwardOf op num message.packet

-- an own number that was not absorbed is at most its server's, or on its way there
abbrev pub NumbersArrive : PlanView → State → Type 0
NumbersArrive plan s = (at op num : ℕ) → Among (line_at at (Numbered op num)) s.log → IsAnsweredNear s.log op num
    ⊎ ((num ≤ (look plan s (line_of plan.ops op).key).num) ⊎ IsForwarded s op num)

-- a read that is at its server or comes from there will be answered with at least what was exposed when it was sent
abbrev pub SeesFloor : PlanView → State → Packet → Type 0
SeesFloor plan s (GetFwd caller op key tag) = (at : ℕ) → Among (line_at at (Sent op (line_of plan.ops op))) s.log
    → ExposedAtMostBy plan s.log key at (look plan s key).num
SeesFloor plan s (GetRep caller op key tag num body) = (at : ℕ)
    → Among (line_at at (Sent op (line_of plan.ops op))) s.log → ExposedAtMostBy plan s.log key at num
SeesFloor plan s _ = Unit {0}

abbrev pub ReadsSeeTheirFloor : PlanView → State → Type 0
ReadsSeeTheirFloor plan s = (m : Message) → Among m s.bag → SeesFloor plan s m.packet

-- a reply carries a written record; so does a forwarded write
abbrev pub CarriesWritten : PlanView → State → Packet → Type 0
CarriesWritten plan s (WriteFwd caller op key num body) = IsWritten plan s.log s.steps key num body
CarriesWritten plan s (GetRep caller op key tag num body) = IsWritten plan s.log s.steps key num body
CarriesWritten plan s (WriteRep caller op key num body) = IsWritten plan s.log s.steps key num body
CarriesWritten plan s _ = Unit {0}

-- what servers and latest slots have, and what packets of operations carry, was written
pub record RecordsAreWritten (plan : PlanView) (s : State) : Type 0 where
  pub servers : (key : List ℕ) → IsWritten plan s.log s.steps key (look plan s key).num (look plan s key).body
  pub slots : (key : List ℕ) (slot : SlotView) → entry key s.switch ≡ Some slot → slot.latest ≡ true
      → IsWritten plan s.log s.steps key slot.num slot.body
  pub packets : (m : Message) → Among m s.bag → CarriesWritten plan s m.packet

abbrev pub HasNoLatest : Option SlotView → Type 0
HasNoLatest None = Unit {0}
HasNoLatest (Some slot) = slot.latest ≡ false

-- while the switch runs: where a key has no latest slot its server has at least what is exposed
abbrev pub ServerIsCurrent : PlanView → State → Type 0
ServerIsCurrent plan s = s.running ≡ true → (key : List ℕ) → HasNoLatest (entry key s.switch)
    → ExposedAtMost plan s.log key (look plan s key).num

-- while the switch runs: a latest slot has at least what is exposed
abbrev pub LatestIsCurrent : PlanView → State → Type 0
LatestIsCurrent plan s = s.running ≡ true → (key : List ℕ) (slot : SlotView) → entry key s.switch ≡ Some slot
    → slot.latest ≡ true → ExposedAtMost plan s.log key slot.num

-- an outdated slot under this tag would be current with this number
abbrev pub WouldBeCurrent : PlanView → State → List ℕ → ℕ → ℕ → Type 0
WouldBeCurrent plan s key tag n = (slot : SlotView) → entry key s.switch ≡ Some slot → slot.latest ≡ false
    → slot.tag ≡ tag → ExposedAtMost plan s.log key (max n slot.num)

abbrev pub IsTaggedCurrent : PlanView → State → Packet → Type 0
IsTaggedCurrent plan s (GetRep caller op key tag num body) = WouldBeCurrent plan s key tag num
IsTaggedCurrent plan s _ = Unit {0}

-- a slot that takes the reply to the read that left under its tag is current
abbrev pub TaggedReplyIsCurrent : PlanView → State → Type 0
TaggedReplyIsCurrent plan s = (m : Message) → Among m s.bag → IsTaggedCurrent plan s m.packet

-- what holds of numbers, replies and slots
pub record NumbersAreSound (plan : PlanView) (s : State) : Type 0 where
  pub differ : NumbersDiffer s
  pub served : RepliesAreServed plan s
  pub arrive : NumbersArrive plan s
  pub floors : ReadsSeeTheirFloor plan s
  pub written : RecordsAreWritten plan s
  pub server : ServerIsCurrent plan s
  pub latest : LatestIsCurrent plan s
  pub tagged : TaggedReplyIsCurrent plan s

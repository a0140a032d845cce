-- Records everywhere: whatever is shown, stored, on its way or preserved is that of a write, or number 0 with no body.
use Rattle.far_invariants.specs.Numbers.{IsWritten}
use Rattle.std.specs.Prelude.{◌≡◌, ◌⊎◌, ℕ, true, false, List, Option, None, Some}
use Rattle.far_base.specs.PlanView.{PlanView}
use Rattle.far_base.specs.declared.packet.Message.{Message}
use Rattle.far_base.specs.declared.packet.Packet.{Packet}
use Rattle.far_base.specs.declared.packet.Packet.TheVariants.{WriteFwd, GetRep, WriteRep, GetAns, WriteAns, PeekAns}
use Rattle.far_base.specs.declared.packet.Packet.TheVariants.{RemoveAns, SnapPart, Store, Told}
use Rattle.far_base.specs.declared.record.Record.{Record}
use Rattle.far_model.specs.Clients.{answered_record}
use Rattle.far_model.specs.Evictions.{Eviction, shown_item}
use Rattle.far_model.specs.Members.{Among}
use Rattle.far_invariants.specs.Past.{SnapshotStart}
use Rattle.far_model.specs.Snapshots.{Job, view_records}
use Rattle.far_model.specs.State.{State, client_at, records_at}
use Rattle.far_model.specs.View.{held_record, slot_at}
use Rattle.far_invariants.specs.Snapshots.{part_at}

abbrev pub IsRecord : PlanView → State → Record → Type 0
IsRecord plan s r = IsWritten plan s.log s.steps r.key r.num r.body

abbrev pub ViewIsRecord : PlanView → State → Option Record → Type 0
ViewIsRecord plan s None = Unit {0}
ViewIsRecord plan s (Some r) = IsRecord plan s r

-- ---- what is carried: an answer to a read, and what an eviction would remove

abbrev pub AnswerIsWritten : PlanView → State → Packet → Type 0
AnswerIsWritten plan s (GetAns caller op key num body near) = IsWritten plan s.log s.steps key num body
AnswerIsWritten plan s _ = Unit {0}

abbrev pub ItemIs : (Record → Type 0) → Option Eviction → Type 0
ItemIs P None = Unit {0}
ItemIs P (Some e) = P e.item

pub record Shown (plan : PlanView) (s : State) : Type 0 where
  pub answers : (m : Message) → Among m s.bag → AnswerIsWritten plan s m.packet
  pub item : ItemIs (IsRecord plan s) s.controller.eviction

-- ---- what follows with the other subjects

-- a kept answer is shown as the record that its client will preserve; what an eviction is shown, as what it would store
abbrev pub PacketIsWritten : PlanView → State → Packet → Type 0
PacketIsWritten plan s (WriteFwd caller op key num body) = IsWritten plan s.log s.steps key num body
PacketIsWritten plan s (GetRep caller op key tag num body) = IsWritten plan s.log s.steps key num body
PacketIsWritten plan s (WriteRep caller op key num body) = IsWritten plan s.log s.steps key num body
PacketIsWritten plan s (GetAns caller op key num body near) = IsWritten plan s.log s.steps key num body
PacketIsWritten plan s (WriteAns caller op key num kept) = kept ≡ true
    → IsRecord plan s (answered_record plan.ops op num)
PacketIsWritten plan s (PeekAns i tag latest num body) = (e : Eviction) → s.controller.eviction ≡ Some e → latest ≡ true
    → IsRecord plan s (shown_item e num body)
PacketIsWritten plan s (RemoveAns i tag done latest num body) = (e : Eviction) → s.controller.eviction ≡ Some e
    → (done ≡ false) ⊎ (latest ≡ true) → IsRecord plan s (shown_item e num body)
PacketIsWritten plan s (SnapPart id i view) = ViewIsRecord plan s view
PacketIsWritten plan s (Store job item) = IsRecord plan s item
PacketIsWritten plan s (Told round caller total item) = ViewIsRecord plan s item
PacketIsWritten plan s _ = Unit {0}

pub record RecordsEverywhere (plan : PlanView) (s : State) : Type 0 where
  pub servers : (n : ℕ) (r : Record) → Among r (records_at s n) → IsRecord plan s r
  pub slots : (i : ℕ) (r : Record) → held_record (slot_at s.switch i) ≡ Some r → IsRecord plan s r
  pub packets : (m : Message) → Among m s.bag → PacketIsWritten plan s m.packet
  pub preserved : (c : ℕ) (r : Record) → Among r (client_at s c).preserved → IsRecord plan s r
  pub last : (r : Record) → Among r (view_records s.controller.last.views) → IsRecord plan s r
  pub parts : (job : Job) → s.controller.job ≡ Some job → (i : ℕ) (view : Option Record) → part_at job i ≡ Some view
      → ViewIsRecord plan s view
  pub item : (e : Eviction) → s.controller.eviction ≡ Some e → IsRecord plan s e.item

-- what the slots had when a snapshot began was written
abbrev pub StartsAreWritten : PlanView → State → List SnapshotStart → Type 0
StartsAreWritten plan s starts = (start : SnapshotStart) → Among start starts → (r : Record)
    → Among r (view_records start.views) → IsRecord plan s r

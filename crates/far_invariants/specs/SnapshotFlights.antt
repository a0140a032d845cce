-- What is on its way for a snapshot: its start, its beginning, its reads and its parts.
use Rattle.std.specs.Prelude.{◌≡◌, ℕ, ◌+◌, ◌<◌, ◌≤◌, ◌⊎◌, Bool, true, false, nat_eq, ◌&&◌, if◌then◌else◌, List, None}
use Rattle.std.specs.Prelude.{Some, is_some}
use Rattle.std.specs.List.{count_by}
use Rattle.far_base.specs.PlanView.{PlanView}
use Rattle.far_base.specs.declared.packet.Message.{Message}
use Rattle.far_base.specs.declared.packet.Packet.{Packet}
use Rattle.far_base.specs.declared.packet.Packet.TheVariants.{SnapStart, SnapBegun, SnapRead, SnapPart, SnapSame}
use Rattle.far_base.specs.declared.packet.Packet.TheVariants.{SnapFrom}
use Rattle.far_invariants.specs.Flights.{IsFor}
use Rattle.far_model.specs.Members.{Among}
use Rattle.far_invariants.specs.Past.{SnapshotStart}
use Rattle.far_model.specs.Snapshots.{Job, is_whole}
use Rattle.far_model.specs.State.{State}
use Rattle.far_model.specs.View.{is_taken}
use Rattle.far_invariants.specs.Snapshots.{WasStarted, part_at}

pub record Flies (P : Packet → Type 0) (bag : List Message) : Type 0 where
  pub message : Message
  pub there : Among message bag
  pub is : P message.packet

abbrev pub IsStartIn : ℕ → ℕ → Packet → Type 0
IsStartIn epoch id (SnapStart own other) = (own ≡ epoch) × (other ≡ id)
IsStartIn epoch id (SnapFrom own other base) = (own ≡ epoch) × (other ≡ id)
IsStartIn epoch id _ = ⊥

abbrev pub IsBegunOf : ℕ → Packet → Type 0
IsBegunOf id (SnapBegun other point) = other ≡ id
IsBegunOf id _ = ⊥

abbrev pub IsReadOf : ℕ → ℕ → ℕ → Packet → Type 0
IsReadOf epoch id i (SnapRead own other j) = (own ≡ epoch) × (other ≡ id) × (j ≡ i)
IsReadOf epoch id i _ = ⊥

abbrev pub is_part_of : ℕ → ℕ → Packet → Bool
is_part_of id i (SnapPart own j view) = nat_eq own id && nat_eq j i
is_part_of id i (SnapSame own j) = nat_eq own id && nat_eq j i
is_part_of id i _ = false

-- how many parts of the slot are on their way
abbrev pub parts_in : ℕ → ℕ → List Message → ℕ
parts_in id i bag = count_by (λ (m : Message). is_part_of id i m.packet) bag

abbrev pub held_part : Job → ℕ → ℕ
held_part j i = if is_some (part_at j i) then 1 else 0

pub record SnapshotsInFlight (plan : PlanView) (s : State) (starts : List SnapshotStart) : Type 0 where
  -- a job that is whole is completed at once
  pub unfinished : (j : Job) → s.controller.job ≡ Some j → is_whole j ≡ false
  -- no slot has two parts
  pub once : (j : Job) → s.controller.job ≡ Some j → (i : ℕ) → parts_in j.id i s.bag + held_part j i ≤ 1
  -- while the switch runs: a slot whose part was taken has one, on its way or held
  pub one : s.running ≡ true → (j : Job) → s.controller.job ≡ Some j → WasStarted starts j.id → (i : ℕ)
      → i < plan.config.slots → is_taken s.switch i ≡ true → parts_in j.id i s.bag + held_part j i ≡ 1
  -- a job whose start has not passed has it on its way
  pub start : s.running ≡ true → (j : Job) → s.controller.job ≡ Some j → WasStarted starts j.id
      ⊎ Flies (IsStartIn s.controller.epoch j.id) s.bag
  -- one whose start has passed and that has not begun has that on its way
  pub begun : s.running ≡ true → (j : Job) → s.controller.job ≡ Some j → WasStarted starts j.id → j.begun ≡ None
      → Flies (IsBegunOf j.id) s.bag
  -- and once it has begun, a slot whose part was not taken has its read on its way
  pub reads : s.running ≡ true → (j : Job) (point : ℕ) → s.controller.job ≡ Some j → j.begun ≡ Some point → (i : ℕ)
      → i < plan.config.slots → is_taken s.switch i ≡ false → Flies (IsReadOf s.controller.epoch j.id i) s.bag

-- flights: every message goes to the party that its kind says
abbrev pub AreRouted : PlanView → State → Type 0
AreRouted plan s = (m : Message) → Among m s.bag → IsFor plan.config m.packet m.to

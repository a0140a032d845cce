-- What the laws of snapshots say, in words of states and runs.
use Rattle.far_model.specs.SnapshotAt.{IsSnapshotAt}
use Rattle.std.specs.Prelude.{◌≡◌, Bool, ℕ, ◌+◌, ◌<◌, ◌≤◌, ◌⊎◌, true, false, List, [], ◌∷◌, Option, None, Some, length}
use Rattle.far_base.specs.PlanView.{PlanView}
use Rattle.far_base.specs.declared.event.Event.{Event}
use Rattle.far_base.specs.declared.log.LogEntry.{LogEntry}
use Rattle.far_base.specs.declared.log.LogEntry.TheVariants.{Snapped, SnapItem}
use Rattle.far_base.specs.declared.packet.Message.{Message}
use Rattle.far_base.specs.declared.packet.Packet.TheVariants.{SnapPart, SnapSame, Release}
use Rattle.far_base.specs.declared.record.Record.{Record}
use Rattle.far_model.specs.Events.{happens}
use Rattle.far_invariants.specs.Covers.{IsAtServer, Covers, IsInSnapshot, IsAbsorbed}
use Rattle.far_model.specs.Members.{Among, Each}
use Rattle.far_invariants.specs.Past.{SnapshotStart}
use Rattle.far_model.specs.Snapshots.{Job, view_records, view_items}
use Rattle.far_model.specs.State.{State, client_at, noted}
use Rattle.far_model.specs.View.{slot_at, held_record, mark_of, taken_at, shown_at, is_taken}
use Rattle.far_invariants.specs.SnapshotNeeds.{Needs}
use Rattle.far_invariants.specs.SnapshotFlights.{Flies, IsStartIn, IsBegunOf, IsReadOf, parts_in, held_part}
use Rattle.far_invariants.specs.Snapshots.{view_at, IsStartOf, WasStarted, IsSettled, gathering, part_at}

-- ---- a completed snapshot

-- a last completed snapshot is what the slots held when its start passed
abbrev pub CompletedIsStart : PlanView → List Event → State → Type 0
CompletedIsStart plan events s = 0 < s.controller.last.id
    → IsSnapshotAt plan events s.controller.last.id s.controller.last.views s.controller.last.point

-- ---- parts and marks

-- of a job whose start has passed, while the switch runs
pub record SlotIsPart (s : State) (j : Job) (start : SnapshotStart) (i : ℕ) : Type 0 where
  pub kept : is_taken s.switch i ≡ false → held_record (slot_at s.switch i) ≡ view_at start.views i
  pub no_part : is_taken s.switch i ≡ false → part_at j i ≡ None
  pub none_flies : is_taken s.switch i ≡ false → (m : Message) (view : Option Record) → Among m s.bag
      → m.packet ≡ SnapPart j.id i view → ⊥
  pub no_same_flies : is_taken s.switch i ≡ false → (m : Message) → Among m s.bag → m.packet ≡ SnapSame j.id i → ⊥
  pub marked : is_taken s.switch i ≡ true → shown_at s.switch i ≡ mark_of (view_at start.views i)

pub record PartsAreStarts (plan : PlanView) (s : State) (starts : List SnapshotStart) : Type 0 where
  pub slots : s.running ≡ true → (j : Job) (start : SnapshotStart) → s.controller.job ≡ Some j
      → IsStartOf starts j.id start → (i : ℕ) → SlotIsPart s j start i
  pub held : (j : Job) (start : SnapshotStart) (i : ℕ) (view : Option Record) → s.controller.job ≡ Some j
      → IsStartOf starts j.id start → part_at j i ≡ Some view → view ≡ view_at start.views i
  pub flying : (m : Message) (id i : ℕ) (view : Option Record) (start : SnapshotStart) → Among m s.bag
      → m.packet ≡ SnapPart id i view → IsStartOf starts id start → view ≡ view_at start.views i
  pub same : (m : Message) (i : ℕ) (j : Job) (start : SnapshotStart) → Among m s.bag → s.controller.job ≡ Some j
      → m.packet ≡ SnapSame j.id i → IsStartOf starts j.id start
      → view_at s.controller.last.views i ≡ view_at start.views i

-- the switch gathers by difference from the last completed snapshot: that is of the present epoch, and each slot whose
-- part was not taken has the mark of its part in it
pub record IsBaseOf (plan : PlanView) (s : State) : Type 0 where
  pub some : 0 < s.switch.base
  pub last : s.switch.base ≡ s.controller.last.id
  pub present : s.controller.last_epoch ≡ s.controller.epoch
  pub untaken : (i : ℕ) → i < plan.config.slots → is_taken s.switch i ≡ false → taken_at s.switch i ≡ s.switch.base

-- marks are those of the last completed snapshot. While the switch runs, a job whose start by difference has passed has
-- that snapshot for its base, and one whose start was of the other kind has none
pub record MarksMatch (plan : PlanView) (s : State) (starts : List SnapshotStart) : Type 0 where
  pub marks : 0 < s.controller.last.id → (i : ℕ) → taken_at s.switch i ≡ s.controller.last.id
      → shown_at s.switch i ≡ mark_of (view_at s.controller.last.views i)
  pub base : s.running ≡ true → (j : Job) (start : SnapshotStart) → s.controller.job ≡ Some j
      → IsStartOf starts j.id start → start.by_difference ≡ true → IsBaseOf plan s
  pub no_base : s.running ≡ true → (j : Job) (start : SnapshotStart) → s.controller.job ≡ Some j
      → IsStartOf starts j.id start → start.by_difference ≡ false → s.switch.base ≡ 0
  pub settled : s.running ≡ true → 0 < s.controller.last.id → s.controller.last_epoch ≡ s.controller.epoch
      → IsSettled (gathering s.controller) starts → (i : ℕ) → i < plan.config.slots
      → taken_at s.switch i ≡ s.controller.last.id

-- ---- covers

-- an absorbed number up to the point of the job whose start has passed
abbrev pub StartCoversPoint : PlanView → State → List SnapshotStart → Type 0
StartCoversPoint plan s starts = (j : Job) (start : SnapshotStart) → s.controller.job ≡ Some j
    → IsStartOf starts j.id start
    → (key : List ℕ) (num : ℕ) → IsAbsorbed plan s.log key num → num ≤ start.counter → IsAtServer plan s key num
    ⊎ Covers (view_records start.views) key num

pub record ReleasedIsCovered (plan : PlanView) (s : State) (starts : List SnapshotStart) : Type 0 where
  pub clients : (c : ℕ) → (client_at s c).released ≤ s.controller.last.point
  pub flying : (m : Message) (point : ℕ) → Among m s.bag → m.packet ≡ Release point → point ≤ s.controller.last.point
  pub covered : (key : List ℕ) (num : ℕ) → IsAbsorbed plan s.log key num → num ≤ s.controller.last.point
      → IsAtServer plan s key num ⊎ IsInSnapshot s key num
  pub rise : (id other : ℕ) (x y : SnapshotStart) → IsStartOf starts id x → IsStartOf starts other y → id < other
      → x.counter ≤ y.counter
  -- no view has a number above its point
  pub numbers : (r : Record) → Among r (view_records s.controller.last.views) → r.num ≤ s.controller.last.point

-- what a client preserves is above its released point
abbrev pub PreservedIsAbove : State → Type 0
PreservedIsAbove s = (c : ℕ) (r : Record) → Among r (client_at s c).preserved → (client_at s c).released < r.num

-- whatever the release takes from its client is covered, as far as it is absorbed
pub record ReleaseIsSafe (plan : PlanView) (s t : State) (c point : ℕ) : Type 0 where
  pub dropped : (r : Record) → Among r (client_at t c).preserved → point < r.num
  pub covered : (key : List ℕ) (num : ℕ) → IsAbsorbed plan s.log key num → Covers (client_at s c).preserved key num
      → Covers (client_at t c).preserved key num ⊎ (IsAtServer plan t key num ⊎ IsInSnapshot t key num)

-- what the last completed snapshot covered before a snapshot was completed is covered afterwards
abbrev pub CompletionIsSafe : PlanView → State → State → Type 0
CompletionIsSafe plan s t = (key : List ℕ) (num : ℕ) → IsAbsorbed plan s.log key num → IsInSnapshot s key num
    → IsAtServer plan t key num ⊎ IsInSnapshot t key num

-- ---- what the log keeps

-- an entry that tells nothing of a completed snapshot
abbrev pub IsNoSnapNote : LogEntry → Type 0
IsNoSnapNote (Snapped id point count same) = ⊥
IsNoSnapNote (SnapItem slot item) = ⊥
IsNoSnapNote _ = Unit {0}

-- a step logs nothing of snapshots and leaves the last completed one, or it logs exactly the one that it completes
pub data LogsSnapshots (s t : State) : Type 0 where
  Silent : (notes : List LogEntry) → t.log ≡ noted s notes → Each IsNoSnapNote notes
      → t.controller.last ≡ s.controller.last → LogsSnapshots s t
  Completes : (same : ℕ)
      → t.log ≡ noted s
      (Snapped t.controller.last.id t.controller.last.point (length (view_records t.controller.last.views)) same
      ∷ view_items 0 t.controller.last.views) → LogsSnapshots s t

-- ---- what is on its way

-- a job has its start or its beginning on its way, or it has begun and each slot without a part has its read or its
-- part
-- on its way
pub record JobIsServed (plan : PlanView) (s : State) (starts : List SnapshotStart) (j : Job) : Type 0 where
  pub start : WasStarted starts j.id ⊎ Flies (IsStartIn s.controller.epoch j.id) s.bag
  pub begun : WasStarted starts j.id → j.begun ≡ None → Flies (IsBegunOf j.id) s.bag
  pub slots : (point : ℕ) → j.begun ≡ Some point → (i : ℕ) → i < plan.config.slots → part_at j i ≡ None
      → Flies (IsReadOf s.controller.epoch j.id i) s.bag ⊎ (parts_in j.id i s.bag ≡ 1)
  -- of a slot whose part was taken there is exactly one, on its way or held, and of another none
  pub taken : WasStarted starts j.id → (i : ℕ) → i < plan.config.slots → is_taken s.switch i ≡ true
      → parts_in j.id i s.bag + held_part j i ≡ 1
  pub untaken : WasStarted starts j.id → (i : ℕ) → is_taken s.switch i ≡ false
      → parts_in j.id i s.bag + held_part j i ≡ 0

-- where nothing is on its way there is no job
abbrev pub NoJobWhereQuiet : State → Type 0
NoJobWhereQuiet s = s.running ≡ true → s.bag ≡ [] → s.controller.job ≡ None

-- ---- runs

-- what the laws of snapshots need holds in each state
abbrev pub IsOwed : Bool → PlanView → State → List Event → Type 0
IsOwed tells plan s [] = Unit {0}
IsOwed tells plan s (e ∷ es) = Needs tells plan s × IsOwed tells plan (happens plan s e) es

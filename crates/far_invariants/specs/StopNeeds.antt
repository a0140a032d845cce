-- What the laws of stops and recovery need of the state before an event, and who owes it.
use Rattle.far_invariants.specs.Numbers.{IsWritten}
use Rattle.std.specs.Prelude.{◌≡◌, ℕ, ◌<◌, ◌≤◌, ◌⊎◌, Bool, true, nat_eq, nat_lt, not, ◌&&◌, if◌then◌else◌, List, length}
use Rattle.std.specs.Prelude.{slice_get, Option, None, Some, false}
use Rattle.far_base.specs.PlanView.{PlanView}
use Rattle.far_base.specs.declared.log.LogEntry.TheVariants.{Numbered, Emitted}
use Rattle.far_base.specs.declared.packet.Message.{Message}
use Rattle.far_base.specs.declared.packet.Packet.{Packet}
use Rattle.far_base.specs.declared.packet.Packet.TheVariants.{GetReq, WriteReq, WriteFwd, WriteAns, SnapBegun, SnapPart}
use Rattle.far_base.specs.declared.packet.Packet.TheVariants.{SnapSame, Release, PeekAns, RemoveAns}
use Rattle.far_base.specs.declared.record.Record.{Record}
use Rattle.far_base.specs.declared.slot_state.Due.TheVariants.{Peeked, Removed}
use Rattle.far_model.specs.Clients.{line_of}
use Rattle.far_model.specs.Evictions.{Eviction, waits_for, shown_item}
use Rattle.far_invariants.specs.Flights.{IsRouted, OneFlightPerOperation}
use Rattle.far_invariants.specs.Covers.{IsAtServer, Covers, IsInSnapshot, IsAbsorbed, IsKnown}
use Rattle.far_model.specs.Members.{Among}
use Rattle.far_model.specs.Snapshots.{Job, SnapshotView, has_begun, has_part, is_whole, completed, view_records}
use Rattle.far_model.specs.Snapshots.{with_part, with_same}
use Rattle.far_model.specs.State.{State, client_at, records_at, line_at}
use Rattle.far_model.specs.Controller.{ControllerState}

-- the number is covered by its server or by the last completed snapshot
abbrev pub IsSafe : PlanView → State → List ℕ → ℕ → Type 0
IsSafe plan s key num = IsAtServer plan s key num ⊎ IsInSnapshot s key num

-- ---- owed by the laws of numbers

abbrev pub IsAskedWell : PlanView → State → Packet → Type 0
IsAskedWell plan s (GetReq caller op key) = (at num : ℕ) → Among (line_at at (Numbered op num)) s.log → ⊥
IsAskedWell plan s (WriteReq caller op key body) = ((line_of plan.ops op).key ≡ key)
    × ((at num : ℕ) → Among (line_at at (Numbered op num)) s.log → ⊥)
    × ((at num : ℕ) (shown : Option (List ℕ)) (near : Bool) → Among (line_at at (Emitted op num shown near)) s.log → ⊥)
IsAskedWell plan s (WriteFwd caller op key num body) = (line_of plan.ops op).key ≡ key
IsAskedWell plan s (WriteAns caller op key num kept) = (line_of plan.ops op).key ≡ key
IsAskedWell plan s _ = Unit {0}

-- ---- owed by the laws of evictions

-- a record of a write, absorbed or at most its server's
abbrev pub IsGenuine : PlanView → State → Record → Type 0
IsGenuine plan s r = IsKnown plan s r.key r.num × IsWritten plan s.log s.steps r.key r.num r.body

-- what an eviction is shown of its slot and stores next
abbrev pub ShowsGenuine : PlanView → State → Packet → Type 0
ShowsGenuine plan s (PeekAns i tag latest num body) = (e : Eviction) → s.controller.eviction ≡ Some e
    → waits_for Peeked i tag e ≡ true → latest ≡ true → IsGenuine plan s (shown_item e num body)
ShowsGenuine plan s (RemoveAns i tag done latest num body) = (e : Eviction) → s.controller.eviction ≡ Some e
    → waits_for Removed i tag e ≡ true → done ≡ false → IsGenuine plan s (shown_item e num body)
ShowsGenuine plan s _ = Unit {0}

-- ---- owed by the laws of snapshots

abbrev pub IsReleasedSafely : PlanView → State → Packet → Type 0
IsReleasedSafely plan s (Release point) = (key : List ℕ) (num : ℕ) → IsAbsorbed plan s.log key num → num ≤ point
    → IsSafe plan s key num
IsReleasedSafely plan s _ = Unit {0}

-- the job after a packet that moves it on
abbrev pub begun_job : ℕ → ℕ → Option Job → Option Job
begun_job id point None = None
begun_job id point (Some job) = if nat_eq job.id id && not (has_begun job) then Some (record job { begun = Some point })
    else None

abbrev pub part_job : ℕ → ℕ → Option Record → Option Job → Option Job
part_job id i view None = None
part_job id i view (Some job) = if nat_eq job.id id && (nat_lt i (length job.parts) && not (has_part job i))
    then Some (with_part job i view) else None

abbrev pub same_view_job : ℕ → ℕ → Job → Option (Option Record) → Option Job
same_view_job id i job None = None
same_view_job id i job (Some view) = if nat_eq job.id id && (nat_lt i (length job.parts) && not (has_part job i))
    then Some (with_same job i view) else None

abbrev pub same_job : SnapshotView → ℕ → ℕ → Option Job → Option Job
same_job last id i None = None
same_job last id i (Some job) = same_view_job id i job (slice_get last.views i)

abbrev pub next_job : ControllerState → Packet → Option Job
next_job c (SnapBegun id point) = begun_job id point c.job
next_job c (SnapPart id i view) = part_job id i view c.job
next_job c (SnapSame id i) = same_job c.last id i c.job
next_job c _ = None

-- what the last completed snapshot covers of an absorbed number, its server or the job that becomes whole covers
abbrev pub CompletesSafely : PlanView → State → Packet → Type 0
CompletesSafely plan s packet = (job : Job) → next_job s.controller packet ≡ Some job → is_whole job ≡ true
    → (key : List ℕ) (num : ℕ) → IsAbsorbed plan s.log key num → IsInSnapshot s key num
    → IsAtServer plan s key num ⊎ Covers (view_records (completed job).views) key num

-- what the laws of numbers, evictions and snapshots owe
pub record Owed (plan : PlanView) (s : State) : Type 0 where
  -- numbers: what packets of operations rely on; every record at a server is written
  pub asked : (m : Message) → Among m s.bag → IsAskedWell plan s m.packet
  pub written_at_servers : (n : ℕ) (r : Record) → Among r (records_at s n)
      → IsWritten plan s.log s.steps r.key r.num r.body
  -- evictions: what an eviction stores is written, and absorbed or at most its server's, and so is what was answered
  pub shown : (m : Message) → Among m s.bag → ShowsGenuine plan s m.packet
  pub known_answers : (at op num : ℕ) (body : Option (List ℕ)) (near : Bool)
      → Among (line_at at (Emitted op num body near)) s.log → IsKnown plan s (line_of plan.ops op).key num
  -- snapshots: the records of the last one are genuine, what is released is safe, and a snapshot that completes covers
  -- what the last one did
  pub snapshot : (r : Record) → Among r (view_records s.controller.last.views) → IsGenuine plan s r
  pub released : (c : ℕ) (key : List ℕ) (num : ℕ) → IsAbsorbed plan s.log key num → num ≤ (client_at s c).released
      → IsSafe plan s key num
  pub releases : (m : Message) → Among m s.bag → IsReleasedSafely plan s m.packet
  pub completes : (m : Message) → Among m s.bag → CompletesSafely plan s m.packet

pub record Needs (plan : PlanView) (s : State) : Type 0 where
  -- the plan is valid
  pub some_client : 0 < plan.config.clients
  pub some_server : 0 < plan.config.servers
  -- flights: proved of every run
  pub routed : IsRouted plan s
  pub one : OneFlightPerOperation s
  pub owed : Owed plan s

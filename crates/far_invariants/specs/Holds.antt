-- All invariants: what holds in every state of every run, of the state and of what is remembered of the run.
use Rattle.std.specs.Prelude.{◌≡◌, true, false}
use Rattle.far_base.specs.PlanView.{PlanView}
use Rattle.far_model.specs.State.{State}
use Rattle.far_model.specs.View.{opening_view}
use Rattle.far_invariants.specs.Counters.{CountersAreDrawn}
use Rattle.far_invariants.specs.DrawnTags.{TagsAreDrawn}
use Rattle.far_invariants.specs.Evictions.{EvictionsAreSound}
use Rattle.far_invariants.specs.Flights.{IsInFlight}
use Rattle.far_invariants.specs.Known.{ShownIsKnown}
use Rattle.far_invariants.specs.Operations.{OperationsStand}
use Rattle.far_invariants.specs.Past.{Past}
use Rattle.far_invariants.specs.Records.{Shown, StartsAreWritten}
use Rattle.far_invariants.specs.Recoveries.{recovered_last}
use Rattle.far_invariants.specs.Seated.{Seated}
use Rattle.far_invariants.specs.SnapshotFlights.{SnapshotsInFlight}
use Rattle.far_invariants.specs.Snapshots.{SnapshotsStand}
use Rattle.far_invariants.specs.Sound.{IsSound}
use Rattle.far_invariants.specs.Stops.{Stops}

-- a stopped switch has no memory
abbrev pub IsEmptied : PlanView → State → Type 0
IsEmptied plan s = s.running ≡ false → s.switch ≡ opening_view plan.config 0 0

-- numbers and slots, which an event changes together
pub record Numbers (plan : PlanView) (s : State) : Type 0 where
  pub keeps : OperationsStand plan s
  pub seated : Seated plan s

-- all that a run carries from state to state
pub record Holds (plan : PlanView) (past : Past) (s : State) : Type 0 where
  pub flight : IsInFlight plan s
  pub sound : IsSound plan s
  pub keeps : OperationsStand plan s
  pub seated : Seated plan s
  pub shown : Shown plan s
  pub empty : IsEmptied plan s
  pub evictions : EvictionsAreSound plan s
  pub known : ShownIsKnown plan s
  pub drawn : TagsAreDrawn s past.drawn
  pub stops : Stops plan (recovered_last past) s
  pub snapshots : SnapshotsStand true plan s past.starts
  pub serving : SnapshotsInFlight plan s past.starts
  pub starts : StartsAreWritten plan s past.starts
  pub counters : CountersAreDrawn s

-- All that holds of what is on its way, in every state of every run.
use Rattle.far_base.specs.PlanView.{PlanView}
use Rattle.far_invariants.specs.Flights.{IsRouted, OneFlightPerOperation}
use Rattle.far_model.specs.State.{State}
use Rattle.far_invariants.specs.InFlight.{AdmissionsFly, EpochsFit, EvictionsFly, RoundsFly, SnapshotsFly}
use Rattle.far_invariants.specs.Sizes.{IsSized}
use Rattle.std.specs.Prelude.{◌≡◌, true, [], None}

pub record IsSound (plan : PlanView) (s : State) : Type 0 where
  pub routed : IsRouted plan s
  pub one : OneFlightPerOperation s
  pub sized : IsSized plan s
  pub epochs : EpochsFit s
  pub admissions : AdmissionsFly s
  pub evictions : EvictionsFly s
  pub snapshots : SnapshotsFly plan s
  pub rounds : RoundsFly plan s

-- where nothing is on its way no snapshot is under way: a law of snapshots
abbrev pub HasNoJobLeft : State → Type 0
HasNoJobLeft s = s.running ≡ true → s.bag ≡ [] → s.controller.job ≡ None

-- How far a world was run by the picks of a workload.
use Rattle.std.specs.Prelude.{◌≡◌, ◌≢◌, ℕ, ◌+◌, ◌≤◌, List, [], ◌∷◌, ◌++◌, length, is_some}
use Rattle.far_base.specs.declared.event.Event.{Event}
use Rattle.far_base.specs.declared.event.Event.TheVariants.{Recover}
use Rattle.far_model.specs.Kept.{kept_records}
use Rattle.far_model.specs.Members.{Each}
use Rattle.far_model.specs.Runs.{ArePicked, IsPickedFrom, run}
use Rattle.far_model.specs.Work.{work_left}
use Rattle.far_runner.specs.Picked.{pick_of}
use Rattle.far_world.specs.Reached.{Ran}
use Rattle.far_world.specs.Scene.{Tells}
use Rattle.workload.specs.WorkView.{WorkView}

-- the world has gone on by these events
pub record HasGone (old new : Ran) (made : List Event) : Type 0 where
  pub plan : new.plan ≡ old.plan
  pub events : new.events ≡ old.events ++ made
  pub work : length made + work_left new.plan new.state ≤ work_left old.plan old.state
  pub tells : is_some new.keeper.records ≡ is_some old.keeper.records
  pub told : Tells old.keeper.records → new.state ≡ run old.plan old.state made

-- it was run to its end: over a keeper that tells its records by exactly the events that the picks choose
pub record HasPumped (work : WorkView) (old new : Ran) (count : ℕ) : Type 0 where
  pub made : List Event
  pub gone : HasGone old new made
  pub count_is : length made ≡ count
  pub picked : Tells old.keeper.records → IsPickedFrom old.plan (pick_of work) 0 old.state made

-- some of the events that the picks choose first have happened
pub record HasPumpedSome (work : WorkView) (old new : Ran) : Type 0 where
  pub made : List Event
  pub gone : HasGone old new made
  pub picked : Tells old.keeper.records → ArePicked old.plan (pick_of work) 0 old.state made

-- the last of the events begins a recovery, and none before it does
pub record IsFirstRecovery (made : List Event) : Type 0 where
  pub before : List Event
  pub whole : made ≡ before ++ Recover ∷ []
  pub first : Each (λ (e : Event). e ≢ Recover) before

-- it was run up to and with the first beginning of a recovery: over a keeper that tells its records by exactly the
-- events that the picks choose, and then what is kept is the same as just before the last of them
pub record HasPumpedToRecover (work : WorkView) (old new : Ran) (count : ℕ) : Type 0 where
  pub made : List Event
  pub gone : HasGone old new made
  pub count_is : length made ≡ count
  pub recovery : IsFirstRecovery made
  pub picked : Tells old.keeper.records → ArePicked old.plan (pick_of work) 0 old.state made
  pub kept : Tells old.keeper.records
      → kept_records new.state ≡ kept_records (run old.plan old.state recovery.before)

-- A world as contracts see it: it is reached by a run of its plan.
use Rattle.std.specs.Prelude.{◌≡◌, ℕ, suc, ◌^◌, ◌<◌, ◌≤◌, true, List, [], ◌∷◌, ◌++◌, map, length, is_some}
use Rattle.far_base.specs.Limits.{IsPlan}
use Rattle.far_base.specs.PlanView.{PlanView}
use Rattle.far_base.specs.declared.event.Event.{Event}
use Rattle.far_model.specs.Replies.{IsRunWith, KeptEvent, ceiling_with, run_with}
use Rattle.far_model.specs.Events.{happens, is_enabled}
use Rattle.far_model.specs.Runs.{IsRun, next_event, run}
use Rattle.far_model.specs.State.{State, opening}
use Rattle.far_model.specs.Work.{work_left}
use Rattle.far_world.specs.Scene.{KeeperView, Scene, Tells, told_by}

-- a plan, the events that happened, the state after them, and what the keeper has
pub record Ran : Type 0 where
  pub plan : PlanView
  pub events : List Event
  pub state : State
  pub keeper : KeeperView

abbrev pub scene_in : Ran → Scene
scene_in w = record { plan = w.plan; state = w.state; keeper = w.keeper }

abbrev pub ran_to : Scene → List Event → Ran
ran_to scene events = record { plan = scene.plan; events = events; state = scene.state; keeper = scene.keeper }

abbrev pub event_of : KeptEvent → Event
event_of e = e.event

-- the state is that of the run of the plan and its events
pub record IsRunOf (plan : PlanView) (events : List Event) (state : State) : Type 0 where
  pub enabled : IsRun plan (opening plan) events
  pub is : state ≡ run plan (opening plan) events

-- the world is reached: its state is that of a run of its plan by its events, with what the keepers answered in kind
-- and
-- not above their ceiling. Where the keeper tells its records it is the run by the rule of a server, and they are the
-- servers' records
pub record IsReached (w : Ran) : Type 0 where
  pub valid : IsPlan w.plan
  pub kept : List KeptEvent
  pub way : IsRunWith w.plan 0 (opening w.plan) kept
  pub events_are : w.events ≡ map event_of kept
  pub state_is : w.state ≡ record (run_with w.plan (opening w.plan) kept) { servers = w.state.servers }
  pub records : w.state.servers ≡ told_by w.plan.config.servers w.keeper.records
  pub servers : w.keeper.servers ≡ w.plan.config.servers
  pub ceiling : w.keeper.ceiling ≡ ceiling_with w.plan 0 (opening w.plan) kept
  pub told : Tells w.keeper.records → IsRunOf w.plan w.events w.state

-- as before, but for the count of the keeper's faults
abbrev pub with_count : Ran → ℕ → Ran
with_count w faults = record w { keeper = record w.keeper { faults = faults } }

-- a world in which nothing has happened, of a keeper that tells its records where it did before
pub record HasStarted (plan : PlanView) (before : KeeperView) (w : Ran) : Type 0 where
  pub plan_is : w.plan ≡ plan
  pub events : w.events ≡ []
  pub state : Tells before.records → w.state ≡ opening plan
  pub tells : is_some w.keeper.records ≡ is_some before.records
  pub later : before.faults ≤ w.keeper.faults

-- the event that the pick chooses has happened, and less work is left
pub record HasStepped (old : Ran) (pick : ℕ) (event : Event) (new : Ran) : Type 0 where
  pub plan : new.plan ≡ old.plan
  pub chosen : event ≡ next_event old.plan old.state pick
  pub enabled : is_enabled old.plan old.state event ≡ true
  pub events : new.events ≡ old.events ++ event ∷ []
  pub work : suc (work_left new.plan new.state) ≤ work_left old.plan old.state
  pub state : Tells old.keeper.records → new.state ≡ happens old.plan old.state event
  pub tells : is_some new.keeper.records ≡ is_some old.keeper.records
  pub few : length old.events < 2 ^ 28

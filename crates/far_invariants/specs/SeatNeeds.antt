-- What numbers and slots need of the other subjects in the state before an event.
use Rattle.far_invariants.specs.Numbers.{ExposedAtMost}
use Rattle.far_invariants.specs.Covers.{look}
use Rattle.std.specs.Prelude.{◌≡◌, ℕ, ◌≤◌, is_some, true, List, None, Some}
use Rattle.far_base.specs.PlanView.{PlanView}
use Rattle.far_base.specs.declared.log.LogEntry.TheVariants.{Numbered}
use Rattle.far_base.specs.declared.slot_state.SlotState.TheVariants.{Free}
use Rattle.far_model.specs.Controller.{ready}
use Rattle.far_model.specs.Evictions.{state_at}
use Rattle.far_invariants.specs.Flights.{IsRouted, OneFlightPerOperation}
use Rattle.far_model.specs.Members.{Among}
use Rattle.far_model.specs.State.{State, line_at}
use Rattle.far_invariants.specs.Evictions.{Content, EvictionsAre, EvictionsAreSound}

-- where a round is ready: the new counter is at least each own number, and servers have at least what was shown
pub record IsRestorable (plan : PlanView) (s : State) (counter : ℕ) : Type 0 where
  pub own : (at op num : ℕ) → Among (line_at at (Numbered op num)) s.log → num ≤ counter
  pub shown : (key : List ℕ) → ExposedAtMost plan s.log key (look plan s key).num

pub record Needs (plan : PlanView) (s : State) : Type 0 where
  -- flights: proved of every run
  pub routed : IsRouted plan s
  pub one : OneFlightPerOperation s
  -- stops: a round is under way only while the switch is stopped (`stopped`), and no slot is given to a key then
  -- (`free`)
  pub outside : s.running ≡ true → s.controller.round ≡ None
  pub freed : is_some s.controller.round ≡ true → (i : ℕ) → state_at s.controller.slots i ≡ Free
  -- stops: what a restart finds (`IsRestored.own`, `.shown`)
  pub restorable : (counter : ℕ) → ready s.controller ≡ Some counter → IsRestorable plan s counter
  -- evictions: the eviction that is under way and its one packet
  pub evictions : EvictionsAreSound plan s

-- for slots and admissions alone, whatever keepers answer
pub record SeatNeeds (plan : PlanView) (c : Content) (s : State) : Type 0 where
  -- flights
  pub routed : IsRouted plan s
  -- stops (nothing of it speaks of records)
  pub outside : s.running ≡ true → s.controller.round ≡ None
  pub freed : is_some s.controller.round ≡ true → (i : ℕ) → state_at s.controller.slots i ≡ Free
  -- evictions
  pub evictions : EvictionsAre plan c s

-- The course of a run: in each state the work that is left and how many events can happen, where all is finished, and
-- the servers' records at the end.
use Rattle.std.specs.Prelude.{ℕ, zero, suc, Bool, not, nat_eq, List, [], ◌∷◌, ◌++◌, length, map, filter}
use Rattle.std.specs.List.{count_by}
use Rattle.far_base.specs.PlanView.{PlanView}
use Rattle.far_base.specs.declared.event.Event.{Event}
use Rattle.far_base.specs.declared.event.Event.TheVariants.{Send, Deliver, Tick, Recover, Restart, Order as OrderOf}
use Rattle.far_base.specs.declared.record.Record.{Record}
use Rattle.far_model.specs.Events.{happens, is_enabled}
use Rattle.far_model.specs.Runs.{enabled_count, is_finished, picked_events}
use Rattle.far_model.specs.State.{State, opening}
use Rattle.far_model.specs.Work.{work_bound, work_left}

-- the bound on the steps; in each state from the opening on the work that is left and how many events can happen; by
-- their steps, the states in which all is finished, and those in which one by one another number of events is enabled;
-- and what each server has at the end
pub record Course : Type 0 where
  pub bound : ℕ
  pub left : List ℕ
  pub enabled : List ℕ
  pub finished : List ℕ
  pub miscounted : List ℕ
  pub servers : List (List Record)

-- the states from this one on
abbrev pub states : PlanView → State → List Event → List State
states plan s [] = s ∷ []
states plan s (e ∷ es) = s ∷ states plan (happens plan s e) es

-- ---- events one by one

-- the events of a kind from number n on
abbrev pub each_of : (ℕ → Event) → ℕ → ℕ → List Event
each_of event n zero = []
each_of event n (suc more) = event n ∷ each_of event (suc n) more

-- every sending and delivery, and one of each beyond; the controller's own events; and the next two orders
abbrev pub named_events : State → List Event
named_events s = each_of (λ c. Send c) 0 (suc (length s.clients)) ++ each_of (λ i. Deliver i) 0 (suc (length s.bag))
    ++ Tick ∷ Recover ∷ Restart ∷ OrderOf s.done ∷ OrderOf (suc s.done) ∷ []

-- whether those of them that are enabled are as many as can happen
abbrev pub is_counted : PlanView → State → Bool
is_counted plan s = nat_eq (count_by (is_enabled plan s) (named_events s)) (enabled_count plan s)

-- the steps of those states that pass
abbrev pub steps_where : (State → Bool) → List State → List ℕ
steps_where test states = map (λ (s : State). s.steps) (filter test states)

-- ---- the course

abbrev pub last_state : State → List State → State
last_state s [] = s
last_state s (t ∷ ts) = last_state t ts

abbrev pub course_of_states : PlanView → List State → Course
course_of_states plan states = record {
  bound = work_bound plan;
  left = map (work_left plan) states;
  enabled = map (enabled_count plan) states;
  finished = steps_where (is_finished plan) states;
  miscounted = steps_where (λ t. not (is_counted plan t)) states;
  servers = (last_state (opening plan) states).servers;
}

abbrev pub run_course : PlanView → List ℕ → ℕ → Course
run_course plan picks most =
    course_of_states plan (states plan (opening plan) (picked_events plan most picks 0 (opening plan)))

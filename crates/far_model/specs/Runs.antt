-- Runs: events one after the other, and the run that picks choose.
use Rattle.std.specs.Prelude.{◌≡◌, ℕ, zero, suc, ◌+◌, ◌%◌, Bool, false, ◌&&◌, not, nat_eq, if◌then◌else◌, List, [], ◌∷◌}
use Rattle.std.specs.Prelude.{length, slice_index_or, is_some, IsTrue}
use Rattle.std.specs.List.{list_all}
use Rattle.far_base.specs.PlanView.{PlanView}
use Rattle.far_base.specs.declared.event.Event.{Event}
use Rattle.far_base.specs.declared.event.Event.TheVariants.{Tick, Order as OrderOf}
use Rattle.far_model.specs.Clients.{ClientState}
use Rattle.far_model.specs.Events.{happens, is_enabled, is_order_enabled, choices, has_next}
use Rattle.far_model.specs.Members.{is_empty}
use Rattle.far_model.specs.State.{State}

-- the state after the events
abbrev pub run : PlanView → State → List Event → State
run plan s [] = s
run plan s (e ∷ es) = run plan (happens plan s e) es

-- each event can happen in its turn
abbrev pub IsRun : PlanView → State → List Event → Type 0
IsRun plan s [] = Unit {0}
IsRun plan s (e ∷ es) = IsTrue (is_enabled plan s e) × IsRun plan (happens plan s e) es

-- no event can happen
abbrev pub is_quiet : PlanView → State → Bool
is_quiet plan s = not (is_order_enabled plan s) && is_empty (choices s)

-- how many events can happen
abbrev pub enabled_count : PlanView → State → ℕ
enabled_count plan s = length (choices s) + (if is_order_enabled plan s then 1 else 0)

abbrev pub is_done : ClientState → Bool
is_done client = not (is_some client.waits) && not (has_next client.left)

-- every operation is answered, every order is done, the switch runs, and nothing is left to do
abbrev pub is_finished : PlanView → State → Bool
is_finished plan s = list_all is_done s.clients
    && (nat_eq s.done (length plan.orders) && (s.running && (is_empty s.bag && (is_empty s.controller.wants
    && (not (is_some s.controller.eviction) && (not (is_some s.controller.job) && not (is_some s.controller.round)))))))

-- the event that a pick chooses where no order can happen
abbrev pub choice : State → ℕ → Event
choice s pick = slice_index_or (choices s) (pick % length (choices s)) Tick

-- the event that happens next: the enabled order, and else what the pick chooses
abbrev pub next_event : PlanView → State → ℕ → Event
next_event plan s pick = if is_order_enabled plan s then OrderOf s.done else choice s pick

-- an order uses no pick
abbrev pub picks_after : PlanView → State → ℕ → ℕ
picks_after plan s n = if is_order_enabled plan s then n else n + 1

-- the events are those that the picks from number n on choose, until nothing can happen
abbrev pub IsPickedFrom : PlanView → (ℕ → ℕ) → ℕ → State → List Event → Type 0
IsPickedFrom plan pick n s [] = IsTrue (is_quiet plan s)
IsPickedFrom plan pick n s (e ∷ es) = (is_quiet plan s ≡ false) × (e ≡ next_event plan s (pick n))
    × IsPickedFrom plan pick (picks_after plan s n) (happens plan s e) es

-- each event is the one that the picks from number n on choose in its turn, whatever can happen behind them
abbrev pub ArePicked : PlanView → (ℕ → ℕ) → ℕ → State → List Event → Type 0
ArePicked plan pick n s [] = Unit {0}
ArePicked plan pick n s (e ∷ es) = (is_quiet plan s ≡ false) × (e ≡ next_event plan s (pick n))
    × ArePicked plan pick (picks_after plan s n) (happens plan s e) es

-- the listed picks in their order, and then 0
abbrev pub listed_pick : List ℕ → ℕ → ℕ
listed_pick picks n = slice_index_or picks n 0

-- the events of at most so many steps by these picks
abbrev pub picked_events : PlanView → ℕ → List ℕ → ℕ → State → List Event
picked_events plan zero picks n s = []
picked_events plan (suc fuel) picks n s = if is_quiet plan s then [] else
    next_event plan s (listed_pick picks n)
    ∷ picked_events plan fuel picks (picks_after plan s n) (happens plan s (next_event plan s (listed_pick picks n)))

-- Runs one after the other.
use Rattle.std.proofs.Common.{◌≡◌, ℕ, List, [], ◌∷◌, ◌++◌, refl}
use Rattle.far_base.specs.PlanView.{PlanView}
use Rattle.far_base.specs.declared.event.Event.{Event}
use Rattle.far_model.specs.Events.{happens, happens_with}
use Rattle.far_model.specs.Replies.{IsRunWith, KeptEvent, ceiling_after, ceiling_with, kept_events, run_with}
use Rattle.far_model.specs.Runs.{IsRun, run}
use Rattle.far_model.specs.State.{State}

pub run_append : (plan : PlanView) (s : State) (xs ys : List Event)
    → run plan s (xs ++ ys) ≡ run plan (run plan s xs) ys
run_append plan s [] ys = refl
run_append plan s (x ∷ xs) ys = run_append plan (happens plan s x) xs ys

pub is_run_append : (plan : PlanView) (s : State) (xs ys : List Event) → IsRun plan s xs
    → IsRun plan (run plan s xs) ys → IsRun plan s (xs ++ ys)
is_run_append plan s [] ys h k = k
is_run_append plan s (x ∷ xs) ys h k = (h.0, is_run_append plan (happens plan s x) xs ys h.1 k)

-- the first part of a run is a run
pub is_run_left : (plan : PlanView) (s : State) (xs ys : List Event) → IsRun plan s (xs ++ ys) → IsRun plan s xs
is_run_left plan s [] ys h = tt
is_run_left plan s (x ∷ xs) ys h = (h.0, is_run_left plan (happens plan s x) xs ys h.1)

-- and so is the second, from where the first ends
pub is_run_right : (plan : PlanView) (s : State) (xs ys : List Event) → IsRun plan s (xs ++ ys)
    → IsRun plan (run plan s xs) ys
is_run_right plan s [] ys h = h
is_run_right plan s (x ∷ xs) ys h = is_run_right plan (happens plan s x) xs ys h.1

-- ---- with what keepers answer

pub run_with_append : (plan : PlanView) (s : State) (xs ys : List KeptEvent)
    → run_with plan s (xs ++ ys) ≡ run_with plan (run_with plan s xs) ys
run_with_append plan s [] ys = refl
run_with_append plan s (x ∷ xs) ys = run_with_append plan (happens_with plan x.keeping s x.event) xs ys

pub ceiling_append : (plan : PlanView) (ceiling : ℕ) (s : State) (xs ys : List KeptEvent)
    → ceiling_with plan ceiling s (xs ++ ys) ≡ ceiling_with plan (ceiling_with plan ceiling s xs) (run_with plan s xs) ys
ceiling_append plan ceiling s [] ys = refl
ceiling_append plan ceiling s (x ∷ xs) ys =
    ceiling_append plan (ceiling_after s x.event ceiling) (happens_with plan x.keeping s x.event) xs ys

pub is_run_with_append : (plan : PlanView) (ceiling : ℕ) (s : State) (xs ys : List KeptEvent)
    → IsRunWith plan ceiling s xs → IsRunWith plan (ceiling_with plan ceiling s xs) (run_with plan s xs) ys
    → IsRunWith plan ceiling s (xs ++ ys)
is_run_with_append plan ceiling s [] ys h k = k
is_run_with_append plan ceiling s (x ∷ xs) ys h k = (
  h.0,
  h.1,
  is_run_with_append plan (ceiling_after s x.event ceiling) (happens_with plan x.keeping s x.event) xs ys h.2 k,
)

-- a run by the rule of a server, as one with what its keepers answer
pub kept_events_run : (plan : PlanView) (s : State) (events : List Event)
    → run_with plan s (kept_events plan s events) ≡ run plan s events
kept_events_run plan s [] = refl
kept_events_run plan s (e ∷ es) = kept_events_run plan (happens plan s e) es

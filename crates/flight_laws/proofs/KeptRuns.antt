-- Runs with keepers that answer in kind, whatever they answer.
use Rattle.std.proofs.Common.{◌≡◌, ℕ, suc, ◌≤◌, true, false, List, [], ◌∷◌}
use Rattle.std.specs.Prelude.{Option, Some, None, is_some}
use Rattle.far_base.specs.Limits.{IsPlan}
use Rattle.far_base.specs.PlanView.{PlanView}
use Rattle.far_base.specs.declared.event.Event.{Event}
use Rattle.far_model.specs.Events.{Keeping, happens_with, is_enabled}
use Rattle.far_invariants.specs.Past.{Past, no_past, remembers}
use Rattle.far_model.specs.Replies.{IsRunWith, KeptEvent, run_with, AnswersInKind, ceiling_after}
use Rattle.far_model.specs.Rounds.{Round}
use Rattle.far_model.specs.Runs.{is_finished, is_quiet}
use Rattle.far_model.specs.State.{State, opening}
use Rattle.far_model.specs.Work.{work_left}
use Rattle.far_invariants.specs.SnapshotNeeds.{Needs}
use Rattle.far_invariants.specs.SnapshotFlights.{SnapshotsInFlight}
use Rattle.far_invariants.specs.Snapshots.{SnapshotsStand}
use Rattle.flight_laws.proofs.SnapCompleting.{no_job}
use Rattle.flight_laws.proofs.SnapEvents.{event_stands_with}
use Rattle.flight_laws.proofs.SnapRuns.{opening_stands}
use Rattle.flight_laws.proofs.SnapServingEvents.{event_flies_with, opening_flies}
use Rattle.far_invariants.specs.Sound.{IsSound}
use Rattle.far_invariants.specs.InFlight.{RoundFlies}
use Rattle.flight_laws.proofs.Steps.{from_sound, quiet_run, sound_lowers, sound_opens, sound_step, to_sound}

pub record HoldsWith (plan : PlanView) (past : Past) (s : State) : Type 0 where
  pub sound : IsSound plan s
  pub snapshots : SnapshotsStand false plan s past.starts
  pub serving : SnapshotsInFlight plan s past.starts

kept_need : (plan : PlanView) (s : State) → IsSound plan s → Needs false plan s
kept_need plan s h = record {
  agree = λ t. absurd cc;
  within = λ t. absurd cc;
  drawn = λ t. absurd cc;
  reads = λ t. absurd cc;
  cached = λ t. absurd cc;
  slots = h.sized.states;
  rounds = λ busy. no_job_in s.controller.round h.rounds.round busy;
  tops = λ t. absurd cc;
}
  where
    no_job_in : (o : Option Round) → RoundFlies plan s o → is_some o ≡ true → s.controller.job ≡ None
    no_job_in None f busy = absurd cc
    no_job_in (Some r) f busy = f.job

kept_step : (plan : PlanView) (past : Past) (k : Keeping) (s : State) (e : Event) → IsPlan plan → HoldsWith plan past s → AnswersInKind s e k → is_enabled plan s e ≡ true → HoldsWith plan (remembers s past e) (happens_with plan k s e)
kept_step plan past k s e valid h answers can = record {
  sound = from_sound plan (happens_with plan k s e) (sound_step plan k s e valid (to_sound plan s h.sound) answers can);
  snapshots = event_stands_with plan k s past e h.snapshots (kept_need plan s h.sound) answers can;
  serving = event_flies_with plan k s past e h.snapshots h.serving (kept_need plan s h.sound) (λ m a. (h.sound.routed.messages m a).target) answers can;
}

-- what is remembered after such a run
abbrev pub past_with : PlanView → State → Past → List KeptEvent → Past
past_with plan s p [] = p
past_with plan s p (e ∷ es) = past_with plan (happens_with plan e.keeping s e.event) (remembers s p e.event) es

kept_run : (plan : PlanView) (ceiling : ℕ) (past : Past) (s : State) (events : List KeptEvent) → IsPlan plan → HoldsWith plan past s → IsRunWith plan ceiling s events → HoldsWith plan (past_with plan s past events) (run_with plan s events)
kept_run plan ceiling past s [] valid h r = h
kept_run plan ceiling past s (e ∷ es) valid h r = kept_run plan (ceiling_after s e.event ceiling) (remembers s past e.event) (happens_with plan e.keeping s e.event) es valid (kept_step plan past e.keeping s e.event valid h r.1.kind r.0) r.2

pub kept_holds : (plan : PlanView) (events : List KeptEvent) → IsPlan plan → IsRunWith plan 0 (opening plan) events → HoldsWith plan (past_with plan (opening plan) no_past events) (run_with plan (opening plan) events)
kept_holds plan events valid r = kept_run plan 0 no_past (opening plan) events valid (record { sound = from_sound plan (opening plan) (sound_opens plan); snapshots = opening_stands plan; serving = opening_flies plan }) r

pub kept_lowers : (plan : PlanView) (events : List KeptEvent) → IsPlan plan → IsRunWith plan 0 (opening plan) events → (e : Event) (k : Keeping) → AnswersInKind (run_with plan (opening plan) events) e k → is_enabled plan (run_with plan (opening plan) events) e ≡ true → suc (work_left plan (happens_with plan k (run_with plan (opening plan) events) e)) ≤ work_left plan (run_with plan (opening plan) events)
kept_lowers plan events valid r e k answers can = let s = run_with plan (opening plan) events in sound_lowers plan k s e (to_sound plan s (kept_holds plan events valid r).sound) answers can

pub kept_quiet : (plan : PlanView) (events : List KeptEvent) → IsPlan plan → IsRunWith plan 0 (opening plan) events → is_quiet plan (run_with plan (opening plan) events) ≡ is_finished plan (run_with plan (opening plan) events)
kept_quiet plan events valid r =
    let s = run_with plan (opening plan) events in
    let h = kept_holds plan events valid r in
    quiet_run plan s valid (to_sound plan s h.sound) (λ runs empty. no_job plan s (past_with plan (opening plan) no_past events).starts h.snapshots h.serving runs empty)

-- Every event keeps all invariants.
use Rattle.far_invariants.specs.Flights.{IsInFlight}
use Rattle.far_invariants.specs.Holds.{Holds, Numbers}
use Rattle.record_laws.proofs.SeatsOpen.{opening_sits}
use Rattle.std.proofs.Common.{◌≡◌, true, List, [], ◌∷◌, inl, refl}
use Rattle.far_base.specs.Limits.{IsPlan}
use Rattle.far_base.specs.PlanView.{PlanView}
use Rattle.far_base.specs.declared.event.Event.{Event}
use Rattle.far_model.specs.Events.{happens, is_enabled, keeping_of}
use Rattle.far_model.specs.Runs.{IsRun, run}
use Rattle.far_model.specs.State.{State, opening}
use Rattle.far_invariants.specs.Past.{Past, no_past, past_from, past_of, remembers}
use Rattle.flight_laws.proofs.Handling.{flight_opens, flight_step}
use Rattle.flight_laws.proofs.SnapEvents.{event_stands, keepers_answer}
use Rattle.flight_laws.proofs.SnapRuns.{opening_stands}
use Rattle.flight_laws.proofs.SnapServingEvents.{event_flies_with, opening_flies}
use Rattle.flight_laws.proofs.Steps.{from_sound, sound_opens, sound_step, to_sound}
use Rattle.flight_laws.proofs.InKind.{answers_in_kind}
use Rattle.eviction_laws.proofs.EveryEvent.{event_sound}
use Rattle.eviction_laws.proofs.KnownEvents.{event_knows}
use Rattle.eviction_laws.proofs.Drawing.{row_draws}
use Rattle.far_model.proofs.Steps.{steps_are_rows}
use Rattle.eviction_laws.proofs.EvictingRuns.{opening_evicts}
use Rattle.eviction_laws.proofs.KnownRuns.{opening_knows}
use Rattle.eviction_laws.proofs.DrawnRuns.{opening_draws}
use Rattle.recovery_laws.proofs.Events.{every_event}
use Rattle.recovery_laws.proofs.Runs.{stops_open}
use Rattle.record_laws.proofs.Openings.{opening_keeps}
use Rattle.far_invariants.specs.Evictions.{written_in}
use Rattle.far_invariants.specs.EvictionNeeds.{Needs as EvictionNeeds}
use Rattle.far_invariants.specs.SnapshotNeeds.{Needs as SnapshotNeeds}
use Rattle.run_laws.proofs.Counters.{counters_stay}
use Rattle.run_laws.proofs.Emptied.{stays_empty}
use Rattle.run_laws.proofs.Events.{event_numbers}
use Rattle.run_laws.proofs.Holding.{evictions_need, keys_need, numbers, round_need, seats_need, slot_written, snapshots_needed, stops_need}
use Rattle.run_laws.proofs.Numbers.{starts_stay}
use Rattle.run_laws.proofs.Seating.{seated_of}
use Rattle.run_laws.proofs.ShownEvents.{event_shown}

module _ (plan : PlanView) (past : Past) (s : State) (valid : IsPlan plan) (h : Holds plan past s) where
  pub step_holds : (e : Event) → is_enabled plan s e ≡ true → Holds plan (remembers s past e) (happens plan s e)
  step_holds e can = record {
    flight = flies;
    sound = from_sound plan (happens plan s e) (sound_step plan (keeping_of s e) s e valid (to_sound plan s h.sound) (answers_in_kind s e) can);
    keeps = next.keeps;
    seated = next.seated;
    shown = event_shown plan s h.keeps (seats_need plan past s valid h) h.shown e can;
    empty = stays_empty plan (keeping_of s e) s h.empty e can;
    evictions = event_sound plan s e needed (round_need plan past s valid h) h.evictions can;
    known = event_knows plan s e needed (keys_need plan past s valid h) h.evictions h.known can;
    drawn = row_draws plan past s (keeping_of s e) e (happens plan s e) h (steps_are_rows plan (keeping_of s e) s e can (answers_in_kind s e));
    stops = every_event plan past s e h.stops (stops_need plan past s valid h) can;
    snapshots = event_stands plan s past e h.snapshots snaps can;
    serving = event_flies_with plan (keeping_of s e) s past e h.snapshots h.serving snaps (λ x a. (h.flight.routed.messages x a).target) (keepers_answer s e) can;
    starts = starts_stay plan s (slot_written plan past s valid h) past e h.starts;
    counters = counters_stay plan past s valid h e can;
  }
    where
      flies : IsInFlight plan (happens plan s e)
      flies = flight_step plan (keeping_of s e) s e h.flight (answers_in_kind s e) can

      next : Numbers plan (happens plan s e)
      next = event_numbers plan s e (seats_need plan past s valid h) (numbers plan past s valid h) can

      needed : EvictionNeeds plan (written_in plan) s
      needed = evictions_need plan past s valid h

      snaps : SnapshotNeeds true plan s
      snaps = snapshots_needed plan past s valid h

-- ---- runs

pub opening_holds : (plan : PlanView) → IsPlan plan → Holds plan no_past (opening plan)
opening_holds plan valid = record {
  flight = flight_opens plan;
  sound = from_sound plan (opening plan) (sound_opens plan);
  keeps = opening_keeps plan valid (flight_opens plan).routed.servers;
  seated = seated_of plan (opening plan) (opening_sits plan) (λ m a. absurd a);
  shown = record { answers = λ m a. absurd a; item = tt };
  empty = λ off. absurd cc;
  evictions = opening_evicts plan;
  known = opening_knows plan;
  drawn = opening_draws plan;
  stops = stops_open plan [];
  snapshots = opening_stands plan;
  serving = opening_flies plan;
  starts = λ start a. absurd a;
  counters = record { counter = λ on. inl refl; packets = λ m a. absurd a; tops = λ r is. absurd cc };
}

run_holds : (plan : PlanView) (past : Past) (s : State) (events : List Event) → IsPlan plan → Holds plan past s → IsRun plan s events
    → Holds plan (past_from plan s past events) (run plan s events)
run_holds plan past s [] valid h r = h
run_holds plan past s (e ∷ es) valid h r = run_holds plan (remembers s past e) (happens plan s e) es valid (step_holds plan past s valid h e r.0) r.1

pub holds : (plan : PlanView) (events : List Event) → IsPlan plan → IsRun plan (opening plan) events → Holds plan (past_of plan events) (run plan (opening plan) events)
holds plan events valid r = run_holds plan no_past (opening plan) events valid (opening_holds plan valid) r

-- Slots, admissions and evictions in every state of every run, whatever keepers answer in kind.
use Rattle.record_laws.proofs.SeatsOpen.{opening_sits}
use Rattle.std.proofs.Common.{◌≡◌, ℕ, true, false, List, [], ◌∷◌, refl, sym, ◌∙◌, arith}
use Rattle.std.specs.Prelude.{Option, Some, None, is_some}
use Rattle.far_base.specs.Limits.{IsPlan}
use Rattle.far_base.specs.PlanView.{PlanView}
use Rattle.far_base.specs.declared.event.Event.{Event}
use Rattle.far_base.specs.declared.slot_state.SlotState.TheVariants.{Free, Evicting}
use Rattle.far_model.specs.Events.{Keeping, happens_with, is_enabled}
use Rattle.far_model.specs.Evictions.{state_at}
use Rattle.far_model.specs.Replies.{IsRunWith, KeptEvent, run_with, AnswersInKind, ceiling_after}
use Rattle.far_model.specs.Rounds.{Round}
use Rattle.far_model.specs.State.{State, opening}
use Rattle.flight_laws.proofs.Lists.{get_or-replicate_default}
use Rattle.far_invariants.specs.Evictions.{EvictionsAre, anything}
use Rattle.eviction_laws.proofs.EveryEvent.{event_flies}
use Rattle.far_invariants.specs.InFlight.{RoundFlies}
use Rattle.flight_laws.proofs.Steps.{Sound, sound_opens, sound_step}
use Rattle.far_invariants.specs.SeatNeeds.{SeatNeeds}
use Rattle.far_invariants.specs.Seated.{Seated}
use Rattle.run_laws.proofs.Needing.{evictions_need_of}
use Rattle.run_laws.proofs.SeatEvents.{event_seated}
use Rattle.run_laws.proofs.Seating.{seated_of}

pub record Kept (plan : PlanView) (s : State) : Type 0 where
  pub sound : Sound plan s
  pub seated : Seated plan s
  pub evictions : EvictionsAre plan anything s

module _ (plan : PlanView) (s : State) (h : Kept plan s) where
  outside_by : (o : Option Round) → s.controller.round ≡ o → RoundFlies plan s o → s.running ≡ true → s.controller.round ≡ None
  outside_by None e f runs = e
  outside_by (Some r) e f runs = absurd (let off = f.running in let clash : true ≡ false = sym runs ∙ off in cc)

  freed_by : (o : Option Round) → RoundFlies plan s o → is_some o ≡ true → (i : ℕ) → state_at s.controller.slots i ≡ Free
  freed_by None f busy = absurd cc
  freed_by (Some r) f busy = f.free

  seats_need : SeatNeeds plan anything s
  seats_need = record {
    routed = h.sound.flight.routed;
    outside = outside_by s.controller.round refl h.sound.inv.rounds.round;
    freed = freed_by s.controller.round h.sound.inv.rounds.round;
    evictions = h.evictions;
  }

  pub kept_step : (k : Keeping) (e : Event) → IsPlan plan → AnswersInKind s e k → is_enabled plan s e ≡ true → Kept plan (happens_with plan k s e)
  kept_step k e valid answers can = record {
    sound = sound_step plan k s e valid h.sound answers can;
    seated = event_seated plan k s e seats_need h.seated answers can;
    evictions = event_flies plan k s e (evictions_need_of plan s h.seated seats_need (let n = valid.config.servers.0 in omega (arith, n)) (λ key slot is latest. tt)) h.evictions answers can;
  }

kept_run : (plan : PlanView) (ceiling : ℕ) (s : State) (events : List KeptEvent) → IsPlan plan → Kept plan s → IsRunWith plan ceiling s events → Kept plan (run_with plan s events)
kept_run plan ceiling s [] valid h r = h
kept_run plan ceiling s (e ∷ es) valid h r = kept_run plan (ceiling_after s e.event ceiling) (happens_with plan e.keeping s e.event) es valid (kept_step plan s h e.keeping e.event valid r.1.kind r.0) r.2

opening_kept : (plan : PlanView) → Kept plan (opening plan)
opening_kept plan = record {
  sound = sound_opens plan;
  seated = seated_of plan (opening plan) (opening_sits plan) (λ m a. absurd a);
  evictions = record {
    lasts = λ a b o key num body w. tt;
    some = λ e is. absurd cc;
    none = λ is i key tag at. let clash : Free ≡ Evicting key tag = sym (get_or-replicate_default plan.config.slots i Free) ∙ at in cc;
    packets = λ m a. absurd a;
    one = λ outside. refl;
  };
}

pub kept : (plan : PlanView) (events : List KeptEvent) → IsPlan plan → IsRunWith plan 0 (opening plan) events → Kept plan (run_with plan (opening plan) events)
kept plan events valid r = kept_run plan 0 (opening plan) events valid (opening_kept plan) r

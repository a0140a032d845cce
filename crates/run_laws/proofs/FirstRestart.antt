-- The first restart of a run is that of its first recovery.
use Rattle.std.proofs.Common.{◌≡◌, ◌≢◌, ℕ, ◌⊎◌, inl, inr, true, false, List, [], ◌∷◌, ◌++◌, refl, sym, ap, ◌∙◌, subst}
use Rattle.std.specs.Prelude.{Bool, Some, ◌&&◌, is_some, length, nat_eq, not}
use Rattle.std.specs.List.{list_all}
use Rattle.std.proofs.lemmas.Bool.{and_parts}
use Rattle.std.proofs.lemmas.List.{append_assoc}
use Rattle.far_base.specs.Limits.{IsPlan}
use Rattle.far_base.specs.PlanView.{PlanView}
use Rattle.far_base.specs.declared.event.Event.{Event}
use Rattle.far_base.specs.declared.event.Event.TheVariants.{Send, Deliver, Tick, Recover, Restart, Order as OrderOf}
use Rattle.far_base.specs.declared.kept.KeptItem.{KeptItem}
use Rattle.far_model.specs.Controller.{ready}
use Rattle.far_model.specs.Events.{all_listed, happens}
use Rattle.far_model.specs.History.{IsNewestPerKey}
use Rattle.far_model.specs.Kept.{kept_after, kept_at_recovery, kept_by, kept_records, records_in}
use Rattle.far_model.specs.Members.{Among, Each, is_empty}
use Rattle.far_model.specs.Replies.{IsRunWith, kept_events}
use Rattle.far_model.specs.Runs.{IsRun, is_done, is_finished, is_quiet, run}
use Rattle.far_model.specs.State.{State, now, opening}
use Rattle.far_model.proofs.Members.{among_append_left, among_append_right, each_among}
use Rattle.far_model.proofs.Runs.{is_run_left, is_run_right, kept_events_run, run_append}
use Rattle.far_invariants.specs.Recoveries.{IsNoRecovery}
use Rattle.flight_laws.proofs.Ceilings.{kept_is_run, opening_within_none}
use Rattle.flight_laws.proofs.KeptRuns.{kept_quiet}
use Rattle.recovery_laws.proofs.Begun.{HasRecovery, RoundLasts, is_restart, recovery_before, round_lasts}
use Rattle.run_laws.proofs.Blocks.{counter_of, each_append, no_block, restart_append, restart_newest, restarts_are_told}
use Rattle.run_laws.specs.RestartBlocks.{BeginsWithRecovery, block_with, restart_blocks}

abbrev NoRestart : Event → Type 0
NoRestart e = e ≢ Restart

-- ---- the first restart of a list

record HasRestart (events : List Event) : Type 0 where
  before : List Event
  after : List Event
  none : Each NoRestart before
  are : events ≡ before ++ Restart ∷ after

restart_cases : (events : List Event) → Each NoRestart events ⊎ HasRestart events
restart_cases [] = inl tt
restart_cases (e ∷ es) = go (is_restart e) (restart_cases es)
  where
    go : (e ≡ Restart) ⊎ (e ≢ Restart) → Each NoRestart es ⊎ HasRestart es → Each NoRestart (e ∷ es) ⊎ HasRestart (e ∷ es)
    go (inl is) k = inr (record { before = []; after = es; none = tt; are = ap (λ w. w ∷ es) is })
    go (inr other) (inl none) = inl (other, none)
    go (inr other) (inr h) = inr (record { before = e ∷ h.before; after = h.after; none = (other, h.none); are = ap (λ l. e ∷ l) h.are })

none_told : (plan : PlanView) (s : State) (events : List Event) → Each NoRestart events → restart_blocks plan s events ≡ []
none_told plan s [] h = refl
none_told plan s (e ∷ es) h = ap (λ b. b ++ restart_blocks plan (happens plan s e) es) (no_block s e h.0) ∙ none_told plan (happens plan s e) es h.1

-- before the first recovery no restart is possible
no_restart : (plan : PlanView) (events : List Event) → IsRun plan (opening plan) events → Each (λ (e : Event). e ≢ Recover) events → Each NoRestart events
no_restart plan events runs none = go (restart_cases events)
  where
    go : Each NoRestart events ⊎ HasRestart events → Each NoRestart events
    go (inl h) = h
    go (inr h) =
        let able : is_some (ready (run plan (opening plan) h.before).controller) ≡ true = (is_run_right plan (opening plan) h.before (Restart ∷ h.after) (subst (λ es. IsRun plan (opening plan) es) h.are runs)).0 in
        let began : HasRecovery h.before = recovery_before plan h.before able in
        let inside : Among Recover h.before = subst (Among Recover) (sym began.after.are) (among_append_right Recover began.before (Recover ∷ began.after.since) (inl refl)) in
        let member : Among Recover events = subst (Among Recover) (sym h.are) (among_append_left Recover h.before (Restart ∷ h.after) inside) in
        absurd (each_among (λ (e : Event). e ≢ Recover) Recover events none member refl)

-- ---- the kept list

kept_append : (plan : PlanView) (s : State) (kept : List KeptItem) (xs ys : List Event) → kept_after plan s kept (xs ++ ys) ≡ kept_after plan (run plan s xs) (kept_after plan s kept xs) ys
kept_append plan s kept [] ys = refl
kept_append plan s kept (e ∷ es) ys = kept_append plan (happens plan s e) (kept_by s e kept) es ys

kept_same : (plan : PlanView) (s : State) (kept : List KeptItem) (events : List Event) → Each IsNoRecovery events → kept_after plan s kept events ≡ kept
kept_same plan s kept [] h = refl
kept_same plan s kept (e ∷ es) h = kept_same plan (happens plan s e) (kept_by s e kept) es h.1 ∙ by e h.0
  where
    by : (e : Event) → IsNoRecovery e → kept_by s e kept ≡ kept
    by Recover h = absurd h
    by (Send c) h = refl
    by (Deliver i) h = refl
    by Tick h = refl
    by Restart h = refl
    by (OrderOf j) h = refl

-- ---- the first block

-- where a restart is the first, its block is
module _ (plan : PlanView) (before later : List Event) (valid : IsPlan plan) (runs : IsRun plan (opening plan) (before ++ Restart ∷ later)) where
  abbrev restarting : State
  restarting = run plan (opening plan) before

  can : is_some (ready restarting.controller) ≡ true
  can = (is_run_right plan (opening plan) before (Restart ∷ later) runs).0

  first_block : (s : State) → Each NoRestart before → kept_at_recovery plan before ≡ kept_records s → (counter : ℕ) → ready restarting.controller ≡ Some counter
      → BeginsWithRecovery s (run plan (opening plan) (before ++ Restart ∷ later)).log
  first_block s none kept counter able = record {
    block = record { moment = now restarting; counter = counter; records = all_listed restarting.servers };
    later = restart_blocks plan (happens plan restarting Restart) later;
    first = restarts_are_told plan (before ++ Restart ∷ later) valid runs ∙ restart_append plan (opening plan) before (Restart ∷ later)
        ∙ ap (λ b. b ++ restart_blocks plan restarting (Restart ∷ later)) (none_told plan (opening plan) before none)
        ∙ ap (λ o. block_with restarting o ++ restart_blocks plan (happens plan restarting Restart) later) able;
    left = subst (λ k. IsNewestPerKey (records_in k) (all_listed restarting.servers)) kept (restart_newest plan before valid (is_run_left plan (opening plan) before (Restart ∷ later) runs) can);
  }

  begins : (s : State) → Each NoRestart before → kept_at_recovery plan before ≡ kept_records s → BeginsWithRecovery s (run plan (opening plan) (before ++ Restart ∷ later)).log
  begins s none kept = let able = counter_of restarting can in first_block s none kept able.0 able.1

not_true : (b : Bool) → not b ≡ true → b ≡ false
not_true false h = refl
not_true true h = absurd cc

last_part : (a b c d e f g h : Bool) → (a && (b && (c && (d && (e && (f && (g && h))))))) ≡ true → h ≡ true
last_part a b c d e f g h all =
    let past_a = (and_parts a (b && (c && (d && (e && (f && (g && h)))))) all).1 in
    let past_b = (and_parts b (c && (d && (e && (f && (g && h))))) past_a).1 in
    let past_c = (and_parts c (d && (e && (f && (g && h)))) past_b).1 in
    let past_d = (and_parts d (e && (f && (g && h))) past_c).1 in
    let past_e = (and_parts e (f && (g && h)) past_d).1 in
    let past_f = (and_parts f (g && h) past_e).1 in
    (and_parts g h past_f).1

finished_round : (plan : PlanView) (s : State) → is_finished plan s ≡ true → is_some s.controller.round ≡ false
finished_round plan s h = not_true (is_some s.controller.round) (last_part (list_all is_done s.clients) (nat_eq s.done (length plan.orders)) s.running (is_empty s.bag) (is_empty s.controller.wants)
    (not (is_some s.controller.eviction)) (not (is_some s.controller.job)) (not (is_some s.controller.round)) h)

-- where nothing can happen any more there is no round
no_round : (plan : PlanView) (events : List Event) → IsPlan plan → IsRun plan (opening plan) events → is_quiet plan (run plan (opening plan) events) ≡ true → is_some (run plan (opening plan) events).controller.round ≡ false
no_round plan events valid runs quiet = finished_round plan (run plan (opening plan) events) finished
  where
    way : IsRunWith plan 0 (opening plan) (kept_events plan (opening plan) events)
    way = kept_is_run plan 0 (opening plan) events (opening_within_none plan) runs

    finished : is_finished plan (run plan (opening plan) events) ≡ true
    finished = sym (subst (λ (s : State). is_quiet plan s ≡ is_finished plan s) (kept_events_run plan (opening plan) events) (kept_quiet plan (kept_events plan (opening plan) events) valid way)) ∙ quiet

-- a run in which a recovery has begun and nothing can happen any more has a restart, and the first block is that of the
-- first recovery
module _ (plan : PlanView) (before after : List Event) (valid : IsPlan plan) (runs : IsRun plan (opening plan) (before ++ Recover ∷ after)) (none : Each (λ (e : Event). e ≢ Recover) before) where
  abbrev here : State
  here = run plan (opening plan) before

  abbrev begun : State
  begun = happens plan here Recover

  goes : IsRun plan begun after
  goes = (is_run_right plan (opening plan) before (Recover ∷ after) runs).1

  restarts_once : Each NoRestart after → is_quiet plan (run plan (opening plan) (before ++ Recover ∷ after)) ≡ true → ⊥
  restarts_once others quiet =
      let there : is_some (run plan begun after).controller.round ≡ true = (round_lasts plan begun after refl goes others).there in
      let over : is_some (run plan begun after).controller.round ≡ false = ap (λ (s : State). is_some s.controller.round) (sym (run_append plan (opening plan) before (Recover ∷ after))) ∙ no_round plan (before ++ Recover ∷ after) valid runs quiet in
      let clash : true ≡ false = sym there ∙ over in
      cc

  recover_no_restart : NoRestart Recover
  recover_no_restart e = cc

  of_first : HasRestart after → BeginsWithRecovery here (run plan (opening plan) (before ++ Recover ∷ after)).log
  of_first h =
      let lasts : RoundLasts plan begun h.before = round_lasts plan begun h.before refl (is_run_left plan begun h.before (Restart ∷ h.after) (subst (λ es. IsRun plan begun es) h.are goes)) h.none in
      let whole : before ++ Recover ∷ after ≡ (before ++ Recover ∷ h.before) ++ Restart ∷ h.after = ap (λ (es : List Event). before ++ Recover ∷ es) h.are ∙ sym (append_assoc before (Recover ∷ h.before) (Restart ∷ h.after)) in
      let others : Each NoRestart (before ++ Recover ∷ h.before) = each_append NoRestart before (Recover ∷ h.before) (no_restart plan before (is_run_left plan (opening plan) before (Recover ∷ after) runs) none) (recover_no_restart, h.none) in
      let kept : kept_at_recovery plan (before ++ Recover ∷ h.before) ≡ kept_records here = kept_append plan (opening plan) [] before (Recover ∷ h.before) ∙ kept_same plan begun (kept_records here) h.before lasts.none in
      subst (λ es. BeginsWithRecovery here (run plan (opening plan) es).log) (sym whole)
      (begins plan (before ++ Recover ∷ h.before) h.after valid (subst (λ es. IsRun plan (opening plan) es) whole runs) here others kept)

  pub first_restart : is_quiet plan (run plan (opening plan) (before ++ Recover ∷ after)) ≡ true → BeginsWithRecovery here (run plan (opening plan) (before ++ Recover ∷ after)).log
  first_restart quiet = go (restart_cases after)
    where
      go : Each NoRestart after ⊎ HasRestart after → BeginsWithRecovery here (run plan (opening plan) (before ++ Recover ∷ after)).log
      go (inl others) = absurd (restarts_once others quiet)
      go (inr h) = of_first h

-- A world that is run by picks until a recovery has begun.
use Rattle.std.proofs.Common.{◌≡◌, ◌≢◌, ℕ, ◌+◌, true, false, List, [], ◌∷◌, ◌++◌, map, sym, ap, ◌∙◌, subst}
use Rattle.std.specs.List.{list_any}
use Rattle.far_base.specs.Limits.{is_stop}
use Rattle.far_base.specs.PlanView.{PlanView}
use Rattle.far_base.specs.declared.event.Event.{Event}
use Rattle.far_base.specs.declared.event.Event.TheVariants.{Recover}
use Rattle.far_model.specs.Events.{happens}
use Rattle.far_model.specs.Kept.{kept_records}
use Rattle.far_model.specs.Members.{Each}
use Rattle.far_model.specs.Replies.{IsRunWith, KeptEvent, run_with}
use Rattle.far_model.specs.Runs.{is_finished, is_quiet, run}
use Rattle.far_model.specs.State.{State, opening}
use Rattle.far_runner.proofs.Pumping.{Pumping, steps}
use Rattle.far_runner.specs.Picked.{pick_of}
use Rattle.far_runner.specs.Pumped.{HasPumpedToRecover}
use Rattle.far_world.specs.Reached.{HasStepped, IsReached, Ran, event_of}
use Rattle.workload.specs.WorkView.{WorkView}

abbrev pub NoRecovery : Event → Type 0
NoRecovery e = e ≢ Recover

pub each_push : (xs ys : List Event) (x : Event) → ys ≡ xs ++ x ∷ [] → Each NoRecovery xs → NoRecovery x → Each NoRecovery ys
each_push xs ys x e h p = subst (Each NoRecovery) (sym e) (go xs h)
  where
    go : (zs : List Event) → Each NoRecovery zs → Each NoRecovery (zs ++ x ∷ [])
    go [] h = (p, tt)
    go (z ∷ zs) h = (h.0, go zs h.1)

pub none_yet : (events : List Event) → events ≡ [] → Each NoRecovery events
none_yet events e = subst (Each NoRecovery) (sym e) tt

-- what happened since the opening is all that happened
since : (old made new : List Event) → new ≡ old ++ made → old ≡ [] → made ≡ new
since old made new e none = sym (e ∙ ap (λ (l : List Event). l ++ made) none)

abbrev KeepsKept : Type 0
KeepsKept = (plan : PlanView) (s : State) → kept_records (happens plan s Recover) ≡ kept_records s

-- the event that begins the first recovery has happened
pub recovered : (work : WorkView) (old now next : Ran) (count n pick : ℕ) (e : Event) → KeepsKept → old.events ≡ [] → Each NoRecovery now.events → e ≡ Recover
    → Pumping work old now count n → is_quiet now.plan now.state ≡ false → pick ≡ pick_of work n → HasStepped now pick e next → HasPumpedToRecover work old next (count + 1)
recovered work old now next count n pick e keeps none plain is p busy pick_is s =
    let after = steps work old now next count n pick e p busy pick_is s in
    record {
      made = after.made;
      gone = after.gone;
      count_is = after.count_is;
      recovery = record { before = now.events; whole = since old.events after.made next.events after.gone.events none ∙ (s.events ∙ ap (λ (x : Event). now.events ++ x ∷ []) is); first = plain };
      picked = after.so_far;
      kept = λ t.
          let here : now.state ≡ run old.plan old.state now.events = p.gone.told t ∙ ap (λ (l : List Event). run old.plan old.state l) (since old.events p.made now.events p.gone.events none) in
          ap kept_records (s.state (p.gone.tells ∙ t) ∙ ap (λ (x : Event). happens now.plan now.state x) is) ∙ (keeps now.plan now.state ∙ ap kept_records here);
    }

each_kept : (events : List KeptEvent) → Each NoRecovery (map event_of events) → Each (λ (e : KeptEvent). e.event ≢ Recover) events
each_kept [] h = tt
each_kept (e ∷ es) h = (h.0, each_kept es h.1)

abbrev Begins : Type 0
Begins = (plan : PlanView) (events : List KeptEvent) → IsRunWith plan 0 (opening plan) events → list_any is_stop plan.orders ≡ true → is_finished plan (run_with plan (opening plan) events) ≡ true → Each (λ (e : KeptEvent). e.event ≢ Recover) events → ⊥

-- a world of a plan with an order to stop is not finished before a recovery has begun
pub not_finished : (w : Ran) → Begins → IsReached w → list_any is_stop w.plan.orders ≡ true → is_finished w.plan w.state ≡ true → Each NoRecovery w.events → ⊥
not_finished w begins h stop finished plain =
    begins w.plan h.kept h.way stop (sym (ap (is_finished w.plan) h.state_is) ∙ finished) (each_kept h.kept (subst (Each NoRecovery) h.events_are plain))

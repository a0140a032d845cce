-- A world that was run by the picks of a workload has the servers' records after the events that happened.
use Rattle.std.proofs.Common.{◌≡◌, ℕ, true, false, List, [], ◌∷◌, ◌++◌, Option, Some, None, sym, ap, ◌∙◌, subst}
use Rattle.std.specs.Prelude.{IfSome}
use Rattle.far_base.specs.PlanView.{PlanView}
use Rattle.far_base.specs.declared.event.Event.{Event}
use Rattle.far_base.specs.declared.record.Record.{Record}
use Rattle.far_model.specs.Events.{happens}
use Rattle.far_model.specs.Runs.{ArePicked, IsPickedFrom, IsRun, picks_after, run}
use Rattle.far_model.specs.State.{State, opening}
use Rattle.far_runner.specs.Picked.{pick_of}
use Rattle.far_runner.specs.Pumped.{HasGone, HasPumped, HasPumpedSome, HasPumpedToRecover}
use Rattle.far_world.specs.Reached.{IsRunOf, Ran}
use Rattle.far_world.specs.Scene.{told_by}
use Rattle.workload.specs.WorkView.{WorkView}
use Rattle.run_main.specs.Gone.{HasGoneBy}
use Rattle.run_main.specs.Replay.{Tells}

-- events to the end of a run are its first ones
picked_first : (plan : PlanView) (pick : ℕ → ℕ) (n : ℕ) (s : State) (events : List Event) → IsPickedFrom plan pick n s events → ArePicked plan pick n s events
picked_first plan pick n s [] h = tt
picked_first plan pick n s (e ∷ es) h = (h.0, h.1, picked_first plan pick (picks_after plan s n) (happens plan s e) es h.2)

module _ (work : WorkView) (start w : Ran) (none : start.events ≡ []) (opens : Tells start.keeper.records → start.state ≡ opening start.plan) (runs : Tells w.keeper.records → IsRunOf w.plan w.events w.state) (serves : w.state.servers ≡ told_by w.plan.config.servers w.keeper.records) (tells : Tells start.keeper.records) (records : Option (List (List Record))) (same : records ≡ w.keeper.records) where
  goes : (made : List Event) → HasGone start w made → ArePicked start.plan (pick_of work) 0 start.state made → IfSome records (HasGoneBy (record work { plan = start.plan }))
  goes made gone picked = go records same
    where
      d : IsRunOf w.plan w.events w.state
      d = runs (gone.tells ∙ tells)

      made_is : w.events ≡ made
      made_is = gone.events ∙ ap (λ (es : List Event). es ++ made) none

      state_is : w.state ≡ run start.plan (opening start.plan) made
      state_is = gone.told tells ∙ ap (λ (z : State). run start.plan z made) (opens tells)

      go : (r : Option (List (List Record))) → r ≡ w.keeper.records → IfSome r (HasGoneBy (record work { plan = start.plan }))
      go None seen = tt
      go (Some all) seen = record {
        events = made;
        enabled = subst (λ (es : List Event). IsRun start.plan (opening start.plan) es) made_is (subst (λ (q : PlanView). IsRun q (opening q) w.events) gone.plan d.enabled);
        picked = subst (λ (z : State). ArePicked start.plan (pick_of work) 0 z made) (opens tells) picked;
        servers = ap (told_by w.plan.config.servers) seen ∙ sym serves ∙ ap (λ (z : State). z.servers) state_is;
      }

  pub goes_some : HasPumpedSome work start w → IfSome records (HasGoneBy (record work { plan = start.plan }))
  goes_some p = goes p.made p.gone (p.picked tells)

  pub goes_to_end : (count : ℕ) → HasPumped work start w count → IfSome records (HasGoneBy (record work { plan = start.plan }))
  goes_to_end count p = goes p.made p.gone (picked_first start.plan (pick_of work) 0 start.state p.made (p.picked tells))

  pub goes_to_recovery : (count : ℕ) → HasPumpedToRecover work start w count → IfSome records (HasGoneBy (record work { plan = start.plan }))
  goes_to_recovery count p = goes p.made p.gone (p.picked tells)

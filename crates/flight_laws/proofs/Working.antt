-- Every event that can happen is one step.
use Rattle.std.proofs.Common.{◌≡◌, ℕ, zero, suc, ◌+◌, true, true≢false, cond, nat_eq, eqb-true, List, [], ◌∷◌, length, refl, sym, ap, subst, arith}
use Rattle.std.specs.Prelude.{Option, None, Some, is_some, slice_get}
use Rattle.std.specs.List.{remove}
use Rattle.std.proofs.lemmas.Bool.{and_parts}
use Rattle.far_base.specs.PlanView.{PlanView}
use Rattle.far_base.specs.declared.event.Event.{Event}
use Rattle.far_base.specs.declared.event.Event.TheVariants.{Send, Deliver, Tick, Recover, Restart, Order as OrderOf}
use Rattle.far_base.specs.declared.packet.Message.{Message}
use Rattle.far_base.specs.declared.packet.Packet.{Packet}
use Rattle.far_base.specs.declared.party.Party.{Party}
use Rattle.far_base.specs.declared.party.Party.TheVariants.{Client, Switch, Server, Controller}
use Rattle.far_base.specs.declared.plan.Config.{Config}
use Rattle.far_base.specs.declared.plan.Order.{Order}
use Rattle.far_base.specs.declared.plan.Order.TheVariants.{Admit as AdmitOrder, Evict as EvictOrder, Snap as SnapOrder, Stop as StopOrder, StopAt as StopAtOrder}
use Rattle.far_model.specs.Controller.{ControllerState, ready, tick}
use Rattle.far_model.specs.Events.{Keeping, can_deliver_some, delivers, does_order, handled, happens, happens_with, is_enabled, is_order_due, keeping_of, restarts, ticks}
use Rattle.far_model.specs.Parties.{Turn}
use Rattle.far_model.specs.Runs.{IsRun, run}
use Rattle.far_model.specs.State.{State}
use Rattle.far_model.specs.View.{is_taken, opening_view}
use Rattle.far_model.specs.Work.{untaken_from}
use Rattle.flight_laws.proofs.Lists.{get_or-replicate_default}

-- ---- parts of the sum that stay

pub untaken_opening : (config : Config) (counter i more : ℕ) → untaken_from (opening_view config 1 counter) i more ≡ 0
untaken_opening config counter i zero = refl
untaken_opening config counter i (suc more) =
    let taken : is_taken (opening_view config 1 counter) i ≡ true = ap (λ n. nat_eq n 0) (get_or-replicate_default config.slots i 0) in
    let one : cond {A = ℕ} (is_taken (opening_view config 1 counter) i) 0 1 ≡ 0 = ap (λ b. cond {A = ℕ} b 0 1) taken in
    omega (arith, one, untaken_opening config counter (suc i) more)

-- ---- events

-- every event that can happen is one step
handled_steps : (plan : PlanView) (k : Keeping) (s : State) (rest : List Message) (to : Party) (p : Packet) → (handled plan k s rest to p).steps ≡ s.steps + 1
handled_steps plan k s rest (Client c) p = refl
handled_steps plan k s rest Switch p = refl
handled_steps plan k s rest (Server n) p = refl
handled_steps plan k s rest Controller p = refl

pub step_counted : (plan : PlanView) (k : Keeping) (s : State) (e : Event) → is_enabled plan s e ≡ true → (happens_with plan k s e).steps ≡ s.steps + 1
step_counted plan k s (Send c) able = refl
step_counted plan k s (Deliver i) able = by (slice_get s.bag i) able
  where
    by : (o : Option Message) → can_deliver_some s.running o ≡ true → (delivers plan k s i o).steps ≡ s.steps + 1
    by None can = absurd (true≢false (sym can))
    by (Some m) can = handled_steps plan k s (remove s.bag i) m.to m.packet
step_counted plan k s Tick able = by (tick s.controller) able
  where
    by : (o : Option (Turn ControllerState)) → is_some o ≡ true → (ticks s o).steps ≡ s.steps + 1
    by None can = absurd (true≢false (sym can))
    by (Some t) can = refl
step_counted plan k s Recover able = refl
step_counted plan k s Restart able = by (ready s.controller) able
  where
    by : (o : Option ℕ) → is_some o ≡ true → (restarts plan k s o).steps ≡ s.steps + 1
    by None can = absurd (true≢false (sym can))
    by (Some counter) can = refl
step_counted plan k s (OrderOf j) able =
    let same : j ≡ s.done = eqb-true j s.done (and_parts _ _ able).0 in
    by (slice_get plan.orders j) (subst (λ n. is_order_due s (slice_get plan.orders n) ≡ true) (sym same) (and_parts _ _ able).1)
  where
    by : (o : Option Order) → is_order_due s o ≡ true → (does_order plan s o).steps ≡ s.steps + 1
    by None can = absurd (true≢false (sym can))
    by (Some (AdmitOrder step key)) can = refl
    by (Some (EvictOrder step key)) can = refl
    by (Some (SnapOrder step)) can = refl
    by (Some (StopOrder step)) can = refl
    by (Some (StopAtOrder kind times)) can = refl

-- ---- runs

pub run_counted : (plan : PlanView) (s : State) (events : List Event) → IsRun plan s events → (run plan s events).steps ≡ s.steps + length events
run_counted plan s [] r = omega arith
run_counted plan s (e ∷ es) r = omega (arith, step_counted plan (keeping_of s e) s e r.0, run_counted plan (happens plan s e) es r.1)

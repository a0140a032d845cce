-- A world that is reached goes on to one that is reached.
use Rattle.std.proofs.Common.{◌≡◌, ℕ, ◌+◌, true, List, [], ◌∷◌, ◌++◌, map, refl, sym, ap, ◌∙◌, subst, Some, None}
use Rattle.std.specs.Prelude.{Option, slice_get}
use Rattle.std.specs.List.{remove}
use Rattle.far_base.specs.PlanView.{PlanView}
use Rattle.far_base.specs.declared.event.Event.{Event}
use Rattle.far_base.specs.declared.event.Event.TheVariants.{Send, Deliver, Tick, Recover, Restart, Order as OrderOf}
use Rattle.far_base.specs.declared.packet.Message.{Message}
use Rattle.far_base.specs.declared.packet.Packet.{Packet}
use Rattle.far_base.specs.declared.party.Party.{Party}
use Rattle.far_base.specs.declared.party.Party.TheVariants.{Client, Switch, Server, Controller}
use Rattle.far_base.specs.declared.plan.Order.{Order}
use Rattle.far_base.specs.declared.plan.Order.TheVariants.{Admit, Evict, Snap, Stop, StopAt}
use Rattle.far_base.specs.declared.record.Record.{Record}
use Rattle.far_model.proofs.Runs.{ceiling_append, is_run_append, is_run_with_append, run_append, run_with_append}
use Rattle.far_model.specs.Controller.{ControllerState, ready, tick}
use Rattle.far_model.specs.Events.{Keeping, delivers, does_order, handled, happens, happens_with, is_enabled, restarts, ticks}
use Rattle.far_model.specs.Parties.{Turn}
use Rattle.far_model.specs.Replies.{KeepersAnswer, KeptEvent, ceiling_after, ceiling_with, run_with}
use Rattle.far_model.specs.State.{State, opening}
use Rattle.far_world.specs.Reached.{IsReached, Ran, event_of, ran_to, scene_in}
use Rattle.far_world.specs.Scene.{Scene, Tells, told_by}
use Rattle.far_world.specs.Steps.{IsAfter}

-- ---- the servers' records play no part but for servers

abbrev pub elsewhere : State → List (List Record) → State
elsewhere s servers = record s { servers = servers }

module _ (plan : PlanView) (k : Keeping) (r : State) (x y : List (List Record)) where
  handled_elsewhere : (rest : List Message) (to : Party) (packet : Packet) → elsewhere (handled plan k (elsewhere r x) rest to packet) y ≡ elsewhere (handled plan k r rest to packet) y
  handled_elsewhere rest (Client c) packet = refl
  handled_elsewhere rest Switch packet = refl
  handled_elsewhere rest (Server n) packet = refl
  handled_elsewhere rest Controller packet = refl

  delivers_elsewhere : (i : ℕ) (m : Option Message) → elsewhere (delivers plan k (elsewhere r x) i m) y ≡ elsewhere (delivers plan k r i m) y
  delivers_elsewhere i None = refl
  delivers_elsewhere i (Some m) = handled_elsewhere (remove r.bag i) m.to m.packet

  ticks_elsewhere : (t : Option (Turn ControllerState)) → elsewhere (ticks (elsewhere r x) t) y ≡ elsewhere (ticks r t) y
  ticks_elsewhere None = refl
  ticks_elsewhere (Some t) = refl

  restarts_elsewhere : (counter : Option ℕ) → elsewhere (restarts plan k (elsewhere r x) counter) y ≡ elsewhere (restarts plan k r counter) y
  restarts_elsewhere None = refl
  restarts_elsewhere (Some counter) = refl

  order_elsewhere : (order : Option Order) → elsewhere (record (does_order plan (elsewhere r x) order) { done = r.done + 1 }) y ≡ elsewhere (record (does_order plan r order) { done = r.done + 1 }) y
  order_elsewhere None = refl
  order_elsewhere (Some (Admit step key)) = refl
  order_elsewhere (Some (Evict step key)) = refl
  order_elsewhere (Some (Snap step)) = refl
  order_elsewhere (Some (Stop step)) = refl
  order_elsewhere (Some (StopAt kind times)) = refl

  pub happens_elsewhere : (e : Event) → elsewhere (happens_with plan k (elsewhere r x) e) y ≡ elsewhere (happens_with plan k r e) y
  happens_elsewhere (Send c) = refl
  happens_elsewhere (Deliver i) = delivers_elsewhere i (slice_get r.bag i)
  happens_elsewhere Tick = ticks_elsewhere (tick r.controller)
  happens_elsewhere Recover = refl
  happens_elsewhere Restart = restarts_elsewhere (ready r.controller)
  happens_elsewhere (OrderOf j) = order_elsewhere (slice_get plan.orders j)

pub enabled_elsewhere : (plan : PlanView) (r : State) (x : List (List Record)) (e : Event) → is_enabled plan (elsewhere r x) e ≡ is_enabled plan r e
enabled_elsewhere plan r x (Send c) = refl
enabled_elsewhere plan r x (Deliver i) = refl
enabled_elsewhere plan r x Tick = refl
enabled_elsewhere plan r x Recover = refl
enabled_elsewhere plan r x Restart = refl
enabled_elsewhere plan r x (OrderOf j) = refl

ceiling_elsewhere : (r : State) (x : List (List Record)) (e : Event) (ceiling : ℕ) → ceiling_after (elsewhere r x) e ceiling ≡ ceiling_after r e ceiling
ceiling_elsewhere r x (Send c) ceiling = refl
ceiling_elsewhere r x (Deliver i) ceiling = refl
ceiling_elsewhere r x Tick ceiling = refl
ceiling_elsewhere r x Recover ceiling = refl
ceiling_elsewhere r x Restart ceiling = refl
ceiling_elsewhere r x (OrderOf j) ceiling = refl

answers_elsewhere : (ceiling : ℕ) (r : State) (x : List (List Record)) (e : Event) (k : Keeping) → KeepersAnswer ceiling (elsewhere r x) e k → KeepersAnswer ceiling r e k
answers_elsewhere ceiling r x (Send c) k h = record { kind = h.kind; within = h.within }
answers_elsewhere ceiling r x (Deliver i) k h = record { kind = h.kind; within = h.within }
answers_elsewhere ceiling r x Tick k h = record { kind = h.kind; within = h.within }
answers_elsewhere ceiling r x Recover k h = record { kind = h.kind; within = h.within }
answers_elsewhere ceiling r x Restart k h = record { kind = h.kind; within = h.within }
answers_elsewhere ceiling r x (OrderOf j) k h = record { kind = h.kind; within = h.within }

-- ---- one event more

events_on : (kept : List KeptEvent) (last : KeptEvent) → map event_of (kept ++ last ∷ []) ≡ map event_of kept ++ last.event ∷ []
events_on [] last = refl
events_on (e ∷ es) last = ap (λ (rest : List Event). e.event ∷ rest) (events_on es last)

-- the state of the run that leads to a world
abbrev pub run_to : (w : Ran) → IsReached w → State
run_to w h = run_with w.plan (opening w.plan) h.kept

pub enabled_there : (w : Ran) (h : IsReached w) (e : Event) → is_enabled w.plan w.state e ≡ true → is_enabled w.plan (run_to w h) e ≡ true
enabled_there w h e able = sym (enabled_elsewhere w.plan (run_to w h) w.state.servers e) ∙ (ap (λ (z : State). is_enabled w.plan z e) (sym h.state_is) ∙ able)

pub answers_there : (w : Ran) (h : IsReached w) (e : Event) (k : Keeping) → KeepersAnswer w.keeper.ceiling w.state e k → KeepersAnswer (ceiling_with w.plan 0 (opening w.plan) h.kept) (run_to w h) e k
answers_there w h e k answers = answers_elsewhere (ceiling_with w.plan 0 (opening w.plan) h.kept) (run_to w h) w.state.servers e k
    (subst (λ (c : ℕ). KeepersAnswer c (elsewhere (run_to w h) w.state.servers) e k) h.ceiling
    (subst (λ (z : State). KeepersAnswer w.keeper.ceiling z e k) h.state_is answers))

pub reached_on : (w : Ran) (e : Event) (new : Scene) → IsReached w → is_enabled w.plan w.state e ≡ true → IsAfter (scene_in w) e new → IsReached (ran_to new (w.events ++ e ∷ []))
reached_on w e new h able a = rw a.plan (record {
  valid = h.valid;
  kept = h.kept ++ last ∷ [];
  way = is_run_with_append w.plan 0 (opening w.plan) h.kept (last ∷ []) h.way (enabled_there w h e able, answers_there w h e a.keeping a.answers, tt);
  events_are = ap (λ (events : List Event). events ++ e ∷ []) h.events_are ∙ sym (events_on h.kept last);
  state_is = a.state
      ∙ (ap (λ (z : State). elsewhere (happens_with w.plan a.keeping z e) new.state.servers) h.state_is
      ∙ (happens_elsewhere w.plan a.keeping (run_to w h) w.state.servers new.state.servers e
      ∙ ap (λ (z : State). elsewhere z new.state.servers) (sym (run_with_append w.plan (opening w.plan) h.kept (last ∷ [])))));
  records = subst (λ (p : PlanView). new.state.servers ≡ told_by p.config.servers new.keeper.records) a.plan a.records;
  servers = a.servers ∙ h.servers;
  ceiling = a.ceiling
      ∙ (ap (λ (c : ℕ). ceiling_after w.state e c) h.ceiling
      ∙ (ap (λ (z : State). ceiling_after z e (ceiling_with w.plan 0 (opening w.plan) h.kept)) h.state_is
      ∙ (ceiling_elsewhere (run_to w h) w.state.servers e (ceiling_with w.plan 0 (opening w.plan) h.kept)
      ∙ sym (ceiling_append w.plan 0 (opening w.plan) h.kept (last ∷ [])))));
  told = λ tells.
      let before : Tells w.keeper.records = sym a.tells ∙ tells in
      let d = h.told before in
      record {
        enabled = is_run_append w.plan (opening w.plan) w.events (e ∷ []) d.enabled (subst (λ (z : State). is_enabled w.plan z e ≡ true) d.is able, tt);
        is = a.told before ∙ (ap (λ (z : State). happens w.plan z e) d.is ∙ sym (run_append w.plan (opening w.plan) w.events (e ∷ [])));
      };
})
  where
    last : KeptEvent
    last = record { event = e; keeping = a.keeping }

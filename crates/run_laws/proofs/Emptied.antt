-- A stopped switch has no memory.
use Rattle.far_invariants.specs.Holds.{IsEmptied}
use Rattle.std.proofs.Common.{◌≡◌, ℕ, ◌+◌, true, false, not, refl, sym, ap, ◌∙◌}
use Rattle.std.specs.Prelude.{Option, Some, None, ◌||◌, slice_get}
use Rattle.std.specs.List.{remove}
use Rattle.far_base.specs.PlanView.{PlanView}
use Rattle.far_base.specs.declared.event.Event.{Event}
use Rattle.far_base.specs.declared.event.Event.TheVariants.{Send, Deliver, Tick, Recover, Restart, Order as OrderOf}
use Rattle.far_base.specs.declared.packet.Message.{Message}
use Rattle.far_base.specs.declared.packet.Packet.{Packet}
use Rattle.far_base.specs.declared.party.Party.{Party}
use Rattle.far_base.specs.declared.party.Party.TheVariants.{Client, Switch, Server, Controller}
use Rattle.far_base.specs.declared.plan.Order.{Order}
use Rattle.far_base.specs.declared.plan.Order.TheVariants.{Admit as AdmitOrder, Evict as EvictOrder, Snap as SnapOrder, Stop as StopOrder, StopAt as StopAtOrder}
use Rattle.far_model.specs.Controller.{ControllerState, ready, tick}
use Rattle.far_model.specs.Events.{Keeping, can_deliver_some, delivers, does_order, handled, happens_with, is_enabled, is_switch, restarts, ticks}
use Rattle.far_model.specs.Parties.{Turn}
use Rattle.far_model.specs.State.{State}

module _ (plan : PlanView) (k : Keeping) (s : State) (h : IsEmptied plan s) where
  handled_empty : (i : ℕ) (to : Party) (p : Packet) → (s.running || not (is_switch to)) ≡ true → IsEmptied plan (handled plan k s (remove s.bag i) to p)
  handled_empty i (Client c) p can = h
  handled_empty i Switch p can = λ off. absurd (let g : (s.running || false) ≡ false = ap (λ b. b || false) off in let clash : true ≡ false = sym can ∙ g in cc)
  handled_empty i (Server n) p can = h
  handled_empty i Controller p can = h

  order_empty : (o : Option Order) (n : ℕ) → IsEmptied plan (record (does_order plan s o) { done = n })
  order_empty None n = h
  order_empty (Some (AdmitOrder step key)) n = h
  order_empty (Some (EvictOrder step key)) n = h
  order_empty (Some (SnapOrder step)) n = h
  order_empty (Some (StopOrder step)) n = λ off. refl
  order_empty (Some (StopAtOrder kind times)) n = λ off. refl

  pub stays_empty : (e : Event) → is_enabled plan s e ≡ true → IsEmptied plan (happens_with plan k s e)
  stays_empty (Send c) can = h
  stays_empty (Deliver i) can = go (slice_get s.bag i) can
    where
      go : (o : Option Message) → can_deliver_some s.running o ≡ true → IsEmptied plan (delivers plan k s i o)
      go None can = absurd cc
      go (Some m) can = handled_empty i m.to m.packet can
  stays_empty Tick can = go (tick s.controller)
    where
      go : (o : Option (Turn ControllerState)) → IsEmptied plan (ticks s o)
      go None = h
      go (Some t) = h
  stays_empty Recover can = h
  stays_empty Restart can = go (ready s.controller)
    where
      go : (o : Option ℕ) → IsEmptied plan (restarts plan k s o)
      go None = h
      go (Some counter) = λ off. absurd cc
  stays_empty (OrderOf j) can = order_empty (slice_get plan.orders j) (s.done + 1)

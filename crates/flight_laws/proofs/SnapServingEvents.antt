-- What is on its way for a snapshot, over every event.
use Rattle.std.proofs.Common.{◌≡◌, ◌≢◌, ℕ, ◌+◌, Bool, true, false, List, [], ◌∷◌, ◌++◌, refl, sym, ap, ◌∙◌, subst, eqb-true}
use Rattle.std.specs.Prelude.{Option, Some, None, ◌||◌, not, nat_eq, slice_get}
use Rattle.std.specs.List.{remove}
use Rattle.std.proofs.lemmas.List.{append-nil}
use Rattle.far_base.specs.PlanView.{PlanView}
use Rattle.far_base.specs.declared.event.Event.{Event}
use Rattle.far_base.specs.declared.event.Event.TheVariants.{Send, Deliver, Tick, Recover, Restart, Order as OrderOf}
use Rattle.far_base.specs.declared.packet.Message.{Message}
use Rattle.far_base.specs.declared.packet.Packet.{Packet}
use Rattle.far_base.specs.declared.packet.Packet.TheVariants.{GetReq, WriteReq, GetAns, WriteAns, SnapStart, SnapBegun, SnapRead, SnapPart, Release, Ask, SnapSame, SnapFrom}
use Rattle.far_base.specs.declared.party.Party.{Party}
use Rattle.far_base.specs.declared.party.Party.TheVariants.{Client, Switch, Server, Controller}
use Rattle.far_base.specs.declared.plan.Order.{Order}
use Rattle.far_base.specs.declared.plan.Order.TheVariants.{Admit as AdmitOrder, Evict as EvictOrder, Snap as SnapOrder, Stop as StopOrder, StopAt as StopAtOrder}
use Rattle.far_model.specs.Clients.{ClientState, client_takes, line_of}
use Rattle.far_model.specs.Controller.{ControllerState, controller_takes, wanted, evict_key, tick, ready}
use Rattle.far_model.specs.Events.{Keeping, happens_with, handled, delivers, ticks, restarts, does_order, client_turn, server_turn, controller_turn, reply_message, next_sent, is_enabled, can_deliver, can_deliver_some, is_order_due, is_order_enabled, is_switch}
use Rattle.far_invariants.specs.Flights.{IsFor}
use Rattle.far_model.specs.Log.{is_read}
use Rattle.far_model.specs.Members.{Each}
use Rattle.far_model.specs.Parties.{Turn, idle, messages_from}
use Rattle.far_invariants.specs.Past.{SnapshotStart, Past, starts_by, starts_with, remembers}
use Rattle.far_model.specs.Replies.{RepliesAt, RepliesToMessage, AnswersInKind}
use Rattle.far_model.specs.State.{State, client_at, opening}
use Rattle.far_model.proofs.Members.{among_at}
use Rattle.far_invariants.specs.SnapshotNeeds.{Needs}
use Rattle.far_invariants.specs.SnapshotFlights.{SnapshotsInFlight, AreRouted}
use Rattle.far_invariants.specs.Snapshots.{SnapshotsStand}
use Rattle.flight_laws.proofs.SnapBasics.{both, by_test}
use Rattle.flight_laws.proofs.SnapFrame.{is_foreign, IsForeignOut}
use Rattle.flight_laws.proofs.SnapRuling.{in_round}
use Rattle.flight_laws.proofs.SnapServing.{is_serving, foreign_no_part, serving_all, serving_rest, calm_flies}
use Rattle.flight_laws.proofs.SnapServingPasses.{switch_flies}
use Rattle.flight_laws.proofs.SnapServingTurns.{no_parts, aside_flies, no_job_flies, begun_flies, part_flies, same_flies, order_flies, stopped_flies}
use Rattle.flight_laws.proofs.SnapTurning.{all_told_foreign, reply_foreign, is_gathered, wanted_aside, takes_aside, evict_aside, tick_aside}

-- what goes to a client or a server serves no snapshot; nor does what goes to the controller, but for what it gathers
elsewhere : (plan : PlanView) (p : Packet) (to : Party) → IsFor plan.config p to → (to ≢ Switch) → (to ≢ Controller) → is_serving p ≡ false
elsewhere plan (SnapStart epoch id) to route a b = absurd (a route)
elsewhere plan (SnapFrom epoch id base) to route a b = absurd (a route)
elsewhere plan (SnapRead epoch id i) to route a b = absurd (a route)
elsewhere plan (SnapBegun id point) to route a b = absurd (b route)
elsewhere plan (SnapPart id i view) to route a b = absurd (b route)
elsewhere plan (SnapSame id i) to route a b = absurd (b route)
elsewhere plan _ to route a b = refl

ungathered : (plan : PlanView) (p : Packet) (to : Party) → IsFor plan.config p to → to ≡ Controller → is_gathered p ≡ false → is_serving p ≡ false
ungathered plan (SnapStart epoch id) to route e g = let clash : Controller ≡ Switch = sym e ∙ route in absurd cc
ungathered plan (SnapFrom epoch id base) to route e g = let clash : Controller ≡ Switch = sym e ∙ route in absurd cc
ungathered plan (SnapRead epoch id i) to route e g = let clash : Controller ≡ Switch = sym e ∙ route in absurd cc
ungathered plan (SnapBegun id point) to route e g = absurd cc
ungathered plan (SnapPart id i view) to route e g = absurd cc
ungathered plan (SnapSame id i) to route e g = absurd cc
ungathered plan _ to route e g = refl

taken_foreign : (plan : PlanView) (c : ℕ) (client : ClientState) (p : Packet) → Each IsForeignOut (client_takes plan.ops c client p).out
taken_foreign plan c client (Ask round) = all_told_foreign round c client.preserved
taken_foreign plan c client (GetAns caller op key num body near) = tt
taken_foreign plan c client (WriteAns caller op key num kept) = tt
taken_foreign plan c client (Release point) = tt
taken_foreign plan c client _ = tt

next_foreign : (plan : PlanView) (c : ℕ) (client : ClientState) (left : List ℕ) → Each IsForeignOut (next_sent plan.ops c client left).out
next_foreign plan c client [] = tt
next_foreign plan c client (op ∷ left) = (by_test (λ p. is_foreign p ≡ true) (is_read (line_of plan.ops op).op) (GetReq c op (line_of plan.ops op).key) (WriteReq c op (line_of plan.ops op).key (line_of plan.ops op).body) refl refl, tt)

module _ {tells : Bool} (plan : PlanView) (s : State) (starts : List SnapshotStart) (h : SnapshotsStand tells plan s starts) (f : SnapshotsInFlight plan s starts) (routed : AreRouted plan s) (i : ℕ) (k : Keeping) where
  none_new : (t : State) → SnapshotsInFlight plan t starts → SnapshotsInFlight plan t (starts ++ [])
  none_new t k = subst (SnapshotsInFlight plan t) (sym (append-nil starts)) k

  at_controller : (m : Message) → slice_get s.bag i ≡ Some m → m.to ≡ Controller → IsFor plan.config m.packet m.to → (p : Packet) → m.packet ≡ p → SnapshotsInFlight plan (controller_turn s (remove s.bag i) (controller_takes plan.config s.controller p)) starts
  at_controller m at to route (SnapBegun id point) is = begun_flies plan s starts h f i m at id point is s.controller.job refl
  at_controller m at to route (SnapPart id k view) is = part_flies plan s starts h f i m at id k view is s.controller.job refl
  at_controller m at to route (SnapSame id k) is = same_flies plan s starts h f i m at id k is s.controller.job refl
  at_controller m at to route p is = aside p is refl
    where
      aside : (p : Packet) → m.packet ≡ p → is_gathered p ≡ false → SnapshotsInFlight plan (controller_turn s (remove s.bag i) (controller_takes plan.config s.controller p)) starts
      aside p is off =
          let a = takes_aside plan.config s.controller p off in
          calm_flies plan s (controller_turn s (remove s.bag i) (controller_takes plan.config s.controller p)) starts refl a.same (λ k. refl)
          (serving_rest s.bag (messages_from Controller (controller_takes plan.config s.controller p).out) i m at (ungathered plan m.packet m.to route to (ap is_gathered is ∙ off)) (no_parts Controller (controller_takes plan.config s.controller p).out a.out)) f

  delivered : (m : Message) → slice_get s.bag i ≡ Some m → can_deliver s.running m ≡ true → RepliesAt m.to m.packet k.reply → (to : Party) → m.to ≡ to → SnapshotsInFlight plan (handled plan k s (remove s.bag i) to m.packet) (starts ++ starts_by s.switch to m.packet)
  delivered m at can answers (Client c) to = none_new _ (calm_flies plan s (client_turn s c (remove s.bag i) (client_takes plan.ops c (client_at s c) m.packet)) starts refl refl (λ k. refl)
      (serving_rest s.bag (messages_from (Client c) (client_takes plan.ops c (client_at s c) m.packet).out) i m at
      (elsewhere plan m.packet m.to (routed m (among_at m s.bag i at)) (λ e. let clash : Client c ≡ Switch = sym to ∙ e in cc) (λ e. let clash : Client c ≡ Controller = sym to ∙ e in cc))
      (no_parts (Client c) (client_takes plan.ops c (client_at s c) m.packet).out (taken_foreign plan c (client_at s c) m.packet))) f)
  delivered m at can answers Switch to = switch_flies plan s starts h f runs i m at m.packet refl to (routed m (among_at m s.bag i at)) (h.packets m (among_at m s.bag i at))
    where
      up : (b : Bool) → (b || not (is_switch m.to)) ≡ true → b ≡ true
      up true e = refl
      up false e = absurd (let off : not (is_switch m.to) ≡ false = ap (λ w. not (is_switch w)) to in let clash : true ≡ false = sym e ∙ off in cc)

      runs : s.running ≡ true
      runs = up s.running can
  delivered m at can answers (Server n) to = none_new _ (calm_flies plan s (server_turn s n (remove s.bag i) m.packet k.reply) starts refl refl (λ k. refl)
      (serving_rest s.bag (reply_message n k.reply) i m at
      (elsewhere plan m.packet m.to (routed m (among_at m s.bag i at)) (λ e. let clash : Server n ≡ Switch = sym to ∙ e in cc) (λ e. let clash : Server n ≡ Controller = sym to ∙ e in cc))
      (λ id slot x a. foreign_no_part id slot x.packet (reply_foreign n m.packet k.reply (subst (λ w. RepliesAt w m.packet k.reply) to answers) x a))) f)
  delivered m at can answers Controller to = none_new _ (at_controller m at to (routed m (among_at m s.bag i at)) m.packet refl)

  pub delivery_flies : (o : Option Message) → slice_get s.bag i ≡ o → can_deliver_some s.running o ≡ true → RepliesToMessage o k.reply → SnapshotsInFlight plan (delivers plan k s i o) (starts ++ starts_with s.switch o)
  delivery_flies None at can answers = absurd cc
  delivery_flies (Some m) at can answers = delivered m at can answers m.to refl

module _ {tells : Bool} (plan : PlanView) (s : State) (starts : List SnapshotStart) (h : SnapshotsStand tells plan s starts) (f : SnapshotsInFlight plan s starts) (owed : Needs tells plan s) where
  tick_flies : (o : Option (Turn ControllerState)) → tick s.controller ≡ o → SnapshotsInFlight plan (ticks s o) starts
  tick_flies None e = f
  tick_flies (Some t) e = aside_flies plan s starts t s.done (tick_aside s.controller t e) f

  restart_flies : (k : Keeping) (o : Option ℕ) → ready s.controller ≡ o → SnapshotsInFlight plan (restarts plan k s o) starts
  restart_flies k None e = f
  restart_flies k (Some n) e = no_job_flies plan (restarts plan k s (Some n)) starts (owed.rounds (in_round s.controller.round n e))

  order_event : (o : Option Order) → is_order_due s o ≡ true → (done : ℕ) → SnapshotsInFlight plan (record (does_order plan s o) { done = done }) starts
  order_event None due done = absurd cc
  order_event (Some (AdmitOrder step key)) due done = aside_flies plan s starts (idle (wanted key s.controller)) done (wanted_aside s.controller key) f
  order_event (Some (EvictOrder step key)) due done = aside_flies plan s starts (evict_key key s.controller) done (evict_aside s.controller key) f
  order_event (Some (SnapOrder step)) due done = order_flies plan s starts h done
  order_event (Some (StopOrder step)) due done = stopped_flies plan s (record (does_order plan s (Some (StopOrder step))) { done = done }) starts refl refl refl f
  order_event (Some (StopAtOrder kind times)) due done = stopped_flies plan s (record (does_order plan s (Some (StopAtOrder kind times))) { done = done }) starts refl refl refl f

-- what is on its way for snapshots before an event is so after it
module _ {tells : Bool} where
  pub event_flies_with : (plan : PlanView) (k : Keeping) (s : State) (p : Past) (e : Event) → SnapshotsStand tells plan s p.starts → SnapshotsInFlight plan s p.starts → Needs tells plan s → AreRouted plan s → AnswersInKind s e k → is_enabled plan s e ≡ true → SnapshotsInFlight plan (happens_with plan k s e) (remembers s p e).starts
  event_flies_with plan k s p (Send c) h f owed routed answers can = subst (SnapshotsInFlight plan (happens_with plan k s (Send c))) (sym (append-nil p.starts))
      (calm_flies plan s (happens_with plan k s (Send c)) p.starts refl refl (λ k. refl) (serving_all s.bag (messages_from (Client c) (next_sent plan.ops c (client_at s c) (client_at s c).left).out)
      (no_parts (Client c) (next_sent plan.ops c (client_at s c) (client_at s c).left).out (next_foreign plan c (client_at s c) (client_at s c).left))) f)
  event_flies_with plan k s p (Deliver i) h f owed routed answers can = delivery_flies plan s p.starts h f routed i k (slice_get s.bag i) refl can answers
  event_flies_with plan k s p Tick h f owed routed answers can = subst (SnapshotsInFlight plan (happens_with plan k s Tick)) (sym (append-nil p.starts)) (tick_flies plan s p.starts h f owed (tick s.controller) refl)
  event_flies_with plan k s p Recover h f owed routed answers can = subst (SnapshotsInFlight plan (happens_with plan k s Recover)) (sym (append-nil p.starts)) (no_job_flies plan (happens_with plan k s Recover) p.starts refl)
  event_flies_with plan k s p Restart h f owed routed answers can = subst (SnapshotsInFlight plan (happens_with plan k s Restart)) (sym (append-nil p.starts)) (restart_flies plan s p.starts h f owed k (ready s.controller) refl)
  event_flies_with plan k s p (OrderOf j) h f owed routed answers can =
      let first = both (nat_eq j s.done) (is_order_enabled plan s) can in
      subst (SnapshotsInFlight plan (happens_with plan k s (OrderOf j))) (sym (append-nil p.starts))
      (order_event plan s p.starts h f owed (slice_get plan.orders j) (ap (λ n. is_order_due s (slice_get plan.orders n)) (eqb-true j s.done first.0) ∙ first.1) (s.done + 1))

pub opening_flies : (plan : PlanView) → SnapshotsInFlight plan (opening plan) []
opening_flies plan = no_job_flies plan (opening plan) [] refl

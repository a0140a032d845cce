-- Every event of every run keeps what holds of numbers and slots.
use Rattle.far_invariants.specs.Holds.{Numbers}
use Rattle.far_invariants.specs.Operations.{OperationsStand}
use Rattle.std.proofs.Common.{◌≡◌, ℕ, ◌+◌, Bool, true, false, List, [], ◌∷◌, refl, sym, ap, ◌∙◌, subst, arith, eqb-true}
use Rattle.std.specs.Prelude.{Option, Some, None, if◌then◌else◌, is_some, nat_eq, slice_get}
use Rattle.std.specs.List.{remove}
use Rattle.std.proofs.lemmas.Option.{same_Some}
use Rattle.std.proofs.lemmas.List.{length-set}
use Rattle.far_base.specs.PlanView.{PlanView}
use Rattle.far_base.specs.declared.event.Event.{Event}
use Rattle.far_base.specs.declared.event.Event.TheVariants.{Send, Deliver, Tick, Recover, Restart, Order as OrderOf}
use Rattle.far_base.specs.declared.log.LogEntry.{LogEntry}
use Rattle.far_base.specs.declared.log.LogEntry.TheVariants.{Evicted, Kept as KeptNote}
use Rattle.far_base.specs.declared.plan.Order.{Order}
use Rattle.far_base.specs.declared.plan.Order.TheVariants.{Admit as AdmitOrder, Evict as EvictOrder, Snap as SnapOrder, Stop as StopOrder, StopAt as StopAtOrder}
use Rattle.far_base.specs.declared.packet.Message.{Message}
use Rattle.far_base.specs.declared.packet.Packet.{Packet}
use Rattle.far_base.specs.declared.packet.Packet.TheVariants.{GetReq, WriteReq, GetFwd, WriteFwd, GetRep, WriteRep, GetAns, WriteAns, Hot, Admit, AdmitAck, Peek, PeekAns, Remove, RemoveAns, SnapStart, SnapBegun, SnapRead, SnapPart, SnapSame, SnapFrom, Store, Stored, Release, Ask, Told, TopAsk, TopIs}
use Rattle.far_base.specs.declared.party.Party.{Party}
use Rattle.far_base.specs.declared.party.Party.TheVariants.{Server, Controller}
use Rattle.far_base.specs.declared.record.Record.{Record}
use Rattle.far_base.specs.declared.slot_state.Due.TheVariants.{Removed}
use Rattle.far_base.specs.declared.slot_state.SlotState.{SlotState}
use Rattle.far_base.specs.declared.slot_state.SlotState.TheVariants.{Free, Held}
use Rattle.far_model.specs.Controller.{ControllerState, drop_want_if, evict_held, evicts_on, first_want_dropped, makes_room, ready, removal_answered, tick, tick_free, tick_room, tick_want, tick_wants, wanted, with_state}
use Rattle.far_model.specs.Events.{Keeping, can_deliver, can_deliver_some, controller_turn, delivers, does_order, handled, happens, is_enabled, is_order_due, is_order_enabled, keeping_of, reply_at, reply_to, all_listed, restarts, server_turn, ticks}
use Rattle.far_model.specs.Evictions.{Eviction, TRIES, after_removal, first_place, hand_after, has_key, holds_key, is_free, shown_item, state_at, victim, waits_for}
use Rattle.far_model.specs.Evictions.Next.{Store as StoreNext, Done, Kept}
use Rattle.far_invariants.specs.Flights.{is_operation, subject}
use Rattle.far_model.specs.Parties.{Turn, idle}
use Rattle.far_model.specs.Rounds.{Round}
use Rattle.far_model.specs.State.{State}
use Rattle.far_model.specs.View.{server_of}
use Rattle.far_model.proofs.Members.{among_at, among_remove}
use Rattle.flight_laws.proofs.Lists.{by_test}
use Rattle.flight_laws.proofs.InKind.{answers_in_kind}
use Rattle.record_laws.proofs.Arrivals.{admit_keeps}
use Rattle.record_laws.proofs.Calm.{calm_keeps, rest_all, rest_taken}
use Rattle.record_laws.proofs.Controls.{IsControlNote}
use Rattle.record_laws.proofs.Deliveries.{delivered_keeps, runs_to}
use Rattle.record_laws.proofs.Scripts.{send_keeps}
use Rattle.record_laws.proofs.Seats.{is_admission_packet}
use Rattle.record_laws.proofs.Slots.{both}
use Rattle.record_laws.proofs.Snapshots.{want_dropped_calm, wanted_calm, start_calm, begun_calm, part_calm, same_calm, snap_start_calm, snap_from_calm, snap_read_calm, release_calm}
use Rattle.far_invariants.specs.Evictions.{RemoveAnsIs, slot_answer, written_in}
use Rattle.eviction_laws.proofs.Beginning.{begun_keeps, key_held, victim_held}
use Rattle.eviction_laws.proofs.Calming.{wanted_apart, begun_apart, part_apart, same_apart_job}
use Rattle.eviction_laws.proofs.Looking.{peek_keeps}
use Rattle.eviction_laws.proofs.Outside.{ask_calm, top_calm}
use Rattle.eviction_laws.proofs.Removing.{remove_keeps}
use Rattle.eviction_laws.proofs.Rules.{rules_keep, slot_rests}
use Rattle.eviction_laws.proofs.Steady.{no_steady, one_steady, steady_bag, turn_keeps}
use Rattle.eviction_laws.proofs.Storing.{more_at, written_at}
use Rattle.far_invariants.specs.SeatNeeds.{Needs}
use Rattle.run_laws.proofs.Controlling.{ack_keeps, want_keeps}
use Rattle.run_laws.proofs.SeatEvents.{event_seated}
use Rattle.run_laws.proofs.Needing.{evictions_need, seat_needs}
use Rattle.run_laws.proofs.Seating.{seats_of}
use Rattle.run_laws.proofs.Stopping.{recover_keeps, restart_keeps, stop_keeps}
use Rattle.run_laws.proofs.Turning.{IsStill, calm_still, idle_still, peek_still, still_keeps, stored_still, store_still, told_still, top_still}

-- ---- an eviction ends, or begins

removal_keeps : (plan : PlanView) (s : State) (h : Numbers plan s) (need : Needs plan s) (i : ℕ) (from to : Party) (j tag : ℕ) (done latest : Bool) (num : ℕ) (body : Option (List ℕ))
    → slice_get s.bag i ≡ Some (record { from = from; to = to; packet = RemoveAns j tag done latest num body })
    → OperationsStand plan (controller_turn s (remove s.bag i) (removal_answered plan.config s.controller j tag done num body s.controller.eviction))
removal_keeps plan s h need i from to j tag done latest num body at =
    subst (λ o. Turned (removal_answered plan.config s.controller j tag done num body o)) (sym q.awaits.is)
    (by_test Turned (waits_for Removed j tag e) (evicts_on plan.config s.controller e (after_removal e done num body)) (idle s.controller) (next done refl) (still (idle s.controller) (idle_still s.controller)))
  where
    Turned : Turn ControllerState → Type 0
    Turned t = OperationsStand plan (controller_turn s (remove s.bag i) t)

    q : RemoveAnsIs (written_in plan) s done (slot_answer j tag latest num body)
    q = need.evictions.packets _ (among_at _ s.bag i at)

    e : Eviction
    e = q.awaits.eviction

    still : (turn : Turn ControllerState) → IsStill s.controller turn → Turned turn
    still turn t = still_keeps plan s (remove s.bag i) turn s.done (rest_taken s i _ at refl) t h.keeps

    ends : (st : SlotState) (wants : List (List ℕ)) (note : LogEntry) → IsControlNote note → Turned (record { state = record (with_state s.controller e.slot st) { eviction = None; wants = wants }; out = []; notes = note ∷ [] })
    ends st wants note plain = turn_keeps plan s (remove s.bag i) (record { state = record (with_state s.controller e.slot st) { eviction = None; wants = wants }; out = []; notes = note ∷ [] }) s.done h.keeps (λ x a. among_remove x s.bag i a) no_steady (plain, tt) (omega arith)

    stays : done ≡ false → (b : Bool) → Turned (record {
      state = drop_want_if b (record (with_state s.controller e.slot (Held e.key e.tag)) { eviction = None });
      out = [];
      notes = KeptNote e.slot e.key num ∷ [];
    })
    stays d true = ends (Held e.key e.tag) (first_want_dropped s.controller).wants (KeptNote e.slot e.key num) tt
    stays d false = ends (Held e.key e.tag) s.controller.wants (KeptNote e.slot e.key num) tt

    again : done ≡ false → (b : Bool) → Turned (evicts_on plan.config s.controller e (if b then Kept TRIES (shown_item e num body) else StoreNext (shown_item e num body)))
    again d true = stays d e.for_want
    again d false = still _ (store_still plan.config s.controller e (shown_item e num body))

    next : (b : Bool) → done ≡ b → Turned (evicts_on plan.config s.controller e (if b then Done e.tries else (if nat_eq e.tries TRIES then Kept TRIES (shown_item e num body) else StoreNext (shown_item e num body))))
    next true d = ends Free s.controller.wants (Evicted e.slot e.key e.tries) tt
    next false d = again d (nat_eq e.tries TRIES)

-- ---- deliveries

module _ (plan : PlanView) (s : State) (h : Numbers plan s) (need : Needs plan s) (i : ℕ) (records : List Record) where
  abbrev after : Party → Packet → State
  after to p = handled plan (record { reply = reply_at s to p; records = records }) s (remove s.bag i) to p

  abbrev rest : List Message
  rest = remove s.bag i

  operation : (from to : Party) (p : Packet) → slice_get s.bag i ≡ Some (record { from = from; to = to; packet = p }) → can_deliver s.running (record { from = from; to = to; packet = p }) ≡ true → is_operation (subject p) ≡ true → OperationsStand plan (after to p)
  operation from to p at can is = delivered_keeps plan s h.keeps need.one need.routed i records (record { from = from; to = to; packet = p }) at can is

  -- where it goes
  goes : (from to : Party) (p : Packet) → slice_get s.bag i ≡ Some (record { from = from; to = to; packet = p }) → Rattle.far_invariants.specs.Flights.IsFor plan.config p to
  goes from to p at = (need.routed.messages _ (among_at _ s.bag i at)).target

  -- a turn of the controller that changes no slot's state
  still : (from to : Party) (p : Packet) (turn : Turn ControllerState) → slice_get s.bag i ≡ Some (record { from = from; to = to; packet = p }) → is_admission_packet p ≡ false → IsStill s.controller turn → OperationsStand plan (controller_turn s rest turn)
  still from to p turn at off t = still_keeps plan s rest turn s.done (rest_taken s i _ at off) t h.keeps

  delivered : (from to : Party) (p : Packet) → slice_get s.bag i ≡ Some (record { from = from; to = to; packet = p }) → can_deliver s.running (record { from = from; to = to; packet = p }) ≡ true → OperationsStand plan (after to p)
  delivered from to (GetReq caller op key) at can = operation from to (GetReq caller op key) at can refl
  delivered from to (WriteReq caller op key body) at can = operation from to (WriteReq caller op key body) at can refl
  delivered from to (GetFwd caller op key tag) at can = operation from to (GetFwd caller op key tag) at can refl
  delivered from to (WriteFwd caller op key num body) at can = operation from to (WriteFwd caller op key num body) at can refl
  delivered from to (GetRep caller op key tag num body) at can = operation from to (GetRep caller op key tag num body) at can refl
  delivered from to (WriteRep caller op key num body) at can = operation from to (WriteRep caller op key num body) at can refl
  delivered from to (GetAns caller op key num body near) at can = operation from to (GetAns caller op key num body near) at can refl
  delivered from to (WriteAns caller op key num kept) at can = operation from to (WriteAns caller op key num kept) at can refl
  delivered from to (Hot key) at can = subst (λ w. OperationsStand plan (after w (Hot key))) (sym (goes from to _ at))
      (still from to _ (idle (wanted key s.controller)) at refl (calm_still s.controller _ (wanted_calm s.controller key) (wanted_apart s.controller key).round))
  delivered from to (Admit epoch j key tag) at can =
      let runs = runs_to s.running to can (goes from to _ at) in
      let p = admit_keeps plan s h.keeps (seats_of plan s h.seated runs (need.outside runs)) i from to epoch j key tag at in
      subst (λ w. OperationsStand plan (after w (Admit epoch j key tag))) (sym (goes from to _ at)) (p.0)
  delivered from to (AdmitAck j tag) at can =
      let freed : (s.controller.round ≡ None → ⊥) → state_at s.controller.slots j ≡ Free = (λ busy. need.freed (busy_is s.controller.round refl busy) j) in
      subst (λ w. OperationsStand plan (after w (AdmitAck j tag))) (sym (goes from to _ at)) (ack_keeps plan s h.seated i from to j tag at freed h.keeps)
    where
      busy_is : (o : Option Round) → s.controller.round ≡ o → (s.controller.round ≡ None → ⊥) → is_some s.controller.round ≡ true
      busy_is None e busy = absurd (busy e)
      busy_is (Some r) e busy = ap is_some e
  delivered from to (Peek own j tag) at can =
      let runs = runs_to s.running to can (goes from to _ at) in
      subst (λ w. OperationsStand plan (after w (Peek own j tag))) (sym (goes from to _ at)) ((peek_keeps plan s h.keeps (seats_of plan s h.seated runs (need.outside runs)) i from to own j tag at).0)
  delivered from to (PeekAns j tag latest num body) at can = subst (λ w. OperationsStand plan (after w (PeekAns j tag latest num body))) (sym (goes from to _ at))
      (still from to _ _ at refl (peek_still plan.config s.controller j tag latest num body s.controller.eviction))
  delivered from to (Remove own j tag latest num) at can =
      let runs = runs_to s.running to can (goes from to _ at) in
      let p = remove_keeps plan s (evictions_need plan s h need) need.evictions runs i from to own j tag latest num at h.keeps (seats_of plan s h.seated runs (need.outside runs)) in
      subst (λ w. OperationsStand plan (after w (Remove own j tag latest num))) (sym (goes from to _ at)) (p.0)
  delivered from to (RemoveAns j tag done latest num body) at can = subst (λ w. OperationsStand plan (after w (RemoveAns j tag done latest num body))) (sym (goes from to _ at))
      (removal_keeps plan s h need i from to j tag done latest num body at)
  delivered from to (SnapStart epoch id) at can = subst (λ w. OperationsStand plan (after w (SnapStart epoch id))) (sym (goes from to _ at)) (calm_keeps plan _ s _ rest _ (rest_taken s i _ at refl) (snap_start_calm s rest epoch id) h.keeps)
  delivered from to (SnapFrom epoch id base) at can = subst (λ w. OperationsStand plan (after w (SnapFrom epoch id base))) (sym (goes from to _ at)) (calm_keeps plan _ s _ rest _ (rest_taken s i _ at refl) (snap_from_calm s rest epoch id base) h.keeps)
  delivered from to (SnapRead epoch id j) at can = subst (λ w. OperationsStand plan (after w (SnapRead epoch id j))) (sym (goes from to _ at)) (calm_keeps plan _ s _ rest _ (rest_taken s i _ at refl) (snap_read_calm s rest epoch id j) h.keeps)
  delivered from to (SnapBegun id point) at can = subst (λ w. OperationsStand plan (after w (SnapBegun id point))) (sym (goes from to _ at))
      (still from to _ _ at refl (calm_still s.controller _ (begun_calm plan.config s.controller id point s.controller.job) (begun_apart plan.config s.controller id point s.controller.job).round))
  delivered from to (SnapPart id j view) at can = subst (λ w. OperationsStand plan (after w (SnapPart id j view))) (sym (goes from to _ at))
      (still from to _ _ at refl (calm_still s.controller _ (part_calm plan.config s.controller id j view s.controller.job) (part_apart plan.config s.controller id j view s.controller.job).round))
  delivered from to (SnapSame id j) at can = subst (λ w. OperationsStand plan (after w (SnapSame id j))) (sym (goes from to _ at))
      (still from to _ _ at refl (calm_still s.controller _ (same_calm plan.config s.controller id j s.controller.job) (same_apart_job plan.config s.controller id j s.controller.job).round))
  delivered from to (Store job item) at can = subst (λ w. OperationsStand plan (after w (Store job item))) (sym (goes from to _ at)) (rules_keep plan [] s t h.keeps (record {
    log = refl;
    notes_are = tt;
    steps = refl;
    running = λ e. e;
    config = refl;
    counter = omega arith;
    servers = length-set s.servers (server_of plan.config item.key) (Rattle.far_model.specs.Servers.stored (Rattle.far_model.specs.State.records_at s (server_of plan.config item.key)) item);
    more = more_at plan s h.keeps.some_server h.keeps.servers item t refl;
    written = written_at plan s h.keeps.some_server h.keeps.servers item t refl h.keeps.records (need.evictions.packets _ (among_at _ s.bag i at)).written;
    waits = λ c. refl;
    left = λ c. refl;
    tags = omega arith;
    bag = steady_bag plan s t rest (reply ∷ []) refl (λ m a. among_remove m s.bag i a) (one_steady reply refl);
  }) (λ key. slot_rests plan s t key (more_at plan s h.keeps.some_server h.keeps.servers item t refl key) refl))
    where
      reply : Message
      reply = record { from = Server (server_of plan.config item.key); to = Controller; packet = Stored job }

      t : State
      t = server_turn s (server_of plan.config item.key) (remove s.bag i) (Store job item) (Some (Stored job))
  delivered from to (Stored job) at can = subst (λ w. OperationsStand plan (after w (Stored job))) (sym (goes from to _ at))
      (still from to _ _ at refl (stored_still plan.config s.controller job s.controller.eviction))
  delivered from to (Release point) at can =
      let g = goes from to _ at in
      subst (λ w. OperationsStand plan (after w (Release point))) (sym g.is) (calm_keeps plan _ s _ rest _ (rest_taken s i _ at refl) (release_calm s rest g.client point) h.keeps)
  delivered from to (Ask number) at can =
      let g = goes from to _ at in
      subst (λ w. OperationsStand plan (after w (Ask number))) (sym g.is) (calm_keeps plan _ s _ rest _ (rest_taken s i _ at refl) (ask_calm s rest g.client number) h.keeps)
  delivered from to (Told number caller total item) at can = subst (λ w. OperationsStand plan (after w (Told number caller total item))) (sym (goes from to _ at))
      (still from to _ _ at refl (told_still plan.config s.controller number caller total item s.controller.round))
  delivered from to (TopAsk number) at can =
      let g = goes from to _ at in
      subst (λ w. OperationsStand plan (after w (TopAsk number))) (sym g.is) (calm_keeps plan _ s _ rest _ (rest_taken s i _ at refl) (top_calm s rest g.server number _) h.keeps)
  delivered from to (TopIs number server top) at can = subst (λ w. OperationsStand plan (after w (TopIs number server top))) (sym (goes from to _ at))
      (still from to _ _ at refl (top_still plan.config s.controller number server top s.controller.round))

  pub delivery_keeps : (o : Option Message) → slice_get s.bag i ≡ o → can_deliver_some s.running o ≡ true → OperationsStand plan (delivers plan (record { reply = reply_to s o; records = records }) s i o)
  delivery_keeps None at can = absurd cc
  delivery_keeps (Some m) at can = delivered m.from m.to m.packet at can

module _ (plan : PlanView) (s : State) (h : Numbers plan s) (need : Needs plan s) where
  grown : (turn : Turn ControllerState) (done : ℕ) → IsStill s.controller turn → OperationsStand plan (record (controller_turn s s.bag turn) { done = done })
  grown turn done t = still_keeps plan s s.bag turn done (rest_all s) t h.keeps

  tick_keeps : (o : Option (Turn ControllerState)) → tick s.controller ≡ o → is_some o ≡ true → OperationsStand plan (ticks s o)
  tick_keeps None e can = absurd cc
  tick_keeps (Some t) e can = in_round (is_some s.controller.round) e
    where
      room : (o : Option ℕ) → victim s.controller.hand s.controller.slots ≡ o → tick_room s.controller o ≡ Some t → OperationsStand plan (controller_turn s s.bag t)
      room None w k = absurd cc
      room (Some j) w k = started (is_some s.controller.eviction) k
        where
          started : (b : Bool) → (if b then None else Some (makes_room s.controller j)) ≡ Some t → OperationsStand plan (controller_turn s s.bag t)
          started true k = absurd cc
          started false k = subst (λ w. OperationsStand plan (controller_turn s s.bag w)) (same_Some _ t k)
              (begun_keeps plan s (hand_after j s.controller.slots) true j s.done (victim_held s.controller.hand s.controller.slots j w) h.keeps)

      free : (key : List ℕ) → first_place (has_key key) s.controller.slots ≡ None → (o : Option ℕ) → first_place is_free s.controller.slots ≡ o → tick_free s.controller key o ≡ Some t → OperationsStand plan (controller_turn s s.bag t)
      free key new None f k = room (victim s.controller.hand s.controller.slots) refl k
      free key new (Some j) f k = subst (λ w. OperationsStand plan (controller_turn s s.bag w)) (same_Some _ t k) (want_keeps plan s key j f new h.keeps)

      want : (key : List ℕ) → (o : Option ℕ) → first_place (has_key key) s.controller.slots ≡ o → tick_want s.controller key o ≡ Some t → OperationsStand plan (controller_turn s s.bag t)
      want key None f k = free key f (first_place is_free s.controller.slots) refl k
      want key (Some j) f k = subst (λ w. OperationsStand plan (controller_turn s s.bag w)) (same_Some _ t k) (grown (idle (first_want_dropped s.controller)) s.done (calm_still s.controller _ (want_dropped_calm s.controller) refl))

      wants : (keys : List (List ℕ)) → tick_wants s.controller keys ≡ Some t → OperationsStand plan (controller_turn s s.bag t)
      wants [] k = absurd cc
      wants (key ∷ keys) k = want key (first_place (has_key key) s.controller.slots) refl k

      in_round : (b : Bool) → (if b then None else tick_wants s.controller s.controller.wants) ≡ Some t → OperationsStand plan (controller_turn s s.bag t)
      in_round true k = absurd cc
      in_round false k = wants s.controller.wants k

  evict_keeps : (done : ℕ) (key : List ℕ) (o : Option ℕ) → first_place (holds_key key) s.controller.slots ≡ o → OperationsStand plan (record (controller_turn s s.bag (evict_held s.controller o)) { done = done })
  evict_keeps done key None f = grown (idle s.controller) done (idle_still s.controller)
  evict_keeps done key (Some j) f = begun_keeps plan s s.controller.hand false j done (key_held key s.controller.slots j f) h.keeps

  order_keeps : (o : Option Order) → is_order_due s o ≡ true → (done : ℕ) → OperationsStand plan (record (does_order plan s o) { done = done })
  order_keeps None due done = absurd cc
  order_keeps (Some (AdmitOrder step key)) due done = grown (idle (wanted key s.controller)) done (calm_still s.controller _ (wanted_calm s.controller key) (wanted_apart s.controller key).round)
  order_keeps (Some (EvictOrder step key)) due done = evict_keeps done key (first_place (holds_key key) s.controller.slots) refl
  order_keeps (Some (SnapOrder step)) due done = grown (Rattle.far_model.specs.Controller.start_snapshot s.controller) done (calm_still s.controller _ (start_calm s.controller) refl)
  order_keeps (Some (StopOrder step)) due done = stop_keeps plan s done h.keeps
  order_keeps (Some (StopAtOrder kind times)) due done = stop_keeps plan s done h.keeps

  restarting_keeps : (k : Keeping) (o : Option ℕ) → ready s.controller ≡ o → is_some o ≡ true → OperationsStand plan (restarts plan k s o)
  restarting_keeps k None is can = absurd cc
  restarting_keeps k (Some counter) is can = restart_keeps plan s k counter h.keeps (need.restorable counter is)

event_keeps : (plan : PlanView) (s : State) (e : Event) → Needs plan s → Numbers plan s → is_enabled plan s e ≡ true → OperationsStand plan (happens plan s e)
event_keeps plan s (Send c) need h can = send_keeps plan s h.keeps c can
event_keeps plan s (Deliver i) need h can = delivery_keeps plan s h need i (all_listed s.servers) (slice_get s.bag i) refl can
event_keeps plan s Tick need h can = tick_keeps plan s h need (tick s.controller) refl can
event_keeps plan s Recover need h can = recover_keeps plan s h.keeps
event_keeps plan s Restart need h can = restarting_keeps plan s h need (keeping_of s Restart) (ready s.controller) refl can
event_keeps plan s (OrderOf j) need h can =
    let first = both (nat_eq j s.done) (is_order_enabled plan s) can in
    order_keeps plan s h need (slice_get plan.orders j) (ap (λ n. is_order_due s (slice_get plan.orders n)) (eqb-true j s.done first.0) ∙ first.1) (s.done + 1)

-- all that is carried of numbers and slots holds after every event, given what other subjects owe before it
pub event_numbers : (plan : PlanView) (s : State) (e : Event) → Needs plan s → Numbers plan s → is_enabled plan s e ≡ true → Numbers plan (happens plan s e)
event_numbers plan s e need h can = record {
  keeps = event_keeps plan s e need h can;
  seated = event_seated plan (keeping_of s e) s e (seat_needs plan s need) h.seated (answers_in_kind s e) can;
}

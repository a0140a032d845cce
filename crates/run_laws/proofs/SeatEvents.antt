-- Every event of every run keeps what holds of slots and admissions, whatever keepers answer.
use Rattle.far_invariants.specs.Slots.{FitsState, IsGiven, admission_count}
use Rattle.std.proofs.Common.{◌≡◌, ℕ, ◌+◌, ◌<◌, inl, inr, Bool, true, false, List, [], ◌∷◌, length, refl, sym, ap, ◌∙◌, subst, arith, eqb-true}
use Rattle.std.specs.Prelude.{Option, Some, None, ◌&&◌, ◌||◌, not, if◌then◌else◌, is_some, nat_eq, slice_get}
use Rattle.std.specs.List.{remove, list_any}
use Rattle.std.proofs.lemmas.Option.{same_Some}
use Rattle.std.proofs.lemmas.List.{get_or-set_same, get_or-set_other, length-set}
use Rattle.far_base.specs.PlanView.{PlanView}
use Rattle.far_base.specs.declared.event.Event.{Event}
use Rattle.far_base.specs.declared.event.Event.TheVariants.{Send, Deliver, Tick, Recover, Restart, Order as OrderOf}
use Rattle.far_base.specs.declared.log.LogEntry.{LogEntry}
use Rattle.far_base.specs.declared.log.LogEntry.TheVariants.{Evicted, Kept as KeptNote}
use Rattle.far_base.specs.declared.plan.Order.{Order}
use Rattle.far_base.specs.declared.plan.Order.TheVariants.{Admit as AdmitOrder, Evict as EvictOrder, Snap as SnapOrder, Stop as StopOrder, StopAt as StopAtOrder}
use Rattle.far_base.specs.declared.packet.Message.{Message}
use Rattle.far_base.specs.declared.packet.Packet.{Packet}
use Rattle.far_base.specs.declared.packet.Packet.TheVariants.{GetReq, WriteReq, GetFwd, WriteFwd, GetRep, WriteRep, GetAns, WriteAns, Hot, Admit, AdmitAck, PeekAns, Remove, RemoveAns, SnapBegun, SnapPart, SnapSame, Stored, Told, TopIs}
use Rattle.far_base.specs.declared.party.Party.{Party}
use Rattle.far_base.specs.declared.party.Party.TheVariants.{Client, Switch, Server, Controller}
use Rattle.far_base.specs.declared.slot_state.Due.TheVariants.{Removed}
use Rattle.far_base.specs.declared.slot_state.SlotState.{SlotState}
use Rattle.far_base.specs.declared.slot_state.SlotState.TheVariants.{Free, Held, Evicting}
use Rattle.far_model.specs.Controller.{ControllerState, drop_want_if, evict_held, evicts, evicts_on, first_want_dropped, makes_room, ready, removal_answered, tick, tick_free, tick_room, tick_want, tick_wants, wanted, with_state}
use Rattle.far_model.specs.Events.{Keeping, can_deliver, can_deliver_some, can_recover, controller_turn, delivers, does_order, handled, is_enabled, is_order_due, is_order_enabled, is_switch, restarts, ticks}
use Rattle.far_model.specs.Evictions.{Eviction, TRIES, after_removal, first_place, hand_after, has_key, holds_key, is_free, is_held, key_in, shown_item, state_at, tag_in, victim, waits_for}
use Rattle.far_model.specs.Evictions.Next.{Store as StoreNext, Done, Kept}
use Rattle.far_model.specs.Members.{Among}
use Rattle.far_model.specs.Parties.{Turn, idle, messages_from}
use Rattle.far_model.specs.Pass.{pass}
use Rattle.far_model.specs.Rounds.{Round}
use Rattle.far_model.specs.State.{State}
use Rattle.far_model.specs.View.{slot_at}
use Rattle.far_model.proofs.Members.{among_at}
use Rattle.flight_laws.proofs.Lists.{by_test}
use Rattle.record_laws.proofs.Calm.{rest_all, rest_taken}
use Rattle.record_laws.proofs.Deliveries.{runs_to}
use Rattle.record_laws.proofs.Seats.{is_admission_packet, bag_grown, bag_taken}
use Rattle.record_laws.proofs.Slots.{both}
use Rattle.record_laws.proofs.Snapshots.{want_dropped_calm, wanted_calm, start_calm, begun_calm, part_calm, same_calm}
use Rattle.far_invariants.specs.Evictions.{Content, EvictionIs, EvictionsAre, RemoveAnsIs, slot_answer}
use Rattle.eviction_laws.proofs.Beginning.{key_held, victim_held}
use Rattle.eviction_laws.proofs.Calming.{wanted_apart, begun_apart, part_apart, same_apart_job}
use Rattle.eviction_laws.proofs.EveryEvent.{off_is}
use Rattle.eviction_laws.proofs.Seating.{given_within, held_is}
use Rattle.eviction_laws.proofs.Steady.{one_steady, steady_none}
use Rattle.far_invariants.specs.SeatNeeds.{SeatNeeds}
use Rattle.far_invariants.specs.Seated.{Seated}
use Rattle.run_laws.proofs.Controlling.{ack_sits, state_moves, want_sits}
use Rattle.run_laws.proofs.Moving.{client_sits, not_admission, pass_sits, passes_sit, send_sits, server_sits}
use Rattle.run_laws.proofs.Admitting.{admit_sits}
use Rattle.run_laws.proofs.Emptying.{remove_sits}
use Rattle.far_model.specs.Replies.{RepliesAt, RepliesToMessage, AnswersInKind}
use Rattle.far_model.specs.Events.{happens_with}
use Rattle.run_laws.proofs.Stopping.{recover_sits, restart_sits, stop_sits}
use Rattle.run_laws.proofs.Turning.{IsStill, calm_still, idle_still, peek_still, still_sits, stored_still, store_still, told_still, top_still}

-- ---- an eviction ends, or begins

module _ (plan : PlanView) {c : Content} (s : State) (h : Seated plan s) (v : EvictionsAre plan c s) (i : ℕ) (m : Message) (at : slice_get s.bag i ≡ Some m) (steady : Rattle.eviction_laws.proofs.Steady.is_steady m.packet ≡ true)
    (e : Eviction) (is : s.controller.eviction ≡ Some e) (st : SlotState) (wants : List (List ℕ)) (note : LogEntry) where
  abbrev end_turn : Turn ControllerState
  end_turn = record { state = record (with_state s.controller e.slot st) { eviction = None; wants = wants }; out = []; notes = note ∷ [] }

  eviction_is : EvictionIs plan s e
  eviction_is = v.some e is

  within : e.slot < length s.controller.slots
  within = given_within s.controller.slots e.slot e.key e.tag (subst (IsGiven e.key e.tag) (sym eviction_is.state) (refl, refl))

  now_is : state_at end_turn.state.slots e.slot ≡ st
  now_is = get_or-set_same s.controller.slots e.slot st Free within

  ends : ((key : List ℕ) (tag : ℕ) → IsGiven key tag st → IsGiven key tag (Evicting e.key e.tag)) → (s.running ≡ true → FitsState (slot_at s.switch e.slot) st) → admission_count st ≡ 0 → Seated plan (controller_turn s (remove s.bag i) end_turn)
  ends give fit calm = state_moves plan s (remove s.bag i) end_turn e.slot s.done h (record {
    size = length-set s.controller.slots e.slot st;
    epoch = refl;
    round = refl;
    tags = omega arith;
    states = λ j ne. get_or-set_other s.controller.slots e.slot j st Free ne;
    given = λ key tag g. subst (IsGiven key tag) (sym eviction_is.state) (give key tag (subst (IsGiven key tag) now_is g));
    fits = λ runs. subst (FitsState (slot_at s.switch e.slot)) (sym now_is) (fit runs);
    quiet = ap admission_count eviction_is.state;
    stays_quiet = ap admission_count now_is ∙ calm;
    bag = bag_taken s (controller_turn s (remove s.bag i) end_turn) i m [] at (steady_none m.packet steady) refl (λ x a. absurd a);
  })

removal_seated : (plan : PlanView) {c : Content} (s : State) (h : Seated plan s) (v : EvictionsAre plan c s) (i : ℕ) (from to : Party) (j tag : ℕ) (done latest : Bool) (num : ℕ) (body : Option (List ℕ))
    → slice_get s.bag i ≡ Some (record { from = from; to = to; packet = RemoveAns j tag done latest num body })
    → Seated plan (controller_turn s (remove s.bag i) (removal_answered plan.config s.controller j tag done num body s.controller.eviction))
removal_seated plan {c} s h v i from to j tag done latest num body at =
    subst (λ o. Turned (removal_answered plan.config s.controller j tag done num body o)) (sym q.awaits.is)
    (by_test Turned (waits_for Removed j tag e) (evicts_on plan.config s.controller e (after_removal e done num body)) (idle s.controller) (next done refl) (still (idle s.controller) (idle_still s.controller)))
  where
    Turned : Turn ControllerState → Type 0
    Turned t = Seated plan (controller_turn s (remove s.bag i) t)

    q : RemoveAnsIs c s done (slot_answer j tag latest num body)
    q = v.packets _ (among_at _ s.bag i at)

    e : Eviction
    e = q.awaits.eviction

    still : (turn : Turn ControllerState) → IsStill s.controller turn → Turned turn
    still turn t = still_sits plan s (remove s.bag i) turn s.done (rest_taken s i _ at refl) t h

    stays : done ≡ false → (b : Bool) → Turned (record {
      state = drop_want_if b (record (with_state s.controller e.slot (Held e.key e.tag)) { eviction = None });
      out = [];
      notes = KeptNote e.slot e.key num ∷ [];
    })
    stays d true = ends plan s h v i _ at refl e q.awaits.is (Held e.key e.tag) (first_want_dropped s.controller).wants (KeptNote e.slot e.key num) (λ key own g. g) (λ runs. q.there d runs) refl
    stays d false = ends plan s h v i _ at refl e q.awaits.is (Held e.key e.tag) s.controller.wants (KeptNote e.slot e.key num) (λ key own g. g) (λ runs. q.there d runs) refl

    again : done ≡ false → (b : Bool) → Turned (evicts_on plan.config s.controller e (if b then Kept TRIES (shown_item e num body) else StoreNext (shown_item e num body)))
    again d true = stays d e.for_want
    again d false = still _ (store_still plan.config s.controller e (shown_item e num body))

    next : (b : Bool) → done ≡ b → Turned (evicts_on plan.config s.controller e (if b then Done e.tries else (if nat_eq e.tries TRIES then Kept TRIES (shown_item e num body) else StoreNext (shown_item e num body))))
    next true d = ends plan s h v i _ at refl e q.awaits.is Free s.controller.wants (Evicted e.slot e.key e.tries) (λ key own g. absurd g) (λ runs. q.gone d) refl
    next false d = again d (nat_eq e.tries TRIES)

module _ (plan : PlanView) (s : State) (h : Seated plan s) (hand : ℕ) (for_want : Bool) (i done : ℕ) (held : is_held (state_at s.controller.slots i) ≡ true) where
  abbrev begin_turn : Turn ControllerState
  begin_turn = evicts (record s.controller { hand = hand }) for_want i

  was_held : state_at s.controller.slots i ≡ Held (key_in (state_at s.controller.slots i)) (tag_in (state_at s.controller.slots i))
  was_held = held_is (state_at s.controller.slots i) held

  now_evicting : state_at begin_turn.state.slots i ≡ Evicting (key_in (state_at s.controller.slots i)) (tag_in (state_at s.controller.slots i))
  now_evicting = get_or-set_same s.controller.slots i (Evicting (key_in (state_at s.controller.slots i)) (tag_in (state_at s.controller.slots i))) Free
      (given_within s.controller.slots i _ _ (subst (IsGiven (key_in (state_at s.controller.slots i)) (tag_in (state_at s.controller.slots i))) (sym was_held) (refl, refl)))

  begins : Seated plan (record (controller_turn s s.bag (evicts (record s.controller { hand = hand }) for_want i)) { done = done })
  begins = state_moves plan s s.bag begin_turn i done h (record {
    size = length-set s.controller.slots i _;
    epoch = refl;
    round = refl;
    tags = omega arith;
    states = λ j ne. get_or-set_other s.controller.slots i j _ Free ne;
    given = λ key tag g. subst (IsGiven key tag) (sym was_held) (subst (IsGiven key tag) now_evicting g);
    fits = λ runs. subst (FitsState (slot_at s.switch i)) (sym now_evicting) (inr (subst (FitsState (slot_at s.switch i)) was_held (h.slots.fits runs i)));
    quiet = ap admission_count was_held;
    stays_quiet = ap admission_count now_evicting;
    bag = bag_grown s (controller_turn s s.bag begin_turn) (messages_from Controller begin_turn.out) refl (λ n a. steady_none n.packet (one_steady _ refl n a));
  })

-- ---- deliveries

module _ (plan : PlanView) {c : Content} (s : State) (h : Seated plan s) (need : SeatNeeds plan c s) (i : ℕ) (k : Keeping) where
  abbrev after : Party → Packet → State
  after to p = handled plan k s (remove s.bag i) to p

  abbrev rest : List Message
  rest = remove s.bag i

  goes : (from to : Party) (p : Packet) → slice_get s.bag i ≡ Some (record { from = from; to = to; packet = p }) → Rattle.far_invariants.specs.Flights.IsFor plan.config p to
  goes from to p at = (need.routed.messages _ (among_at _ s.bag i at)).target

  still : (from to : Party) (p : Packet) (turn : Turn ControllerState) → slice_get s.bag i ≡ Some (record { from = from; to = to; packet = p }) → is_admission_packet p ≡ false → IsStill s.controller turn → Seated plan (controller_turn s rest turn)
  still from to p turn at off t = still_sits plan s rest turn s.done (rest_taken s i _ at off) t h

  busy_is : (o : Option Round) → s.controller.round ≡ o → (s.controller.round ≡ None → ⊥) → is_some s.controller.round ≡ true
  busy_is None e busy = absurd (busy e)
  busy_is (Some r) e busy = ap is_some e

  at_controller : (from : Party) (p : Packet) → slice_get s.bag i ≡ Some (record { from = from; to = Controller; packet = p }) → Seated plan (after Controller p)
  at_controller from (Hot key) at = still from Controller _ (idle (wanted key s.controller)) at refl (calm_still s.controller _ (wanted_calm s.controller key) (wanted_apart s.controller key).round)
  at_controller from (Admit epoch j key tag) at = let g = goes from Controller _ at in absurd cc
  at_controller from (AdmitAck j tag) at = ack_sits plan s h i from Controller j tag at (λ busy. need.freed (busy_is s.controller.round refl busy) j)
  at_controller from (PeekAns j tag latest num body) at = still from Controller _ _ at refl (peek_still plan.config s.controller j tag latest num body s.controller.eviction)
  at_controller from (RemoveAns j tag done latest num body) at = removal_seated plan s h need.evictions i from Controller j tag done latest num body at
  at_controller from (SnapBegun id point) at = still from Controller _ _ at refl (calm_still s.controller _ (begun_calm plan.config s.controller id point s.controller.job) (begun_apart plan.config s.controller id point s.controller.job).round)
  at_controller from (SnapPart id j view) at = still from Controller _ _ at refl (calm_still s.controller _ (part_calm plan.config s.controller id j view s.controller.job) (part_apart plan.config s.controller id j view s.controller.job).round)
  at_controller from (SnapSame id j) at = still from Controller _ _ at refl (calm_still s.controller _ (same_calm plan.config s.controller id j s.controller.job) (same_apart_job plan.config s.controller id j s.controller.job).round)
  at_controller from (Stored job) at = still from Controller _ _ at refl (stored_still plan.config s.controller job s.controller.eviction)
  at_controller from (Told number caller total item) at = still from Controller _ _ at refl (told_still plan.config s.controller number caller total item s.controller.round)
  at_controller from (TopIs number server top) at = still from Controller _ _ at refl (top_still plan.config s.controller number server top s.controller.round)
  at_controller from (GetReq caller op key) at = still from Controller _ _ at refl (idle_still s.controller)
  at_controller from (WriteReq caller op key body) at = still from Controller _ _ at refl (idle_still s.controller)
  at_controller from (GetFwd caller op key tag) at = still from Controller _ _ at refl (idle_still s.controller)
  at_controller from (WriteFwd caller op key num body) at = still from Controller _ _ at refl (idle_still s.controller)
  at_controller from (GetRep caller op key tag num body) at = still from Controller _ _ at refl (idle_still s.controller)
  at_controller from (WriteRep caller op key num body) at = still from Controller _ _ at refl (idle_still s.controller)
  at_controller from (GetAns caller op key num body near) at = still from Controller _ _ at refl (idle_still s.controller)
  at_controller from (WriteAns caller op key num kept) at = still from Controller _ _ at refl (idle_still s.controller)
  at_controller from _ at = still from Controller _ _ at refl (idle_still s.controller)

  at_switch : (from : Party) (p : Packet) → slice_get s.bag i ≡ Some (record { from = from; to = Switch; packet = p }) → s.running ≡ true → Seated plan (after Switch p)
  at_switch from (Admit epoch j key tag) at runs = admit_sits plan s need.routed.switch h runs (need.outside runs) i from Switch epoch j key tag at
  at_switch from (Remove own j tag latest num) at runs = remove_sits plan s need.evictions h runs (need.outside runs) i from Switch own j tag latest num at
  at_switch from (AdmitAck j tag) at runs = let g = goes from Switch _ at in absurd cc
  at_switch from p at runs = pass_sits plan s h i (record { from = from; to = Switch; packet = p }) (pass s.switch p) at refl (passes_sit s.switch p refl)

  delivered : (from to : Party) (p : Packet) → slice_get s.bag i ≡ Some (record { from = from; to = to; packet = p }) → can_deliver s.running (record { from = from; to = to; packet = p }) ≡ true → RepliesAt to p k.reply → Seated plan (after to p)
  delivered from (Client d) p at can answers = client_sits plan s h i d (record { from = from; to = Client d; packet = p }) at (not_admission plan.config p (Client d) (goes from (Client d) p at) (λ e. absurd cc) (λ e. absurd cc))
  delivered from Switch p at can answers = at_switch from p at (runs_to s.running Switch can refl)
  delivered from (Server n) p at can answers = server_sits plan s h i n (record { from = from; to = Server n; packet = p }) k.reply at (not_admission plan.config p (Server n) (goes from (Server n) p at) (λ e. absurd cc) (λ e. absurd cc)) answers
  delivered from Controller p at can answers = at_controller from p at

  pub delivery_seated : (o : Option Message) → slice_get s.bag i ≡ o → can_deliver_some s.running o ≡ true → RepliesToMessage o k.reply → Seated plan (delivers plan k s i o)
  delivery_seated None at can answers = absurd cc
  delivery_seated (Some m) at can answers = delivered m.from m.to m.packet at can answers

-- nothing that passes is in the list
none_passes : {A : Type 0} (p : A → Bool) (xs : List A) → list_any p xs ≡ false → (x : A) → Among x xs → p x ≡ false
none_passes p [] h x a = absurd a
none_passes p (y ∷ ys) h x a = go (p y) refl h a (λ k b. none_passes p ys k x b)
  where
    go : (b : Bool) → p y ≡ b → (b || list_any p ys) ≡ false → Among x (y ∷ ys) → (list_any p ys ≡ false → Among x ys → p x ≡ false) → p x ≡ false
    go true e k c f = absurd cc
    go false e k (inl same) f = ap p same ∙ e
    go false e k (inr c) f = f k c

module _ (plan : PlanView) {c : Content} (s : State) (h : Seated plan s) (need : SeatNeeds plan c s) where
  grown : (turn : Turn ControllerState) (done : ℕ) → IsStill s.controller turn → Seated plan (record (controller_turn s s.bag turn) { done = done })
  grown turn done t = still_sits plan s s.bag turn done (rest_all s) t h

  tick_seated : (o : Option (Turn ControllerState)) → tick s.controller ≡ o → is_some o ≡ true → Seated plan (ticks s o)
  tick_seated None e can = absurd cc
  tick_seated (Some t) e can = in_round (is_some s.controller.round) e
    where
      room : (o : Option ℕ) → victim s.controller.hand s.controller.slots ≡ o → tick_room s.controller o ≡ Some t → Seated plan (controller_turn s s.bag t)
      room None w k = absurd cc
      room (Some j) w k = started (is_some s.controller.eviction) k
        where
          started : (b : Bool) → (if b then None else Some (makes_room s.controller j)) ≡ Some t → Seated plan (controller_turn s s.bag t)
          started true k = absurd cc
          started false k = subst (λ w. Seated plan (controller_turn s s.bag w)) (same_Some _ t k)
              (begins plan s h (hand_after j s.controller.slots) true j s.done (victim_held s.controller.hand s.controller.slots j w))

      free : (key : List ℕ) → first_place (has_key key) s.controller.slots ≡ None → (o : Option ℕ) → first_place is_free s.controller.slots ≡ o → tick_free s.controller key o ≡ Some t → Seated plan (controller_turn s s.bag t)
      free key new None f k = room (victim s.controller.hand s.controller.slots) refl k
      free key new (Some j) f k = subst (λ w. Seated plan (controller_turn s s.bag w)) (same_Some _ t k) (want_sits plan s key j f new h)

      want : (key : List ℕ) → (o : Option ℕ) → first_place (has_key key) s.controller.slots ≡ o → tick_want s.controller key o ≡ Some t → Seated plan (controller_turn s s.bag t)
      want key None f k = free key f (first_place is_free s.controller.slots) refl k
      want key (Some j) f k = subst (λ w. Seated plan (controller_turn s s.bag w)) (same_Some _ t k) (grown (idle (first_want_dropped s.controller)) s.done (calm_still s.controller _ (want_dropped_calm s.controller) refl))

      wants : (keys : List (List ℕ)) → tick_wants s.controller keys ≡ Some t → Seated plan (controller_turn s s.bag t)
      wants [] k = absurd cc
      wants (key ∷ keys) k = want key (first_place (has_key key) s.controller.slots) refl k

      in_round : (b : Bool) → (if b then None else tick_wants s.controller s.controller.wants) ≡ Some t → Seated plan (controller_turn s s.bag t)
      in_round true k = absurd cc
      in_round false k = wants s.controller.wants k

  evict_seated : (done : ℕ) (key : List ℕ) (o : Option ℕ) → first_place (holds_key key) s.controller.slots ≡ o → Seated plan (record (controller_turn s s.bag (evict_held s.controller o)) { done = done })
  evict_seated done key None f = grown (idle s.controller) done (idle_still s.controller)
  evict_seated done key (Some j) f = begins plan s h s.controller.hand false j done (key_held key s.controller.slots j f)

  order_seated : (o : Option Order) → is_order_due s o ≡ true → (done : ℕ) → Seated plan (record (does_order plan s o) { done = done })
  order_seated None due done = absurd cc
  order_seated (Some (AdmitOrder step key)) due done = grown (idle (wanted key s.controller)) done (calm_still s.controller _ (wanted_calm s.controller key) (wanted_apart s.controller key).round)
  order_seated (Some (EvictOrder step key)) due done = evict_seated done key (first_place (holds_key key) s.controller.slots) refl
  order_seated (Some (SnapOrder step)) due done = grown (Rattle.far_model.specs.Controller.start_snapshot s.controller) done (calm_still s.controller _ (start_calm s.controller) refl)
  order_seated (Some (StopOrder step)) due done = stop_sits plan s done h
  order_seated (Some (StopAtOrder kind times)) due done = stop_sits plan s done h

  recover_seated : can_recover s ≡ true → Seated plan (Rattle.far_model.specs.Events.recovers plan s)
  recover_seated can =
      let parts = both (not s.running) (not (is_some s.controller.round) && not (list_any (λ (m : Message). is_switch m.from) s.bag)) can in
      let more = both (not (is_some s.controller.round)) (not (list_any (λ (m : Message). is_switch m.from) s.bag)) parts.1 in
      recover_sits plan s (off_is s.running parts.0) (none_passes (λ (m : Message). is_switch m.from) s.bag (off_is _ more.1)) need.routed h

  restart_seated : (k : Keeping) (o : Option ℕ) → ready s.controller ≡ o → is_some o ≡ true → Seated plan (restarts plan k s o)
  restart_seated k None is can = absurd cc
  restart_seated k (Some counter) is can = restart_sits plan s k counter (need.freed (busy s.controller.round refl)) h
    where
      busy : (r : Option Round) → s.controller.round ≡ r → is_some s.controller.round ≡ true
      busy None e = absurd (let off : ready s.controller ≡ None = ap Rattle.far_model.specs.Controller.ready_in e in let clash = sym is ∙ off in cc)
      busy (Some r) e = ap is_some e

-- slots and admissions stand after every event, whatever keepers answer in kind
pub event_seated : (plan : PlanView) {c : Content} (k : Keeping) (s : State) (e : Event) → SeatNeeds plan c s → Seated plan s → AnswersInKind s e k → is_enabled plan s e ≡ true → Seated plan (happens_with plan k s e)
event_seated plan k s (Send d) need h answers can = send_sits plan s h d
event_seated plan k s (Deliver i) need h answers can = delivery_seated plan s h need i k (slice_get s.bag i) refl can answers
event_seated plan k s Tick need h answers can = tick_seated plan s h need (tick s.controller) refl can
event_seated plan k s Recover need h answers can = recover_seated plan s h need can
event_seated plan k s Restart need h answers can = restart_seated plan s h need k (ready s.controller) refl can
event_seated plan k s (OrderOf j) need h answers can =
    let first = both (nat_eq j s.done) (is_order_enabled plan s) can in
    order_seated plan s h need (slice_get plan.orders j) (ap (λ n. is_order_due s (slice_get plan.orders n)) (eqb-true j s.done first.0) ∙ first.1) (s.done + 1)

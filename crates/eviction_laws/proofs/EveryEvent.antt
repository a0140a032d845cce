-- Every event keeps what holds of evictions, where the switch may stop too: from what holds of them before, and from
-- what the other subjects owe.
use Rattle.std.proofs.Common.{◌≡◌, ℕ, ◌+◌, inl, inr, Bool, true, false, not, List, [], ◌∷◌, refl, sym, ap, ◌∙◌, subst, eqb-true}
use Rattle.std.specs.Prelude.{Option, Some, None, if◌then◌else◌, ◌||◌, ◌&&◌, is_some, slice_get, nat_eq}
use Rattle.std.specs.List.{remove}
use Rattle.std.proofs.lemmas.Option.{same_Some}
use Rattle.far_base.specs.PlanView.{PlanView}
use Rattle.far_base.specs.declared.event.Event.{Event}
use Rattle.far_base.specs.declared.event.Event.TheVariants.{Send, Deliver, Tick, Recover, Restart, Order as OrderOf}
use Rattle.far_base.specs.declared.packet.Message.{Message}
use Rattle.far_base.specs.declared.packet.Packet.{Packet}
use Rattle.far_base.specs.declared.packet.Packet.TheVariants.{GetReq, WriteReq, GetFwd, WriteFwd, GetRep, WriteRep, GetAns, WriteAns, Hot, Admit, AdmitAck, Peek, PeekAns, Remove, RemoveAns, SnapStart, SnapBegun, SnapRead, SnapPart, Store, Stored, Release, Ask, Told, TopAsk, TopIs, SnapSame, SnapFrom}
use Rattle.far_base.specs.declared.party.Party.{Party}
use Rattle.far_base.specs.declared.plan.Order.{Order}
use Rattle.far_base.specs.declared.plan.Order.TheVariants.{Admit as AdmitOrder, Evict as EvictOrder, Snap as SnapOrder, Stop as StopOrder, StopAt as StopAtOrder}
use Rattle.far_base.specs.declared.record.Record.{Record}
use Rattle.far_model.specs.Controller.{ControllerState, tick, tick_wants, tick_want, tick_free, tick_room, makes_room, wanted, evict_key, evict_held, ready, client_told, top_told}
use Rattle.far_model.specs.View.{server_of}
use Rattle.far_model.specs.Replies.{RepliesAt, RepliesToMessage, AnswersInKind}
use Rattle.flight_laws.proofs.InKind.{answers_in_kind}
use Rattle.far_model.specs.Events.{happens_with, server_turn, happens, keeping_of, is_enabled, handled, delivers, can_deliver_some, can_deliver, ticks, does_order, is_order_due, is_order_enabled, is_possible, controller_turn, can_recover}
use Rattle.far_model.specs.Evictions.{is_free, has_key, holds_key, first_place, victim, hand_after}
use Rattle.far_invariants.specs.Flights.{subject, is_operation}
use Rattle.far_model.specs.Parties.{Turn, idle}
use Rattle.far_model.specs.Rounds.{Round}
use Rattle.far_model.specs.State.{State}
use Rattle.far_model.proofs.Members.{among_at}
use Rattle.record_laws.proofs.Slots.{both}
use Rattle.record_laws.proofs.Snapshots.{calm_turn, idle_calm, want_dropped_calm, wanted_calm, start_calm, begun_calm, part_calm, snap_start_calm, snap_read_calm, release_calm, snap_from_calm, same_calm}
use Rattle.far_invariants.specs.Evictions.{anything, Content, EvictionsAre}
use Rattle.eviction_laws.proofs.Beginning.{begun_sound, key_held, victim_held}
use Rattle.far_invariants.specs.EvictionNeeds.{ItemIsWritten, ToldIsWritten, Needs}
use Rattle.eviction_laws.proofs.Calming.{same_apart, calm_taken, calm_grown, wanted_apart, begun_apart, part_apart, want_leaves, admit_leaves, ack_leaves, same_apart_job}
use Rattle.eviction_laws.proofs.Leaving.{moved_leaves, send_leaves}
use Rattle.eviction_laws.proofs.Looking.{peek_sound}
use Rattle.eviction_laws.proofs.Outside.{ask_calm, top_calm}
use Rattle.eviction_laws.proofs.Removing.{remove_sound}
use Rattle.far_model.specs.Controller.{start_recovery, round_stored, first_want_dropped, is_evicting_job}
use Rattle.far_model.specs.Events.{is_switch, Keeping, restarts}
use Rattle.far_model.specs.Members.{Among}
use Rattle.std.specs.List.{list_any}
use Rattle.record_laws.proofs.Deliveries.{runs_to}
use Rattle.far_invariants.specs.EvictionNeeds.{RoundNeeds}
use Rattle.eviction_laws.proofs.Hearing.{idle_sound, peek_answer_sound, remove_answer_sound, stored_sound}
use Rattle.eviction_laws.proofs.Stopping.{stop_sound, recovery_sound, restart_sound, stored_in_round, told_in_round, top_in_round}
use Rattle.eviction_laws.proofs.Storing.{store_sound}

module _ (plan : PlanView) {c : Content} (s : State) (need : Needs plan c s) (round : RoundNeeds plan c s) (v : EvictionsAre plan c s) (i : ℕ) (k : Keeping) where
  abbrev after : Party → Packet → State
  after to p = handled plan k s (remove s.bag i) to p

  abbrev rest : List Message
  rest = remove s.bag i

  olds : (m : Message) → Among m rest → Among m s.bag
  olds m a = Rattle.far_model.proofs.Members.among_remove m s.bag i a

  busy : (r : Round) → s.controller.round ≡ Some r → s.controller.round ≡ None → ⊥
  busy r is none = let clash = sym is ∙ none in cc

  operation : (from to : Party) (p : Packet) → slice_get s.bag i ≡ Some (record { from = from; to = to; packet = p }) → is_operation (subject p) ≡ true → RepliesAt to p k.reply → EvictionsAre plan c (after to p)
  operation from to p at is answers = moved_leaves plan s need.some_server v need.routed i k (record { from = from; to = to; packet = p }) at is answers

  delivered : (from to : Party) (p : Packet) → slice_get s.bag i ≡ Some (record { from = from; to = to; packet = p }) → can_deliver s.running (record { from = from; to = to; packet = p }) ≡ true → RepliesAt to p k.reply → EvictionsAre plan c (after to p)
  delivered from to (GetReq caller op key) at can answers = operation from to (GetReq caller op key) at refl answers
  delivered from to (WriteReq caller op key body) at can answers = operation from to (WriteReq caller op key body) at refl answers
  delivered from to (GetFwd caller op key tag) at can answers = operation from to (GetFwd caller op key tag) at refl answers
  delivered from to (WriteFwd caller op key num body) at can answers = operation from to (WriteFwd caller op key num body) at refl answers
  delivered from to (GetRep caller op key tag num body) at can answers = operation from to (GetRep caller op key tag num body) at refl answers
  delivered from to (WriteRep caller op key num body) at can answers = operation from to (WriteRep caller op key num body) at refl answers
  delivered from to (GetAns caller op key num body near) at can answers = operation from to (GetAns caller op key num body near) at refl answers
  delivered from to (WriteAns caller op key num kept) at can answers = operation from to (WriteAns caller op key num kept) at refl answers
  delivered from to (Hot key) at can answers = subst (λ w. EvictionsAre plan c (after w (Hot key))) (sym (need.routed.messages _ (among_at _ s.bag i at)).target)
      (calm_taken plan _ s _ i _ _ at refl v (calm_turn s rest (idle (wanted key s.controller)) s.done (wanted_calm s.controller key)) (wanted_apart s.controller key))
  delivered from to (Admit epoch j key tag) at can answers =
      let goes = (need.routed.messages _ (among_at _ s.bag i at)).target in
      subst (λ w. EvictionsAre plan c (after w (Admit epoch j key tag))) (sym goes) (admit_leaves plan s need v i from to (runs_to s.running to can goes) epoch j key tag at)
  delivered from to (AdmitAck j tag) at can answers = subst (λ w. EvictionsAre plan c (after w (AdmitAck j tag))) (sym (need.routed.messages _ (among_at _ s.bag i at)).target) (ack_leaves plan s need v i from to j tag at)
  delivered from to (Peek own j tag) at can answers =
      let goes = (need.routed.messages _ (among_at _ s.bag i at)).target in
      subst (λ w. EvictionsAre plan c (after w (Peek own j tag))) (sym goes) (peek_sound plan s need v (runs_to s.running to can goes) i from to own j tag at)
  delivered from to (PeekAns j tag latest num body) at can answers = subst (λ w. EvictionsAre plan c (after w (PeekAns j tag latest num body))) (sym (need.routed.messages _ (among_at _ s.bag i at)).target)
      (peek_answer_sound plan s v i from to j tag latest num body at)
  delivered from to (Remove own j tag latest num) at can answers =
      let goes = (need.routed.messages _ (among_at _ s.bag i at)).target in
      subst (λ w. EvictionsAre plan c (after w (Remove own j tag latest num))) (sym goes) (remove_sound plan s need v (runs_to s.running to can goes) i from to own j tag latest num at)
  delivered from to (RemoveAns j tag done latest num body) at can answers = subst (λ w. EvictionsAre plan c (after w (RemoveAns j tag done latest num body))) (sym (need.routed.messages _ (among_at _ s.bag i at)).target)
      (remove_answer_sound plan s v i from to j tag done latest num body at)
  delivered from to (Store job item) at can answers =
      let goes = (need.routed.messages _ (among_at _ s.bag i at)).target in
      let reply : k.reply ≡ Some (Stored job) = subst (λ w. RepliesAt w (Store job item) k.reply) goes answers in
      subst (λ w. EvictionsAre plan c (after w (Store job item))) (sym goes)
      (subst (λ o. EvictionsAre plan c (server_turn s (server_of plan.config item.key) rest (Store job item) o)) (sym reply) (store_sound plan s v need.some_server need.routed.servers i from to job item at))
  delivered from to (Stored job) at can answers = subst (λ w. EvictionsAre plan c (after w (Stored job))) (sym (need.routed.messages _ (among_at _ s.bag i at)).target)
      (stored_sound plan s v i from to job at (λ off. go s.controller.round refl off))
    where
      go : (o : Option Round) → s.controller.round ≡ o → is_evicting_job job s.controller.eviction ≡ false → EvictionsAre plan c (controller_turn s rest (round_stored plan.config s.controller job o))
      go None is off = idle_sound plan s v i _ at off
      go (Some r) is off = stored_in_round plan s v (busy r is) rest olds job (Some r) is
  delivered from to (SnapStart epoch id) at can answers = subst (λ w. EvictionsAre plan c (after w (SnapStart epoch id))) (sym (need.routed.messages _ (among_at _ s.bag i at)).target)
      (calm_taken plan _ s _ i _ _ at refl v (snap_start_calm s rest epoch id) (same_apart s.controller))
  delivered from to (SnapFrom epoch id base) at can answers = subst (λ w. EvictionsAre plan c (after w (SnapFrom epoch id base))) (sym (need.routed.messages _ (among_at _ s.bag i at)).target)
      (calm_taken plan _ s _ i _ _ at refl v (snap_from_calm s rest epoch id base) (same_apart s.controller))
  delivered from to (SnapSame id j) at can answers = subst (λ w. EvictionsAre plan c (after w (SnapSame id j))) (sym (need.routed.messages _ (among_at _ s.bag i at)).target)
      (calm_taken plan _ s _ i _ _ at refl v (calm_turn s rest _ s.done (same_calm plan.config s.controller id j s.controller.job)) (same_apart_job plan.config s.controller id j s.controller.job))
  delivered from to (SnapRead epoch id j) at can answers = subst (λ w. EvictionsAre plan c (after w (SnapRead epoch id j))) (sym (need.routed.messages _ (among_at _ s.bag i at)).target)
      (calm_taken plan _ s _ i _ _ at refl v (snap_read_calm s rest epoch id j) (same_apart s.controller))
  delivered from to (SnapBegun id point) at can answers = subst (λ w. EvictionsAre plan c (after w (SnapBegun id point))) (sym (need.routed.messages _ (among_at _ s.bag i at)).target)
      (calm_taken plan _ s _ i _ _ at refl v (calm_turn s rest _ s.done (begun_calm plan.config s.controller id point s.controller.job)) (begun_apart plan.config s.controller id point s.controller.job))
  delivered from to (SnapPart id j view) at can answers = subst (λ w. EvictionsAre plan c (after w (SnapPart id j view))) (sym (need.routed.messages _ (among_at _ s.bag i at)).target)
      (calm_taken plan _ s _ i _ _ at refl v (calm_turn s rest _ s.done (part_calm plan.config s.controller id j view s.controller.job)) (part_apart plan.config s.controller id j view s.controller.job))
  delivered from to (Release point) at can answers =
      let goes = (need.routed.messages _ (among_at _ s.bag i at)).target in
      subst (λ w. EvictionsAre plan c (after w (Release point))) (sym goes.is) (calm_taken plan _ s _ i _ _ at refl v (release_calm s rest goes.client point) (same_apart s.controller))
  delivered from to (Ask number) at can answers =
      let goes = (need.routed.messages _ (among_at _ s.bag i at)).target in
      subst (λ w. EvictionsAre plan c (after w (Ask number))) (sym goes.is) (calm_taken plan _ s _ i _ _ at refl v (ask_calm s rest goes.client number) (same_apart s.controller))
  delivered from to (Told number caller total item) at can answers = subst (λ w. EvictionsAre plan c (after w (Told number caller total item))) (sym (need.routed.messages _ (among_at _ s.bag i at)).target) (go s.controller.round refl)
    where
      go : (o : Option Round) → s.controller.round ≡ o → EvictionsAre plan c (controller_turn s rest (client_told plan.config s.controller number caller total item o))
      go None is = calm_taken plan _ s _ i _ _ at refl v (calm_turn s rest (idle s.controller) s.done (idle_calm s.controller)) (same_apart s.controller)
      go (Some r) is = told_in_round plan s v (busy r is) rest olds number caller total item (round.told _ (among_at _ s.bag i at)) (Some r) is
  delivered from to (TopAsk number) at can answers =
      let goes = (need.routed.messages _ (among_at _ s.bag i at)).target in
      let reply = subst (λ w. RepliesAt w (TopAsk number) k.reply) goes.is answers in
      subst (λ w. EvictionsAre plan c (after w (TopAsk number))) (sym goes.is)
      (subst (λ o. EvictionsAre plan c (server_turn s goes.server rest (TopAsk number) o)) (sym reply.is) (calm_taken plan _ s _ i _ _ at refl v (top_calm s rest goes.server number reply.top) (same_apart s.controller)))
  delivered from to (TopIs number server top) at can answers = subst (λ w. EvictionsAre plan c (after w (TopIs number server top))) (sym (need.routed.messages _ (among_at _ s.bag i at)).target) (go s.controller.round refl)
    where
      go : (o : Option Round) → s.controller.round ≡ o → EvictionsAre plan c (controller_turn s rest (top_told plan.config s.controller number server top o))
      go None is = calm_taken plan _ s _ i _ _ at refl v (calm_turn s rest (idle s.controller) s.done (idle_calm s.controller)) (same_apart s.controller)
      go (Some r) is = top_in_round plan s v (busy r is) rest olds number server top (Some r) is

  pub delivery_sound : (o : Option Message) → slice_get s.bag i ≡ o → can_deliver_some s.running o ≡ true → RepliesToMessage o k.reply → EvictionsAre plan c (delivers plan k s i o)
  delivery_sound None at can answers = absurd cc
  delivery_sound (Some m) at can answers = delivered m.from m.to m.packet at can answers

pub none_is : {A : Type 0} (o : Option A) → is_some o ≡ false → o ≡ None
none_is None x = refl
none_is (Some y) x = absurd cc

pub off_is : (b : Bool) → not b ≡ true → b ≡ false
off_is true h = absurd cc
off_is false h = refl

-- nothing that passes is in the list
none_passes : {A : Type 0} (p : A → Bool) (xs : List A) → list_any p xs ≡ false → (x : A) → Among x xs → p x ≡ false
none_passes p [] h x a = absurd a
none_passes p (y ∷ ys) h x a = go (p y) refl h a (λ k b. none_passes p ys k x b)
  where
    go : (b : Bool) → p y ≡ b → (b || list_any p ys) ≡ false → Among x (y ∷ ys) → (list_any p ys ≡ false → Among x ys → p x ≡ false) → p x ≡ false
    go true e k c f = absurd cc
    go false e k (inl same) f = ap p same ∙ e
    go false e k (inr c) f = f k c

module _ (plan : PlanView) {c : Content} (s : State) (need : Needs plan c s) (round : RoundNeeds plan c s) (v : EvictionsAre plan c s) where
  tick_sound : (o : Option (Turn ControllerState)) → tick s.controller ≡ o → is_some o ≡ true → EvictionsAre plan c (ticks s o)
  tick_sound None e can = absurd cc
  tick_sound (Some t) e can = in_round (is_some s.controller.round) refl e
    where
      room : s.controller.round ≡ None → (o : Option ℕ) → victim s.controller.hand s.controller.slots ≡ o → tick_room s.controller o ≡ Some t → EvictionsAre plan c (controller_turn s s.bag t)
      room outside None w k = absurd cc
      room outside (Some j) w k = started (is_some s.controller.eviction) refl k
        where
          started : (b : Bool) → is_some s.controller.eviction ≡ b → (if b then None else Some (makes_room s.controller j)) ≡ Some t → EvictionsAre plan c (controller_turn s s.bag t)
          started true x k = absurd cc
          started false x k = subst (λ w. EvictionsAre plan c (controller_turn s s.bag w)) (same_Some _ t k)
              (begun_sound plan s (hand_after j s.controller.slots) true j s.done (victim_held s.controller.hand s.controller.slots j w) v outside (none_is s.controller.eviction x) (λ runs key tag at. need.held runs j key tag at))

      free : s.controller.round ≡ None → (key : List ℕ) → (o : Option ℕ) → first_place is_free s.controller.slots ≡ o → tick_free s.controller key o ≡ Some t → EvictionsAre plan c (controller_turn s s.bag t)
      free outside key None f k = room outside (victim s.controller.hand s.controller.slots) refl k
      free outside key (Some j) f k = subst (λ w. EvictionsAre plan c (controller_turn s s.bag w)) (same_Some _ t k) (want_leaves plan s v key j f)

      want : s.controller.round ≡ None → (key : List ℕ) → (o : Option ℕ) → tick_want s.controller key o ≡ Some t → EvictionsAre plan c (controller_turn s s.bag t)
      want outside key None k = free outside key (first_place is_free s.controller.slots) refl k
      want outside key (Some j) k = subst (λ w. EvictionsAre plan c (controller_turn s s.bag w)) (same_Some _ t k) (calm_grown plan _ s _ _ v (calm_turn s s.bag _ s.done (want_dropped_calm s.controller)) (record { eviction = refl; round = refl; jobs = refl }))

      wants : s.controller.round ≡ None → (keys : List (List ℕ)) → tick_wants s.controller keys ≡ Some t → EvictionsAre plan c (controller_turn s s.bag t)
      wants outside [] k = absurd cc
      wants outside (key ∷ keys) k = want outside key (first_place (has_key key) s.controller.slots) k

      in_round : (b : Bool) → is_some s.controller.round ≡ b → (if b then None else tick_wants s.controller s.controller.wants) ≡ Some t → EvictionsAre plan c (controller_turn s s.bag t)
      in_round true x k = absurd cc
      in_round false x k = wants (none_is s.controller.round x) s.controller.wants k

  order_sound : (o : Option Order) → is_order_due s o ≡ true → (done : ℕ) → EvictionsAre plan c (record (does_order plan s o) { done = done })
  order_sound None due done = absurd cc
  order_sound (Some (AdmitOrder step key)) due done = calm_grown plan _ s _ _ v (calm_turn s s.bag _ done (wanted_calm s.controller key)) (wanted_apart s.controller key)
  order_sound (Some (EvictOrder step key)) due done =
      let possible = (both (is_possible s (EvictOrder step key)) _ due).0 in
      let parts = both s.running (not (is_some s.controller.eviction) && not (is_some s.controller.round)) possible in
      let more = both (not (is_some s.controller.eviction)) (not (is_some s.controller.round)) parts.1 in
      go (none_is s.controller.eviction (off_is (is_some s.controller.eviction) more.0)) (none_is s.controller.round (off_is (is_some s.controller.round) more.1)) (first_place (holds_key key) s.controller.slots) refl
    where
      go : s.controller.eviction ≡ None → s.controller.round ≡ None → (o : Option ℕ) → first_place (holds_key key) s.controller.slots ≡ o → EvictionsAre plan c (record (controller_turn s s.bag (evict_held s.controller o)) { done = done })
      go idle_now outside None f = calm_grown plan _ s _ _ v (calm_turn s s.bag (idle s.controller) done (idle_calm s.controller)) (same_apart s.controller)
      go idle_now outside (Some j) f = begun_sound plan s s.controller.hand false j done (key_held key s.controller.slots j f) v outside idle_now (λ runs k tag at. need.held runs j k tag at)
  order_sound (Some (SnapOrder step)) due done = calm_grown plan _ s _ _ v (calm_turn s s.bag _ done (start_calm s.controller)) (record { eviction = refl; round = refl; jobs = refl })
  order_sound (Some (StopOrder step)) due done = stop_sound plan s done v
  order_sound (Some (StopAtOrder kind times)) due done = stop_sound plan s done v

  recover_sound : can_recover s ≡ true → EvictionsAre plan c (controller_turn s s.bag (start_recovery plan.config s.controller))
  recover_sound can =
      let parts = both (not s.running) (not (is_some s.controller.round) && not (list_any (λ (m : Message). is_switch m.from) s.bag)) can in
      let more = both (not (is_some s.controller.round)) (not (list_any (λ (m : Message). is_switch m.from) s.bag)) parts.1 in
      recovery_sound plan s v need.routed (none_passes (λ (m : Message). is_switch m.from) s.bag (off_is _ more.1)) round.last

  restarted_sound : (k : Keeping) (o : Option ℕ) → ready s.controller ≡ o → is_some o ≡ true → EvictionsAre plan c (restarts plan k s o)
  restarted_sound k None is can = absurd cc
  restarted_sound k (Some counter) is can = restart_sound plan s v (λ none. let off : ready s.controller ≡ None = ap Rattle.far_model.specs.Controller.ready_in none in let clash = sym is ∙ off in cc) k counter

-- every event keeps what holds of evictions, whatever keepers answer
pub event_sound_with : (plan : PlanView) {c : Content} (k : Keeping) (s : State) (e : Event) → Needs plan c s → RoundNeeds plan c s → EvictionsAre plan c s → AnswersInKind s e k → is_enabled plan s e ≡ true → EvictionsAre plan c (happens_with plan k s e)
event_sound_with plan k s (Send c) need round v answers can = send_leaves plan s v c
event_sound_with plan k s (Deliver i) need round v answers can = delivery_sound plan s need round v i k (slice_get s.bag i) refl can answers
event_sound_with plan k s Tick need round v answers can = tick_sound plan s need round v (tick s.controller) refl can
event_sound_with plan k s Recover need round v answers can = recover_sound plan s need round v can
event_sound_with plan k s Restart need round v answers can = restarted_sound plan s need round v k (ready s.controller) refl can
event_sound_with plan k s (OrderOf j) need round v answers can =
    let first = both (nat_eq j s.done) (is_order_enabled plan s) can in
    order_sound plan s need round v (slice_get plan.orders j) (ap (λ n. is_order_due s (slice_get plan.orders n)) (eqb-true j s.done first.0) ∙ first.1) (s.done + 1)

-- and where keepers answer by the rule of a server
pub event_sound : (plan : PlanView) {c : Content} (s : State) (e : Event) → Needs plan c s → RoundNeeds plan c s → EvictionsAre plan c s → is_enabled plan s e ≡ true → EvictionsAre plan c (happens plan s e)
event_sound plan s e need round v can = event_sound_with plan (keeping_of s e) s e need round v (answers_in_kind s e) can

-- of keepers that do not tell nothing is owed in a round
no_needs : (plan : PlanView) (s : State) → RoundNeeds plan anything s
no_needs plan s = record { last = λ r a. tt; told = λ m a. packet m.packet }
  where
    item : (i : Option Record) → ItemIsWritten plan anything s i
    item None = tt
    item (Some r) = tt

    packet : (p : Packet) → ToldIsWritten plan anything s p
    packet (Told number caller total i) = item i
    packet _ = tt

pub event_flies : (plan : PlanView) (k : Keeping) (s : State) (e : Event) → Needs plan anything s → EvictionsAre plan anything s → AnswersInKind s e k → is_enabled plan s e ≡ true → EvictionsAre plan anything (happens_with plan k s e)
event_flies plan k s e need v answers can = event_sound_with plan k s e need (no_needs plan s) v answers can

-- Every event keeps it that all that was shown is known, where the switch may stop too.
use Rattle.far_invariants.proofs.Noted.{member}
use Rattle.std.proofs.Common.{◌≡◌, ℕ, ◌+◌, Bool, true, false, not, List, [], ◌∷◌, refl, sym, ap, ◌∙◌, subst, arith, eqb-true}
use Rattle.std.specs.Prelude.{Option, Some, None, if◌then◌else◌, ◌&&◌, is_some, slice_get, nat_eq}
use Rattle.std.specs.List.{remove}
use Rattle.std.proofs.lemmas.Option.{same_Some}
use Rattle.far_base.specs.PlanView.{PlanView}
use Rattle.far_base.specs.declared.event.Event.{Event}
use Rattle.far_base.specs.declared.event.Event.TheVariants.{Send, Deliver, Tick, Recover, Restart, Order as OrderOf}
use Rattle.far_base.specs.declared.log.LogEntry.{LogEntry}
use Rattle.far_base.specs.declared.packet.Message.{Message}
use Rattle.far_base.specs.declared.packet.Packet.{Packet}
use Rattle.far_base.specs.declared.packet.Packet.TheVariants.{GetReq, WriteReq, GetFwd, WriteFwd, GetRep, WriteRep, GetAns, WriteAns, Hot, Admit, AdmitAck, Peek, PeekAns, Remove, RemoveAns, SnapStart, SnapBegun, SnapRead, SnapPart, Store, Stored, Release, Ask, Told, TopAsk, TopIs, SnapSame, SnapFrom}
use Rattle.far_base.specs.declared.party.Party.{Party}
use Rattle.far_base.specs.declared.plan.Order.{Order}
use Rattle.far_base.specs.declared.plan.Order.TheVariants.{Admit as AdmitOrder, Evict as EvictOrder, Snap as SnapOrder, Stop as StopOrder, StopAt as StopAtOrder}
use Rattle.far_base.specs.declared.record.Record.{Record}
use Rattle.far_model.specs.Controller.{ControllerState, tick, tick_wants, tick_want, tick_free, tick_room, makes_room, evict_held, ready}
use Rattle.far_model.specs.Events.{happens, keeping_of, is_enabled, handled, reply_at, delivers, can_deliver_some, can_deliver, reply_to, all_listed, ticks, does_order, is_order_due, is_order_enabled, is_possible, choices, controller_turn, can_recover}
use Rattle.far_model.specs.Evictions.{Eviction, is_free, has_key, holds_key, first_place, victim, hand_after}
use Rattle.far_invariants.specs.Flights.{subject, is_operation}
use Rattle.far_model.specs.Parties.{Turn}
use Rattle.far_model.specs.State.{State, opening}
use Rattle.far_model.proofs.Members.{among_at}
use Rattle.flight_laws.proofs.Lists.{get_or-replicate_default}
use Rattle.record_laws.proofs.Slots.{both}
use Rattle.far_invariants.specs.Evictions.{written_in}
use Rattle.far_invariants.specs.Evictions.{EvictionsAreSound}
use Rattle.far_model.specs.Members.{Among}
use Rattle.far_model.specs.Pass.{is_slot_there, is_under, peeks, removes, dropped}
use Rattle.far_model.specs.Events.{switch_turn}
use Rattle.far_model.specs.Clients.{ClientState}
use Rattle.far_model.specs.State.{client_at, clients_from, nobody}
use Rattle.far_model.specs.View.{SlotView, slot_at, empty_slot, server_of}
use Rattle.far_model.proofs.Members.{among_remove}
use Rattle.far_invariants.specs.Evictions.{PeekIs, RemoveIs, EvictionPacketIs}
use Rattle.far_invariants.specs.Known.{ShownIsKnown}
use Rattle.eviction_laws.proofs.Knowing.{server_knows}
use Rattle.eviction_laws.proofs.Known.{operation_knows, send_knows}
use Rattle.eviction_laws.proofs.Learning.{idle_knows, wanted_knows, want_dropped_knows, want_knows, ack_knows, start_knows, begun_knows, part_knows, peek_answer_knows, remove_answer_knows, stored_knows, evict_knows, snap_start_knows, snap_read_knows, admit_knows, peek_pass_knows, remove_pass_knows, release_knows, ask_knows, drop_knows, snap_from_knows, same_knows_job}
use Rattle.eviction_laws.proofs.Looking.{there_same}
use Rattle.eviction_laws.proofs.Storing.{more_at}
use Rattle.far_base.specs.declared.log.LogEntry.TheVariants.{Stopped, Recovered}
use Rattle.far_model.specs.Events.{Keeping, stops, restarts, recovery_items}
use Rattle.far_model.specs.Members.{Each}
use Rattle.far_model.specs.State.{noted, now}
use Rattle.far_model.specs.Snapshots.{Job}
use Rattle.record_laws.proofs.Deliveries.{runs_to}
use Rattle.far_invariants.specs.EvictionNeeds.{Needs, PacketsAreOnKey}
use Rattle.eviction_laws.proofs.EveryEvent.{none_is, off_is}
use Rattle.eviction_laws.proofs.Knowing.{NoteIsKnown, known_onward, view_onward, packet_onward, evicts_same, lines_known}
use Rattle.eviction_laws.proofs.Learning.{told_knows, top_knows, recovery_knows}
use Rattle.far_invariants.specs.Evictions.{Onward}

-- the switch is emptied, and nothing else changes
emptied_knows : (plan : PlanView) (s : State) → ShownIsKnown plan s → (t : State) (notes : List LogEntry) → t.log ≡ noted s notes → Each (NoteIsKnown plan t) notes → t.steps ≡ now s → ((c : ℕ) → client_at t c ≡ client_at s c) → t.servers ≡ s.servers
    → t.controller.eviction ≡ s.controller.eviction → t.controller.job ≡ s.controller.job → t.controller.last ≡ s.controller.last
    → ((i : ℕ) (key : List ℕ) → (slot_at t.switch i).key ≡ Some key → ⊥) → ((m : Message) → Among m t.bag → Among m s.bag) → ShownIsKnown plan t
emptied_knows plan s h t notes log notes_known steps clients servers eviction job last empty bag = record {
  lines = lines_known plan s t notes log o h notes_known;
  slots = λ i key is. absurd (empty i key is);
  packets = λ m a. packet_onward plan s t o (evicts_same s t eviction) m.packet (h.packets m (bag m a));
  preserved = λ c r a. known_onward plan s t o r.key r.num (h.preserved c r (subst (λ (w : ClientState). Among r w.preserved) (clients c) a));
  parts = λ j is part a. view_onward plan s t o _ (h.parts j (sym job ∙ is) part a);
  last = λ r a. known_onward plan s t o r.key r.num (h.last r (subst (λ (w : Rattle.far_model.specs.Snapshots.SnapshotView). Among r (Rattle.far_model.specs.Snapshots.view_records w.views)) last a));
  item = λ e is. known_onward plan s t o e.key e.item.num (h.item e (sym eviction ∙ is));
}
  where
    o : Onward plan s t
    o = record {
      still = member s t notes log;
      past = let e = steps in omega (arith, e);
      more = λ key. let n = ap (λ (l : List (List Record)). (Rattle.far_model.specs.KeyedRecords.found (Rattle.std.specs.Prelude.slice_index_or l (server_of plan.config key) []) key).num) servers in omega (arith, n);
    }

among_cases : (xs : List Message) (m : Message) → Among m xs → Among m xs
among_cases xs m a = a

module _ (plan : PlanView) (s : State) (need : Needs plan (written_in plan) s) (keys : PacketsAreOnKey plan s) (sound : EvictionsAreSound plan s) (v : ShownIsKnown plan s) (i : ℕ) (records : List Record) where
  abbrev after : Party → Packet → State
  after to p = handled plan (record { reply = reply_at s to p; records = records }) s (remove s.bag i) to p

  abbrev rest : List Message
  rest = remove s.bag i

  olds : (m : Message) → Among m rest → Among m s.bag
  olds m a = among_remove m s.bag i a

  operation : (from to : Party) (p : Packet) → slice_get s.bag i ≡ Some (record { from = from; to = to; packet = p }) → is_operation (subject p) ≡ true → ShownIsKnown plan (after to p)
  operation from to p at is = operation_knows plan s need.some_server keys v need.routed i records from to p at is

  peek_key : s.running ≡ true → (from to : Party) (own j tag : ℕ) → slice_get s.bag i ≡ Some (record { from = from; to = to; packet = Peek own j tag }) → is_slot_there s.switch own j ≡ true → is_under tag (slot_at s.switch j) ≡ true → (e : Eviction) → s.controller.eviction ≡ Some e → (slot_at s.switch j).key ≡ Some e.key
  peek_key runs from to own j tag at on under e is =
      let its : EvictionPacketIs plan (written_in plan) s (Peek own j tag) = sound.packets _ (among_at _ s.bag i at) in
      let q : PeekIs s j tag = its.1 (there_same plan s need runs own j on) (need.outside runs) in
      let mine : q.awaits.eviction ≡ e = same_Some q.awaits.eviction e (sym q.awaits.is ∙ is) in
      let key_is : (slot_at s.switch j).key ≡ Some q.awaits.eviction.key = ap (λ n. (slot_at s.switch n).key) (sym q.awaits.slot_is) ∙ (q.there runs).1 in
      key_is ∙ ap (λ (x : Eviction). Some x.key) mine

  remove_key : s.running ≡ true → (from to : Party) (own j tag : ℕ) (latest : Bool) (num : ℕ) → slice_get s.bag i ≡ Some (record { from = from; to = to; packet = Remove own j tag latest num }) → is_slot_there s.switch own j ≡ true → is_under tag (slot_at s.switch j) ≡ true → (e : Eviction) → s.controller.eviction ≡ Some e → (slot_at s.switch j).key ≡ Some e.key
  remove_key runs from to own j tag latest num at on under e is =
      let its : EvictionPacketIs plan (written_in plan) s (Remove own j tag latest num) = sound.packets _ (among_at _ s.bag i at) in
      let q : RemoveIs s j tag latest num = its.1 (there_same plan s need runs own j on) (need.outside runs) in
      let mine : q.awaits.eviction ≡ e = same_Some q.awaits.eviction e (sym q.awaits.is ∙ is) in
      let key_is : (slot_at s.switch j).key ≡ Some q.awaits.eviction.key = ap (λ n. (slot_at s.switch n).key) (sym q.awaits.slot_is) ∙ (q.there runs).1 in
      key_is ∙ ap (λ (x : Eviction). Some x.key) mine

  peeked : s.running ≡ true → (from to : Party) (own j tag : ℕ) → slice_get s.bag i ≡ Some (record { from = from; to = to; packet = Peek own j tag }) → ShownIsKnown plan (switch_turn s rest (Peek own j tag) (if is_slot_there s.switch own j then peeks s.switch j tag (slot_at s.switch j) else dropped s.switch))
  peeked runs from to own j tag at = go (is_slot_there s.switch own j) refl
    where
      go : (b : Bool) → is_slot_there s.switch own j ≡ b → ShownIsKnown plan (switch_turn s rest (Peek own j tag) (if b then peeks s.switch j tag (slot_at s.switch j) else dropped s.switch))
      go true on = peek_pass_knows plan s v rest olds j tag (peek_key runs from to own j tag at on) own
      go false off = drop_knows plan s v rest olds (Peek own j tag)

  removed : s.running ≡ true → (from to : Party) (own j tag : ℕ) (latest : Bool) (num : ℕ) → slice_get s.bag i ≡ Some (record { from = from; to = to; packet = Remove own j tag latest num })
      → ShownIsKnown plan (switch_turn s rest (Remove own j tag latest num) (if is_slot_there s.switch own j then removes s.switch j tag latest num (slot_at s.switch j) else dropped s.switch))
  removed runs from to own j tag latest num at = go (is_slot_there s.switch own j) refl
    where
      go : (b : Bool) → is_slot_there s.switch own j ≡ b → ShownIsKnown plan (switch_turn s rest (Remove own j tag latest num) (if b then removes s.switch j tag latest num (slot_at s.switch j) else dropped s.switch))
      go true on = remove_pass_knows plan s v rest olds j tag (remove_key runs from to own j tag latest num at on) own num latest
      go false off = drop_knows plan s v rest olds (Remove own j tag latest num)

  delivered : (from to : Party) (p : Packet) → slice_get s.bag i ≡ Some (record { from = from; to = to; packet = p }) → can_deliver s.running (record { from = from; to = to; packet = p }) ≡ true → ShownIsKnown plan (after to p)
  delivered from to (GetReq caller op key) at can = operation from to (GetReq caller op key) at refl
  delivered from to (WriteReq caller op key body) at can = operation from to (WriteReq caller op key body) at refl
  delivered from to (GetFwd caller op key tag) at can = operation from to (GetFwd caller op key tag) at refl
  delivered from to (WriteFwd caller op key num body) at can = operation from to (WriteFwd caller op key num body) at refl
  delivered from to (GetRep caller op key tag num body) at can = operation from to (GetRep caller op key tag num body) at refl
  delivered from to (WriteRep caller op key num body) at can = operation from to (WriteRep caller op key num body) at refl
  delivered from to (GetAns caller op key num body near) at can = operation from to (GetAns caller op key num body near) at refl
  delivered from to (WriteAns caller op key num kept) at can = operation from to (WriteAns caller op key num kept) at refl
  delivered from to (Hot key) at can = subst (λ w. ShownIsKnown plan (after w (Hot key))) (sym (need.routed.messages _ (among_at _ s.bag i at)).target) (wanted_knows plan s v rest olds s.done key)
  delivered from to (Admit epoch j key tag) at can = subst (λ w. ShownIsKnown plan (after w (Admit epoch j key tag))) (sym (need.routed.messages _ (among_at _ s.bag i at)).target) (admit_knows plan s v rest olds epoch j key tag)
  delivered from to (AdmitAck j tag) at can = subst (λ w. ShownIsKnown plan (after w (AdmitAck j tag))) (sym (need.routed.messages _ (among_at _ s.bag i at)).target) (ack_knows plan s v rest olds s.done j tag)
  delivered from to (Peek own j tag) at can = subst (λ w. ShownIsKnown plan (after w (Peek own j tag))) (sym (need.routed.messages _ (among_at _ s.bag i at)).target) (peeked (runs_to s.running to can (need.routed.messages _ (among_at _ s.bag i at)).target) from to own j tag at)
  delivered from to (PeekAns j tag latest num body) at can = subst (λ w. ShownIsKnown plan (after w (PeekAns j tag latest num body))) (sym (need.routed.messages _ (among_at _ s.bag i at)).target)
      (peek_answer_knows plan s v rest olds s.done j tag latest num body (v.packets _ (among_at _ s.bag i at)) s.controller.eviction refl)
  delivered from to (Remove own j tag latest num) at can = subst (λ w. ShownIsKnown plan (after w (Remove own j tag latest num))) (sym (need.routed.messages _ (among_at _ s.bag i at)).target) (removed (runs_to s.running to can (need.routed.messages _ (among_at _ s.bag i at)).target) from to own j tag latest num at)
  delivered from to (RemoveAns j tag done latest num body) at can = subst (λ w. ShownIsKnown plan (after w (RemoveAns j tag done latest num body))) (sym (need.routed.messages _ (among_at _ s.bag i at)).target)
      (remove_answer_knows plan s v rest olds s.done j tag done latest num body (v.packets _ (among_at _ s.bag i at)) s.controller.eviction refl)
  delivered from to (Store job item) at can = subst (λ w. ShownIsKnown plan (after w (Store job item))) (sym (need.routed.messages _ (among_at _ s.bag i at)).target)
      (server_knows plan s v rest olds (server_of plan.config item.key) (Store job item) (Stored job) (λ key. more_at plan s need.some_server need.routed.servers item (Rattle.far_model.specs.Events.server_turn s (server_of plan.config item.key) rest (Store job item) (Some (Stored job))) refl key) tt)
  delivered from to (Stored job) at can = subst (λ w. ShownIsKnown plan (after w (Stored job))) (sym (need.routed.messages _ (among_at _ s.bag i at)).target) (stored_knows plan s v rest olds s.done job s.controller.eviction refl)
  delivered from to (SnapStart epoch id) at can = subst (λ w. ShownIsKnown plan (after w (SnapStart epoch id))) (sym (need.routed.messages _ (among_at _ s.bag i at)).target) (snap_start_knows plan s v rest olds epoch id)
  delivered from to (SnapFrom epoch id base) at can = subst (λ w. ShownIsKnown plan (after w (SnapFrom epoch id base))) (sym (need.routed.messages _ (among_at _ s.bag i at)).target) (snap_from_knows plan s v rest olds epoch id base)
  delivered from to (SnapSame id j) at can = subst (λ w. ShownIsKnown plan (after w (SnapSame id j))) (sym (need.routed.messages _ (among_at _ s.bag i at)).target) (same_knows_job plan s v rest olds s.done id j s.controller.job refl)
  delivered from to (SnapRead epoch id j) at can = subst (λ w. ShownIsKnown plan (after w (SnapRead epoch id j))) (sym (need.routed.messages _ (among_at _ s.bag i at)).target) (snap_read_knows plan s v rest olds epoch id j)
  delivered from to (SnapBegun id point) at can = subst (λ w. ShownIsKnown plan (after w (SnapBegun id point))) (sym (need.routed.messages _ (among_at _ s.bag i at)).target) (begun_knows plan s v rest olds s.done id point s.controller.job refl)
  delivered from to (SnapPart id j view) at can = subst (λ w. ShownIsKnown plan (after w (SnapPart id j view))) (sym (need.routed.messages _ (among_at _ s.bag i at)).target)
      (part_knows plan s v rest olds s.done id j view (v.packets _ (among_at _ s.bag i at)) s.controller.job refl)
  delivered from to (Release point) at can =
      let goes = (need.routed.messages _ (among_at _ s.bag i at)).target in
      subst (λ w. ShownIsKnown plan (after w (Release point))) (sym goes.is) (release_knows plan s v rest olds goes.client point)
  delivered from to (Ask round) at can =
      let goes = (need.routed.messages _ (among_at _ s.bag i at)).target in
      subst (λ w. ShownIsKnown plan (after w (Ask round))) (sym goes.is) (ask_knows plan s v rest olds goes.client round)
  delivered from to (Told round caller total item) at can = subst (λ w. ShownIsKnown plan (after w (Told round caller total item))) (sym (need.routed.messages _ (among_at _ s.bag i at)).target)
      (told_knows plan s v rest olds s.done round caller total item (v.packets _ (among_at _ s.bag i at)) s.controller.round)
  delivered from to (TopAsk round) at can =
      let goes = (need.routed.messages _ (among_at _ s.bag i at)).target in
      subst (λ w. ShownIsKnown plan (after w (TopAsk round))) (sym goes.is)
      (server_knows plan s v rest olds goes.server (TopAsk round) (TopIs round goes.server (Rattle.far_model.specs.Servers.top_of (Rattle.far_model.specs.State.records_at s goes.server)))
      (λ key. let same = Rattle.std.proofs.lemmas.List.set-get_or s.servers goes.server [] in
      let n = ap (λ (l : List (List Record)). (Rattle.far_model.specs.KeyedRecords.found (Rattle.std.specs.Prelude.slice_index_or l (server_of plan.config key) []) key).num) same in omega (arith, n)) tt)
  delivered from to (TopIs round server top) at can = subst (λ w. ShownIsKnown plan (after w (TopIs round server top))) (sym (need.routed.messages _ (among_at _ s.bag i at)).target) (top_knows plan s v rest olds s.done round server top s.controller.round)

  pub delivery_knows : (o : Option Message) → slice_get s.bag i ≡ o → can_deliver_some s.running o ≡ true → ShownIsKnown plan (delivers plan (record { reply = reply_to s o; records = records }) s i o)
  delivery_knows None at can = absurd cc
  delivery_knows (Some m) at can = delivered m.from m.to m.packet at can

module _ (plan : PlanView) (s : State) (sound : EvictionsAreSound plan s) (v : ShownIsKnown plan s) where
  tick_knows : (o : Option (Turn ControllerState)) → tick s.controller ≡ o → is_some o ≡ true → ShownIsKnown plan (ticks s o)
  tick_knows None e can = absurd cc
  tick_knows (Some t) e can = in_round (is_some s.controller.round) refl e
    where
      room : s.controller.round ≡ None → (o : Option ℕ) → tick_room s.controller o ≡ Some t → ShownIsKnown plan (controller_turn s s.bag t)
      room outside None k = absurd cc
      room outside (Some j) k = started (is_some s.controller.eviction) refl k
        where
          started : (b : Bool) → is_some s.controller.eviction ≡ b → (if b then None else Some (makes_room s.controller j)) ≡ Some t → ShownIsKnown plan (controller_turn s s.bag t)
          started true x k = absurd cc
          started false x k = subst (λ w. ShownIsKnown plan (controller_turn s s.bag w)) (same_Some _ t k) (evict_knows plan s v sound outside (none_is s.controller.eviction x) (hand_after j s.controller.slots) true j s.done)

      free : s.controller.round ≡ None → (key : List ℕ) → (o : Option ℕ) → tick_free s.controller key o ≡ Some t → ShownIsKnown plan (controller_turn s s.bag t)
      free outside key None k = room outside (victim s.controller.hand s.controller.slots) k
      free outside key (Some j) k = subst (λ w. ShownIsKnown plan (controller_turn s s.bag w)) (same_Some _ t k) (want_knows plan s v s.bag (λ m a. a) s.done key j)

      want : s.controller.round ≡ None → (key : List ℕ) → (o : Option ℕ) → tick_want s.controller key o ≡ Some t → ShownIsKnown plan (controller_turn s s.bag t)
      want outside key None k = free outside key (first_place is_free s.controller.slots) k
      want outside key (Some j) k = subst (λ w. ShownIsKnown plan (controller_turn s s.bag w)) (same_Some _ t k) (want_dropped_knows plan s v s.bag (λ m a. a) s.done)

      wants : s.controller.round ≡ None → (keys : List (List ℕ)) → tick_wants s.controller keys ≡ Some t → ShownIsKnown plan (controller_turn s s.bag t)
      wants outside [] k = absurd cc
      wants outside (key ∷ keys) k = want outside key (first_place (has_key key) s.controller.slots) k

      in_round : (b : Bool) → is_some s.controller.round ≡ b → (if b then None else tick_wants s.controller s.controller.wants) ≡ Some t → ShownIsKnown plan (controller_turn s s.bag t)
      in_round true x k = absurd cc
      in_round false x k = wants (none_is s.controller.round x) s.controller.wants k

  order_knows : (o : Option Order) → is_order_due s o ≡ true → (done : ℕ) → ShownIsKnown plan (record (does_order plan s o) { done = done })
  order_knows None due done = absurd cc
  order_knows (Some (AdmitOrder step key)) due done = wanted_knows plan s v s.bag (λ m a. a) done key
  order_knows (Some (EvictOrder step key)) due done =
      let possible = (both (is_possible s (EvictOrder step key)) _ due).0 in
      let parts = both s.running (not (is_some s.controller.eviction) && not (is_some s.controller.round)) possible in
      let more = both (not (is_some s.controller.eviction)) (not (is_some s.controller.round)) parts.1 in
      go (none_is s.controller.eviction (off_is (is_some s.controller.eviction) more.0)) (none_is s.controller.round (off_is (is_some s.controller.round) more.1)) (first_place (holds_key key) s.controller.slots)
    where
      go : s.controller.eviction ≡ None → s.controller.round ≡ None → (o : Option ℕ) → ShownIsKnown plan (record (controller_turn s s.bag (evict_held s.controller o)) { done = done })
      go idle_now outside None = idle_knows plan s v s.bag (λ m a. a) done
      go idle_now outside (Some j) = evict_knows plan s v sound outside idle_now s.controller.hand false j done
  order_knows (Some (SnapOrder step)) due done = start_knows plan s v s.bag (λ m a. a) done
  order_knows (Some (StopOrder step)) due done = emptied_knows plan s v (record (stops plan s) { done = done }) (Stopped ∷ []) refl (tt, tt) refl (λ c. refl) refl refl refl refl
      (λ i key is. absurd (let off = ap (λ (w : SlotView). w.key) (get_or-replicate_default plan.config.slots i empty_slot) in let clash : Some key ≡ None = sym is ∙ off in cc)) (λ m a. among_cases s.bag m a)
  order_knows (Some (StopAtOrder kind times)) due done = emptied_knows plan s v (record (stops plan s) { done = done }) (Stopped ∷ []) refl (tt, tt) refl (λ c. refl) refl refl refl refl
      (λ i key is. absurd (let off = ap (λ (w : SlotView). w.key) (get_or-replicate_default plan.config.slots i empty_slot) in let clash : Some key ≡ None = sym is ∙ off in cc)) (λ m a. among_cases s.bag m a)

  restarted_knows : (k : Keeping) (o : Option ℕ) → is_some o ≡ true → ShownIsKnown plan (restarts plan k s o)
  restarted_knows k None can = absurd cc
  restarted_knows k (Some counter) can = emptied_knows plan s v (restarts plan k s (Some counter)) (Recovered counter (Rattle.std.specs.Prelude.length k.records) ∷ recovery_items k.records) refl (tt, items_known (restarts plan k s (Some counter)) k.records) refl (λ c. refl) refl refl refl refl
      (λ i key is. absurd (let off = ap (λ (w : SlotView). w.key) (get_or-replicate_default plan.config.slots i empty_slot) in let clash : Some key ≡ None = sym is ∙ off in cc)) (λ m a. among_cases s.bag m a)
    where
      items_known : (t : State) (rs : List Record) → Each (NoteIsKnown plan t) (recovery_items rs)
      items_known t [] = tt
      items_known t (r ∷ rs) = (tt, items_known t rs)

-- every event keeps it that what was shown is known
pub event_knows : (plan : PlanView) (s : State) (e : Event) → Needs plan (written_in plan) s → PacketsAreOnKey plan s → EvictionsAreSound plan s → ShownIsKnown plan s → is_enabled plan s e ≡ true → ShownIsKnown plan (happens plan s e)
event_knows plan s (Send c) need keys sound v can = send_knows plan s v c
event_knows plan s (Deliver i) need keys sound v can = delivery_knows plan s need keys sound v i (all_listed s.servers) (slice_get s.bag i) refl can
event_knows plan s Tick need keys sound v can = tick_knows plan s sound v (tick s.controller) refl can
event_knows plan s Recover need keys sound v can = recovery_knows plan s v s.bag (λ m a. a) s.done
event_knows plan s Restart need keys sound v can = restarted_knows plan s sound v (keeping_of s Restart) (ready s.controller) can
event_knows plan s (OrderOf j) need keys sound v can =
    let first = both (nat_eq j s.done) (is_order_enabled plan s) can in
    order_knows plan s sound v (slice_get plan.orders j) (ap (λ n. is_order_due s (slice_get plan.orders n)) (eqb-true j s.done first.0) ∙ first.1) (s.done + 1)

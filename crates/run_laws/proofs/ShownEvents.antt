-- Answers to reads and the item of an eviction were written: every event keeps it.
use Rattle.far_invariants.specs.Numbers.{slot_if, IsWritten}
use Rattle.far_invariants.specs.Operations.{Relies, OperationsStand}
use Rattle.far_invariants.proofs.Noted.{member}
use Rattle.std.proofs.Common.{◌≡◌, ℕ, ◌+◌, ◌⊎◌, inl, inr, Bool, true, false, List, [], ◌∷◌, ◌++◌, length, refl, sym, ap, ◌∙◌, subst, arith, eqb-true}
use Rattle.std.specs.Prelude.{Option, Some, None, ◌&&◌, not, if◌then◌else◌, is_some, nat_eq, slice_get}
use Rattle.std.specs.List.{remove}
use Rattle.std.proofs.lemmas.Option.{same_Some}
use Rattle.far_base.specs.PlanView.{PlanView}
use Rattle.far_base.specs.declared.event.Event.{Event}
use Rattle.far_base.specs.declared.event.Event.TheVariants.{Send, Deliver, Tick, Recover, Restart, Order as OrderOf}
use Rattle.far_base.specs.declared.log.LogEntry.{LogEntry}
use Rattle.far_base.specs.declared.log.LogEntry.TheVariants.{Admitted, Stopped, Recovered}
use Rattle.far_base.specs.declared.packet.Message.{Message}
use Rattle.far_base.specs.declared.packet.Out.{Out}
use Rattle.far_base.specs.declared.packet.Packet.{Packet}
use Rattle.far_base.specs.declared.packet.Packet.TheVariants.{GetReq, WriteReq, GetFwd, WriteFwd, GetRep, WriteRep, GetAns, WriteAns, Hot, Admit, AdmitAck, Peek, PeekAns, Remove, RemoveAns, SnapStart, SnapBegun, SnapRead, SnapPart, SnapSame, SnapFrom, Store, Stored, Ask, Told, TopAsk, TopIs}
use Rattle.far_base.specs.declared.party.Party.{Party}
use Rattle.far_base.specs.declared.party.Party.TheVariants.{Client, Switch, Server, Controller}
use Rattle.far_base.specs.declared.plan.Config.{Config}
use Rattle.far_base.specs.declared.plan.OpLine.{OpLine}
use Rattle.far_base.specs.declared.plan.Order.{Order}
use Rattle.far_base.specs.declared.plan.Order.TheVariants.{Admit as AdmitOrder, Evict as EvictOrder, Snap as SnapOrder, Stop as StopOrder, StopAt as StopAtOrder}
use Rattle.far_base.specs.declared.record.Record.{Record}
use Rattle.far_base.specs.declared.slot_state.Due.TheVariants.{Removed}
use Rattle.far_model.specs.Clients.{ClientState, client_takes, line_of, tells, tells_each}
use Rattle.far_model.specs.Controller.{ControllerState, acked_state, controller_takes, evict_held, evicts, evicts_on, first_want_dropped, makes_room, ready, removal_answered, start_snapshot, tick, tick_free, tick_room, tick_want, tick_wants, wanted, with_state}
use Rattle.far_model.specs.Events.{Keeping, can_deliver_some, controller_turn, delivers, does_order, handled, happens, is_enabled, is_order_due, keeping_of, next_sent, recovery_items, reply_message, reply_at, reply_to, all_listed, restarts, sends, stops, ticks}
use Rattle.far_model.specs.Evictions.{Eviction, TRIES, after_removal, first_place, hand_after, has_key, holds_key, is_admitting, is_free, key_in, shown_item, state_at, victim, waits_for}
use Rattle.far_model.specs.Evictions.Next.{Store as StoreNext, Done, Kept}
use Rattle.far_model.specs.Log.{is_read}
use Rattle.far_model.specs.Members.{Among, Each}
use Rattle.far_model.specs.Parties.{Turn, idle, messages_from}
use Rattle.far_model.specs.Pass.{Passed, absorbing, admits, changes, dropped, grows_hot, hot_cell, is_as_before, is_slot_there, is_under, may_go, outs_of, part_left, part_of, pass, peeks, raised, read_passes, reads_part, removed_answer, removes, reply_passes, sent_to, starts_snapshot, takes_reply, told_hot, with_slot, with_taken}
use Rattle.far_model.specs.State.{State, client_at, noted, now}
use Rattle.far_model.specs.View.{SwitchView, empty_slot, entry_place, held_record, is_taken, server_of, shown_body, slot_at}
use Rattle.far_model.proofs.Members.{among_append, among_at, among_map_from, among_remove, each_among}
use Rattle.flight_laws.proofs.Lists.{by_test}
use Rattle.far_invariants.specs.Evictions.{EvictionPacketIs, written_in}
use Rattle.eviction_laws.proofs.Calming.{wanted_apart}
use Rattle.eviction_laws.proofs.Steady.{is_steady}
use Rattle.far_invariants.specs.SeatNeeds.{Needs}
use Rattle.far_invariants.specs.Records.{AnswerIsWritten, IsRecord, ItemIs, Shown}
use Rattle.run_laws.proofs.Showing.{ShowsWell, takes_item}
use Rattle.run_laws.proofs.Stopping.{IsSteadyOut, outs_steady, sends_steady}
use Rattle.run_laws.proofs.Turning.{peek_still, plain_steady, stored_still, told_still, top_still}
use Rattle.record_laws.proofs.Controls.{each_to}
use Rattle.record_laws.proofs.Slots.{both}
use Rattle.record_laws.proofs.Snapshots.{IsPlainOut, begun_calm, part_calm, same_calm, start_calm}

-- ---- what an event leaves

item_map : (P Q : Record → Type 0) → ((r : Record) → P r → Q r) → (o : Option Eviction) → ItemIs P o → ItemIs Q o
item_map P Q f None h = tt
item_map P Q f (Some e) h = f e.item h

module _ (plan : PlanView) (s t : State) (notes : List LogEntry) (log : t.log ≡ noted s notes) (steps : t.steps ≡ now s) where
  written_on : (key : List ℕ) (num : ℕ) (body : Option (List ℕ)) → IsWritten plan s.log s.steps key num body → IsWritten plan t.log t.steps key num body
  written_on key num body h = record {
    none = h.none;
    some = λ above. let w = h.some above in record {
      op = w.op;
      own = record { numbered_at = w.own.numbered_at; numbered = member s t notes log _ w.own.numbered; before = let b = w.own.before in omega (arith, b, steps) };
      on_key = w.on_key;
      same_body = w.same_body;
    };
  }

  answer_on : (p : Packet) → AnswerIsWritten plan s p → AnswerIsWritten plan t p
  answer_on (GetAns caller op key num body near) h = written_on key num body h
  answer_on _ h = tt

  pub shown_on : Shown plan s → ItemIs (IsRecord plan s) t.controller.eviction → ((m : Message) → Among m t.bag → Among m s.bag ⊎ AnswerIsWritten plan s m.packet) → Shown plan t
  shown_on h item bag = record {
    answers = λ m a. answer_on m.packet (go m (bag m a));
    item = item_map (IsRecord plan s) (IsRecord plan t) (λ r. written_on r.key r.num r.body) t.controller.eviction item;
  }
    where
      go : (m : Message) → Among m s.bag ⊎ AnswerIsWritten plan s m.packet → AnswerIsWritten plan s m.packet
      go m (inl a) = h.answers m a
      go m (inr w) = w

steady_answer : (plan : PlanView) (s : State) (p : Packet) → is_steady p ≡ true → AnswerIsWritten plan s p
steady_answer plan s (GetAns caller op key num body near) h = absurd cc
steady_answer plan s _ h = tt

-- what was there, or is written
rest_or : (plan : PlanView) (s : State) (rest new : List Message) → ((m : Message) → Among m rest → Among m s.bag) → ((m : Message) → Among m new → AnswerIsWritten plan s m.packet)
    → (m : Message) → Among m (rest ++ new) → Among m s.bag ⊎ AnswerIsWritten plan s m.packet
rest_or plan s rest new old fresh m a = go (among_append m rest new a)
  where
    go : Among m rest ⊎ Among m new → Among m s.bag ⊎ AnswerIsWritten plan s m.packet
    go (inl b) = inl (old m b)
    go (inr b) = inr (fresh m b)

-- ---- the switch

abbrev OutShows : PlanView → State → Option Out → Type 0
OutShows plan s None = Unit {0}
OutShows plan s (Some o) = AnswerIsWritten plan s o.packet

abbrev PassShows : PlanView → State → Passed → Type 0
PassShows plan s p = OutShows plan s p.first × OutShows plan s p.second

module _ (plan : PlanView) (s : State) where
  hot_shows : (key : List ℕ) (v : SwitchView) → OutShows plan s (told_hot key v)
  hot_shows key v = by_test (OutShows plan s) (grows_hot v.config.hot (hot_cell key v)) (sent_to Controller (Hot key)) None tt tt

  part_shows : (v : SwitchView) (i : ℕ) → OutShows plan s (part_of v i)
  part_shows v i = by_test (λ p. OutShows plan s (sent_to Controller p)) (is_as_before v i) (SnapSame v.snap i) (SnapPart v.snap i (held_record (slot_at v i))) tt tt

  left_shows : (v : SwitchView) (i : ℕ) → OutShows plan s (part_left v i)
  left_shows v i = by_test (OutShows plan s) (is_taken v i) None (part_of v i) tt (part_shows v i)

  reply_shows : (v : SwitchView) (tag : Option ℕ) (num : ℕ) (body : Option (List ℕ)) (out : Option Out) (o : Option ℕ) → OutShows plan s out → PassShows plan s (reply_passes v tag num body out o)
  reply_shows v tag num body out None w = (w, tt)
  reply_shows v tag num body out (Some i) w = by_test (PassShows plan s) (takes_reply tag num (slot_at v i)) (changes v i (absorbing num body (slot_at v i)) out) (record { view = with_slot v i (raised num (slot_at v i)); first = out; second = None })
      (w, left_shows v i) (w, tt)

  removal_shows : (v : SwitchView) (i tag : ℕ) (done : Bool) → OutShows plan s (removed_answer i tag done (slot_at v i))
  removal_shows v i tag done = by_test (OutShows plan s) (is_under tag (slot_at v i)) (sent_to Controller (RemoveAns i tag done (slot_at v i).latest (slot_at v i).num (shown_body (slot_at v i)))) (sent_to Controller (RemoveAns i tag false false 0 None)) tt tt

  pub pass_shows : OperationsStand plan s → (p : Packet) → Relies plan s p → PassShows plan s (pass s.switch p)
  pass_shows k (GetReq caller op key) r = go (entry_place key s.switch) refl
    where
      go : (o : Option ℕ) → entry_place key s.switch ≡ o → PassShows plan s (read_passes s.switch caller op key o)
      go None e = (tt, hot_shows key s.switch)
      go (Some i) e = (latest (slot_at s.switch i).latest refl, tt)
        where
          latest : (b : Bool) → (slot_at s.switch i).latest ≡ b → OutShows plan s (if b
              then sent_to (Client caller) (GetAns caller op key (slot_at s.switch i).num (slot_at s.switch i).body true)
              else sent_to (Server (server_of s.switch.config key)) (GetFwd caller op key (slot_at s.switch i).tag))
          latest true l = (k.slots key (slot_at s.switch i) (ap (slot_if s.switch) e)).written l
          latest false l = tt
  pass_shows k (WriteReq caller op key body) r = go (entry_place key s.switch)
    where
      go : (o : Option ℕ) → PassShows plan s (Rattle.far_model.specs.Pass.write_passes (Rattle.far_model.specs.Pass.numbered s.switch) caller op key body o)
      go None = (tt, hot_shows key (Rattle.far_model.specs.Pass.numbered s.switch))
      go (Some i) = (tt, left_shows (Rattle.far_model.specs.Pass.numbered s.switch) i)
  pass_shows k (GetRep caller op key tag num body) r = reply_shows s.switch (Some tag) num body (sent_to (Client caller) (GetAns caller op key num body false)) (entry_place key s.switch) r.written
  pass_shows k (WriteRep caller op key num body) r = reply_shows s.switch None num body (sent_to (Client caller) (WriteAns caller op key num false)) (entry_place key s.switch) tt
  pass_shows k (Admit epoch i key tag) r = by_test (PassShows plan s) (is_slot_there s.switch epoch i) (admits s.switch i key tag) (dropped s.switch)
      (by_test (OutShows plan s) (slot_at s.switch i).valid None (sent_to Controller (AdmitAck i tag)) tt tt, tt) (tt, tt)
  pass_shows k (Peek epoch i tag) r = by_test (PassShows plan s) (is_slot_there s.switch epoch i) (peeks s.switch i tag (slot_at s.switch i)) (dropped s.switch)
      (by_test (OutShows plan s) (is_under tag (slot_at s.switch i)) (sent_to Controller (PeekAns i tag (slot_at s.switch i).latest (slot_at s.switch i).num (shown_body (slot_at s.switch i)))) (sent_to Controller (PeekAns i tag false 0 None)) tt tt, tt) (tt, tt)
  pass_shows k (Remove own i tag latest num) r = by_test (PassShows plan s) (is_slot_there s.switch own i) (removes s.switch i tag latest num (slot_at s.switch i)) (dropped s.switch)
      (go (may_go tag latest num (slot_at s.switch i)) (slot_at s.switch i).latest) (tt, tt)
    where
      go : (b c : Bool) → PassShows plan s (if b
          then (if c then changes s.switch i empty_slot (removed_answer i tag true (slot_at s.switch i)) else record { view = with_slot s.switch i empty_slot; first = removed_answer i tag true (slot_at s.switch i); second = None })
          else record { view = s.switch; first = removed_answer i tag false (slot_at s.switch i); second = None })
      go true true = (removal_shows s.switch i tag true, left_shows s.switch i)
      go true false = (removal_shows s.switch i tag true, tt)
      go false c = (removal_shows s.switch i tag false, tt)
  pass_shows k (SnapStart epoch id) r = by_test (PassShows plan s) (nat_eq epoch s.switch.epoch) (starts_snapshot s.switch id 0) (dropped s.switch) (tt, tt) (tt, tt)
  pass_shows k (SnapFrom epoch id base) r = by_test (PassShows plan s) (nat_eq epoch s.switch.epoch) (starts_snapshot s.switch id base) (dropped s.switch) (tt, tt) (tt, tt)
  pass_shows k (SnapRead epoch id i) r = by_test (PassShows plan s) (is_slot_there s.switch epoch i) (reads_part s.switch id i) (dropped s.switch)
      (by_test (PassShows plan s) (nat_eq id s.switch.snap && not (is_taken s.switch i)) (record { view = with_taken s.switch i (held_record (slot_at s.switch i)); first = part_of s.switch i; second = None }) (dropped s.switch) (part_shows s.switch i, tt) (tt, tt))
      (tt, tt)
  pass_shows k _ r = (tt, tt)

  outs_show : (first second : Option Out) → OutShows plan s first → OutShows plan s second → (m : Message) → Among m (messages_from Switch (outs_of first ++ outs_of second)) → AnswerIsWritten plan s m.packet
  outs_show None None a b m h = absurd h
  outs_show None (Some y) a b m (inl e) = subst (λ (w : Message). AnswerIsWritten plan s w.packet) (sym e) b
  outs_show None (Some y) a b m (inr h) = absurd h
  outs_show (Some x) None a b m (inl e) = subst (λ (w : Message). AnswerIsWritten plan s w.packet) (sym e) a
  outs_show (Some x) None a b m (inr h) = absurd h
  outs_show (Some x) (Some y) a b m (inl e) = subst (λ (w : Message). AnswerIsWritten plan s w.packet) (sym e) a
  outs_show (Some x) (Some y) a b m (inr (inl e)) = subst (λ (w : Message). AnswerIsWritten plan s w.packet) (sym e) b
  outs_show (Some x) (Some y) a b m (inr (inr h)) = absurd h

-- ---- clients and servers answer no read

abbrev OutIsQuiet : PlanView → State → Out → Type 0
OutIsQuiet plan s o = AnswerIsWritten plan s o.packet

module _ (plan : PlanView) (s : State) where
  quiet_from : (from : Party) (outs : List Out) → Each (OutIsQuiet plan s) outs → (m : Message) → Among m (messages_from from outs) → AnswerIsWritten plan s m.packet
  quiet_from from outs h m a =
      let p = among_map_from (λ (o : Out). record { from = from; to = o.to; packet = o.packet }) m outs a in
      subst (λ (w : Message). AnswerIsWritten plan s w.packet) (sym p.2) (each_among (OutIsQuiet plan s) p.0 outs h p.1)

  told_quiet : (round client total : ℕ) (rs : List Record) → Each (OutIsQuiet plan s) (tells_each round client total rs)
  told_quiet round client total [] = tt
  told_quiet round client total (r ∷ rs) = (tt, told_quiet round client total rs)

  tells_quiet : (round client : ℕ) (rs : List Record) → Each (OutIsQuiet plan s) (tells round client rs)
  tells_quiet round client [] = (tt, tt)
  tells_quiet round client (r ∷ rs) = told_quiet round client (length (r ∷ rs)) (r ∷ rs)

  client_quiet : (ops : List OpLine) (c : ℕ) (client : ClientState) (p : Packet) → Each (OutIsQuiet plan s) (client_takes ops c client p).out
  client_quiet ops c client (Ask round) = tells_quiet round c client.preserved
  client_quiet ops c client _ = tt

  send_quiet : (c : ℕ) (client : ClientState) (left : List ℕ) → Each (OutIsQuiet plan s) (next_sent plan.ops c client left).out
  send_quiet c client [] = tt
  send_quiet c client (op ∷ left) = (by_test (AnswerIsWritten plan s) (is_read (line_of plan.ops op).op) (GetReq c op (line_of plan.ops op).key) (WriteReq c op (line_of plan.ops op).key (line_of plan.ops op).body) tt tt, tt)

  server_quiet : (n : ℕ) (p : Packet) (m : Message) → Among m (reply_message n (reply_at s (Server n) p)) → AnswerIsWritten plan s m.packet
  server_quiet n (GetFwd caller op key tag) m (inl e) = subst (λ (w : Message). AnswerIsWritten plan s w.packet) (sym e) tt
  server_quiet n (WriteFwd caller op key num body) m (inl e) = subst (λ (w : Message). AnswerIsWritten plan s w.packet) (sym e) tt
  server_quiet n (Store job item) m (inl e) = subst (λ (w : Message). AnswerIsWritten plan s w.packet) (sym e) tt
  server_quiet n (TopAsk round) m (inl e) = subst (λ (w : Message). AnswerIsWritten plan s w.packet) (sym e) tt
  server_quiet n (GetFwd caller op key tag) m (inr a) = absurd a
  server_quiet n (WriteFwd caller op key num body) m (inr a) = absurd a
  server_quiet n (Store job item) m (inr a) = absurd a
  server_quiet n (TopAsk round) m (inr a) = absurd a
  server_quiet n _ m a = absurd a

-- ---- what the controller sends

abbrev SendsSteady : Turn ControllerState → Type 0
SendsSteady t = Each IsSteadyOut t.out

removal_steady : (config : Config) (c : ControllerState) (i tag : ℕ) (done : Bool) (num : ℕ) (body : Option (List ℕ)) (o : Option Eviction) → SendsSteady (removal_answered config c i tag done num body o)
removal_steady config c i tag done num body None = tt
removal_steady config c i tag done num body (Some e) = by_test SendsSteady (waits_for Removed i tag e) (evicts_on config c e (after_removal e done num body)) (idle c) (go done (nat_eq e.tries TRIES)) tt
  where
    go : (b d : Bool) → SendsSteady (evicts_on config c e (if b then Done e.tries else (if d then Kept TRIES (shown_item e num body) else StoreNext (shown_item e num body))))
    go true d = tt
    go false true = tt
    go false false = (refl, tt)

takes_steady : (config : Config) (c : ControllerState) (p : Packet) → SendsSteady (controller_takes config c p)
takes_steady config c (Hot key) = tt
takes_steady config c (AdmitAck i tag) = by_test SendsSteady (is_admitting tag (state_at c.slots i)) (record { state = with_state c i (acked_state (state_at c.slots i)); out = []; notes = Admitted i (key_in (state_at c.slots i)) tag ∷ [] }) (idle c) tt tt
takes_steady config c (PeekAns i tag latest num body) = (peek_still config c i tag latest num body c.eviction).steady
takes_steady config c (RemoveAns i tag done latest num body) = removal_steady config c i tag done num body c.eviction
takes_steady config c (SnapBegun id point) = each_to IsPlainOut IsSteadyOut _ (λ o p. plain_steady o.packet p) (begun_calm config c id point c.job).plain
takes_steady config c (SnapPart id i view) = each_to IsPlainOut IsSteadyOut _ (λ o p. plain_steady o.packet p) (part_calm config c id i view c.job).plain
takes_steady config c (SnapSame id i) = each_to IsPlainOut IsSteadyOut _ (λ o p. plain_steady o.packet p) (same_calm config c id i c.job).plain
takes_steady config c (Stored job) = (stored_still config c job c.eviction).steady
takes_steady config c (Told number caller total item) = (told_still config c number caller total item c.round).steady
takes_steady config c (TopIs number server top) = (top_still config c number server top c.round).steady
takes_steady config c _ = tt

-- ---- events

module _ (plan : PlanView) (s : State) (k : OperationsStand plan s) (need : Needs plan s) (h : Shown plan s) where
  steady_new : (outs : List Out) → Each IsSteadyOut outs → (m : Message) → Among m (messages_from Controller outs) → AnswerIsWritten plan s m.packet
  steady_new outs steady m a = steady_answer plan s m.packet (outs_steady outs steady m a)

  -- what an answer shows of the slot that is evicted
  shows_well : (i : ℕ) (from to : Party) (p : Packet) → EvictionPacketIs plan (written_in plan) s p → ShowsWell (IsRecord plan s) plan.config s.controller h.item p
  shows_well i from to (PeekAns j tag latest num body) w = λ e is l. subst (λ (x : Eviction). IsWritten plan s.log s.steps x.key num body) (same_Some w.awaits.eviction e (sym w.awaits.is ∙ is)) (w.written l)
  shows_well i from to (RemoveAns j tag done latest num body) w = λ e is d. subst (λ (x : Eviction). IsWritten plan s.log s.steps x.key num body) (same_Some w.awaits.eviction e (sym w.awaits.is ∙ is)) (w.written d)
  shows_well i from to _ w = tt

  party_shown : (i : ℕ) (records : List Record) (from to : Party) (p : Packet) → slice_get s.bag i ≡ Some (record { from = from; to = to; packet = p })
      → Shown plan (handled plan (record { reply = reply_at s to p; records = records }) s (remove s.bag i) to p)
  party_shown i records from (Client c) p at = shown_on plan s _ _ refl refl h h.item (rest_or plan s (remove s.bag i) _ (λ m a. among_remove m s.bag i a)
      (quiet_from plan s (Client c) (client_takes plan.ops c (client_at s c) p).out (client_quiet plan s plan.ops c (client_at s c) p)))
  party_shown i records from Switch p at =
      let shows = pass_shows plan s k p (k.relies _ (among_at _ s.bag i at)) in
      shown_on plan s _ _ refl refl h h.item (rest_or plan s (remove s.bag i) _ (λ m a. among_remove m s.bag i a) (outs_show plan s (pass s.switch p).first (pass s.switch p).second shows.0 shows.1))
  party_shown i records from (Server n) p at = shown_on plan s _ [] refl refl h h.item (rest_or plan s (remove s.bag i) _ (λ m a. among_remove m s.bag i a) (server_quiet plan s n p))
  party_shown i records from Controller p at = shown_on plan s _ _ refl refl h
      (takes_item (IsRecord plan s) plan.config s.controller h.item p (shows_well i from Controller p (need.evictions.packets _ (among_at _ s.bag i at))))
      (rest_or plan s (remove s.bag i) _ (λ m a. among_remove m s.bag i a) (steady_new (controller_takes plan.config s.controller p).out (takes_steady plan.config s.controller p)))

  delivery_shown : (i : ℕ) (records : List Record) (o : Option Message) → slice_get s.bag i ≡ o → can_deliver_some s.running o ≡ true → Shown plan (delivers plan (record { reply = reply_to s o; records = records }) s i o)
  delivery_shown i records None at can = absurd cc
  delivery_shown i records (Some m) at can = party_shown i records m.from m.to m.packet at

  -- a turn that takes no message
  grown : (turn : Turn ControllerState) (done : ℕ) → ItemIs (IsRecord plan s) turn.state.eviction → ((m : Message) → Among m (messages_from Controller turn.out) → AnswerIsWritten plan s m.packet) → Shown plan (record (controller_turn s s.bag turn) { done = done })
  grown turn done item news = shown_on plan s (record (controller_turn s s.bag turn) { done = done }) turn.notes refl refl h item (rest_or plan s s.bag (messages_from Controller turn.out) (λ m a. a) news)

  one_quiet : (x : Message) → AnswerIsWritten plan s x.packet → (m : Message) → Among m (x ∷ []) → AnswerIsWritten plan s m.packet
  one_quiet x w m (inl e) = subst (λ (y : Message). AnswerIsWritten plan s y.packet) (sym e) w
  one_quiet x w m (inr a) = absurd a

  begun : (hand : ℕ) (for_want : Bool) (j done : ℕ) → Shown plan (record (controller_turn s s.bag (evicts (record s.controller { hand = hand }) for_want j)) { done = done })
  begun hand for_want j done = grown (evicts (record s.controller { hand = hand }) for_want j) done (record { none = λ z. refl; some = λ above. absurd (omega arith) }) (one_quiet _ tt)

  tick_shown : (o : Option (Turn ControllerState)) → tick s.controller ≡ o → is_some o ≡ true → Shown plan (ticks s o)
  tick_shown None e can = absurd cc
  tick_shown (Some t) e can = in_round (is_some s.controller.round) e
    where
      room : (o : Option ℕ) → tick_room s.controller o ≡ Some t → Shown plan (controller_turn s s.bag t)
      room None k' = absurd cc
      room (Some j) k' = started (is_some s.controller.eviction) k'
        where
          started : (b : Bool) → (if b then None else Some (makes_room s.controller j)) ≡ Some t → Shown plan (controller_turn s s.bag t)
          started true q = absurd cc
          started false q = subst (λ w. Shown plan (controller_turn s s.bag w)) (same_Some _ t q) (begun (hand_after j s.controller.slots) true j s.done)

      free : (key : List ℕ) (o : Option ℕ) → tick_free s.controller key o ≡ Some t → Shown plan (controller_turn s s.bag t)
      free key None q = room (victim s.controller.hand s.controller.slots) q
      free key (Some j) q = subst (λ w. Shown plan (controller_turn s s.bag w)) (same_Some _ t q) (grown (Rattle.far_model.specs.Controller.admits_want s.controller key j) s.done h.item (one_quiet _ tt))

      want : (key : List ℕ) (o : Option ℕ) → tick_want s.controller key o ≡ Some t → Shown plan (controller_turn s s.bag t)
      want key None q = free key (first_place is_free s.controller.slots) q
      want key (Some j) q = subst (λ w. Shown plan (controller_turn s s.bag w)) (same_Some _ t q) (grown (idle (first_want_dropped s.controller)) s.done h.item (λ m a. absurd a))

      wants : (keys : List (List ℕ)) → tick_wants s.controller keys ≡ Some t → Shown plan (controller_turn s s.bag t)
      wants [] q = absurd cc
      wants (key ∷ keys) q = want key (first_place (has_key key) s.controller.slots) q

      in_round : (b : Bool) → (if b then None else tick_wants s.controller s.controller.wants) ≡ Some t → Shown plan (controller_turn s s.bag t)
      in_round true q = absurd cc
      in_round false q = wants s.controller.wants q

  order_shown : (o : Option Order) → is_order_due s o ≡ true → (done : ℕ) → Shown plan (record (does_order plan s o) { done = done })
  order_shown None due done = absurd cc
  order_shown (Some (AdmitOrder step key)) due done = grown (idle (wanted key s.controller)) done (subst (ItemIs (IsRecord plan s)) (sym (wanted_apart s.controller key).eviction) h.item) (λ m a. absurd a)
  order_shown (Some (EvictOrder step key)) due done = go (first_place (holds_key key) s.controller.slots)
    where
      go : (o : Option ℕ) → Shown plan (record (controller_turn s s.bag (evict_held s.controller o)) { done = done })
      go None = grown (idle s.controller) done h.item (λ m a. absurd a)
      go (Some j) = begun s.controller.hand false j done
  order_shown (Some (SnapOrder step)) due done = grown (start_snapshot s.controller) done h.item (steady_new (start_snapshot s.controller).out (each_to IsPlainOut IsSteadyOut (start_snapshot s.controller).out (λ o p. plain_steady o.packet p) (start_calm s.controller).plain))
  order_shown (Some (StopOrder step)) due done = shown_on plan s (record (stops plan s) { done = done }) (Stopped ∷ []) refl refl h h.item (λ m a. inl a)
  order_shown (Some (StopAtOrder kind times)) due done = shown_on plan s (record (stops plan s) { done = done }) (Stopped ∷ []) refl refl h h.item (λ m a. inl a)

  restart_shown : (q : Keeping) (o : Option ℕ) → is_some o ≡ true → Shown plan (restarts plan q s o)
  restart_shown q None can = absurd cc
  restart_shown q (Some counter) can = shown_on plan s (restarts plan q s (Some counter)) (Recovered counter (length q.records) ∷ recovery_items q.records) refl refl h h.item (λ m a. inl a)

  pub event_shown : (e : Event) → is_enabled plan s e ≡ true → Shown plan (happens plan s e)
  event_shown (Send c) can = shown_on plan s _ _ refl refl h h.item (rest_or plan s s.bag _ (λ m a. a) (quiet_from plan s (Client c) (next_sent plan.ops c (client_at s c) (client_at s c).left).out (send_quiet plan s c (client_at s c) (client_at s c).left)))
  event_shown (Deliver i) can = delivery_shown i (all_listed s.servers) (slice_get s.bag i) refl can
  event_shown Tick can = tick_shown (tick s.controller) refl can
  event_shown Recover can = grown (Rattle.far_model.specs.Controller.start_recovery plan.config s.controller) s.done tt (λ m a. steady_answer plan s m.packet (sends_steady plan s m a))
  event_shown Restart can = restart_shown (keeping_of s Restart) (ready s.controller) can
  event_shown (OrderOf j) can =
      let first = both (nat_eq j s.done) (Rattle.far_model.specs.Events.is_order_enabled plan s) can in
      order_shown (slice_get plan.orders j) (ap (λ n. is_order_due s (slice_get plan.orders n)) (eqb-true j s.done first.0) ∙ first.1) (s.done + 1)

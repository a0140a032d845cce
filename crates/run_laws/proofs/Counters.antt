-- Where counters come from, over every step.
use Rattle.std.proofs.Common.{◌≡◌, ℕ, zero, suc, ◌≤◌, ◌<◌, ◌⊎◌, inl, inr, max, true, false, List, [], ◌∷◌, ◌++◌, refl, sym, ap, ◌∙◌, subst, arith}
use Rattle.std.specs.Prelude.{Option, Some, None, is_some, nat_le, slice_get, slice_set, slice_index_or}
use Rattle.std.specs.List.{remove}
use Rattle.std.proofs.lemmas.Bool.Decides.{leb_tells}
use Rattle.std.proofs.lemmas.Option.{same_Some}
use Rattle.far_base.specs.Limits.{IsPlan}
use Rattle.far_base.specs.PlanView.{PlanView}
use Rattle.far_base.specs.declared.event.Event.{Event}
use Rattle.far_base.specs.declared.event.Event.TheVariants.{Deliver}
use Rattle.far_base.specs.declared.log.LogEntry.TheVariants.{Numbered}
use Rattle.far_base.specs.declared.log.LogLine.{LogLine}
use Rattle.far_base.specs.declared.packet.Message.{Message}
use Rattle.far_base.specs.declared.packet.Out.{Out}
use Rattle.far_base.specs.declared.packet.Packet.{Packet}
use Rattle.far_base.specs.declared.packet.Packet.TheVariants.{TopIs}
use Rattle.far_base.specs.declared.party.Party.{Party}
use Rattle.far_base.specs.declared.party.Party.TheVariants.{Client, Switch, Server, Controller}
use Rattle.far_base.specs.declared.plan.Config.{Config}
use Rattle.far_base.specs.declared.plan.Order.{Order}
use Rattle.far_base.specs.declared.record.Record.{Record}
use Rattle.far_model.specs.Clients.{line_of, request}
use Rattle.far_model.specs.Controller.{ControllerState, start_recovery}
use Rattle.far_model.specs.Events.{happens, is_enabled, keeping_of, reply_message, reply_to}
use Rattle.far_model.specs.Evictions.{Eviction}
use Rattle.far_model.specs.Members.{Among}
use Rattle.far_model.specs.Parties.{Turn, messages_from, to_party}
use Rattle.far_model.specs.Pass.{Passed, pass_notes, passed_out}
use Rattle.far_model.specs.Rounds.{Round, greatest_top}
use Rattle.far_model.specs.Servers.{top_of}
use Rattle.far_model.specs.State.{State, noted, now, records_at}
use Rattle.far_model.specs.Steps.{ChangeRow, ChangesOnly, ChangesFirst, ReplyRow, ReplyTaken, PassRow, WriteHit, WriteMiss, ReadReply, WriteReply, RemoveLatest, ServerRow, TopServed, ServerIgnores}
use Rattle.far_model.specs.Steps.{EvictionRow, PeekedLatest, RoundRow, Waits, AsksTops, RecoveryRow, ClientTold, RoundStored, TopTold, RuleRow, Evicts, Snaps, Recovering, TickRow, WantDropped, OrderRow, WantOrdered}
use Rattle.far_model.specs.Steps.{Step, Sends, ClientTakes, Passes, Serves, Rules, Ticks, Recovers, Restarts, Orders, Stops, message}
use Rattle.far_model.specs.View.{SlotView, SwitchView}
use Rattle.far_model.proofs.Members.{among_append, among_append_left, among_at, among_map_from, among_remove}
use Rattle.far_model.proofs.Rows.{snapshot_leaves}
use Rattle.far_model.proofs.Steps.{steps_are_rows}
use Rattle.far_invariants.specs.Counters.{IsCounted, TopIsCounted, TopsAre, CountersAreDrawn}
use Rattle.far_invariants.specs.Flights.{IsRouted, IsFrom}
use Rattle.far_invariants.specs.Holds.{Holds}
use Rattle.far_invariants.specs.Numbers.{IsWritten}
use Rattle.far_invariants.specs.Past.{Past}
use Rattle.far_invariants.proofs.Noted.{note_member}
use Rattle.flight_laws.proofs.Handling.{flight_row}
use Rattle.flight_laws.proofs.InKind.{answers_in_kind}
use Rattle.flight_laws.proofs.Lists.{get_or-replicate_default}
use Rattle.recovery_laws.proofs.Events.{CanRestart, can_restart_is}
use Rattle.run_laws.proofs.Holding.{servers_written}

counted_more : (log more : List LogLine) (num : ℕ) → ((l : LogLine) → Among l log → Among l more) → IsCounted log num → IsCounted more num
counted_more log more num f (inl e) = inl e
counted_more log more num f (inr w) = inr (record { at = w.at; op = w.op; own = w.own; numbered = f _ w.numbered; above = w.above })

top_more : (log more : List LogLine) (p : Packet) → ((l : LogLine) → Among l log → Among l more) → TopIsCounted log p → TopIsCounted more p
top_more log more (TopIs round server top) f h = counted_more log more top f h
top_more log more _ f h = tt

-- ---- the counter after a pass

change_counts : (v : SwitchView) (i : ℕ) (slot : SlotView) (w : SwitchView) (o : Option Out) → ChangeRow v i slot w o → w.counter ≡ v.counter
change_counts v i slot w o (ChangesOnly e) = refl
change_counts v i slot w o (ChangesFirst part e r) = refl

reply_counts : (v : SwitchView) (tag : Option ℕ) (key : List ℕ) (num : ℕ) (body : Option (List ℕ)) (w : SwitchView) (o : Option Out) → ReplyRow v tag key num body w o → w.counter ≡ v.counter
reply_counts v tag key num body w o (ReplyTaken i w2 part e t c) = change_counts v i _ w2 part c
reply_counts v tag key num body w o _ = refl

-- the counter is as it was, or the pass has numbered a write with it
pass_counts : (v : SwitchView) (p : Packet) (q : Passed) → PassRow v p q → (q.view.counter ≡ v.counter) ⊎ ((op : ℕ) × Among (Numbered op q.view.counter) (pass_notes p q))
pass_counts v p q (WriteHit caller op key body i w part e c) = inr (op, inl refl)
pass_counts v p q (WriteMiss caller op key body hot e t) = inr (op, inl refl)
pass_counts v p q (ReadReply caller op key tag num body w part r) = inl (reply_counts v _ key num body w part r)
pass_counts v p q (WriteReply caller op key num body w part r) = inl (reply_counts v _ key num body w part r)
pass_counts v p q (RemoveLatest epoch i tag latest num w part e m u l c) = inl (change_counts v i _ w part c)
pass_counts v p q _ = inl refl

-- ---- the tops of a round after a turn of the controller

module _ (P : ℕ → Type 0) (config : Config) (c : ControllerState) where
  -- a round with the same tops
  same_tops : (r q : Round) → q.tops ≡ r.tops → TopsAre P (Some r) → TopsAre P (Some q)
  same_tops r q e h = λ x is n top at. h r refl n top (ap (λ l. slice_index_or l n None) (sym e) ∙ ap (λ (y : Round). slice_index_or y.tops n None) (same_Some q x is) ∙ at)

  round_stays : (d : ControllerState) (r q : Round) (out : List Out) (t : Turn ControllerState) → RoundRow config d q out t → q.tops ≡ r.tops → TopsAre P (Some r) → TopsAre P t.state.round
  round_stays d r q out t (Waits w) e h = same_tops r q e h
  round_stays d r q out t (AsksTops w) e h = same_tops r (record q { asked = true }) e h

  abbrev TopIn : Packet → Type 0
  TopIn (TopIs number server top) = P top
  TopIn _ = Unit {0}

  -- one more top is heard
  top_set : (tops : List (Option ℕ)) (server top n x : ℕ) → P top → ((m y : ℕ) → slice_index_or tops m None ≡ Some y → P y) → slice_index_or (slice_set tops server (Some top)) n None ≡ Some x → P x
  top_set [] zero top n x p h e = absurd cc
  top_set [] (suc server) top n x p h e = absurd cc
  top_set (o ∷ os) zero top zero x p h e = subst P (same_Some top x e) p
  top_set (o ∷ os) zero top (suc n) x p h e = h (suc n) x e
  top_set (o ∷ os) (suc server) top zero x p h e = h 0 x e
  top_set (o ∷ os) (suc server) top (suc n) x p h e = top_set os server top n x p (λ m y q. h (suc m) y q) e

  recovery_stays : (r : Round) (p : Packet) (t : Turn ControllerState) → RecoveryRow config c r p t → TopIn p → TopsAre P (Some r) → TopsAre P t.state.round
  recovery_stays r p t (ClientTold caller total item u l e j) k h = round_stays _ r _ _ t j refl h
  recovery_stays r p t (RoundStored job u a b e j) k h = round_stays _ r _ _ t j refl h
  recovery_stays r p t (TopTold server top a l e) k h = λ x is n y at. top_set r.tops server top n y k (λ m z q. h r refl m z q) (ap (λ (w : Round). slice_index_or w.tops n None) (same_Some (record r { tops = slice_set r.tops server (Some top) }) x is) ∙ at)

  eviction_stays : (e : Eviction) (p : Packet) (t : Turn ControllerState) → EvictionRow config c e p t → t.state.round ≡ c.round
  eviction_stays e p t (PeekedLatest i tag num body w) = refl
  eviction_stays e p t _ = refl

  rule_stays : (p : Packet) (t : Turn ControllerState) → RuleRow config c p t → TopIn p → TopsAre P c.round → TopsAre P t.state.round
  rule_stays p t (Evicts e p2 t2 is r) k h = subst (TopsAre P) (sym (eviction_stays e p t r)) h
  rule_stays p t (Snaps job p2 t2 is r) k h = subst (TopsAre P) (sym (snapshot_leaves config c job p t r).round) h
  rule_stays p t (Recovering r p2 t2 is q) k h = recovery_stays r p t q k (subst (TopsAre P) is h)
  rule_stays p t _ k h = h

  tick_stays : (t : Turn ControllerState) → TickRow c t → TopsAre P c.round → TopsAre P t.state.round
  tick_stays t (WantDropped key keys i r w x) h = h
  tick_stays t _ h = h

  order_stays : (s : State) (o : Order) (t : Turn ControllerState) → OrderRow s c o t → TopsAre P c.round → TopsAre P t.state.round
  order_stays s o t (WantOrdered step key r) h = h
  order_stays s o t _ h = h

max_counted : (log : List LogLine) (a b : ℕ) → IsCounted log a → IsCounted log b → IsCounted log (max a b)
max_counted log a b (inl x) (inl y) = inl (omega (arith, x, y))
max_counted log a b (inl x) (inr y) = inr (record { at = y.at; op = y.op; own = y.own; numbered = y.numbered; above = let k = y.above in omega (arith, x, k) })
max_counted log a b (inr x) (inl y) = inr (record { at = x.at; op = x.op; own = x.own; numbered = x.numbered; above = let k = x.above in omega (arith, y, k) })
max_counted log a b (inr x) (inr y) = by (leb_tells a b)
  where
    by : ((nat_le a b ≡ true) × (a ≤ b)) ⊎ ((nat_le a b ≡ false) × (b < a)) → IsCounted log (max a b)
    by (inl p) = inr (record { at = y.at; op = y.op; own = y.own; numbered = y.numbered; above = let k = y.above in let q = p.1 in omega (arith, q, k) })
    by (inr p) = inr (record { at = x.at; op = x.op; own = x.own; numbered = x.numbered; above = let k = x.above in let q = p.1 in omega (arith, q, k) })

greatest_counted : (log : List LogLine) (tops : List (Option ℕ)) → ((n top : ℕ) → slice_index_or tops n None ≡ Some top → IsCounted log top) → IsCounted log (greatest_top tops)
greatest_counted log [] h = inl refl
greatest_counted log (None ∷ tops) h = greatest_counted log tops (λ n top e. h (suc n) top e)
greatest_counted log (Some top ∷ tops) h = max_counted log top (greatest_top tops) (h 0 top refl) (greatest_counted log tops (λ n top e. h (suc n) top e))

top_counted : (plan : PlanView) (log : List LogLine) (moment : ℕ) (rs : List Record) → ((r : Record) → Among r rs → IsWritten plan log moment r.key r.num r.body) → IsCounted log (top_of rs)
top_counted plan log moment [] h = inl refl
top_counted plan log moment (r ∷ rs) h = max_counted log r.num (top_of rs) (own r.num (h r (inl refl))) (top_counted plan log moment rs (λ x a. h x (inr a)))
  where
    own : (n : ℕ) → IsWritten plan log moment r.key n r.body → IsCounted log n
    own zero w = inl refl
    own (suc n) w = let k = w.some (omega arith) in inr (record { at = k.own.numbered_at; op = k.op; own = suc n; numbered = k.own.numbered; above = omega arith })

-- ---- the table

module _ (plan : PlanView) (past : Past) (s : State) (valid : IsPlan plan) (h : Holds plan past s) where
  log_stays : (e : Event) (t : State) → Step plan (keeping_of s e) s e t → (l : LogLine) → Among l s.log → Among l t.log
  log_stays e t (Recovers can) l a = among_append_left l s.log _ a
  log_stays e t _ l a = among_append_left l s.log _ a

  module _ (t : State) (still : (l : LogLine) → Among l s.log → Among l t.log) (routed : IsRouted plan t) where
    old_packet : (m : Message) → Among m s.bag → TopIsCounted t.log m.packet
    old_packet m a = top_more s.log t.log m.packet still (h.counters.packets m a)

    old_tops : TopsAre (IsCounted t.log) s.controller.round
    old_tops r is n top e = counted_more s.log t.log top still (h.counters.tops r is n top e)

    old_counter : s.running ≡ true → t.switch.counter ≡ s.switch.counter → IsCounted t.log t.switch.counter
    old_counter ran e = subst (IsCounted t.log) (sym e) (counted_more s.log t.log s.switch.counter still (h.counters.counter ran))

    no_top : (m : Message) → Among m t.bag → ((n : ℕ) → m.from ≡ Server n → ⊥) → TopIsCounted t.log m.packet
    no_top m a off = go m.packet (routed.messages m a).source
      where
        go : (p : Packet) → IsFrom p m.from → TopIsCounted t.log p
        go (TopIs round server top) e = absurd (off server e)
        go _ e = tt

    -- what a party other than a server sends is no top
    news_from : (rest : List Message) (from : Party) (outs : List Out) → ((n : ℕ) → from ≡ Server n → ⊥) → t.bag ≡ rest ++ messages_from from outs → ((m : Message) → Among m rest → Among m s.bag) → (m : Message) → Among m t.bag → TopIsCounted t.log m.packet
    news_from rest from outs off e rests m a = go (among_append m rest (messages_from from outs) (subst (λ w. Among m w) e a))
      where
        go : Among m rest ⊎ Among m (messages_from from outs) → TopIsCounted t.log m.packet
        go (inl b) = old_packet m (rests m b)
        go (inr b) =
            let p = among_map_from (λ (o : Out). message from o.to o.packet) m outs b in
            no_top m a (λ n q. off n (sym (ap (λ (w : Message). w.from) p.2) ∙ q))

    -- of a party other than a server, with the switch as it was
    sends_on : (rest : List Message) (from : Party) (outs : List Out) → ((n : ℕ) → from ≡ Server n → ⊥) → t.bag ≡ rest ++ messages_from from outs → ((m : Message) → Among m rest → Among m s.bag) → t.switch ≡ s.switch → t.running ≡ s.running
        → (TopsAre (IsCounted t.log) s.controller.round → TopsAre (IsCounted t.log) t.controller.round) → CountersAreDrawn t
    sends_on rest from outs off bag rests switch running tops = record {
      counter = λ runs. old_counter (sym running ∙ runs) (ap (λ (v : SwitchView). v.counter) switch);
      packets = news_from rest from outs off bag rests;
      tops = tops old_tops;
    }

  left : (i : ℕ) (m : Message) → Among m (remove s.bag i) → Among m s.bag
  left i m a = among_remove m s.bag i a

  top_in : (log : List LogLine) (config : Config) (c : ControllerState) (p : Packet) → TopIsCounted log p → TopIn (IsCounted log) config c p
  top_in log config c (TopIs number server top) k = k
  top_in log config c _ k = tt

  -- where keepers tell, a top is the greatest number of the server's records
  replied : (i : ℕ) (from : Party) (n : ℕ) (p : Packet) (reply : Option Packet) → slice_get s.bag i ≡ Some (message from (Server n) p) → (keeping_of s (Deliver i)).reply ≡ reply → ServerRow n p reply → (m : Message) → Among m (reply_message n reply) → TopIsCounted s.log m.packet
  replied i from n p reply at is (TopServed round top) m (inl e) =
      let told : Some (TopIs round n (top_of (records_at s n))) ≡ Some (TopIs round n top) = sym (ap (reply_to s) at) ∙ is in
      let same : top_of (records_at s n) ≡ top = cc in
      subst (λ (w : Message). TopIsCounted s.log w.packet) (sym e) (subst (IsCounted s.log) same (top_counted plan s.log s.steps (records_at s n) (servers_written plan past s valid h n)))
  replied i from n p reply at is (TopServed round top) m (inr a) = absurd a
  replied i from n p reply at is (ServerIgnores p2 x) m a = absurd a
  replied i from n p reply at is _ m (inl e) = subst (λ (w : Message). TopIsCounted s.log w.packet) (sym e) tt
  replied i from n p reply at is _ m (inr a) = absurd a

  counters_row : (e : Event) (t : State) → IsRouted plan t → Step plan (keeping_of s e) s e t → ((l : LogLine) → Among l s.log → Among l t.log) → CountersAreDrawn t
  counters_row e t routed (Sends c op rest w l) still = sends_on t still routed s.bag (Client c) (to_party Switch (request c op (line_of plan.ops op)) ∷ []) (λ n q. cc) refl (λ m a. a) refl refl (λ k. k)
  counters_row e t routed (ClientTakes i from c p u at r) still = sends_on t still routed (remove s.bag i) (Client c) u.out (λ n q. cc) refl (left i) refl refl (λ k. k)
  counters_row e t routed (Passes i from p q at runs r) still = record {
    counter = λ on. go (pass_counts s.switch p q r);
    packets = news_from t still routed (remove s.bag i) Switch (passed_out q) (λ n k. cc) refl (left i);
    tops = old_tops t still routed;
  }
    where
      go : (q.view.counter ≡ s.switch.counter) ⊎ ((op : ℕ) × Among (Numbered op q.view.counter) (pass_notes p q)) → IsCounted (noted s (pass_notes p q)) q.view.counter
      go (inl x) = old_counter t still routed runs x
      go (inr x) = inr (record { at = now s; op = x.0; own = q.view.counter; numbered = note_member s t (pass_notes p q) refl _ x.1; above = omega arith })
  counters_row e t routed (Serves i from n p reply at is r) still = record {
    counter = λ on. old_counter t still routed on refl;
    packets = λ m a. go m (among_append m (remove s.bag i) (reply_message n reply) a);
    tops = old_tops t still routed;
  }
    where
      go : (m : Message) → Among m (remove s.bag i) ⊎ Among m (reply_message n reply) → TopIsCounted (noted s []) m.packet
      go m (inl a) = old_packet t still routed m (left i m a)
      go m (inr a) = top_more s.log (noted s []) m.packet still (replied i from n p reply at is r m a)
  counters_row e t routed (Rules i from p u at r) still = sends_on t still routed (remove s.bag i) Controller u.out (λ n q. cc) refl (left i) refl refl
      (λ k. rule_stays (IsCounted t.log) plan.config s.controller p u r (top_in t.log plan.config s.controller p (old_packet t still routed _ (among_at _ s.bag i at))) k)
  counters_row e t routed (Ticks u is r) still = sends_on t still routed s.bag Controller u.out (λ n q. cc) refl (λ m a. a) refl refl (λ k. tick_stays (IsCounted t.log) plan.config s.controller u r k)
  counters_row e t routed (Orders o u at can r) still = sends_on t still routed s.bag Controller u.out (λ n q. cc) refl (λ m a. a) refl refl (λ k. order_stays (IsCounted t.log) plan.config s.controller s o u r k)
  counters_row e t routed (Recovers can) still = sends_on t still routed s.bag Controller (start_recovery plan.config s.controller).out (λ n q. cc) refl (λ m a. a) refl refl
      (λ k r is n top e. absurd (let e2 = ap (λ (y : Round). slice_index_or y.tops n None) (same_Some _ r is) ∙ e in let none = get_or-replicate_default plan.config.servers n None in let clash : None ≡ Some top = sym none ∙ e2 in cc))
  counters_row e t routed (Restarts counter is) still =
      let can : CanRestart s = can_restart_is s (ap is_some is) in
      let counter_is : greatest_top can.round.tops ≡ counter = can.settled.counter ∙ same_Some can.counter counter (sym can.says ∙ is) in
      record {
        counter = λ runs. subst (IsCounted t.log) counter_is (counted_more s.log t.log (greatest_top can.round.tops) still (greatest_counted s.log can.round.tops (λ n top q. h.counters.tops can.round can.is n top q)));
        packets = old_packet t still routed;
        tops = λ r x. absurd cc;
      }
  counters_row e t routed (Stops o at stop runs) still = record { counter = λ on. absurd cc; packets = old_packet t still routed; tops = old_tops t still routed }

  pub counters_stay : (e : Event) → is_enabled plan s e ≡ true → CountersAreDrawn (happens plan s e)
  counters_stay e can =
      let row = steps_are_rows plan (keeping_of s e) s e can (answers_in_kind s e) in
      counters_row e (happens plan s e) (flight_row plan (keeping_of s e) s e (happens plan s e) h.flight row).routed row (log_stays e (happens plan s e) row)

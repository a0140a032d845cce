-- Packets of operations, of admissions and of snapshots leave evictions as they are.
use Rattle.far_invariants.specs.Covers.{look}
use Rattle.far_invariants.proofs.Noted.{member}
use Rattle.std.proofs.Common.{◌≡◌, ℕ, ◌<◌, ◌≤◌, ◌⊎◌, inl, inr, Bool, true, false, cond, List, [], ◌∷◌, ◌++◌, refl, sym, ap, ◌∙◌, subst, arith}
use Rattle.std.specs.Prelude.{Option, Some, None, slice_get, get_or, set}
use Rattle.std.specs.List.{remove, count_by}
use Rattle.std.proofs.lemmas.List.{set-get_or}
use Rattle.far_base.specs.PlanView.{PlanView}
use Rattle.far_base.specs.declared.packet.Message.{Message}
use Rattle.far_base.specs.declared.packet.Out.{Out}
use Rattle.far_base.specs.declared.packet.Packet.{Packet}
use Rattle.far_base.specs.declared.packet.Packet.TheVariants.{GetReq, WriteReq, GetFwd, WriteFwd, GetRep, WriteRep, GetAns, WriteAns, Hot, SnapSame, SnapPart}
use Rattle.far_base.specs.declared.party.Party.{Party}
use Rattle.far_base.specs.declared.party.Party.TheVariants.{Client, Switch, Server, Controller}
use Rattle.far_base.specs.declared.plan.OpLine.{OpLine}
use Rattle.far_base.specs.declared.record.Record.{Record}
use Rattle.far_model.specs.Clients.{ClientState, line_of, request, client_takes}
use Rattle.far_model.specs.Replies.{RepliesAt}
use Rattle.far_model.specs.Events.{Keeping, handled, sends, next_sent, switch_turn, server_turn, client_turn}
use Rattle.far_model.specs.Evictions.{state_at}
use Rattle.far_invariants.specs.Flights.{subject, is_operation, IsRouted}
use Rattle.far_model.specs.KeyedRecords.{found}
use Rattle.far_model.specs.Log.{is_read}
use Rattle.far_model.specs.Members.{Among}
use Rattle.far_model.specs.Parties.{Turn, messages_from}
use Rattle.far_model.specs.Pass.{Passed, sent_to, passed_out, pass_notes, outs_of, read_passes, write_passes, reply_passes, numbered, told_hot, grows_hot, hot_cell, changes, part_left, part_of, with_slot, absorbing, raised, takes_reply, is_as_before}
use Rattle.far_model.specs.Servers.{record_of, stored}
use Rattle.far_model.specs.State.{State, client_at, records_at}
use Rattle.far_model.specs.View.{SwitchView, slot_at, entry_place, is_taken, server_of, held_record}
use Rattle.far_model.proofs.Members.{among_append, among_at, among_remove}
use Rattle.flight_laws.proofs.Lists.{by_test}
use Rattle.record_laws.proofs.Moves.{PassSits, read_sits, write_sits, reply_sits}
use Rattle.record_laws.proofs.Seats.{SameOwner, counted, count_removed, count_append, count_none}
use Rattle.far_invariants.specs.Evictions.{Content, is_eviction_packet, is_eviction_of, EvictionPacketIs, EvictionsAre}
use Rattle.eviction_laws.proofs.Onward.{LeavesEvictions, eviction_any, no_eviction_of, evictions_last}
use Rattle.far_invariants.specs.Evictions.{Onward}
use Rattle.eviction_laws.proofs.Storing.{more_at}

-- the bag of a step that takes and sends no packet of evictions
pub record SameEvictionBag (s t : State) : Type 0 where
  pub news : (m : Message) → Among m t.bag → Among m s.bag ⊎ (is_eviction_packet m.packet ≡ false)
  pub count : (p : Packet → Bool) → ((q : Packet) → is_eviction_packet q ≡ false → p q ≡ false) → count_by (λ (m : Message). p m.packet) t.bag ≡ count_by (λ (m : Message). p m.packet) s.bag

pub evictions_taken : (s t : State) (i : ℕ) (m : Message) (new : List Message) → slice_get s.bag i ≡ Some m → is_eviction_packet m.packet ≡ false → t.bag ≡ remove s.bag i ++ new
    → ((n : Message) → Among n new → is_eviction_packet n.packet ≡ false) → SameEvictionBag s t
evictions_taken s t i m new at off e news = record {
  news = λ n a. go n (among_append n (remove s.bag i) new (subst (λ w. Among n w) e a));
  count = λ p none.
      let first = count_removed (λ (m : Message). p m.packet) s.bag i m at in
      let gone : counted (λ (m : Message). p m.packet) m ≡ 0 = ap (λ b. cond {A = ℕ} b 1 0) (none m.packet off) in
      let more = count_append (λ (m : Message). p m.packet) (remove s.bag i) new in
      let nothing = count_none (λ (m : Message). p m.packet) new (λ n a. none n.packet (news n a)) in
      ap (λ l. count_by (λ (m : Message). p m.packet) l) e ∙ omega (arith, first, gone, more, nothing);
}
  where
    go : (n : Message) → Among n (remove s.bag i) ⊎ Among n new → Among n s.bag ⊎ (is_eviction_packet n.packet ≡ false)
    go n (inl a) = inl (among_remove n s.bag i a)
    go n (inr a) = inr (news n a)

pub evictions_grown : (s t : State) (new : List Message) → t.bag ≡ s.bag ++ new → ((n : Message) → Among n new → is_eviction_packet n.packet ≡ false) → SameEvictionBag s t
evictions_grown s t new e news = record {
  news = λ n a. go n (among_append n s.bag new (subst (λ w. Among n w) e a));
  count = λ p none.
      let more = count_append (λ (m : Message). p m.packet) s.bag new in
      let nothing = count_none (λ (m : Message). p m.packet) new (λ n a. none n.packet (news n a)) in
      ap (λ l. count_by (λ (m : Message). p m.packet) l) e ∙ omega (arith, more, nothing);
}
  where
    go : (n : Message) → Among n s.bag ⊎ Among n new → Among n s.bag ⊎ (is_eviction_packet n.packet ≡ false)
    go n (inl a) = inl a
    go n (inr a) = inr (news n a)

-- a step in which the controller's slots and eviction stay
pub record Passes (plan : PlanView) (s t : State) : Type 0 where
  pub onward : Onward plan s t
  pub running : t.running ≡ true → s.running ≡ true
  pub eviction : t.controller.eviction ≡ s.controller.eviction
  pub epoch : t.controller.epoch ≡ s.controller.epoch
  pub round : t.controller.round ≡ s.controller.round
  pub jobs : s.controller.next_job ≤ t.controller.next_job
  pub states : t.controller.slots ≡ s.controller.slots
  pub owners : (i : ℕ) → SameOwner (slot_at t.switch i) (slot_at s.switch i)
  pub bag : SameEvictionBag s t

pub passes_leave : (plan : PlanView) {c : Content} (s t : State) → Passes plan s t → LeavesEvictions plan c s t
passes_leave plan {c} s t p = record {
  onward = p.onward;
  running = p.running;
  eviction = p.eviction;
  epoch = p.epoch;
  round = p.round;
  jobs = p.jobs;
  evicted = λ j key tag e. ap (λ l. state_at l j) p.states ∙ e;
  no_more = λ j key tag e. ap (λ l. state_at l j) (sym p.states) ∙ e;
  owners = λ j key tag e. inl (p.owners j);
  news = λ m a. go m (p.bag.news m a);
  count = p.bag.count (λ q. is_eviction_of s.controller.epoch s.controller.eviction q) (no_eviction_of s.controller.epoch s.controller.eviction);
}
  where
    go : (m : Message) → Among m s.bag ⊎ (is_eviction_packet m.packet ≡ false) → Among m s.bag ⊎ EvictionPacketIs plan c t m.packet
    go m (inl a) = inl a
    go m (inr off) = inr (eviction_any plan c t m.packet off)

-- ---- packets of operations

abbrev pub IsNoEviction : Option Out → Type 0
IsNoEviction None = Unit {0}
IsNoEviction (Some o) = is_eviction_packet o.packet ≡ false

pub record PassNo (p : Passed) : Type 0 where
  pub first : IsNoEviction p.first
  pub second : IsNoEviction p.second

outs_no : (first second : Option Out) → IsNoEviction first → IsNoEviction second → (m : Message) → Among m (messages_from Switch (outs_of first ++ outs_of second)) → is_eviction_packet m.packet ≡ false
outs_no None None a b m h = absurd h
outs_no None (Some y) a b m (inl e) = ap (λ (w : Message). is_eviction_packet w.packet) e ∙ b
outs_no None (Some y) a b m (inr h) = absurd h
outs_no (Some x) None a b m (inl e) = ap (λ (w : Message). is_eviction_packet w.packet) e ∙ a
outs_no (Some x) None a b m (inr h) = absurd h
outs_no (Some x) (Some y) a b m (inl e) = ap (λ (w : Message). is_eviction_packet w.packet) e ∙ a
outs_no (Some x) (Some y) a b m (inr (inl e)) = ap (λ (w : Message). is_eviction_packet w.packet) e ∙ b
outs_no (Some x) (Some y) a b m (inr (inr h)) = absurd h

hot_no : (key : List ℕ) (v : SwitchView) → IsNoEviction (told_hot key v)
hot_no key v = by_test IsNoEviction (grows_hot v.config.hot (hot_cell key v)) (sent_to Controller (Hot key)) None refl tt

part_no : (v : SwitchView) (i : ℕ) → IsNoEviction (part_left v i)
part_no v i = by_test IsNoEviction (is_taken v i) None (part_of v i) tt (by_test (λ p. IsNoEviction (sent_to Controller p)) (is_as_before v i) (SnapSame v.snap i) (SnapPart v.snap i (held_record (slot_at v i))) refl refl)

read_no : (v : SwitchView) (caller op : ℕ) (key : List ℕ) (e : Option ℕ) → PassNo (read_passes v caller op key e)
read_no v caller op key None = record { first = refl; second = hot_no key v }
read_no v caller op key (Some i) = record {
  first = by_test IsNoEviction (slot_at v i).latest (sent_to (Client caller) (GetAns caller op key (slot_at v i).num (slot_at v i).body true)) (sent_to (Server (server_of v.config key)) (GetFwd caller op key (slot_at v i).tag)) refl refl;
  second = tt;
}

write_no : (v : SwitchView) (caller op : ℕ) (key : List ℕ) (body : Option (List ℕ)) (e : Option ℕ) → PassNo (write_passes v caller op key body e)
write_no v caller op key body None = record { first = refl; second = hot_no key v }
write_no v caller op key body (Some i) = record { first = refl; second = part_no v i }

reply_no : (v : SwitchView) (tag : Option ℕ) (num : ℕ) (body : Option (List ℕ)) (out : Option Out) (e : Option ℕ) → IsNoEviction out → PassNo (reply_passes v tag num body out e)
reply_no v tag num body out None none = record { first = none; second = tt }
reply_no v tag num body out (Some i) none = by_test PassNo (takes_reply tag num (slot_at v i)) (changes v i (absorbing num body (slot_at v i)) out)
    (record { view = with_slot v i (raised num (slot_at v i)); first = out; second = None })
    (record { first = none; second = part_no v i })
    (record { first = none; second = tt })

pub one_no : (m : Message) → is_eviction_packet m.packet ≡ false → (n : Message) → Among n (m ∷ []) → is_eviction_packet n.packet ≡ false
one_no m off n (inl e) = ap (λ (w : Message). is_eviction_packet w.packet) e ∙ off
one_no m off n (inr a) = absurd a

module _ (plan : PlanView) {c : Content} (s : State) (some_server : 0 < plan.config.servers) (h : EvictionsAre plan c s) (routed : IsRouted plan s) (i : ℕ) (k : Keeping) where
  at_switch : (m : Message) (p : Packet) (passed : Passed) → slice_get s.bag i ≡ Some m → is_eviction_packet m.packet ≡ false → PassSits s.switch passed → PassNo passed → EvictionsAre plan c (switch_turn s (remove s.bag i) p passed)
  at_switch m p passed at off sits clear =
      let t : State = switch_turn s (remove s.bag i) p passed in
      evictions_last plan s t h (passes_leave plan s t (record {
        onward = record { still = member s t (pass_notes p passed) refl; past = omega arith; more = λ key. omega arith };
        running = λ e. e;
        eviction = refl;
        epoch = refl;
        round = refl;
        jobs = omega arith;
        states = refl;
        owners = sits.slots.owners;
        bag = evictions_taken s t i m (messages_from Switch (passed_out passed)) at off refl (outs_no passed.first passed.second clear.first clear.second);
      }))

  at_server : (n : ℕ) (m : Message) (p q : Packet) → slice_get s.bag i ≡ Some m → is_eviction_packet m.packet ≡ false → is_eviction_packet q ≡ false
      → ((key : List ℕ) → (look plan s key).num ≤ (look plan (server_turn s n (remove s.bag i) p (Some q)) key).num) → EvictionsAre plan c (server_turn s n (remove s.bag i) p (Some q))
  at_server n m p q at off none more =
      let t : State = server_turn s n (remove s.bag i) p (Some q) in
      evictions_last plan s t h (passes_leave plan s t (record {
        onward = record { still = member s t [] refl; past = omega arith; more = more };
        running = λ e. e;
        eviction = refl;
        epoch = refl;
        round = refl;
        jobs = omega arith;
        states = refl;
        owners = λ j. record { valid = refl; key = refl; tag = refl };
        bag = evictions_taken s t i m _ at off refl (one_no _ none);
      }))

  at_client : (client : ℕ) (m : Message) (turn : Turn ClientState) → slice_get s.bag i ≡ Some m → is_eviction_packet m.packet ≡ false → turn.out ≡ [] → EvictionsAre plan c (client_turn s client (remove s.bag i) turn)
  at_client client m turn at off none =
      let t : State = client_turn s client (remove s.bag i) turn in
      evictions_last plan s t h (passes_leave plan s t (record {
        onward = record { still = member s t turn.notes refl; past = omega arith; more = λ key. omega arith };
        running = λ e. e;
        eviction = refl;
        epoch = refl;
        round = refl;
        jobs = omega arith;
        states = refl;
        owners = λ j. record { valid = refl; key = refl; tag = refl };
        bag = evictions_taken s t i m [] at off (ap (λ l. remove s.bag i ++ messages_from (Client client) l) none) (λ n a. absurd a);
      }))

  operation_leaves : (from to : Party) (p : Packet) → slice_get s.bag i ≡ Some (record { from = from; to = to; packet = p }) → is_operation (subject p) ≡ true → RepliesAt to p k.reply
      → EvictionsAre plan c (handled plan k s (remove s.bag i) to p)
  operation_leaves from to (GetReq caller op key) at is answers =
      subst (λ w. EvictionsAre plan c (handled plan k s (remove s.bag i) w (GetReq caller op key))) (sym (routed.messages _ (among_at _ s.bag i at)).target)
      (at_switch _ (GetReq caller op key) _ at refl (read_sits s.switch caller op key (entry_place key s.switch)) (read_no s.switch caller op key (entry_place key s.switch)))
  operation_leaves from to (WriteReq caller op key body) at is answers =
      subst (λ w. EvictionsAre plan c (handled plan k s (remove s.bag i) w (WriteReq caller op key body))) (sym (routed.messages _ (among_at _ s.bag i at)).target)
      (at_switch _ (WriteReq caller op key body) _ at refl (write_sits s.switch caller op key body (entry_place key s.switch)) (write_no (numbered s.switch) caller op key body (entry_place key s.switch)))
  operation_leaves from to (GetRep caller op key tag num body) at is answers =
      subst (λ w. EvictionsAre plan c (handled plan k s (remove s.bag i) w (GetRep caller op key tag num body))) (sym (routed.messages _ (among_at _ s.bag i at)).target)
      (at_switch _ (GetRep caller op key tag num body) _ at refl (reply_sits s.switch (Some tag) num body (sent_to (Client caller) (GetAns caller op key num body false)) (entry_place key s.switch) refl)
      (reply_no s.switch (Some tag) num body (sent_to (Client caller) (GetAns caller op key num body false)) (entry_place key s.switch) refl))
  operation_leaves from to (WriteRep caller op key num body) at is answers =
      subst (λ w. EvictionsAre plan c (handled plan k s (remove s.bag i) w (WriteRep caller op key num body))) (sym (routed.messages _ (among_at _ s.bag i at)).target)
      (at_switch _ (WriteRep caller op key num body) _ at refl (reply_sits s.switch None num body (sent_to (Client caller) (WriteAns caller op key num false)) (entry_place key s.switch) refl)
      (reply_no s.switch None num body (sent_to (Client caller) (WriteAns caller op key num false)) (entry_place key s.switch) refl))
  operation_leaves from to (GetFwd caller op key tag) at is answers =
      let goes = (routed.messages _ (among_at _ s.bag i at)).target in
      let reply = subst (λ w. RepliesAt w (GetFwd caller op key tag) k.reply) goes answers in
      subst (λ w. EvictionsAre plan c (handled plan k s (remove s.bag i) w (GetFwd caller op key tag))) (sym goes)
      (subst (λ o. EvictionsAre plan c (server_turn s (server_of plan.config key) (remove s.bag i) (GetFwd caller op key tag) o)) (sym reply.is)
      (at_server (server_of plan.config key) _ (GetFwd caller op key tag) (GetRep caller op key tag reply.num reply.body) at refl refl (λ other.
      let same : set s.servers (server_of plan.config key) (records_at s (server_of plan.config key)) ≡ s.servers = set-get_or s.servers (server_of plan.config key) [] in
      let n = ap (λ (l : List (List Record)). (found (get_or l (server_of plan.config other) []) other).num) same in omega (arith, n))))
  operation_leaves from to (WriteFwd caller op key num body) at is answers =
      let goes = (routed.messages _ (among_at _ s.bag i at)).target in
      let reply = subst (λ w. RepliesAt w (WriteFwd caller op key num body) k.reply) goes answers in
      subst (λ w. EvictionsAre plan c (handled plan k s (remove s.bag i) w (WriteFwd caller op key num body))) (sym goes)
      (subst (λ o. EvictionsAre plan c (server_turn s (server_of plan.config key) (remove s.bag i) (WriteFwd caller op key num body) o)) (sym reply.is)
      (at_server (server_of plan.config key) _ (WriteFwd caller op key num body) (WriteRep caller op key reply.num reply.body) at refl refl
      (λ other. more_at plan s some_server routed.servers (record_of key num body) (server_turn s (server_of plan.config key) (remove s.bag i) (WriteFwd caller op key num body) (Some (WriteRep caller op key reply.num reply.body))) refl other)))
  operation_leaves from to (GetAns caller op key num body near) at is answers =
      subst (λ w. EvictionsAre plan c (handled plan k s (remove s.bag i) w (GetAns caller op key num body near))) (sym (routed.messages _ (among_at _ s.bag i at)).target)
      (at_client caller _ (client_takes plan.ops caller (client_at s caller) (GetAns caller op key num body near)) at refl refl)
  operation_leaves from to (WriteAns caller op key num stored) at is answers =
      subst (λ w. EvictionsAre plan c (handled plan k s (remove s.bag i) w (WriteAns caller op key num stored))) (sym (routed.messages _ (among_at _ s.bag i at)).target)
      (at_client caller _ (client_takes plan.ops caller (client_at s caller) (WriteAns caller op key num stored)) at refl refl)
  operation_leaves from to _ at is answers = absurd cc

  pub moved_leaves : (m : Message) → slice_get s.bag i ≡ Some m → is_operation (subject m.packet) ≡ true → RepliesAt m.to m.packet k.reply → EvictionsAre plan c (handled plan k s (remove s.bag i) m.to m.packet)
  moved_leaves m at is answers = operation_leaves m.from m.to m.packet at is answers

request_no : (c op : ℕ) (line : OpLine) → is_eviction_packet (request c op line) ≡ false
request_no c op line = by_test (λ q. is_eviction_packet q ≡ false) (is_read line.op) (GetReq c op line.key) (WriteReq c op line.key line.body) refl refl

pub send_leaves : (plan : PlanView) {c : Content} (s : State) → EvictionsAre plan c s → (client : ℕ) → EvictionsAre plan c (sends plan s client)
send_leaves plan s h client = evictions_last plan s (sends plan s client) h (passes_leave plan s (sends plan s client) (record {
  onward = record { still = member s (sends plan s client) (next_sent plan.ops client (client_at s client) (client_at s client).left).notes refl; past = omega arith; more = λ key. omega arith };
  running = λ e. e;
  eviction = refl;
  epoch = refl;
  round = refl;
  jobs = omega arith;
  states = refl;
  owners = λ j. record { valid = refl; key = refl; tag = refl };
  bag = evictions_grown s (sends plan s client) (messages_from (Client client) (next_sent plan.ops client (client_at s client) (client_at s client).left).out) refl (go (client_at s client).left);
}))
  where
    go : (left : List ℕ) → (n : Message) → Among n (messages_from (Client client) (next_sent plan.ops client (client_at s client) left).out) → is_eviction_packet n.packet ≡ false
    go [] n a = absurd a
    go (op ∷ left) n (inl e) = ap (λ (w : Message). is_eviction_packet w.packet) e ∙ request_no client op (line_of plan.ops op)
    go (op ∷ left) n (inr a) = absurd a

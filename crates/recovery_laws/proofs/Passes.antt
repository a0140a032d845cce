-- Passes of the switch: all are calm but that of a write, which gets a number and may be absorbed.
use Rattle.far_invariants.specs.Numbers.{IsWritten, NumbersDiffer}
use Rattle.far_invariants.specs.Covers.{IsAbsorbed}
use Rattle.far_invariants.proofs.Noted.{IsNote, member, note_member, log_cases}
use Rattle.std.proofs.Common.{◌≡◌, ℕ, zero, suc, ◌+◌, ◌≤◌, ◌⊎◌, inl, inr, Bool, true, false, List, [], ◌∷◌, ◌++◌, refl, sym, ap, ◌∙◌, subst, arith}
use Rattle.std.specs.Prelude.{Option, Some, None, slice_get, if◌then◌else◌, ◌&&◌, not, nat_eq}
use Rattle.std.specs.List.{remove}
use Rattle.far_base.specs.PlanView.{PlanView}
use Rattle.far_base.specs.declared.log.LogEntry.{LogEntry}
use Rattle.far_base.specs.declared.log.LogEntry.TheVariants.{Numbered, Emitted}
use Rattle.far_base.specs.declared.log.LogLine.{LogLine}
use Rattle.far_base.specs.declared.packet.Message.{Message}
use Rattle.far_base.specs.declared.packet.Out.{Out}
use Rattle.far_base.specs.declared.packet.Packet.{Packet}
use Rattle.far_base.specs.declared.packet.Packet.TheVariants.{GetReq, WriteReq, GetFwd, WriteFwd, GetRep, WriteRep, GetAns, WriteAns, Hot, Admit, AdmitAck, Peek, PeekAns, Remove, RemoveAns, SnapStart, SnapRead, SnapFrom, SnapSame, SnapPart, Store, Stored, Ask, Told, TopAsk, TopIs}
use Rattle.far_base.specs.declared.party.Party.TheVariants.{Client, Switch, Server, Controller}
use Rattle.far_base.specs.declared.record.Record.{Record}
use Rattle.far_model.specs.Clients.{line_of}
use Rattle.far_model.specs.Controller.{ControllerState}
use Rattle.far_model.specs.Events.{switch_turn}
use Rattle.far_model.specs.Members.{Among, Each}
use Rattle.far_model.specs.Parties.{messages_from}
use Rattle.far_model.specs.Pass.{Passed, pass, passed_out, outs_of, dropped, sent_to, told_hot, grows_hot, hot_cell, part_of, is_as_before, part_left, with_slot, with_taken, changed_view, changes, read_passes, absorbing, write_passes, numbered, takes_reply, raised, reply_passes, is_slot_there, admits, admitted, is_under, peeks, may_go, removed_answer, removes, starts_snapshot, reads_part, pass_notes, numbered_note, emitted_note}
use Rattle.far_model.specs.State.{State, client_at, line_at, now, noted}
use Rattle.far_model.specs.View.{SlotView, SwitchView, slot_at, entry_place, server_of, is_taken, empty_slot, shown_body, bind_key, held_record}
use Rattle.far_model.proofs.Members.{among_at, among_append_right}
use Rattle.flight_laws.proofs.Lists.{by_test}
use Rattle.far_invariants.specs.StopNeeds.{IsAskedWell, Needs, IsGenuine}
use Rattle.far_invariants.specs.Stops.{Outlives, IsNewest, IsDrawnJob, Stops, IsKeptAnswer, Carried}
use Rattle.recovery_laws.proofs.RoundSteps.{is_round_packet}
use Rattle.recovery_laws.proofs.Steps.{Its, leaves_taken, Step, NumberArrives, IsQuiet, IsCalm, IsLight, IsUnkept, light_gone, unkept_newest, same_newest, same_preserved, same_above, unkept_answer, written_above}

abbrev pub OutIs : Out → Type 0
OutIs o = IsUnkept o.packet × (is_round_packet o.packet ≡ false)

abbrev pub OutOrNone : Option Out → Type 0
OutOrNone None = Unit {0}
OutOrNone (Some o) = OutIs o

pub drawn_any : (c : ControllerState) (p : Packet) → is_round_packet p ≡ false → IsDrawnJob c p
drawn_any c (Store job item) h = absurd cc
drawn_any c (Stored job) h = absurd cc
drawn_any c (Ask round) h = absurd cc
drawn_any c (Told round caller total item) h = absurd cc
drawn_any c (TopAsk round) h = absurd cc
drawn_any c (TopIs round server top) h = absurd cc
drawn_any c _ h = tt

pub carried_any : (P : Record → Type 0) (p : Packet) → is_round_packet p ≡ false → Carried P p
carried_any P (Store job item) h = absurd cc
carried_any P (Told number caller total item) h = absurd cc
carried_any P _ h = tt

outs_are : (first second : Option Out) → OutOrNone first → OutOrNone second → (m : Message) → Among m (messages_from Switch (outs_of first ++ outs_of second)) → IsUnkept m.packet × (is_round_packet m.packet ≡ false)
outs_are None None a b m h = absurd h
outs_are None (Some y) a b m (inl e) = subst (λ (w : Message). IsUnkept w.packet × (is_round_packet w.packet ≡ false)) (sym e) b
outs_are None (Some y) a b m (inr h) = absurd h
outs_are (Some x) None a b m (inl e) = subst (λ (w : Message). IsUnkept w.packet × (is_round_packet w.packet ≡ false)) (sym e) a
outs_are (Some x) None a b m (inr h) = absurd h
outs_are (Some x) (Some y) a b m (inl e) = subst (λ (w : Message). IsUnkept w.packet × (is_round_packet w.packet ≡ false)) (sym e) a
outs_are (Some x) (Some y) a b m (inr (inl e)) = subst (λ (w : Message). IsUnkept w.packet × (is_round_packet w.packet ≡ false)) (sym e) b
outs_are (Some x) (Some y) a b m (inr (inr h)) = absurd h

pub record IsCalmPass (log : List LogLine) (v : SwitchView) (packet : Packet) (p : Passed) : Type 0 where
  pub counter : v.counter ≤ p.view.counter
  pub first : OutOrNone p.first
  pub second : OutOrNone p.second
  pub notes : Each (IsQuiet log) (pass_notes packet p)

pub pass_calm : (plan : PlanView) (kept : List Record) (s : State) (i : ℕ) (x : Message) (packet : Packet) (p : Passed) → slice_get s.bag i ≡ Some x → IsLight x.packet → s.running ≡ true → Stops plan kept s → IsCalmPass s.log s.switch packet p
    → IsCalm plan (Its x) (pass_notes packet p) s (switch_turn s (remove s.bag i) packet p) (remove s.bag i) (messages_from Switch (passed_out p))
pass_calm plan kept s i x packet p at light runs h c = record {
  leaves = leaves_taken s i x at;
  bag = refl;
  gone = light_gone plan s (switch_turn s (remove s.bag i) packet p) x light;
  new_is = λ m a. let k = outs_are p.first p.second c.first c.second m a in (k.0, drawn_any s.controller m.packet k.1);
  new_carries = λ m a. carried_any (IsGenuine plan s) m.packet (outs_are p.first p.second c.first c.second m a).1;
  log = refl;
  notes_are = c.notes;
  running = λ r. (runs, c.counter);
  more = λ key. omega arith;
  servers = h.servers;
  preserved = λ d. refl;
  released = λ d. refl;
  last = refl;
  steps = omega arith;
  jobs = omega arith;
  rounds = omega arith;
}

hot_is : (key : List ℕ) (v : SwitchView) → OutOrNone (told_hot key v)
hot_is key v = by_test OutOrNone (grows_hot v.config.hot (hot_cell key v)) (sent_to Controller (Hot key)) None (tt, refl) tt

part_out : (v : SwitchView) (i : ℕ) → OutOrNone (part_of v i)
part_out v i = by_test (λ p. OutOrNone (sent_to Controller p)) (is_as_before v i) (SnapSame v.snap i) (SnapPart v.snap i (held_record (slot_at v i))) (tt, refl) (tt, refl)

part_is : (v : SwitchView) (i : ℕ) → OutOrNone (part_left v i)
part_is v i = by_test OutOrNone (is_taken v i) None (part_of v i) tt (part_out v i)

changed_counter : (v : SwitchView) (i : ℕ) (slot : SlotView) → (changed_view v i slot).counter ≡ v.counter
changed_counter v i slot = by_test (λ (w : SwitchView). w.counter ≡ v.counter) (is_taken v i) (with_slot v i slot) (with_taken (with_slot v i slot) i (held_record (slot_at v i))) refl refl

module _ (log : List LogLine) (v : SwitchView) where
  drop_calm : (packet : Packet) → numbered_note v packet ≡ [] → IsCalmPass log v packet (dropped v)
  drop_calm packet e = record { counter = omega arith; first = tt; second = tt; notes = subst (λ l. Each (IsQuiet log) (l ++ [])) (sym e) tt }

  read_calm : (caller op : ℕ) (key : List ℕ) → ((at num : ℕ) → Among (line_at at (Numbered op num)) log → ⊥) → (e : Option ℕ) → IsCalmPass log v (GetReq caller op key) (read_passes v caller op key e)
  read_calm caller op key none None = record { counter = omega arith; first = (tt, refl); second = hot_is key v; notes = tt }
  read_calm caller op key none (Some i) = by_test (λ f. IsCalmPass log v (GetReq caller op key) (record { view = v; first = f; second = None })) (slot_at v i).latest
      (sent_to (Client caller) (GetAns caller op key (slot_at v i).num (slot_at v i).body true)) (sent_to (Server (server_of v.config key)) (GetFwd caller op key (slot_at v i).tag))
      (record { counter = omega arith; first = (tt, refl); second = tt; notes = (inr none, tt) })
      (record { counter = omega arith; first = (tt, refl); second = tt; notes = tt })

  reply_calm : (packet : Packet) (tag : Option ℕ) (num : ℕ) (body : Option (List ℕ)) (o : Out) (e : Option ℕ) → ((w : SwitchView) → numbered_note w packet ≡ []) → OutIs o → Each (IsQuiet log) (emitted_note o.packet) → IsCalmPass log v packet (reply_passes v tag num body (Some o) e)
  reply_calm packet tag num body o None unnumbered out quiet = record { counter = omega arith; first = out; second = tt; notes = subst (λ l. Each (IsQuiet log) (l ++ emitted_note o.packet)) (sym (unnumbered v)) quiet }
  reply_calm packet tag num body o (Some i) unnumbered out quiet = by_test (IsCalmPass log v packet) (takes_reply tag num (slot_at v i)) (changes v i (absorbing num body (slot_at v i)) (Some o))
      (record { view = with_slot v i (raised num (slot_at v i)); first = Some o; second = None })
      (record { counter = let e = changed_counter v i (absorbing num body (slot_at v i)) in omega (arith, e); first = out; second = part_is v i; notes = subst (λ l. Each (IsQuiet log) (l ++ emitted_note o.packet)) (sym (unnumbered (changed_view v i (absorbing num body (slot_at v i))))) quiet })
      (record { counter = omega arith; first = out; second = tt; notes = subst (λ l. Each (IsQuiet log) (l ++ emitted_note o.packet)) (sym (unnumbered (with_slot v i (raised num (slot_at v i))))) quiet })

  admit_calm : (epoch i : ℕ) (key : List ℕ) (tag : ℕ) → IsCalmPass log v (Admit epoch i key tag) (pass v (Admit epoch i key tag))
  admit_calm epoch i key tag = by_test (IsCalmPass log v (Admit epoch i key tag)) (is_slot_there v epoch i) (admits v i key tag) (dropped v)
      (by_test (λ f. IsCalmPass log v (Admit epoch i key tag) (record { view = with_slot (record v { bound = bind_key key i v.bound }) i (admitted key tag (slot_at v i)); first = f; second = None })) (slot_at v i).valid None (sent_to Controller (AdmitAck i tag))
      (record { counter = omega arith; first = tt; second = tt; notes = tt })
      (record { counter = omega arith; first = (tt, refl); second = tt; notes = tt }))
      (drop_calm (Admit epoch i key tag) refl)

  peek_calm : (epoch i tag : ℕ) → IsCalmPass log v (Peek epoch i tag) (pass v (Peek epoch i tag))
  peek_calm epoch i tag = by_test (IsCalmPass log v (Peek epoch i tag)) (is_slot_there v epoch i) (peeks v i tag (slot_at v i)) (dropped v)
      (by_test (λ f. IsCalmPass log v (Peek epoch i tag) (record { view = v; first = f; second = None })) (is_under tag (slot_at v i))
      (sent_to Controller (PeekAns i tag (slot_at v i).latest (slot_at v i).num (shown_body (slot_at v i)))) (sent_to Controller (PeekAns i tag false 0 None))
      (record { counter = omega arith; first = (tt, refl); second = tt; notes = tt })
      (record { counter = omega arith; first = (tt, refl); second = tt; notes = tt }))
      (drop_calm (Peek epoch i tag) refl)

  -- an answer of a removal, whichever it is
  removed_is : (P : Option Out → Type 0) (i tag : ℕ) (done : Bool) (slot : SlotView) → ((d l : Bool) (n : ℕ) (b : Option (List ℕ)) → P (sent_to Controller (RemoveAns i tag d l n b))) → P (removed_answer i tag done slot)
  removed_is P i tag done slot f = by_test P (is_under tag slot) (sent_to Controller (RemoveAns i tag done slot.latest slot.num (shown_body slot))) (sent_to Controller (RemoveAns i tag false false 0 None)) (f done slot.latest slot.num (shown_body slot)) (f false false 0 None)

  remove_calm : (epoch i tag : ℕ) (latest : Bool) (num : ℕ) → IsCalmPass log v (Remove epoch i tag latest num) (pass v (Remove epoch i tag latest num))
  remove_calm epoch i tag latest num = by_test (IsCalmPass log v (Remove epoch i tag latest num)) (is_slot_there v epoch i) (removes v i tag latest num (slot_at v i)) (dropped v)
      (by_test (IsCalmPass log v (Remove epoch i tag latest num)) (may_go tag latest num (slot_at v i)) emptied (record { view = v; first = removed_answer i tag false (slot_at v i); second = None })
      (by_test (IsCalmPass log v (Remove epoch i tag latest num)) (slot_at v i).latest (changes v i empty_slot (removed_answer i tag true (slot_at v i))) (record { view = with_slot v i empty_slot; first = removed_answer i tag true (slot_at v i); second = None })
      (removed_is (λ f. IsCalmPass log v (Remove epoch i tag latest num) (changes v i empty_slot f)) i tag true (slot_at v i) (λ d l n b. record { counter = let e = changed_counter v i empty_slot in omega (arith, e); first = (tt, refl); second = part_is v i; notes = tt }))
      (removed_is (λ f. IsCalmPass log v (Remove epoch i tag latest num) (record { view = with_slot v i empty_slot; first = f; second = None })) i tag true (slot_at v i) (λ d l n b. record { counter = omega arith; first = (tt, refl); second = tt; notes = tt })))
      (removed_is (λ f. IsCalmPass log v (Remove epoch i tag latest num) (record { view = v; first = f; second = None })) i tag false (slot_at v i) (λ d l n b. record { counter = omega arith; first = (tt, refl); second = tt; notes = tt })))
      (drop_calm (Remove epoch i tag latest num) refl)
    where
      emptied : Passed
      emptied = if (slot_at v i).latest then changes v i empty_slot (removed_answer i tag true (slot_at v i)) else record { view = with_slot v i empty_slot; first = removed_answer i tag true (slot_at v i); second = None }

  start_calm : (epoch id : ℕ) → IsCalmPass log v (SnapStart epoch id) (pass v (SnapStart epoch id))
  start_calm epoch id = by_test (IsCalmPass log v (SnapStart epoch id)) (nat_eq epoch v.epoch) (starts_snapshot v id 0) (dropped v)
      (record { counter = omega arith; first = (tt, refl); second = tt; notes = tt }) (drop_calm (SnapStart epoch id) refl)

  from_calm : (epoch id base : ℕ) → IsCalmPass log v (SnapFrom epoch id base) (pass v (SnapFrom epoch id base))
  from_calm epoch id base = by_test (IsCalmPass log v (SnapFrom epoch id base)) (nat_eq epoch v.epoch) (starts_snapshot v id base) (dropped v)
      (record { counter = omega arith; first = (tt, refl); second = tt; notes = tt }) (drop_calm (SnapFrom epoch id base) refl)

  part_calm : (epoch id i : ℕ) → IsCalmPass log v (SnapRead epoch id i) (pass v (SnapRead epoch id i))
  part_calm epoch id i = by_test (IsCalmPass log v (SnapRead epoch id i)) (is_slot_there v epoch i) (reads_part v id i) (dropped v)
      (by_test (IsCalmPass log v (SnapRead epoch id i)) (nat_eq id v.snap && not (is_taken v i)) (record { view = with_taken v i (held_record (slot_at v i)); first = part_of v i; second = None }) (dropped v)
      (by_test (λ q. IsCalmPass log v (SnapRead epoch id i) (record { view = with_taken v i (held_record (slot_at v i)); first = sent_to Controller q; second = None })) (is_as_before v i) (SnapSame v.snap i) (SnapPart v.snap i (held_record (slot_at v i)))
      (record { counter = omega arith; first = (tt, refl); second = tt; notes = tt }) (record { counter = omega arith; first = (tt, refl); second = tt; notes = tt })) (drop_calm (SnapRead epoch id i) refl))
      (drop_calm (SnapRead epoch id i) refl)

-- a packet to the switch other than a write
abbrev pub IsCalmKind : Packet → Type 0
IsCalmKind (GetReq caller op key) = Unit {0}
IsCalmKind (GetRep caller op key tag num body) = Unit {0}
IsCalmKind (WriteRep caller op key num body) = Unit {0}
IsCalmKind (Admit epoch i key tag) = Unit {0}
IsCalmKind (Peek epoch i tag) = Unit {0}
IsCalmKind (Remove epoch i tag latest num) = Unit {0}
IsCalmKind (SnapStart epoch id) = Unit {0}
IsCalmKind (SnapFrom epoch id base) = Unit {0}
IsCalmKind (SnapRead epoch id i) = Unit {0}
IsCalmKind _ = ⊥

pub passes_calm : (plan : PlanView) (s : State) (p : Packet) → IsCalmKind p → IsAskedWell plan s p → IsCalmPass s.log s.switch p (pass s.switch p)
passes_calm plan s (GetReq caller op key) kind h = read_calm s.log s.switch caller op key h (entry_place key s.switch)
passes_calm plan s (GetRep caller op key tag num body) kind h = reply_calm s.log s.switch (GetRep caller op key tag num body) (Some tag) num body (record { to = Client caller; packet = GetAns caller op key num body false }) (entry_place key s.switch) (λ w. refl) (tt, refl) (inl refl, tt)
passes_calm plan s (WriteRep caller op key num body) kind h = reply_calm s.log s.switch (WriteRep caller op key num body) None num body (record { to = Client caller; packet = WriteAns caller op key num false }) (entry_place key s.switch) (λ w. refl) (refl, refl) (inl refl, tt)
passes_calm plan s (Admit epoch i key tag) kind h = admit_calm s.log s.switch epoch i key tag
passes_calm plan s (Peek epoch i tag) kind h = peek_calm s.log s.switch epoch i tag
passes_calm plan s (Remove epoch i tag latest num) kind h = remove_calm s.log s.switch epoch i tag latest num
passes_calm plan s (SnapStart epoch id) kind h = start_calm s.log s.switch epoch id
passes_calm plan s (SnapFrom epoch id base) kind h = from_calm s.log s.switch epoch id base
passes_calm plan s (SnapRead epoch id i) kind h = part_calm s.log s.switch epoch id i
passes_calm plan s _ kind h = absurd kind

-- ---- a write

module _ (plan : PlanView) (kept : List Record) (s : State) (i : ℕ) (x : Message) (at : slice_get s.bag i ≡ Some x) (runs : s.running ≡ true) (stops : Stops plan kept s) (needs : Needs plan s)
    (caller op : ℕ) (key : List ℕ) (body : Option (List ℕ)) (is : x.packet ≡ WriteReq caller op key body) where
  asked : IsAskedWell plan s (WriteReq caller op key body)
  asked = subst (IsAskedWell plan s) is (needs.owed.asked x (among_at x s.bag i at))

  -- what is preserved has a number that was counted
  preserved_counted : (c : ℕ) (r : Record) → Among r (client_at s c).preserved → r.num ≤ s.switch.counter
  preserved_counted c r a = go r.num (written_above plan kept s stops c r a)
    where
      go : (n : ℕ) → IsWritten plan s.log s.steps r.key n r.body → n ≤ s.switch.counter
      go zero w = omega arith
      go (suc n) w = let k = w.some (omega arith) in stops.differ.counted runs k.own.numbered_at k.op (suc n) k.own.numbered

  module _ (t : State) (notes : List LogEntry) (new : List Message) (log_is : t.log ≡ noted s notes) (numbers : (at' o n : ℕ) → Among (line_at at' (Numbered o n)) t.log → Among (line_at at' (Numbered o n)) s.log ⊎ ((o ≡ op) × (n ≡ s.switch.counter + 1)))
      (counter : t.switch.counter ≡ s.switch.counter + 1) where
    pub write_differ : NumbersDiffer t
    write_differ = record {
      once = λ at other_at o num other a b. once o num other at other_at (numbers at o num a) (numbers other_at o other b);
      differ = λ at other_at o other num a b. differ o other num at other_at (numbers at o num a) (numbers other_at other num b);
      counted = λ r at o num a. counted o num at (numbers at o num a);
    }
      where
        once : (o num other a b : ℕ) → Among (line_at a (Numbered o num)) s.log ⊎ ((o ≡ op) × (num ≡ s.switch.counter + 1)) → Among (line_at b (Numbered o other)) s.log ⊎ ((o ≡ op) × (other ≡ s.switch.counter + 1)) → num ≡ other
        once o num other a b (inl k) (inl l) = stops.differ.once a b o num other k l
        once o num other a b (inl k) (inr l) = absurd (asked.1 a num (subst (λ w. Among (line_at a (Numbered w num)) s.log) l.0 k))
        once o num other a b (inr k) (inl l) = absurd (asked.1 b other (subst (λ w. Among (line_at b (Numbered w other)) s.log) k.0 l))
        once o num other a b (inr k) (inr l) = k.1 ∙ sym l.1

        differ : (o other num a b : ℕ) → Among (line_at a (Numbered o num)) s.log ⊎ ((o ≡ op) × (num ≡ s.switch.counter + 1)) → Among (line_at b (Numbered other num)) s.log ⊎ ((other ≡ op) × (num ≡ s.switch.counter + 1)) → o ≡ other
        differ o other num a b (inl k) (inl l) = stops.differ.differ a b o other num k l
        differ o other num a b (inl k) (inr l) = absurd (let c = stops.differ.counted runs a o num k in let e = l.1 in omega (arith, c, e))
        differ o other num a b (inr k) (inl l) = absurd (let c = stops.differ.counted runs b other num l in let e = k.1 in omega (arith, c, e))
        differ o other num a b (inr k) (inr l) = k.0 ∙ sym l.0

        counted : (o num a : ℕ) → Among (line_at a (Numbered o num)) s.log ⊎ ((o ≡ op) × (num ≡ s.switch.counter + 1)) → num ≤ t.switch.counter
        counted o num a (inl k) = let c = stops.differ.counted runs a o num k in omega (arith, c, counter)
        counted o num a (inr k) = let e = k.1 in omega (arith, e, counter)

  -- a write that finds no entry goes to its server
  abbrev forward_out : Message
  forward_out = record { from = Switch; to = Server (server_of s.switch.config key); packet = WriteFwd caller op key (s.switch.counter + 1) body }

  abbrev forward_state : State
  forward_state = switch_turn s (remove s.bag i) (WriteReq caller op key body) (write_passes (numbered s.switch) caller op key body None)

  abbrev forward_new : List Message
  forward_new = messages_from Switch (passed_out (write_passes (numbered s.switch) caller op key body None))

  new_ones : (o : Option Out) → OutOrNone o → (m : Message) → Among m (messages_from Switch (outs_of (sent_to (Server (server_of s.switch.config key)) (WriteFwd caller op key (s.switch.counter + 1) body)) ++ outs_of o)) → (m ≡ forward_out) ⊎ (IsUnkept m.packet × (is_round_packet m.packet ≡ false))
  new_ones o h m (inl e) = inl e
  new_ones None h m (inr a) = absurd a
  new_ones (Some y) h m (inr (inl e)) = inr (subst (λ (w : Message). IsUnkept w.packet × (is_round_packet w.packet ≡ false)) (sym e) h)
  new_ones (Some y) h m (inr (inr a)) = absurd a

  forward_numbers : (at' o n : ℕ) → Among (line_at at' (Numbered o n)) forward_state.log → Among (line_at at' (Numbered o n)) s.log ⊎ ((o ≡ op) × (n ≡ s.switch.counter + 1))
  forward_numbers at' o n a = go (log_cases s forward_state (Numbered op (s.switch.counter + 1) ∷ []) refl _ a)
    where
      fields : Numbered o n ≡ Numbered op (s.switch.counter + 1) → (o ≡ op) × (n ≡ s.switch.counter + 1)
      fields e = (cc, cc)

      by : (e : LogEntry) → Among e (Numbered op (s.switch.counter + 1) ∷ []) → Numbered o n ≡ e → (o ≡ op) × (n ≡ s.switch.counter + 1)
      by e (inl k) l = fields (l ∙ k)
      by e (inr k) l = absurd k

      go : Among (line_at at' (Numbered o n)) s.log ⊎ IsNote (Numbered op (s.switch.counter + 1) ∷ []) (now s) (line_at at' (Numbered o n)) → Among (line_at at' (Numbered o n)) s.log ⊎ ((o ≡ op) × (n ≡ s.switch.counter + 1))
      go (inl b) = inl b
      go (inr m) = inr (by m.entry m.among (ap (λ (w : LogLine). w.entry) m.is))

  pub forward_step : Step plan (Its x) s forward_state (remove s.bag i) forward_new
  forward_step = record {
    leaves = leaves_taken s i x at;
    bag = refl;
    gone = light_gone plan s forward_state x (subst IsLight (sym is) tt);
    new_newest = λ m a. newest m (new_ones (told_hot key (numbered s.switch)) (hot_is key (numbered s.switch)) m a);
    new_drawn = λ m a. drawn m (new_ones (told_hot key (numbered s.switch)) (hot_is key (numbered s.switch)) m a);
    log = λ l a. member s forward_state (Numbered op (s.switch.counter + 1) ∷ []) refl l a;
    differ = write_differ forward_state (Numbered op (s.switch.counter + 1) ∷ []) forward_new refl forward_numbers refl;
    numbered = λ at' o n a. arrives o n at' (forward_numbers at' o n a);
    absorbed = λ k n a. inl (absorbed k n a (forward_numbers a.numbered_at a.op n a.numbered));
    more = λ k. omega arith;
    servers = stops.servers;
    snapshot = λ k n a b. inr (inl b);
    preserved = λ k n a b. inr (inr (inl (same_preserved plan s forward_state (λ c. refl) k n b)));
    still = λ m a b. same_newest plan s forward_state (λ c. refl) m.packet b;
    above = same_above plan s forward_state (λ c. refl) (λ c. refl) stops.preserved;
    new_answers = λ m a. answer m (new_ones (told_hot key (numbered s.switch)) (hot_is key (numbered s.switch)) m a);
    new_carries = λ m a. carries m (new_ones (told_hot key (numbered s.switch)) (hot_is key (numbered s.switch)) m a);
    clients = λ c r a. inl a;
    steps = omega arith;
    jobs = omega arith;
    rounds = omega arith;
  }
    where
      carries : (m : Message) → (m ≡ forward_out) ⊎ (IsUnkept m.packet × (is_round_packet m.packet ≡ false)) → Carried (IsGenuine plan s) m.packet
      carries m (inl e) = subst (λ (w : Message). Carried (IsGenuine plan s) w.packet) (sym e) tt
      carries m (inr k) = carried_any (IsGenuine plan s) m.packet k.1

      answer : (m : Message) → (m ≡ forward_out) ⊎ (IsUnkept m.packet × (is_round_packet m.packet ≡ false)) → IsKeptAnswer forward_state m.packet
      answer m (inl e) = subst (λ (w : Message). IsKeptAnswer forward_state w.packet) (sym e) tt
      answer m (inr k) = unkept_answer forward_state m.packet k.0

      newest : (m : Message) → (m ≡ forward_out) ⊎ (IsUnkept m.packet × (is_round_packet m.packet ≡ false)) → IsNewest forward_state m.packet
      newest m (inl e) = subst (λ (w : Message). IsNewest forward_state w.packet) (sym e) tt
      newest m (inr k) = unkept_newest forward_state m.packet k.0

      drawn : (m : Message) → (m ≡ forward_out) ⊎ (IsUnkept m.packet × (is_round_packet m.packet ≡ false)) → IsDrawnJob s.controller m.packet
      drawn m (inl e) = subst (λ (w : Message). IsDrawnJob s.controller w.packet) (sym e) tt
      drawn m (inr k) = drawn_any s.controller m.packet k.1

      arrives : (o n a : ℕ) → Among (line_at a (Numbered o n)) s.log ⊎ ((o ≡ op) × (n ≡ s.switch.counter + 1)) → Among (line_at a (Numbered o n)) s.log ⊎ NumberArrives plan forward_state o n
      arrives o n a (inl b) = inl b
      arrives o n a (inr k) = inr (inr (inr (record { message = forward_out; there = among_append_right forward_out (remove s.bag i) forward_new (inl refl); is = (sym k.0, sym k.1) })))

      absorbed : (k : List ℕ) (n : ℕ) (a : IsAbsorbed plan forward_state.log k n) → Among (line_at a.numbered_at (Numbered a.op n)) s.log ⊎ ((a.op ≡ op) × (n ≡ s.switch.counter + 1)) → IsAbsorbed plan s.log k n
      absorbed k n a (inl b) = record { op = a.op; on_key = a.on_key; numbered_at = a.numbered_at; numbered = b; absorbed = record { emitted_at = a.absorbed.emitted_at; body = a.absorbed.body; emitted = old_emitted a.absorbed.emitted_at a.op n a.absorbed.body a.absorbed.emitted } }
        where
          old_emitted : (at' o n : ℕ) (b : Option (List ℕ)) → Among (line_at at' (Emitted o n b true)) forward_state.log → Among (line_at at' (Emitted o n b true)) s.log
          old_emitted at' o n b a = go (log_cases s forward_state (Numbered op (s.switch.counter + 1) ∷ []) refl _ a)
            where
              by : (e : LogEntry) → Among e (Numbered op (s.switch.counter + 1) ∷ []) → Emitted o n b true ≡ e → ⊥
              by e (inl k) l = let q = l ∙ k in cc
              by e (inr k) l = k

              go : Among (line_at at' (Emitted o n b true)) s.log ⊎ IsNote (Numbered op (s.switch.counter + 1) ∷ []) (now s) (line_at at' (Emitted o n b true)) → Among (line_at at' (Emitted o n b true)) s.log
              go (inl b) = b
              go (inr m) = absurd (by m.entry m.among (ap (λ (w : LogLine). w.entry) m.is))
      absorbed k n a (inr e) = absurd (unemitted (log_cases s forward_state (Numbered op (s.switch.counter + 1) ∷ []) refl _ a.absorbed.emitted))
        where
          by : (q : LogEntry) → Among q (Numbered op (s.switch.counter + 1) ∷ []) → Emitted a.op n a.absorbed.body true ≡ q → ⊥
          by q (inl k) l = let z = l ∙ k in cc
          by q (inr k) l = k

          unemitted : Among (line_at a.absorbed.emitted_at (Emitted a.op n a.absorbed.body true)) s.log ⊎ IsNote (Numbered op (s.switch.counter + 1) ∷ []) (now s) (line_at a.absorbed.emitted_at (Emitted a.op n a.absorbed.body true)) → ⊥
          unemitted (inl b) = asked.2 a.absorbed.emitted_at n a.absorbed.body true (subst (λ w. Among (line_at a.absorbed.emitted_at (Emitted w n a.absorbed.body true)) s.log) e.0 b)
          unemitted (inr m) = by m.entry m.among (ap (λ (w : LogLine). w.entry) m.is)

  -- a write that finds an entry is absorbed
  module _ (slot : ℕ) where
    abbrev absorbed_out : Message
    absorbed_out = record { from = Switch; to = Client caller; packet = WriteAns caller op key (s.switch.counter + 1) true }

    abbrev absorbed_passed : Passed
    absorbed_passed = write_passes (numbered s.switch) caller op key body (Some slot)

    abbrev absorbed_state : State
    absorbed_state = switch_turn s (remove s.bag i) (WriteReq caller op key body) absorbed_passed

    abbrev absorbed_new : List Message
    absorbed_new = messages_from Switch (passed_out (write_passes (numbered s.switch) caller op key body (Some slot)))

    abbrev absorbed_notes : List LogEntry
    absorbed_notes = Numbered op absorbed_passed.view.counter ∷ (Emitted op (s.switch.counter + 1) None true ∷ [])

    its_counter : absorbed_passed.view.counter ≡ s.switch.counter + 1
    its_counter = changed_counter (numbered s.switch) slot (absorbing (numbered s.switch).counter body (slot_at (numbered s.switch) slot))

    absorbed_ones : (o : Option Out) → OutOrNone o → (m : Message) → Among m (messages_from Switch (outs_of (sent_to (Client caller) (WriteAns caller op key (s.switch.counter + 1) true)) ++ outs_of o)) → (m ≡ absorbed_out) ⊎ (IsUnkept m.packet × (is_round_packet m.packet ≡ false))
    absorbed_ones o h m (inl e) = inl e
    absorbed_ones None h m (inr a) = absurd a
    absorbed_ones (Some y) h m (inr (inl e)) = inr (subst (λ (w : Message). IsUnkept w.packet × (is_round_packet w.packet ≡ false)) (sym e) h)
    absorbed_ones (Some y) h m (inr (inr a)) = absurd a

    absorbed_numbers : (at' o n : ℕ) → Among (line_at at' (Numbered o n)) absorbed_state.log → Among (line_at at' (Numbered o n)) s.log ⊎ ((o ≡ op) × (n ≡ s.switch.counter + 1))
    absorbed_numbers at' o n a = go (log_cases s absorbed_state absorbed_notes refl _ a)
      where
        fields : (w : ℕ) → Numbered o n ≡ Numbered op w → (o ≡ op) × (n ≡ w)
        fields w e = (cc, cc)

        by : (e : LogEntry) → Among e absorbed_notes → Numbered o n ≡ e → (o ≡ op) × (n ≡ s.switch.counter + 1)
        by e (inl k) l = let f = fields absorbed_passed.view.counter (l ∙ k) in (f.0, f.1 ∙ its_counter)
        by e (inr (inl k)) l = absurd (let z = l ∙ k in cc)
        by e (inr (inr k)) l = absurd k

        go : Among (line_at at' (Numbered o n)) s.log ⊎ IsNote absorbed_notes (now s) (line_at at' (Numbered o n)) → Among (line_at at' (Numbered o n)) s.log ⊎ ((o ≡ op) × (n ≡ s.switch.counter + 1))
        go (inl b) = inl b
        go (inr m) = inr (by m.entry m.among (ap (λ (w : LogLine). w.entry) m.is))

    there : Among absorbed_out absorbed_state.bag
    there = among_append_right absorbed_out (remove s.bag i) absorbed_new (inl refl)

    pub absorbed_step : Step plan (Its x) s absorbed_state (remove s.bag i) absorbed_new
    absorbed_step = record {
      leaves = leaves_taken s i x at;
      bag = refl;
      gone = light_gone plan s absorbed_state x (subst IsLight (sym is) tt);
      new_newest = λ m a. newest m (absorbed_ones (part_left (numbered s.switch) slot) (part_is (numbered s.switch) slot) m a);
      new_drawn = λ m a. drawn m (absorbed_ones (part_left (numbered s.switch) slot) (part_is (numbered s.switch) slot) m a);
      log = λ l a. member s absorbed_state absorbed_notes refl l a;
      differ = write_differ absorbed_state absorbed_notes absorbed_new refl absorbed_numbers its_counter;
      numbered = λ at' o n a. arrives o n at' (absorbed_numbers at' o n a);
      absorbed = λ k n a. absorbed k n a (absorbed_numbers a.numbered_at a.op n a.numbered);
      more = λ k. omega arith;
      servers = stops.servers;
      snapshot = λ k n a b. inr (inl b);
      preserved = λ k n a b. inr (inr (inl (same_preserved plan s absorbed_state (λ c. refl) k n b)));
      still = λ m a b. same_newest plan s absorbed_state (λ c. refl) m.packet b;
      above = same_above plan s absorbed_state (λ c. refl) (λ c. refl) stops.preserved;
      new_answers = λ m a. answer m (absorbed_ones (part_left (numbered s.switch) slot) (part_is (numbered s.switch) slot) m a);
      new_carries = λ m a. carries m (absorbed_ones (part_left (numbered s.switch) slot) (part_is (numbered s.switch) slot) m a);
      clients = λ c r a. inl a;
      steps = omega arith;
      jobs = omega arith;
      rounds = omega arith;
    }
      where
        newest : (m : Message) → (m ≡ absorbed_out) ⊎ (IsUnkept m.packet × (is_round_packet m.packet ≡ false)) → IsNewest absorbed_state m.packet
        newest m (inl e) = subst (λ (w : Message). IsNewest absorbed_state w.packet) (sym e) (λ k r a same. let c = preserved_counted caller r a in omega (arith, c))
        newest m (inr k) = unkept_newest absorbed_state m.packet k.0

        drawn : (m : Message) → (m ≡ absorbed_out) ⊎ (IsUnkept m.packet × (is_round_packet m.packet ≡ false)) → IsDrawnJob s.controller m.packet
        drawn m (inl e) = subst (λ (w : Message). IsDrawnJob s.controller w.packet) (sym e) tt
        drawn m (inr k) = drawn_any s.controller m.packet k.1

        its_emission : Among (line_at (now s) (Emitted op (s.switch.counter + 1) None true)) absorbed_state.log
        its_emission = note_member s absorbed_state absorbed_notes refl (Emitted op (s.switch.counter + 1) None true) (inr (inl refl))

        its_number : Among (line_at (now s) (Numbered op (s.switch.counter + 1))) absorbed_state.log
        its_number = subst (λ w. Among (line_at (now s) (Numbered op w)) absorbed_state.log) its_counter (note_member s absorbed_state absorbed_notes refl (Numbered op absorbed_passed.view.counter) (inl refl))

        carries : (m : Message) → (m ≡ absorbed_out) ⊎ (IsUnkept m.packet × (is_round_packet m.packet ≡ false)) → Carried (IsGenuine plan s) m.packet
        carries m (inl e) = subst (λ (w : Message). Carried (IsGenuine plan s) w.packet) (sym e) tt
        carries m (inr k) = carried_any (IsGenuine plan s) m.packet k.1

        answer : (m : Message) → (m ≡ absorbed_out) ⊎ (IsUnkept m.packet × (is_round_packet m.packet ≡ false)) → IsKeptAnswer absorbed_state m.packet
        answer m (inl e) = subst (λ (w : Message). IsKeptAnswer absorbed_state w.packet) (sym e) (λ k. record {
          numbered_at = now s;
          numbered = its_number;
          before = omega arith;
          absorbed = record { emitted_at = now s; body = None; emitted = its_emission };
        })
        answer m (inr k) = unkept_answer absorbed_state m.packet k.0

        arrives : (o n a : ℕ) → Among (line_at a (Numbered o n)) s.log ⊎ ((o ≡ op) × (n ≡ s.switch.counter + 1)) → Among (line_at a (Numbered o n)) s.log ⊎ NumberArrives plan absorbed_state o n
        arrives o n a (inl b) = inl b
        arrives o n a (inr k) = inr (inl (record { emitted_at = now s; body = None; emitted = subst (λ w. Among (line_at (now s) (Emitted w n None true)) absorbed_state.log) (sym k.0) (subst (λ w. Among (line_at (now s) (Emitted op w None true)) absorbed_state.log) (sym k.1) its_emission) }))

        absorbed : (k : List ℕ) (n : ℕ) (a : IsAbsorbed plan absorbed_state.log k n) → Among (line_at a.numbered_at (Numbered a.op n)) s.log ⊎ ((a.op ≡ op) × (n ≡ s.switch.counter + 1)) → IsAbsorbed plan s.log k n ⊎ Outlives plan absorbed_state k n
        absorbed k n a (inr e) = inr (inr (inr (inr (record {
          message = absorbed_out;
          there = there;
          caller = caller;
          op = op;
          number = s.switch.counter + 1;
          is = ap (λ q. WriteAns caller op q (s.switch.counter + 1) true) (sym asked.0 ∙ sym (ap (λ w. (line_of plan.ops w).key) e.0) ∙ a.on_key);
          above = let q = e.1 in omega (arith, q);
        }))))
        absorbed k n a (inl b) = inl (record { op = a.op; on_key = a.on_key; numbered_at = a.numbered_at; numbered = b; absorbed = record { emitted_at = a.absorbed.emitted_at; body = a.absorbed.body; emitted = old (log_cases s absorbed_state absorbed_notes refl _ a.absorbed.emitted) } })
          where
            same_op : (o n w : ℕ) (b : Option (List ℕ)) → Emitted o n b true ≡ Emitted op w None true → o ≡ op
            same_op o n w b e = cc

            by : (q : LogEntry) → Among q absorbed_notes → Emitted a.op n a.absorbed.body true ≡ q → a.op ≡ op
            by q (inl k) l = absurd (let z = l ∙ k in cc)
            by q (inr (inl k)) l = same_op a.op n (s.switch.counter + 1) a.absorbed.body (l ∙ k)
            by q (inr (inr k)) l = absurd k

            old : Among (line_at a.absorbed.emitted_at (Emitted a.op n a.absorbed.body true)) s.log ⊎ IsNote absorbed_notes (now s) (line_at a.absorbed.emitted_at (Emitted a.op n a.absorbed.body true)) → Among (line_at a.absorbed.emitted_at (Emitted a.op n a.absorbed.body true)) s.log
            old (inl c) = c
            old (inr m) = absurd (asked.1 a.numbered_at n (subst (λ w. Among (line_at a.numbered_at (Numbered w n)) s.log) (by m.entry m.among (ap (λ (w : LogLine). w.entry) m.is)) b))

  pub write_step : (e : Option ℕ) → Step plan (Its x) s (switch_turn s (remove s.bag i) (WriteReq caller op key body) (write_passes (numbered s.switch) caller op key body e)) (remove s.bag i) (messages_from Switch (passed_out (write_passes (numbered s.switch) caller op key body e)))
  write_step None = forward_step
  write_step (Some slot) = absorbed_step slot

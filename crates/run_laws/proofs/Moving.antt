-- Turns of clients and servers, and passes of the switch that move no owner of a slot.
use Rattle.std.proofs.Common.{◌≡◌, ℕ, inl, inr, Bool, true, false, List, [], ◌∷◌, refl, ap, ◌∙◌, arith}
use Rattle.std.specs.Prelude.{Option, Some, None, slice_get}
use Rattle.std.specs.List.{remove}
use Rattle.far_base.specs.PlanView.{PlanView}
use Rattle.far_base.specs.declared.packet.Message.{Message}
use Rattle.far_base.specs.declared.packet.Out.{Out}
use Rattle.far_base.specs.declared.packet.Packet.{Packet}
use Rattle.far_base.specs.declared.packet.Packet.TheVariants.{GetReq, WriteReq, GetFwd, WriteFwd, GetRep, WriteRep, GetAns, WriteAns, Admit, AdmitAck, Peek, PeekAns, Remove, SnapStart, SnapFrom, SnapRead, SnapSame, SnapPart, Store, Ask, TopAsk}
use Rattle.far_base.specs.declared.party.Party.{Party}
use Rattle.far_base.specs.declared.party.Party.TheVariants.{Client, Switch, Controller}
use Rattle.far_base.specs.declared.plan.Config.{Config}
use Rattle.far_base.specs.declared.plan.OpLine.{OpLine}
use Rattle.far_base.specs.declared.record.Record.{Record}
use Rattle.far_model.specs.Clients.{ClientState, client_takes, line_of, tells, tells_each}
use Rattle.far_model.specs.Events.{client_turn, next_sent, reply_message, sends, server_turn, switch_turn}
use Rattle.far_invariants.specs.Flights.{IsFor}
use Rattle.far_model.specs.Members.{Among, Each}
use Rattle.far_model.specs.Parties.{messages_from}
use Rattle.far_model.specs.Pass.{Passed, dropped, is_slot_there, pass, passed_out, peeks, sent_to, reads_part, starts_snapshot, is_under, part_of, with_taken, is_as_before}
use Rattle.far_model.specs.Replies.{IsReplyTo}
use Rattle.far_model.specs.State.{State, client_at}
use Rattle.far_model.specs.View.{SwitchView, slot_at, entry_place, held_record, is_taken, shown_body}
use Rattle.far_model.proofs.Members.{among_map_from, each_among}
use Rattle.flight_laws.proofs.Lists.{by_test}
use Rattle.record_laws.proofs.Moves.{IsNoAdmission, PassSits, outs_none, read_sits, request_none, write_sits, reply_sits}
use Rattle.record_laws.proofs.Seats.{bag_grown, bag_taken, is_admission_packet, unchanged_slots}
use Rattle.far_invariants.specs.Seated.{Seated}
use Rattle.run_laws.proofs.Seating.{seated_last}

-- ---- an admission goes to the switch, and comes back to the controller

pub not_admission : (config : Config) (p : Packet) (to : Party) → IsFor config p to → (to ≡ Switch → ⊥) → (to ≡ Controller → ⊥) → is_admission_packet p ≡ false
not_admission config (Admit epoch i key tag) to goes a b = absurd (a goes)
not_admission config (AdmitAck i tag) to goes a b = absurd (b goes)
not_admission config _ to goes a b = refl

-- ---- clients

abbrev IsOtherOut : Out → Type 0
IsOtherOut o = is_admission_packet o.packet ≡ false

outs_other : (from : Party) (outs : List Out) → Each IsOtherOut outs → (m : Message) → Among m (messages_from from outs) → is_admission_packet m.packet ≡ false
outs_other from outs h m a =
    let p = among_map_from (λ (o : Out). record { from = from; to = o.to; packet = o.packet }) m outs a in
    ap (λ (w : Message). is_admission_packet w.packet) p.2 ∙ each_among IsOtherOut p.0 outs h p.1

told_other : (round client total : ℕ) (rs : List Record) → Each IsOtherOut (tells_each round client total rs)
told_other round client total [] = tt
told_other round client total (r ∷ rs) = (refl, told_other round client total rs)

tells_other : (round client : ℕ) (rs : List Record) → Each IsOtherOut (tells round client rs)
tells_other round client [] = (refl, tt)
tells_other round client (r ∷ rs) = told_other round client (Rattle.std.specs.Prelude.length (r ∷ rs)) (r ∷ rs)

takes_other : (ops : List OpLine) (c : ℕ) (client : ClientState) (p : Packet) → Each IsOtherOut (client_takes ops c client p).out
takes_other ops c client (Ask round) = tells_other round c client.preserved
takes_other ops c client _ = tt

module _ (plan : PlanView) (s : State) (h : Seated plan s) where
  pub client_sits : (i c : ℕ) (m : Message) → slice_get s.bag i ≡ Some m → is_admission_packet m.packet ≡ false → Seated plan (client_turn s c (remove s.bag i) (client_takes plan.ops c (client_at s c) m.packet))
  client_sits i c m at off = seated_last plan s t h (record {
    running = refl;
    round = λ e. e;
    slots = unchanged_slots s.switch s.switch refl refl refl;
    epoch = refl;
    states = refl;
    tags = omega arith;
    bag = bag_taken s t i m (messages_from (Client c) (client_takes plan.ops c (client_at s c) m.packet).out) at off refl (outs_other (Client c) (client_takes plan.ops c (client_at s c) m.packet).out (takes_other plan.ops c (client_at s c) m.packet));
  })
    where
      t : State
      t = client_turn s c (remove s.bag i) (client_takes plan.ops c (client_at s c) m.packet)

  pub send_sits : (c : ℕ) → Seated plan (sends plan s c)
  send_sits c = seated_last plan s (sends plan s c) h (record {
    running = refl;
    round = λ e. e;
    slots = unchanged_slots s.switch s.switch refl refl refl;
    epoch = refl;
    states = refl;
    tags = omega arith;
    bag = bag_grown s (sends plan s c) (messages_from (Client c) (next_sent plan.ops c (client_at s c) (client_at s c).left).out) refl (go (client_at s c).left);
  })
    where
      go : (left : List ℕ) → (n : Message) → Among n (messages_from (Client c) (next_sent plan.ops c (client_at s c) left).out) → is_admission_packet n.packet ≡ false
      go [] n a = absurd a
      go (op ∷ left) n (inl e) = ap (λ (w : Message). is_admission_packet w.packet) e ∙ request_none c op (line_of plan.ops op)
      go (op ∷ left) n (inr a) = absurd a

  -- ---- servers, whatever they answer in kind

  pub server_sits : (i n : ℕ) (m : Message) (reply : Option Packet) → slice_get s.bag i ≡ Some m → is_admission_packet m.packet ≡ false → IsReplyTo n m.packet reply → Seated plan (server_turn s n (remove s.bag i) m.packet reply)
  server_sits i n m reply at off answers = seated_last plan s t h (record {
    running = refl;
    round = λ e. e;
    slots = unchanged_slots s.switch s.switch refl refl refl;
    epoch = refl;
    states = refl;
    tags = omega arith;
    bag = bag_taken s t i m (reply_message n reply) at off refl (reply_other m.packet answers);
  })
    where
      t : State
      t = server_turn s n (remove s.bag i) m.packet reply

      one : (q : Packet) → is_admission_packet q ≡ false → (o : Option Packet) → o ≡ Some q → (x : Message) → Among x (reply_message n o) → is_admission_packet x.packet ≡ false
      one q off o e x a = go o e a
        where
          go : (o : Option Packet) → o ≡ Some q → Among x (reply_message n o) → is_admission_packet x.packet ≡ false
          go None e a = absurd a
          go (Some y) e (inl same) = ap (λ (w : Message). is_admission_packet w.packet) same ∙ ap is_admission_packet (Rattle.std.proofs.lemmas.Option.same_Some y q e) ∙ off
          go (Some y) e (inr a) = absurd a

      none : (o : Option Packet) → o ≡ None → (x : Message) → Among x (reply_message n o) → is_admission_packet x.packet ≡ false
      none None e x a = absurd a
      none (Some y) e x a = absurd cc

      reply_other : (p : Packet) → IsReplyTo n p reply → (x : Message) → Among x (reply_message n reply) → is_admission_packet x.packet ≡ false
      reply_other (GetFwd caller op key tag) r x a = one (GetRep caller op key tag r.num r.body) refl reply r.is x a
      reply_other (WriteFwd caller op key num body) r x a = one (WriteRep caller op key r.num r.body) refl reply r.is x a
      reply_other (Store job item) r x a = one (Rattle.far_base.specs.declared.packet.Packet.TheVariants.Stored job) refl reply r x a
      reply_other (TopAsk round) r x a = one (Rattle.far_base.specs.declared.packet.Packet.TheVariants.TopIs round n r.top) refl reply r.is x a
      reply_other _ r x a = none reply r x a

  -- ---- the switch

  pub pass_sits : (i : ℕ) (m : Message) (passed : Passed) → slice_get s.bag i ≡ Some m → is_admission_packet m.packet ≡ false → PassSits s.switch passed → Seated plan (switch_turn s (remove s.bag i) m.packet passed)
  pass_sits i m passed at off sits = seated_last plan s t h (record {
    running = refl;
    round = λ e. e;
    slots = sits.slots;
    epoch = refl;
    states = refl;
    tags = omega arith;
    bag = bag_taken s t i m (messages_from Switch (passed_out passed)) at off refl (outs_none passed.first passed.second sits.first sits.second);
  })
    where
      t : State
      t = switch_turn s (remove s.bag i) m.packet passed

-- a dropped packet changes nothing
pub drop_sits : (v : SwitchView) → PassSits v (dropped v)
drop_sits v = record { slots = unchanged_slots v v refl refl refl; first = tt; second = tt }

pub peek_sits : (v : SwitchView) (epoch i tag : ℕ) → PassSits v (pass v (Peek epoch i tag))
peek_sits v epoch i tag = by_test (PassSits v) (is_slot_there v epoch i) (peeks v i tag (slot_at v i)) (dropped v) (record {
  slots = unchanged_slots v v refl refl refl;
  first = by_test IsNoAdmission (is_under tag (slot_at v i)) (sent_to Controller (PeekAns i tag (slot_at v i).latest (slot_at v i).num (shown_body (slot_at v i)))) (sent_to Controller (PeekAns i tag false 0 None)) refl refl;
  second = tt;
}) (drop_sits v)

start_sits : (v : SwitchView) (id base : ℕ) → PassSits v (starts_snapshot v id base)
start_sits v id base = record { slots = unchanged_slots v (record v { snap = id; base = base }) refl refl refl; first = refl; second = tt }

pub snap_start_sits : (v : SwitchView) (epoch id : ℕ) → PassSits v (pass v (SnapStart epoch id))
snap_start_sits v epoch id = by_test (PassSits v) (Rattle.std.specs.Prelude.nat_eq epoch v.epoch) (starts_snapshot v id 0) (dropped v) (start_sits v id 0) (drop_sits v)

pub snap_from_sits : (v : SwitchView) (epoch id base : ℕ) → PassSits v (pass v (SnapFrom epoch id base))
snap_from_sits v epoch id base = by_test (PassSits v) (Rattle.std.specs.Prelude.nat_eq epoch v.epoch) (starts_snapshot v id base) (dropped v) (start_sits v id base) (drop_sits v)

pub snap_read_sits : (v : SwitchView) (epoch id i : ℕ) → PassSits v (pass v (SnapRead epoch id i))
snap_read_sits v epoch id i = by_test (PassSits v) (is_slot_there v epoch i) (reads_part v id i) (dropped v)
    (by_test (PassSits v) (Rattle.std.specs.Prelude.◌&&◌ (Rattle.std.specs.Prelude.nat_eq id v.snap) (Rattle.std.specs.Prelude.not (is_taken v i))) (record { view = with_taken v i (held_record (slot_at v i)); first = part_of v i; second = None }) (dropped v)
    (record {
      slots = unchanged_slots v (with_taken v i (held_record (slot_at v i))) refl refl refl;
      first = by_test (λ q. IsNoAdmission (sent_to Controller q)) (is_as_before v i) (SnapSame v.snap i) (SnapPart v.snap i (held_record (slot_at v i))) refl refl;
      second = tt;
    }) (drop_sits v))
    (drop_sits v)

-- every pass but an admission's and a removal's
abbrev pub is_seat_packet : Packet → Bool
is_seat_packet (Admit epoch i key tag) = true
is_seat_packet (Remove epoch i tag latest num) = true
is_seat_packet _ = false

pub passes_sit : (v : SwitchView) (p : Packet) → is_seat_packet p ≡ false → PassSits v (pass v p)
passes_sit v (GetReq caller op key) off = read_sits v caller op key (entry_place key v)
passes_sit v (WriteReq caller op key body) off = write_sits v caller op key body (entry_place key v)
passes_sit v (GetRep caller op key tag num body) off = reply_sits v (Some tag) num body (sent_to (Client caller) (GetAns caller op key num body false)) (entry_place key v) refl
passes_sit v (WriteRep caller op key num body) off = reply_sits v None num body (sent_to (Client caller) (WriteAns caller op key num false)) (entry_place key v) refl
passes_sit v (Admit epoch i key tag) off = absurd cc
passes_sit v (Peek epoch i tag) off = peek_sits v epoch i tag
passes_sit v (Remove epoch i tag latest num) off = absurd cc
passes_sit v (SnapStart epoch id) off = snap_start_sits v epoch id
passes_sit v (SnapFrom epoch id base) off = snap_from_sits v epoch id base
passes_sit v (SnapRead epoch id i) off = snap_read_sits v epoch id i
passes_sit v _ off = drop_sits v

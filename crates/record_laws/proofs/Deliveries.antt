-- Deliveries of the packets of operations.
use Rattle.far_invariants.specs.Operations.{ServesOp, OperationsStand}
use Rattle.std.proofs.Common.{◌≡◌, ℕ, suc, ◌<◌, Bool, true, false, cond, List, refl, sym, ap, ◌∙◌, subst, arith, eq-eqb}
use Rattle.std.specs.Prelude.{Option, Some, None, if◌then◌else◌, slice_get, get_or, ◌||◌, not}
use Rattle.std.specs.List.{remove, count_by}
use Rattle.std.proofs.lemmas.Option.{slice_get_within, get_or_from_slice_get}
use Rattle.std.proofs.lemmas.List.Sums.{sum_by-remove}
use Rattle.far_base.specs.PlanView.{PlanView}
use Rattle.far_base.specs.declared.packet.Message.{Message}
use Rattle.far_base.specs.declared.packet.Out.{Out}
use Rattle.far_base.specs.declared.packet.Packet.{Packet}
use Rattle.far_base.specs.declared.packet.Packet.TheVariants.{GetReq, WriteReq, GetFwd, WriteFwd, GetRep, WriteRep, GetAns, WriteAns}
use Rattle.far_base.specs.declared.party.Party.{Party}
use Rattle.far_base.specs.declared.party.Party.TheVariants.{Client, Switch}
use Rattle.far_base.specs.declared.record.Record.{Record}
use Rattle.far_model.specs.Clients.{line_of}
use Rattle.far_model.specs.Events.{handled, reply_at, is_switch, can_deliver}
use Rattle.far_invariants.specs.Flights.{OfOperation, subject, is_of_client, is_operation, flights_of, open_count, OneFlightPerOperation, IsRouted}
use Rattle.far_model.specs.Members.{Among}
use Rattle.far_model.specs.Pass.{sent_to, reply_passes, takes_reply, absorbing, raised, changes, with_slot, emitted_notes}
use Rattle.far_model.specs.State.{State}
use Rattle.far_model.specs.View.{SwitchView, slot_at, entry_place}
use Rattle.far_model.proofs.Members.{among_at, among_remove, place_of}
use Rattle.record_laws.proofs.Answers.{read_reply, write_reply, reply_keeps}
use Rattle.record_laws.proofs.Requests.{Its, read_keeps, write_keeps}
use Rattle.record_laws.proofs.Scripts.{serves_some, read_answered, write_answered}
use Rattle.record_laws.proofs.Step.{AreOthers, passed_state}
use Rattle.record_laws.proofs.Stored.{read_served, write_served}

-- ---- one packet of an operation is on its way

counts_removed : {A : Type 0} (p : A → Bool) (xs : List A) (i : ℕ) (x : A) → slice_get xs i ≡ Some x → p x ≡ true → count_by p xs ≡ suc (count_by p (remove xs i))
counts_removed p xs i x h e =
    let sum = sum_by-remove (λ y. cond {A = ℕ} (p y) 1 0) xs i x (slice_get_within xs i x h) in
    let one : cond {A = ℕ} (p (get_or xs i x)) 1 0 ≡ 1 = ap (λ y. cond {A = ℕ} (p y) 1 0) (get_or_from_slice_get xs i x x h) ∙ ap (λ b. cond {A = ℕ} b 1 0) e in
    omega (arith, sum, one)

pub counts_one : {A : Type 0} (p : A → Bool) (xs : List A) (y : A) → Among y xs → p y ≡ true → 0 < count_by p xs
counts_one p xs y a e =
    let at = place_of y xs a in
    let h = counts_removed p xs at.0 y at.1 e in
    omega (arith, h)

-- the messages that stay are of other operations than the one that is delivered
pub rest_others : (plan : PlanView) (s : State) → OperationsStand plan s → OneFlightPerOperation s → (i : ℕ) (m : Message) (caller op : ℕ) (key : List ℕ) → slice_get s.bag i ≡ Some m
    → subject m.packet ≡ OfOperation caller op → ServesOp plan s caller op key → AreOthers (Its op) s (remove s.bag i)
rest_others plan s k one i m caller op key at is serves = λ m' a. (among_remove m' s.bag i a, λ c o e same. clash m' a c o e same)
  where
    clash : (m' : Message) → Among m' (remove s.bag i) → (c o : ℕ) → subject m'.packet ≡ OfOperation c o → o ≡ op → ⊥
    clash m' a c o e same =
        let waits = (one.waited m caller op (among_at m s.bag i at) is).1 in
        let count : flights_of caller s.bag ≡ 1 = one.one caller ∙ ap open_count waits in
        let first : count_by (λ (m : Message). is_of_client caller (subject m.packet)) s.bag ≡ suc (count_by (λ (m : Message). is_of_client caller (subject m.packet)) (remove s.bag i)) =
        counts_removed (λ (m : Message). is_of_client caller (subject m.packet)) s.bag i m at (ap (is_of_client caller) is ∙ eq-eqb caller caller refl) in
        let other = serves_some plan s m'.packet c o (k.relies m' (among_remove m' s.bag i a)) e in
        let client : c ≡ caller = other.serves.by_client ∙ ap (λ n. (line_of plan.ops n).client) same ∙ sym serves.by_client in
        let more : 0 < count_by (λ (m : Message). is_of_client caller (subject m.packet)) (remove s.bag i) =
        counts_one (λ (m : Message). is_of_client caller (subject m.packet)) (remove s.bag i) m' a (ap (is_of_client caller) e ∙ eq-eqb c caller client) in
        omega (arith, count, first, more)

-- ---- what leaves with a reply

reply_first : (v : SwitchView) (tag : Option ℕ) (num : ℕ) (body : Option (List ℕ)) (out : Option Out) (o : Option ℕ) → (reply_passes v tag num body out o).first ≡ out
reply_first v tag num body out None = refl
reply_first v tag num body out (Some i) = go (takes_reply tag num (slot_at v i))
  where
    go : (b : Bool) → (if b then changes v i (absorbing num body (slot_at v i)) out else record { view = with_slot v i (raised num (slot_at v i)); first = out; second = None }).first ≡ out
    go true = refl
    go false = refl

-- a message goes to a switch only while it runs
pub runs_to : (running : Bool) (to : Party) → (running || not (is_switch to)) ≡ true → to ≡ Switch → running ≡ true
runs_to true to h e = refl
runs_to false to h e = absurd (let f : not (is_switch to) ≡ false = ap (λ w. not (is_switch w)) e in let g : true ≡ false = sym h ∙ f in cc)

module _ (plan : PlanView) (s : State) (k : OperationsStand plan s) (one : OneFlightPerOperation s) (routed : IsRouted plan s) (i : ℕ) (records : List Record) where
  operation_keeps : (from to : Party) (p : Packet) → slice_get s.bag i ≡ Some (record { from = from; to = to; packet = p }) → (s.running || not (is_switch to)) ≡ true → is_operation (subject p) ≡ true
      → OperationsStand plan (handled plan (record { reply = reply_at s to p; records = records }) s (remove s.bag i) to p)
  operation_keeps from to (GetReq caller op key) at can is =
      let a = among_at _ s.bag i at in
      let goes : to ≡ Switch = (routed.messages _ a).target in
      let h = k.relies _ a in
      subst (λ w. OperationsStand plan (handled plan (record { reply = reply_at s w (GetReq caller op key); records = records }) s (remove s.bag i) w (GetReq caller op key))) (sym goes)
      (read_keeps plan s k (runs_to s.running to can goes) (remove s.bag i) caller op key (rest_others plan s k one i _ caller op key at refl h.serves) h)
  operation_keeps from to (WriteReq caller op key body) at can is =
      let a = among_at _ s.bag i at in
      let goes : to ≡ Switch = (routed.messages _ a).target in
      let h = k.relies _ a in
      subst (λ w. OperationsStand plan (handled plan (record { reply = reply_at s w (WriteReq caller op key body); records = records }) s (remove s.bag i) w (WriteReq caller op key body))) (sym goes)
      (write_keeps plan s k (runs_to s.running to can goes) (remove s.bag i) caller op key (rest_others plan s k one i _ caller op key at refl h.serves) body h)
  operation_keeps from to (GetFwd caller op key tag) at can is =
      let a = among_at _ s.bag i at in
      let h = k.relies _ a in
      subst (λ w. OperationsStand plan (handled plan (record { reply = reply_at s w (GetFwd caller op key tag); records = records }) s (remove s.bag i) w (GetFwd caller op key tag))) (sym (routed.messages _ a).target)
      (read_served plan s k (remove s.bag i) caller op key (rest_others plan s k one i _ caller op key at refl h.serves) tag h)
  operation_keeps from to (WriteFwd caller op key num body) at can is =
      let a = among_at _ s.bag i at in
      let h = k.relies _ a in
      subst (λ w. OperationsStand plan (handled plan (record { reply = reply_at s w (WriteFwd caller op key num body); records = records }) s (remove s.bag i) w (WriteFwd caller op key num body))) (sym (routed.messages _ a).target)
      (write_served plan s k (remove s.bag i) caller op key (rest_others plan s k one i _ caller op key at refl h.serves) num body h)
  operation_keeps from to (GetRep caller op key tag num body) at can is =
      let a = among_at _ s.bag i at in
      let goes : to ≡ Switch = (routed.messages _ a).target in
      let h = k.relies _ a in
      subst (λ w. OperationsStand plan (handled plan (record { reply = reply_at s w (GetRep caller op key tag num body); records = records }) s (remove s.bag i) w (GetRep caller op key tag num body))) (sym goes)
      (subst (λ notes. OperationsStand plan (passed_state s (remove s.bag i) (GetRep caller op key tag num body) (reply_passes s.switch (Some tag) num body (sent_to (Client caller) (GetAns caller op key num body false)) (entry_place key s.switch)) notes))
      (sym (ap emitted_notes (reply_first s.switch (Some tag) num body (sent_to (Client caller) (GetAns caller op key num body false)) (entry_place key s.switch))))
      (reply_keeps plan s k (runs_to s.running to can goes) (remove s.bag i) caller op key (rest_others plan s k one i _ caller op key at refl h.serves) (Some tag) num body body
      (read_reply plan s caller op key tag num body h) (GetRep caller op key tag num body) (GetAns caller op key num body false) (λ t f. f) (λ t. tt)))
  operation_keeps from to (WriteRep caller op key num body) at can is =
      let a = among_at _ s.bag i at in
      let goes : to ≡ Switch = (routed.messages _ a).target in
      let h = k.relies _ a in
      subst (λ w. OperationsStand plan (handled plan (record { reply = reply_at s w (WriteRep caller op key num body); records = records }) s (remove s.bag i) w (WriteRep caller op key num body))) (sym goes)
      (subst (λ notes. OperationsStand plan (passed_state s (remove s.bag i) (WriteRep caller op key num body) (reply_passes s.switch None num body (sent_to (Client caller) (WriteAns caller op key num false)) (entry_place key s.switch)) notes))
      (sym (ap emitted_notes (reply_first s.switch None num body (sent_to (Client caller) (WriteAns caller op key num false)) (entry_place key s.switch))))
      (reply_keeps plan s k (runs_to s.running to can goes) (remove s.bag i) caller op key (rest_others plan s k one i _ caller op key at refl h.serves) None num body None
      (write_reply plan s caller op key num body h) (WriteRep caller op key num body) (WriteAns caller op key num false) (λ t f. f) (λ t. tt)))
  operation_keeps from to (GetAns caller op key num body near) at can is =
      let a = among_at _ s.bag i at in
      let h = k.relies _ a in
      let w = one.waited _ caller op a refl in
      subst (λ w. OperationsStand plan (handled plan (record { reply = reply_at s w (GetAns caller op key num body near); records = records }) s (remove s.bag i) w (GetAns caller op key num body near))) (sym (routed.messages _ a).target)
      (read_answered plan s k (remove s.bag i) caller op key (rest_others plan s k one i _ caller op key at refl h.serves) w.1 w.0 num body near h)
  operation_keeps from to (WriteAns caller op key num kept) at can is =
      let a = among_at _ s.bag i at in
      let h = k.relies _ a in
      let w = one.waited _ caller op a refl in
      subst (λ w. OperationsStand plan (handled plan (record { reply = reply_at s w (WriteAns caller op key num kept); records = records }) s (remove s.bag i) w (WriteAns caller op key num kept))) (sym (routed.messages _ a).target)
      (write_answered plan s k (remove s.bag i) caller op key (rest_others plan s k one i _ caller op key at refl h.serves) w.1 w.0 num kept h)
  operation_keeps from to _ at can is = absurd cc

  pub delivered_keeps : (m : Message) → slice_get s.bag i ≡ Some m → can_deliver s.running m ≡ true → is_operation (subject m.packet) ≡ true
      → OperationsStand plan (handled plan (record { reply = reply_at s m.to m.packet; records = records }) s (remove s.bag i) m.to m.packet)
  delivered_keeps m at can is = operation_keeps m.from m.to m.packet at can is

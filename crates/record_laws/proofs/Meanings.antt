-- The invariants in the words of the definitions, out of what the induction carries.
use Rattle.far_invariants.specs.Logs.{SendsByPlan, IsAnsweredInFull, ClosedAreAnswered, AnswersAreCurrent, LogIsSound}
use Rattle.far_invariants.specs.Numbers.{ExposedAtMostBy, ExposedAtMost, entry, NumbersDiffer, IsServed, IsForwardOf, IsForwarded, NumbersArrive, SeesFloor, CarriesWritten, HasNoLatest, ServerIsCurrent, LatestIsCurrent, IsTaggedCurrent, NumbersAreSound}
use Rattle.far_invariants.specs.Operations.{IsSent, Relies, IsOpenOrAnswered, OperationsStand}
use Rattle.far_invariants.specs.Covers.{IsAbsorbed, IsAnsweredNear, IsMarkedNear, IsWriteMarkedNear, look}
use Rattle.std.proofs.Common.{◌≡◌, ℕ, ◌+◌, ◌<◌, ◌≤◌, ◌⊎◌, inl, inr, Bool, true, false, cond, List, [], ◌∷◌, refl, sym, ap, ◌∙◌, subst, arith, le_trans, eqb-true}
use Rattle.std.specs.Bool.{MatchBool}
use Rattle.std.specs.Prelude.{Option, Some, None}
use Rattle.std.specs.List.{count_by}
use Rattle.std.proofs.lemmas.List.Sums.{sum_by-cons}
use Rattle.std.proofs.lemmas.Option.{same_Some}
use Rattle.far_base.specs.PlanView.{PlanView}
use Rattle.far_base.specs.declared.log.LogEntry.TheVariants.{Sent, Numbered, Emitted, Answered}
use Rattle.far_base.specs.declared.log.LogLine.{LogLine}
use Rattle.far_base.specs.declared.packet.Message.{Message}
use Rattle.far_base.specs.declared.packet.Packet.{Packet}
use Rattle.far_base.specs.declared.packet.Packet.TheVariants.{GetReq, WriteReq, GetFwd, WriteFwd, GetRep, WriteRep, GetAns, WriteAns}
use Rattle.far_base.specs.declared.plan.OpLine.{OpLine}
use Rattle.far_model.specs.Clients.{line_of}
use Rattle.far_model.specs.Coherent.{Earlier, IsAnswering, IsOwnNumber, ReachesOwnNumber}
use Rattle.far_invariants.specs.Flights.{Subject, OfOperation, subject, is_of_client, flights_of, open_count, OneFlightPerOperation}
use Rattle.far_model.specs.Log.{exposed, is_read}
use Rattle.far_model.specs.Members.{Among, Pairs}
use Rattle.far_model.specs.State.{State, client_at, line_at}
use Rattle.far_model.specs.View.{SlotView}
use Rattle.far_model.proofs.Members.{pairs_among, each_among, each_from_among}
use Rattle.record_laws.proofs.Coherence.{coherent, exposed_most}
use Rattle.record_laws.proofs.Requests.{reach_none, reach_latest, reach_outdated}
use Rattle.record_laws.proofs.Scripts.{same_subject, named_sent}

module _ (plan : PlanView) (s : State) (k : OperationsStand plan s) where
  -- ---- lines are told once

  sent_once : (x y op : ℕ) (a b : OpLine) → Among (line_at x (Sent op a)) s.log → Among (line_at y (Sent op b)) s.log → x ≡ y
  sent_once x y op a b h m = go (pairs_among Earlier _ _ s.log k.order h m)
    where
      go : (line_at x (Sent op a) ≡ line_at y (Sent op b)) ⊎ (Earlier (line_at x (Sent op a)) (line_at y (Sent op b)) ⊎ Earlier (line_at y (Sent op b)) (line_at x (Sent op a))) → x ≡ y
      go (inl e) = ap (λ (w : LogLine). w.moment) e
      go (inr (inl e)) = absurd (e.1 refl)
      go (inr (inr e)) = absurd (e.1 refl)

  numbered_once : (x y op n m : ℕ) → Among (line_at x (Numbered op n)) s.log → Among (line_at y (Numbered op m)) s.log → n ≡ m
  numbered_once x y op n m h h' = go (pairs_among Earlier _ _ s.log k.order h h')
    where
      go : (line_at x (Numbered op n) ≡ line_at y (Numbered op m)) ⊎ (Earlier (line_at x (Numbered op n)) (line_at y (Numbered op m)) ⊎ Earlier (line_at y (Numbered op m)) (line_at x (Numbered op n))) → n ≡ m
      go (inl e) = same (ap (λ (w : LogLine). w.entry) e)
        where
          same : Numbered op n ≡ Numbered op m → n ≡ m
          same e = cc
      go (inr (inl e)) = absurd (e.1.0 refl)
      go (inr (inr e)) = absurd (e.1.0 refl)

  numbered_apart : (x y op other n : ℕ) → Among (line_at x (Numbered op n)) s.log → Among (line_at y (Numbered other n)) s.log → op ≡ other
  numbered_apart x y op other n h h' = go (pairs_among Earlier _ _ s.log k.order h h')
    where
      go : (line_at x (Numbered op n) ≡ line_at y (Numbered other n)) ⊎ (Earlier (line_at x (Numbered op n)) (line_at y (Numbered other n)) ⊎ Earlier (line_at y (Numbered other n)) (line_at x (Numbered op n))) → op ≡ other
      go (inl e) = same (ap (λ (w : LogLine). w.entry) e)
        where
          same : Numbered op n ≡ Numbered other n → op ≡ other
          same e = cc
      go (inr (inl e)) = let b = e.1.1 in absurd (omega (arith, b))
      go (inr (inr e)) = let b = e.1.1 in absurd (omega (arith, b))

  numbers_differ : NumbersDiffer s
  numbers_differ = record {
    once = λ x y op n m h h'. numbered_once x y op n m h h';
    differ = λ x y op other n h h'. numbered_apart x y op other n h h';
    counted = λ runs at op num h. ((k.lines _ h).stands).counted runs;
  }

  -- ---- messages

  served : (p : Packet) → Relies plan s p → IsServed plan s p
  served (GetRep caller op key tag num body) h = h.known
  served (WriteRep caller op key num body) h = (h.known, h.own)
  served _ h = tt

  floors : (p : Packet) → Relies plan s p → SeesFloor plan s p
  floors (GetFwd caller op key tag) h = λ at a. subst (λ n. ExposedAtMostBy plan s.log key n (look plan s key).num) (sent_once _ _ op _ _ h.serves.sent.sent a) h.floor
  floors (GetRep caller op key tag num body) h = λ at a. subst (λ n. ExposedAtMostBy plan s.log key n num) (sent_once _ _ op _ _ h.serves.sent.sent a) h.floor
  floors _ h = tt

  written : (p : Packet) → Relies plan s p → CarriesWritten plan s p
  written (WriteFwd caller op key num body) h = record {
    none = λ z. let above = h.above in absurd (omega (arith, z, above));
    some = λ more. record { op = op; own = h.own; on_key = h.serves.on_key; same_body = h.same_body };
  }
  written (GetRep caller op key tag num body) h = h.written
  written (WriteRep caller op key num body) h = h.written
  written _ h = tt

  tagged : (p : Packet) → Relies plan s p → IsTaggedCurrent plan s p
  tagged (GetRep caller op key tag num body) h = h.tagged.current
  tagged _ h = tt

  server_current : ServerIsCurrent plan s
  server_current runs key none = go (entry key s.switch) refl none
    where
      go : (e : Option SlotView) → entry key s.switch ≡ e → HasNoLatest e → ExposedAtMost plan s.log key (look plan s key).num
      go None e h = subst (λ n. ExposedAtMost plan s.log key n) (reach_none (look plan s key).num (entry key s.switch) e) (k.covers runs key)
      go (Some slot) e h = subst (λ n. ExposedAtMost plan s.log key n) (reach_outdated (look plan s key).num (entry key s.switch) slot e h) (k.covers runs key)

  latest_current : LatestIsCurrent plan s
  latest_current runs key slot e h = subst (λ n. ExposedAtMost plan s.log key n) (reach_latest (look plan s key).num (entry key s.switch) slot e h) (k.covers runs key)

  -- ---- own numbers arrive

  pub record FlightOf (c : ℕ) : Type 0 where
    pub message : Message
    pub among : Among message s.bag
    pub caller : ℕ
    pub op : ℕ
    pub is : subject message.packet ≡ OfOperation caller op
    pub same : caller ≡ c

  of_client : (c : ℕ) (sub : Subject) → is_of_client c sub ≡ true → (caller : ℕ) × (op : ℕ) × (sub ≡ OfOperation caller op) × (caller ≡ c)
  of_client c (OfOperation caller op) h = (caller, op, refl, eqb-true caller c h)
  of_client c _ h = absurd cc

  counts_some : {A : Type 0} (p : A → Bool) (xs : List A) → 0 < count_by p xs → (x : A) × Among x xs × (p x ≡ true)
  counts_some p [] h = absurd (omega (arith, h))
  counts_some p (x ∷ xs) h = go (λ b. counts_some p xs b) (p x) refl
    where
      cons : count_by p (x ∷ xs) ≡ cond {A = ℕ} (p x) 1 0 + count_by p xs
      cons = sum_by-cons (λ y. cond {A = ℕ} (p y) 1 0) x xs

      go : (0 < count_by p xs → (y : _) × Among y xs × (p y ≡ true)) → (b : Bool) → p x ≡ b → (y : _) × Among y (x ∷ xs) × (p y ≡ true)
      go f true e = (x, inl refl, e)
      go f false e =
          let none : cond {A = ℕ} (p x) 1 0 ≡ 0 = ap (λ b. cond {A = ℕ} b 1 0) e in
          let r = f (let c = cons in omega (arith, c, none, h)) in (r.0, inr r.1, r.2)

  -- a client that waits has a packet on its way
  flight_of : OneFlightPerOperation s → (c op : ℕ) → (client_at s c).waits ≡ Some op → FlightOf c
  flight_of one c op w =
      let count : flights_of c s.bag ≡ 1 = one.one c ∙ ap open_count w in
      let m = counts_some (λ (m : Message). is_of_client c (subject m.packet)) s.bag (omega (arith, count)) in
      let o = of_client c (subject m.0.packet) m.2 in
      record { message = m.0; among = m.1; caller = o.0; op = o.1; is = o.2; same = o.3 }

  -- a write has an answer of the switch's own only under its own number
  marked_is_near : (at op num : ℕ) → Among (line_at at (Numbered op num)) s.log → IsMarkedNear s.log op → IsAnsweredNear s.log op num
  marked_is_near at op num a m =
      let own : IsOwnNumber s.log m.emitted_at op m.num = ((k.lines _ m.emitted).stands).stored ((k.lines _ a).stands).write in
      let same : m.num ≡ num = numbered_once _ _ op _ _ own.numbered a in
      record { emitted_at = m.emitted_at; body = m.body; emitted = subst (λ n. Among (line_at m.emitted_at (Emitted op n m.body true)) s.log) same m.emitted }

  pub marked_is_absorbed : (key : List ℕ) (num : ℕ) → IsWriteMarkedNear plan s.log key num → IsAbsorbed plan s.log key num
  marked_is_absorbed key num w = record { op = w.op; on_key = w.on_key; numbered_at = w.numbered_at; numbered = w.numbered; absorbed = marked_is_near w.numbered_at w.op num w.numbered w.marked }

  pub absorbed_is_marked : (key : List ℕ) (num : ℕ) → IsAbsorbed plan s.log key num → IsWriteMarkedNear plan s.log key num
  absorbed_is_marked key num w = record {
    op = w.op;
    on_key = w.on_key;
    numbered_at = w.numbered_at;
    numbered = w.numbered;
    marked = record { emitted_at = w.absorbed.emitted_at; num = num; body = w.absorbed.body; emitted = w.absorbed.emitted };
  }

  abbrev Arrives : ℕ → ℕ → Type 0
  Arrives op num = IsAnsweredNear s.log op num ⊎ ((num ≤ (look plan s (line_of plan.ops op).key).num) ⊎ IsForwarded s op num)

  emitted_arrives : (at op num moment : ℕ) → Among (line_at at (Numbered op num)) s.log → IsAnswering s.log moment op → Arrives op num
  emitted_arrives at op num moment a h =
      let e = (k.lines _ h.emitted).stands in
      let write = ((k.lines _ a).stands).write in
      go e.key e.on_key (e.own write) h.near (e.stored write) h.emitted
    where
      go : (key : List ℕ) → (line_of plan.ops op).key ≡ key → ReachesOwnNumber s.log h.emitted_at op h.num → (near : Bool) → MatchBool near (IsOwnNumber s.log h.emitted_at op h.num) (h.num ≤ (look plan s key).num)
          → Among (line_at h.emitted_at (Emitted op h.num h.body near)) s.log → Arrives op num
      go key on own true p there =
          let same : h.num ≡ num = numbered_once _ _ op _ _ p.numbered a in
          inl (record { emitted_at = h.emitted_at; body = h.body; emitted = subst (λ n. Among (line_at h.emitted_at (Emitted op n h.body true)) s.log) same there })
      go key on own false b there =
          let same : own.own ≡ num = numbered_once _ _ op _ _ own.is.numbered a in
          let within = own.within in
          inr (inl (subst (λ q. num ≤ (look plan s q).num) (sym on) (omega (arith, same, within, b))))

  -- by what is on its way of the operation
  packet_arrives : (at op num : ℕ) → Among (line_at at (Numbered op num)) s.log → (m : Message) → Among m s.bag → (q : Packet) → m.packet ≡ q → (caller other : ℕ) → subject q ≡ OfOperation caller other → other ≡ op → Relies plan s q → Arrives op num
  packet_arrives at op num a m b (GetReq c o key) e caller other is same h =
      let o_is : o ≡ op = (same_subject c o caller other is).1 ∙ same in
      let write = subst (λ n. is_read (line_of plan.ops n).op ≡ false) (sym o_is) ((k.lines _ a).stands).write in
      absurd (let clash = sym h.read ∙ write in cc)
  packet_arrives at op num a m b (WriteReq c o key body) e caller other is same h =
      let o_is : o ≡ op = (same_subject c o caller other is).1 ∙ same in
      absurd (h.unnumbered _ a o_is)
  packet_arrives at op num a m b (GetFwd c o key tag) e caller other is same h =
      let o_is : o ≡ op = (same_subject c o caller other is).1 ∙ same in
      let write = subst (λ n. is_read (line_of plan.ops n).op ≡ false) (sym o_is) ((k.lines _ a).stands).write in
      absurd (let clash = sym h.read ∙ write in cc)
  packet_arrives at op num a m b (WriteFwd c o key own body) e caller other is same h =
      let o_is : o ≡ op = (same_subject c o caller other is).1 ∙ same in
      let own_is : own ≡ num = numbered_once _ _ op _ _ (subst (λ n. Among (line_at h.own.numbered_at (Numbered n own)) s.log) o_is h.own.numbered) a in
      inr (inr (record { message = m; there = b; is = subst (IsForwardOf op num) (sym e) (o_is, own_is) }))
  packet_arrives at op num a m b (GetRep c o key tag n body) e caller other is same h =
      let o_is : o ≡ op = (same_subject c o caller other is).1 ∙ same in
      let write = subst (λ n. is_read (line_of plan.ops n).op ≡ false) (sym o_is) ((k.lines _ a).stands).write in
      absurd (let clash = sym h.read ∙ write in cc)
  packet_arrives at op num a m b (WriteRep c o key n body) e caller other is same h =
      let o_is : o ≡ op = (same_subject c o caller other is).1 ∙ same in
      let own_is : h.own.own ≡ num = numbered_once _ _ op _ _ (subst (λ n. Among (line_at h.own.is.numbered_at (Numbered n h.own.own)) s.log) o_is h.own.is.numbered) a in
      let within = h.own.within in
      let known = h.known in
      let on : key ≡ (line_of plan.ops op).key = sym h.serves.on_key ∙ ap (λ n. (line_of plan.ops n).key) o_is in
      inr (inl (subst (λ q. num ≤ (look plan s q).num) on (omega (arith, own_is, within, known))))
  packet_arrives at op num a m b (GetAns c o key n body near) e caller other is same h =
      let o_is : o ≡ op = (same_subject c o caller other is).1 ∙ same in
      emitted_arrives at op num s.steps a (subst (IsAnswering s.log s.steps) o_is h.emitted)
  packet_arrives at op num a m b (WriteAns c o key n kept) e caller other is same h =
      let o_is : o ≡ op = (same_subject c o caller other is).1 ∙ same in
      emitted_arrives at op num s.steps a (subst (IsAnswering s.log s.steps) o_is h.emitted)
  packet_arrives at op num a m b _ e caller other is same h = absurd cc

  numbers_arrive : OneFlightPerOperation s → NumbersArrive plan s
  numbers_arrive one at op num a = go (k.open_or_answered sent.sent_at op sent.sent)
    where
      sent : IsSent plan s.log at op
      sent = ((k.lines _ a).stands).sent

      go : IsOpenOrAnswered plan s op → Arrives op num
      go (inl w) =
          let f = flight_of one (line_of plan.ops op).client op w in
          let waits = (one.waited f.message f.caller f.op f.among f.is).1 in
          let same : f.op ≡ op = same_Some f.op op (sym waits ∙ ap (λ c. (client_at s c).waits) f.same ∙ w) in
          packet_arrives at op num a f.message f.among f.message.packet refl f.caller f.op f.is same (k.relies f.message f.among)
      go (inr h) = emitted_arrives at op num h.answered_at a (k.lines _ h.answered).stands

  pub numbers_sound : OneFlightPerOperation s → NumbersAreSound plan s
  numbers_sound one = record {
    differ = numbers_differ;
    served = λ m a. served m.packet (k.relies m a);
    arrive = numbers_arrive one;
    floors = λ m a. floors m.packet (k.relies m a);
    written = record {
      servers = k.records;
      slots = λ key slot e latest. (k.slots key slot e).written latest;
      packets = λ m a. written m.packet (k.relies m a);
    };
    server = server_current;
    latest = latest_current;
    tagged = λ m a. tagged m.packet (k.relies m a);
  }

  -- ---- the log

  rises : (log : List LogLine) → Pairs Earlier log → Pairs (λ (x y : LogLine). x.moment ≤ y.moment) log
  rises [] h = tt
  rises (l ∷ ls) h = (each_from_among (λ (y : LogLine). l.moment ≤ y.moment) ls (λ y a. (each_among (Earlier l) y ls h.0 a).0), rises ls h.1)

  by_plan : SendsByPlan plan s.log
  by_plan = record {
    line = λ at op line a. (k.lines _ a).stands;
    sent = λ l op a tells. let h = named_sent plan s k op l a tells in record { sent_at = h.sent_at; line = line_of plan.ops op; sent = h.sent; before = h.before };
  }

  in_full : (at op : ℕ) → Among (line_at at (Answered op)) s.log → IsAnsweredInFull s.log op (is_read (line_of plan.ops op).op)
  in_full at op a =
      let h = (k.lines _ a).stands in
      let e = (k.lines _ h.emitted).stands in
      record {
        answered_at = at;
        answered = a;
        emitted = h;
        numbered = λ write. let own = e.own write in (own.own, record { numbered_at = own.is.numbered_at; numbered = own.is.numbered; before = le_trans own.is.before h.before });
      }

  closed : ClosedAreAnswered s
  closed at op line a idle = go (k.open_or_answered at op (subst (λ w. Among (line_at at (Sent op w)) s.log) is a))
    where
      is : line ≡ line_of plan.ops op
      is = (k.lines _ a).stands

      go : IsOpenOrAnswered plan s op → IsAnsweredInFull s.log op (is_read line.op)
      go (inl w) = absurd (let e = sym (subst (λ (l : OpLine). (client_at s l.client).waits ≡ None) is idle) ∙ w in cc)
      go (inr h) = subst (λ (l : OpLine). IsAnsweredInFull s.log op (is_read l.op)) (sym is) (in_full h.answered_at op h.answered)

  current : AnswersAreCurrent s.log
  current = record {
    read = λ sent_at at op num line body near a e read. floor sent_at at op num line body near a e read;
    write = λ numbered_at at op own num body near a e. least numbered_at at op own num body near a e;
  }
    where
      floor : (sent_at at op num : ℕ) (line : OpLine) (body : Option (List ℕ)) (near : Bool) → Among (line_at sent_at (Sent op line)) s.log → Among (line_at at (Emitted op num body near)) s.log → is_read line.op ≡ true → exposed s.log line.key sent_at ≤ num
      floor sent_at at op num line body near a e read =
          let is : line ≡ line_of plan.ops op = (k.lines _ a).stands in
          let h = (k.lines _ e).stands in
          let same : h.sent.sent_at ≡ sent_at = sent_once _ _ op _ _ h.sent.sent a in
          let key : h.key ≡ line.key = sym (ap (λ (w : OpLine). w.key) is ∙ h.on_key) in
          let shown = h.floor (subst (λ (w : OpLine). is_read w.op ≡ true) is read) in
          exposed_most plan s k line.key sent_at num (subst (λ n. ExposedAtMostBy plan s.log line.key n num) same (subst (λ q. ExposedAtMostBy plan s.log q h.sent.sent_at num) key shown))

      least : (numbered_at at op own num : ℕ) (body : Option (List ℕ)) (near : Bool) → Among (line_at numbered_at (Numbered op own)) s.log → Among (line_at at (Emitted op num body near)) s.log → own ≤ num
      least numbered_at at op own num body near a e =
          let h = ((k.lines _ e).stands).own ((k.lines _ a).stands).write in
          let same : h.own ≡ own = numbered_once _ _ op _ _ h.is.numbered a in
          let within = h.within in
          omega (arith, same, within)

  pub log_sound : LogIsSound plan s
  log_sound = record {
    coherent = coherent plan s k;
    timely = record { rises = rises s.log k.order; passed = λ l a. (k.lines l a).passed };
    by_plan = by_plan;
    closed = closed;
    current = current;
  }

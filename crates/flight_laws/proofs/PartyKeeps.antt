-- What servers and clients do keeps what is in flight.
use Rattle.std.proofs.Common.{◌≡◌, ℕ, zero, suc, ◌+◌, ◌≤◌, ◌<◌, ◌⊎◌, inl, inr, Bool, true, false, true≢false, cond, ◌&&◌, nat_eq, nat_lt, eq-eqb, ne_eqb, max, List, [], ◌∷◌, ◌++◌, length, get_or, set, refl, sym, ap, ◌∙◌, subst, arith}
use Rattle.std.specs.Prelude.{Option, None, Some, filter}
use Rattle.std.specs.List.{count_by}
use Rattle.std.proofs.lemmas.Bool.{cases_eq}
use Rattle.std.proofs.lemmas.List.Sums.{length-filter}
use Rattle.far_base.specs.PlanView.{PlanView}
use Rattle.far_base.specs.declared.packet.Message.{Message}
use Rattle.far_base.specs.declared.packet.Out.{Out}
use Rattle.far_base.specs.declared.packet.Packet.{Packet}
use Rattle.far_base.specs.declared.packet.Packet.TheVariants.{GetFwd, WriteFwd, GetRep, WriteRep, GetAns, WriteAns, Store, Stored, Release, Ask, Told, TopAsk, TopIs}
use Rattle.far_base.specs.declared.party.Party.{Party}
use Rattle.far_base.specs.declared.party.Party.TheVariants.{Client, Server, Controller}
use Rattle.far_base.specs.declared.record.Record.{Record}
use Rattle.far_model.specs.Clients.{ClientState, answered_record, client_takes, closed, script, tells, tells_each}
use Rattle.far_model.specs.Events.{client_turn, is_switch, reply_goes_to, server_turn}
use Rattle.far_model.specs.Evictions.{Eviction}
use Rattle.far_invariants.specs.Flights.{Subject, OfRound, open_count, subject}
use Rattle.far_model.specs.KeyedRecords.{put_record}
use Rattle.far_model.specs.Log.{same_key}
use Rattle.far_model.specs.Members.{Among}
use Rattle.far_model.specs.Parties.{Turn, messages_from}
use Rattle.far_model.specs.Rounds.{Round, Telling, telling_at}
use Rattle.far_model.specs.State.{State, client_at, nobody}
use Rattle.far_model.proofs.Members.{among_append, among_map}
use Rattle.far_invariants.specs.InFlight.{Emptied, FitsDue, IsAsked, IsTelling, RoundFlies, RoundsFly, TotalIs, epoch_in, is_ask, is_job_from, is_told, is_top}
use Rattle.far_invariants.specs.Sizes.{PreservesFew}
use Rattle.flight_laws.proofs.Counts.{count_append, count_cons, count_none, counted, counted_false, counted_true, none_counted}
use Rattle.flight_laws.proofs.Frames.{owners_refl, plain_admissions, plain_evictions, rounds_last, snapshots_last}
use Rattle.flight_laws.proofs.Moves.{Takes, moves_taken, of_admission, of_eviction, of_round, of_snapshot, sent_is}
use Rattle.flight_laws.proofs.SwitchKeeps.{Inv, evictions_answer}

-- ---- a packet of a round or of a job is answered by one that counts the same

pub record Counts (m q : Message) : Type 0 where
  pub subjects : subject q.packet ≡ subject m.packet
  pub asks : (number c : ℕ) → is_ask number c q.to q.packet ≡ is_ask number c m.to m.packet
  pub tolds : (number c : ℕ) → is_told number c q.packet ≡ is_told number c m.packet
  pub tops : (number n : ℕ) → is_top number n q.to q.packet ≡ is_top number n m.to m.packet
  pub none : (number c : ℕ) → is_told number c q.packet ≡ false
  pub from : is_switch q.from ≡ false

count_answer : (f : Message → Bool) (old rest : List Message) (m q : Message) → Takes old rest m → f q ≡ f m → count_by f (rest ++ q ∷ []) ≡ count_by f old
count_answer f old rest m q takes same =
    let both = count_append f rest (q ∷ []) in
    let last = count_cons f q [] in
    let was = takes.count f in
    let e : counted f q ≡ counted f m = ap (λ b. cond {A = ℕ} b 1 0) same in
    omega (arith, both, last, was, e)

pub rounds_answer : (plan : PlanView) (s t : State) (rest : List Message) (m q : Message) → RoundsFly plan s → Takes s.bag rest m → t.bag ≡ rest ++ q ∷ [] → Counts m q → t.running ≡ s.running → RoundsFly plan (record t { controller = s.controller })
rounds_answer plan s t rest m q h takes bag counts running = record {
  numbers = λ x number a e. numbers x number e (olds x a);
  round = round s.controller.round h.round;
}
  where
    olds : (x : Message) → Among x t.bag → Among x rest ⊎ (x ≡ q)
    olds x a = by (among_append x rest (q ∷ []) (subst (Among x) bag a))
      where
        by : Among x rest ⊎ Among x (q ∷ []) → Among x rest ⊎ (x ≡ q)
        by (inl b) = inl b
        by (inr (inl e)) = inr e
        by (inr (inr b)) = absurd b

    numbers : (x : Message) (number : ℕ) → subject x.packet ≡ OfRound number → Among x rest ⊎ (x ≡ q) → number < s.controller.next_round
    numbers x number e (inl a) = h.numbers x number (takes.members x a) e
    numbers x number e (inr k) = h.numbers m number takes.there (sym counts.subjects ∙ ap (λ (w : Message). subject w.packet) (sym k) ∙ e)

    same : (f : Message → Bool) → f q ≡ f m → count_by f t.bag ≡ count_by f s.bag
    same f e = ap (count_by f) bag ∙ count_answer f s.bag rest m q takes e

    round : (o : Option Round) → RoundFlies plan s o → RoundFlies plan (record t { controller = s.controller }) o
    round None f = tt
    round (Some r) f = record {
      running = running ∙ f.running;
      quiet = λ x a. quiet x (olds x a);
      free = f.free;
      wants = f.wants;
      eviction = f.eviction;
      job = f.job;
      number = f.number;
      first_job = f.first_job;
      told_size = f.told_size;
      tops_size = f.tops_size;
      waits = f.waits;
      asked = f.asked;
      untold = f.untold;
      stores = same (λ (x : Message). is_job_from r.first_job (subject x.packet)) (ap (is_job_from r.first_job) counts.subjects) ∙ f.stores;
      tellings = λ c b. tells c (f.tellings c b);
      tops = λ n b. same (λ (x : Message). is_top r.number n x.to x.packet) (counts.tops r.number n) ∙ f.tops n b;
    }
      where
        quiet : (x : Message) → Among x rest ⊎ (x ≡ q) → is_switch x.from ≡ false
        quiet x (inl a) = f.quiet x (takes.members x a)
        quiet x (inr e) = ap (λ (w : Message). is_switch w.from) e ∙ counts.from

        asks : (c : ℕ) → count_by (λ (x : Message). is_ask r.number c x.to x.packet) t.bag ≡ count_by (λ (x : Message). is_ask r.number c x.to x.packet) s.bag
        asks c = same (λ (x : Message). is_ask r.number c x.to x.packet) (counts.asks r.number c)

        tolds : (c : ℕ) → count_by (λ (x : Message). is_told r.number c x.packet) t.bag ≡ count_by (λ (x : Message). is_told r.number c x.packet) s.bag
        tolds c = same (λ (x : Message). is_told r.number c x.packet) (counts.tolds r.number c)

        tells : (c : ℕ) → IsAsked s.bag r c ⊎ IsTelling s.bag r c → IsAsked t.bag r c ⊎ IsTelling t.bag r c
        tells c (inl k) = inl (record { asked = asks c ∙ k.asked; told = tolds c ∙ k.told; none = k.none })
        tells c (inr k) = inr (record { total = k.total; asked = asks c ∙ k.asked; told = let e = tolds c in let b = k.told in omega (arith, e, b); same = λ x a e. total x e (olds x a); known = k.known })
          where
            total : (x : Message) → is_told r.number c x.packet ≡ true → Among x rest ⊎ (x ≡ q) → TotalIs k.total x.packet
            total x e (inl a) = k.same x (takes.members x a) e
            total x e (inr z) = absurd (true≢false (sym e ∙ ap (λ (w : Message). is_told r.number c w.packet) z ∙ counts.none r.number c))

-- ---- servers

module _ (plan : PlanView) (s : State) (h : Inv plan s) (rest : List Message) (n : ℕ) (from : Party) where
  abbrev served : Packet → Packet → State
  served p q = server_turn s n rest p (Some q)

  abbrev reply : Packet → Message
  reply q = record { from = Server n; to = reply_goes_to q; packet = q }

  abbrev asked : Packet → Message
  asked p = record { from = from; to = Server n; packet = p }

  only : (class : Subject → Bool) (q : Packet) → class (subject q) ≡ false → (x : Message) → Among x (reply q ∷ []) → class (subject x.packet) ≡ false
  only class q e x (inl k) = ap (λ (w : Message). class (subject w.packet)) k ∙ e
  only class q e x (inr a) = absurd a

  server_keeps' : (p q : Packet) → Takes s.bag rest (asked p) → subject q ≡ subject p → of_admission (subject p) ≡ false → of_snapshot (subject p) ≡ false → epoch_in q ≡ 0 → ((e : Eviction) → FitsDue s.controller.epoch e q)
      → Emptied s.switch s.controller q → RoundsFly plan (served p q) → Inv plan (served p q)
  server_keeps' p q takes same a sn none due new rounds = record {
    sized = record { view = h.sized.view; states = h.sized.states; parts = h.sized.parts; views = h.sized.views; done = h.sized.done; preserved = h.sized.preserved };
    epochs = record { running = h.epochs.running; sent = λ x b. sent x (among_append x rest (reply q ∷ []) b) };
    admissions = plain_admissions s (served p q) h.admissions (moves_taken of_admission s.bag rest (reply q ∷ []) (asked p) takes a (only of_admission q (ap of_admission same ∙ a))) refl (λ e. e) (λ e. e) (omega arith) refl (owners_refl s.switch);
    evictions = evictions_answer s (served p q) rest (asked p) (reply q) h.evictions takes refl same (λ e own f. due e) (λ e. e) (λ e i tag key st off. off) (λ e. new);
    snapshots = snapshots_last plan s (served p q) h.snapshots (record { moves = moves_taken of_snapshot s.bag rest (reply q ∷ []) (asked p) takes sn (only of_snapshot q (ap of_snapshot same ∙ sn)); epoch = refl; job = refl; running = λ e. e; ids = omega arith; snap = refl; taken = refl });
    rounds = rounds;
  }
    where
      sent : (x : Message) → Among x rest ⊎ Among x (reply q ∷ []) → epoch_in x.packet ≤ s.controller.epoch
      sent x (inl b) = h.epochs.sent x (takes.members x b)
      sent x (inr (inl e)) = let z : epoch_in x.packet ≡ 0 = ap (λ (w : Message). epoch_in w.packet) e ∙ none in omega (arith, z)
      sent x (inr (inr b)) = absurd b

  rounds_on : (p q : Packet) → Takes s.bag rest (asked p) → of_round (subject p) ≡ false → subject q ≡ subject p → RoundsFly plan (served p q)
  rounds_on p q takes off same = rounds_last plan s (served p q) h.rounds (record {
    moves = moves_taken of_round s.bag rest (reply q ∷ []) (asked p) takes off (only of_round q (ap of_round same ∙ off));
    sources = λ x a. by x (among_append x rest (reply q ∷ []) a);
    running = refl;
    round = refl;
    numbers = omega arith;
    jobs = omega arith;
    slots = refl;
    wants = refl;
    eviction = refl;
    job = refl;
  })
    where
      by : (x : Message) → Among x rest ⊎ Among x (reply q ∷ []) → Among x s.bag ⊎ (is_switch x.from ≡ false)
      by x (inl b) = inl (takes.members x b)
      by x (inr (inl e)) = inr (ap (λ (w : Message). is_switch w.from) e)
      by x (inr (inr b)) = absurd b

  pub get_served : (caller op : ℕ) (key : List ℕ) (tag num : ℕ) (body : Option (List ℕ)) → Takes s.bag rest (asked (GetFwd caller op key tag)) → Inv plan (served (GetFwd caller op key tag) (GetRep caller op key tag num body))
  get_served caller op key tag num body takes = server_keeps' (GetFwd caller op key tag) (GetRep caller op key tag num body) takes refl refl refl refl (λ e. tt) tt (rounds_on (GetFwd caller op key tag) (GetRep caller op key tag num body) takes refl refl)

  pub write_served : (caller op : ℕ) (key : List ℕ) (num own : ℕ) (body other : Option (List ℕ)) → Takes s.bag rest (asked (WriteFwd caller op key num body)) → Inv plan (served (WriteFwd caller op key num body) (WriteRep caller op key own other))
  write_served caller op key num own body other takes = server_keeps' (WriteFwd caller op key num body) (WriteRep caller op key own other) takes refl refl refl refl (λ e. tt) tt (rounds_on (WriteFwd caller op key num body) (WriteRep caller op key own other) takes refl refl)

  pub store_served : (job : ℕ) (item : Record) → Takes s.bag rest (asked (Store job item)) → Inv plan (served (Store job item) (Stored job))
  store_served job item takes = server_keeps' (Store job item) (Stored job) takes refl refl refl refl (λ e. tt) tt
      (rounds_answer plan s (served (Store job item) (Stored job)) rest (asked (Store job item)) (reply (Stored job)) h.rounds takes refl (record { subjects = refl; asks = λ a b. refl; tolds = λ a b. refl; tops = λ a b. refl; none = λ a b. refl; from = refl }) refl)

  pub top_served : (round top : ℕ) → Takes s.bag rest (asked (TopAsk round)) → Inv plan (served (TopAsk round) (TopIs round n top))
  top_served round top takes = server_keeps' (TopAsk round) (TopIs round n top) takes refl refl refl refl (λ e. tt) tt
      (rounds_answer plan s (served (TopAsk round) (TopIs round n top)) rest (asked (TopAsk round)) (reply (TopIs round n top)) h.rounds takes refl (record { subjects = refl; asks = λ a b. refl; tolds = λ a b. refl; tops = λ a b. refl; none = λ a b. refl; from = refl }) refl)

-- ---- clients

-- an element after one was set
pub set_cases : {A : Type 0} (xs : List A) (i j : ℕ) (x d : A) → ((j ≡ i) × (get_or (set xs i x) j d ≡ x)) ⊎ (get_or (set xs i x) j d ≡ get_or xs j d)
set_cases [] i j x d = inr refl
set_cases (y ∷ ys) zero zero x d = inl (refl, refl)
set_cases (y ∷ ys) zero (suc j) x d = inr refl
set_cases (y ∷ ys) (suc i) zero x d = inr refl
set_cases (y ∷ ys) (suc i) (suc j) x d = by (set_cases ys i j x d)
  where
    by : ((j ≡ i) × (get_or (set ys i x) j d ≡ x)) ⊎ (get_or (set ys i x) j d ≡ get_or ys j d) → ((suc j ≡ suc i) × (get_or (set ys i x) j d ≡ x)) ⊎ (get_or (set ys i x) j d ≡ get_or ys j d)
    by (inl e) = inl (ap suc e.0, e.1)
    by (inr e) = inr e

-- what a client preserves, has to send and waits for
abbrev pub burden : ClientState → ℕ
burden c = length c.preserved + length c.left + open_count c.waits

pub few_after : (plan : PlanView) (s t : State) (c : ℕ) (new : ClientState) → t.clients ≡ set s.clients c new → burden new ≤ burden (client_at s c) → ((d : ℕ) → PreservesFew plan s d) → (d : ℕ) → PreservesFew plan t d
few_after plan s t c new clients less few d = by (set_cases s.clients c d new nobody)
  where
    at : client_at t d ≡ get_or (set s.clients c new) d nobody
    at = ap (λ l. get_or l d nobody) clients

    by : ((d ≡ c) × (get_or (set s.clients c new) d nobody ≡ new)) ⊎ (get_or (set s.clients c new) d nobody ≡ client_at s d) → burden (client_at t d) ≤ length (script plan.ops d)
    by (inr e) = subst (λ (x : ClientState). burden x ≤ length (script plan.ops d)) (sym (at ∙ e)) (few d)
    by (inl e) =
        let f = few c in
        let size : length (script plan.ops d) ≡ length (script plan.ops c) = ap (λ n. length (script plan.ops n)) e.0 in
        subst (λ (x : ClientState). burden x ≤ length (script plan.ops d)) (sym (at ∙ e.1)) (omega (arith, f, less, size))

put_longer : (r : Record) (records : List Record) → length (put_record r records) ≤ length records + 1
put_longer r [] = omega arith
put_longer r (x ∷ xs) = go (same_key x.key r.key) (put_longer r xs)
  where
    go : (b : Bool) → length (put_record r xs) ≤ length xs + 1 → length (cond b (r ∷ xs) (x ∷ put_record r xs)) ≤ suc (length xs) + 1
    go true h = omega arith
    go false h = omega (arith, h)

count_most : {A : Type 0} (p : A → Bool) (xs : List A) → count_by p xs ≤ length xs
count_most p [] = omega arith
count_most p (x ∷ xs) = let c = count_cons p x xs in let m = count_most p xs in let l = one (p x) in omega (arith, c, m, l)
  where
    one : (b : Bool) → cond {A = ℕ} b 1 0 ≤ 1
    one true = omega arith
    one false = omega arith

filter_shorter : {A : Type 0} (p : A → Bool) (xs : List A) → length (filter p xs) ≤ length xs
filter_shorter p xs = let e = length-filter p xs in let m = count_most p xs in omega (arith, e, m)

module _ (plan : PlanView) (s : State) (h : Inv plan s) (rest : List Message) (m : Message) (takes : Takes s.bag rest m) (c : ℕ) (turn : Turn ClientState) where
  abbrev after : State
  after = client_turn s c rest turn

  abbrev sent_out : List Message
  sent_out = messages_from (Client c) turn.out

  -- what a client does that is of no admission, eviction or snapshot
  client_keeps : burden turn.state ≤ burden (client_at s c) → of_admission (subject m.packet) ≡ false → of_eviction (subject m.packet) ≡ false → of_snapshot (subject m.packet) ≡ false
      → ((o : Out) → Among o turn.out → (of_admission (subject o.packet) ≡ false) × (of_eviction (subject o.packet) ≡ false) × (of_snapshot (subject o.packet) ≡ false) × (epoch_in o.packet ≡ 0)) → RoundsFly plan after → Inv plan after
  client_keeps less a e sn outs rounds = record {
    sized = record { view = h.sized.view; states = h.sized.states; parts = h.sized.parts; views = h.sized.views; done = h.sized.done; preserved = few_after plan s after c turn.state refl less h.sized.preserved };
    epochs = record { running = h.epochs.running; sent = λ x b. sent x (among_append x rest sent_out b) };
    admissions = plain_admissions s after h.admissions (moves_taken of_admission s.bag rest sent_out m takes a (λ x b. let o = sent_is (Client c) turn.out x b in ap (λ (w : Message). of_admission (subject w.packet)) o.2 ∙ (outs o.0 o.1).0)) refl (λ e. e) (λ e. e) (omega arith) refl (owners_refl s.switch);
    evictions = plain_evictions s after h.evictions (moves_taken of_eviction s.bag rest sent_out m takes e (λ x b. let o = sent_is (Client c) turn.out x b in ap (λ (w : Message). of_eviction (subject w.packet)) o.2 ∙ (outs o.0 o.1).1)) refl refl (λ e. e) (omega arith) (omega arith) refl (owners_refl s.switch);
    snapshots = snapshots_last plan s after h.snapshots (record { moves = moves_taken of_snapshot s.bag rest sent_out m takes sn (λ x b. let o = sent_is (Client c) turn.out x b in ap (λ (w : Message). of_snapshot (subject w.packet)) o.2 ∙ (outs o.0 o.1).2); epoch = refl; job = refl; running = λ e. e; ids = omega arith; snap = refl; taken = refl });
    rounds = rounds;
  }
    where
      sent : (x : Message) → Among x rest ⊎ Among x sent_out → epoch_in x.packet ≤ s.controller.epoch
      sent x (inl b) = h.epochs.sent x (takes.members x b)
      sent x (inr b) = let o = sent_is (Client c) turn.out x b in let z : epoch_in x.packet ≡ 0 = ap (λ (w : Message). epoch_in w.packet) o.2 ∙ (outs o.0 o.1).3 in omega (arith, z)

  -- an answer or a release
  client_quiet : burden turn.state ≤ burden (client_at s c) → of_admission (subject m.packet) ≡ false → of_eviction (subject m.packet) ≡ false → of_snapshot (subject m.packet) ≡ false → of_round (subject m.packet) ≡ false → turn.out ≡ [] → Inv plan after
  client_quiet less a e sn ro none = client_keeps less a e sn (λ o b. absurd (subst (Among o) none b)) (rounds_last plan s after h.rounds (record {
    moves = moves_taken of_round s.bag rest sent_out m takes ro (λ x b. let o = sent_is (Client c) turn.out x b in absurd (subst (Among o.0) none o.1));
    sources = λ x b. by x (among_append x rest sent_out b);
    running = refl;
    round = refl;
    numbers = omega arith;
    jobs = omega arith;
    slots = refl;
    wants = refl;
    eviction = refl;
    job = refl;
  }))
    where
      by : (x : Message) → Among x rest ⊎ Among x sent_out → Among x s.bag ⊎ (is_switch x.from ≡ false)
      by x (inl b) = inl (takes.members x b)
      by x (inr b) = let o = sent_is (Client c) turn.out x b in absurd (subst (Among o.0) none o.1)

-- ---- a client tells what it preserves

told_each : (round c total : ℕ) (items : List Record) (x : Message) → Among x (messages_from (Client c) (tells_each round c total items)) → (item : Option Record) × (x ≡ record { from = Client c; to = Controller; packet = Told round c total item })
told_each round c total [] x a = absurd a
told_each round c total (r ∷ rs) x (inl e) = (Some r, e)
told_each round c total (r ∷ rs) x (inr a) = told_each round c total rs x a

-- each message says the count of all
pub told_is : (round c : ℕ) (items : List Record) (x : Message) → Among x (messages_from (Client c) (tells round c items)) → (item : Option Record) × (x ≡ record { from = Client c; to = Controller; packet = Told round c (length items) item })
told_is round c [] x (inl e) = (None, e)
told_is round c [] x (inr a) = absurd a
told_is round c (r ∷ rs) x a = told_each round c (length (r ∷ rs)) (r ∷ rs) x a

each_counted : (number c round total : ℕ) (items : List Record) → number ≡ round → count_by (λ (x : Message). is_told number c x.packet) (messages_from (Client c) (tells_each round c total items)) ≡ length items
each_counted number c round total [] e = refl
each_counted number c round total (r ∷ rs) e =
    let f = λ (x : Message). is_told number c x.packet in
    let m : Message = record { from = Client c; to = Controller; packet = Told round c total (Some r) } in
    let one = counted_true f m ((λ z. eq-eqb round number (sym e) z && nat_eq c c) ∙ eq-eqb c c refl) in
    let all = count_cons f m (messages_from (Client c) (tells_each round c total rs)) in
    let more = each_counted number c round total rs e in
    omega (arith, one, all, more)

tells_counted : (number c round : ℕ) (items : List Record) → number ≡ round → count_by (λ (x : Message). is_told number c x.packet) (messages_from (Client c) (tells round c items)) ≡ max (length items) 1
tells_counted number c round [] e =
    let f = λ (x : Message). is_told number c x.packet in
    let m : Message = record { from = Client c; to = Controller; packet = Told round c 0 None } in
    let one = counted_true f m ((λ z. eq-eqb round number (sym e) z && nat_eq c c) ∙ eq-eqb c c refl) in
    let all = count_cons f m [] in
    omega (arith, one, all)
tells_counted number c round (r ∷ rs) e = let all = each_counted number c round (length (r ∷ rs)) (r ∷ rs) e in omega (arith, all)

module _ (plan : PlanView) (s : State) (h : Inv plan s) (rest : List Message) (from : Party) (c : ℕ) (round : ℕ) (takes : Takes s.bag rest (record { from = from; to = Client c; packet = Ask round })) where
  abbrev asking : Message
  asking = record { from = from; to = Client c; packet = Ask round }

  abbrev telling : Turn ClientState
  telling = client_takes plan.ops c (client_at s c) (Ask round)

  abbrev told_out : List Message
  told_out = messages_from (Client c) (tells round c (client_at s c).preserved)

  abbrev told : State
  told = client_turn s c rest telling

  told_subject : (x : Message) → Among x told_out → subject x.packet ≡ OfRound round
  told_subject x a = let o = told_is round c (client_at s c).preserved x a in ap (λ (w : Message). subject w.packet) o.1

  -- what is counted of no message that goes or comes stays
  same_count : (f : Message → Bool) → f asking ≡ false → ((x : Message) → Among x told_out → f x ≡ false) → count_by f told.bag ≡ count_by f s.bag
  same_count f off none =
      let both = count_append f rest told_out in
      let nothing = count_none f told_out none in
      let gone = counted_false f asking off in
      let old = takes.count f in
      omega (arith, both, nothing, gone, old)

  told_rounds : RoundsFly plan told
  told_rounds = record {
    numbers = λ x number a e. numbers x number e (among_append x rest told_out a);
    round = rounds s.controller.round h.rounds.round;
  }
    where
      numbers : (x : Message) (number : ℕ) → subject x.packet ≡ OfRound number → Among x rest ⊎ Among x told_out → number < s.controller.next_round
      numbers x number e (inl a) = h.rounds.numbers x number (takes.members x a) e
      numbers x number e (inr a) = h.rounds.numbers asking number takes.there (sym (told_subject x a) ∙ e)

      rounds : (o : Option Round) → RoundFlies plan s o → RoundFlies plan told o
      rounds None f = tt
      rounds (Some r) f = record {
        running = f.running;
        quiet = λ x a. quiet x (among_append x rest told_out a);
        free = f.free;
        wants = f.wants;
        eviction = f.eviction;
        job = f.job;
        number = f.number;
        first_job = f.first_job;
        told_size = f.told_size;
        tops_size = f.tops_size;
        waits = f.waits;
        asked = f.asked;
        untold = f.untold;
        stores = same_count (λ (x : Message). is_job_from r.first_job (subject x.packet)) refl (λ x a. ap (is_job_from r.first_job) (told_subject x a)) ∙ f.stores;
        tellings = λ d b. tellings d (f.tellings d b) (cases_eq c d) (cases_eq round r.number);
        tops = λ n b. same_count (λ (x : Message). is_top r.number n x.to x.packet) refl (λ x a. let o = told_is round c (client_at s c).preserved x a in ap (λ (w : Message). is_top r.number n w.to w.packet) o.1) ∙ f.tops n b;
      }
        where
          quiet : (x : Message) → Among x rest ⊎ Among x told_out → is_switch x.from ≡ false
          quiet x (inl a) = f.quiet x (takes.members x a)
          quiet x (inr a) = let o = told_is round c (client_at s c).preserved x a in ap (λ (w : Message). is_switch w.from) o.1

          -- of another client or round
          other : (d : ℕ) → is_ask r.number d (Client c) (Ask round) ≡ false → ((x : Message) → Among x told_out → is_told r.number d x.packet ≡ false) → IsAsked s.bag r d ⊎ IsTelling s.bag r d → IsAsked told.bag r d ⊎ IsTelling told.bag r d
          other d off none k = by k
            where
              asks : count_by (λ (x : Message). is_ask r.number d x.to x.packet) told.bag ≡ count_by (λ (x : Message). is_ask r.number d x.to x.packet) s.bag
              asks = same_count (λ (x : Message). is_ask r.number d x.to x.packet) off (λ x a. let o = told_is round c (client_at s c).preserved x a in ap (λ (w : Message). is_ask r.number d w.to w.packet) o.1)

              tolds : count_by (λ (x : Message). is_told r.number d x.packet) told.bag ≡ count_by (λ (x : Message). is_told r.number d x.packet) s.bag
              tolds = same_count (λ (x : Message). is_told r.number d x.packet) refl none

              by : IsAsked s.bag r d ⊎ IsTelling s.bag r d → IsAsked told.bag r d ⊎ IsTelling told.bag r d
              by (inl k) = inl (record { asked = asks ∙ k.asked; told = tolds ∙ k.told; none = k.none })
              by (inr k) = inr (record { total = k.total; asked = asks ∙ k.asked; told = let e = tolds in let b = k.told in omega (arith, e, b); same = λ x a e. total x e (among_append x rest told_out a); known = k.known })
                where
                  total : (x : Message) → is_told r.number d x.packet ≡ true → Among x rest ⊎ Among x told_out → TotalIs k.total x.packet
                  total x e (inl a) = k.same x (takes.members x a) e
                  total x e (inr a) = absurd (true≢false (sym e ∙ none x a))

          off_round : (d : ℕ) → (round ≡ r.number → ⊥) → (b : Bool) → nat_eq round r.number && b ≡ false
          off_round d ne b = ap (λ z. z && b) (ne_eqb round r.number ne)

          off_client : (d : ℕ) → (c ≡ d → ⊥) → (b : Bool) → b && nat_eq c d ≡ false
          off_client d ne true = ne_eqb c d ne
          off_client d ne false = refl

          tellings : (d : ℕ) → IsAsked s.bag r d ⊎ IsTelling s.bag r d → (c ≡ d) ⊎ (c ≡ d → ⊥) → (round ≡ r.number) ⊎ (round ≡ r.number → ⊥) → IsAsked told.bag r d ⊎ IsTelling told.bag r d
          tellings d k (inr ne) e = other d (off_client d ne (nat_eq round r.number)) (λ x a. let o = told_is round c (client_at s c).preserved x a in ap (λ (w : Message). is_told r.number d w.packet) o.1 ∙ off_client d ne (nat_eq round r.number)) k
          tellings d k (inl e) (inr ne) = other d (off_round d ne (nat_eq c d)) (λ x a. let o = told_is round c (client_at s c).preserved x a in ap (λ (w : Message). is_told r.number d w.packet) o.1 ∙ off_round d ne (nat_eq c d)) k
          tellings d k (inl e) (inl same) = subst (λ n. IsAsked told.bag r n ⊎ IsTelling told.bag r n) e (mine (subst (λ n. IsAsked s.bag r n ⊎ IsTelling s.bag r n) (sym e) k))
            where
              ask_one : counted (λ (x : Message). is_ask r.number c x.to x.packet) asking ≡ 1
              ask_one = counted_true (λ (x : Message). is_ask r.number c x.to x.packet) asking ((λ z. eq-eqb round r.number same z && nat_eq c c) ∙ eq-eqb c c refl)

              mine : IsAsked s.bag r c ⊎ IsTelling s.bag r c → IsAsked told.bag r c ⊎ IsTelling told.bag r c
              mine (inr k) = absurd (let old = takes.count (λ (x : Message). is_ask r.number c x.to x.packet) in let one = ask_one in let z = k.asked in omega (arith, old, one, z))
              mine (inl k) = inr (record {
                total = length (client_at s c).preserved;
                asked =
                    let f = λ (x : Message). is_ask r.number c x.to x.packet in
                    let both = count_append f rest told_out in
                    let nothing = count_none f told_out (λ x a. let o = told_is round c (client_at s c).preserved x a in ap (λ (w : Message). is_ask r.number c w.to w.packet) o.1) in
                    let old = takes.count f in
                    let one = ask_one in
                    let z = k.asked in
                    omega (arith, both, nothing, old, one, z);
                told =
                    let f = λ (x : Message). is_told r.number c x.packet in
                    let both = count_append f rest told_out in
                    let all = tells_counted r.number c round (client_at s c).preserved (sym same) in
                    let old = takes.count f in
                    let z = k.told in
                    let none : (telling_at r c).count ≡ 0 = ap (λ (x : Telling). x.count) k.none in
                    omega (arith, both, all, old, z, none);
                same = λ x a e. total x e (among_append x rest told_out a);
                known = inl k.none;
              })
                where
                  total : (x : Message) → is_told r.number c x.packet ≡ true → Among x rest ⊎ Among x told_out → TotalIs (length (client_at s c).preserved) x.packet
                  total x e (inl a) = absurd (true≢false (sym e ∙ none_counted (λ (x : Message). is_told r.number c x.packet) s.bag x k.told (takes.members x a)))
                  total x e (inr a) = let o = told_is round c (client_at s c).preserved x a in subst (λ (w : Message). TotalIs (length (client_at s c).preserved) w.packet) (sym o.1) refl

  pub ask_keeps : Inv plan told
  ask_keeps = client_keeps plan s h rest asking takes c telling (omega arith) refl refl refl
      (λ o a. let m = among_map_out o a in m) told_rounds
    where
      of_told : (o : Out) → subject o.packet ≡ OfRound round → epoch_in o.packet ≡ 0 → (of_admission (subject o.packet) ≡ false) × (of_eviction (subject o.packet) ≡ false) × (of_snapshot (subject o.packet) ≡ false) × (epoch_in o.packet ≡ 0)
      of_told o e z = (ap of_admission e, ap of_eviction e, ap of_snapshot e, z)

      among_map_out : (o : Out) → Among o (tells round c (client_at s c).preserved) → (of_admission (subject o.packet) ≡ false) × (of_eviction (subject o.packet) ≡ false) × (of_snapshot (subject o.packet) ≡ false) × (epoch_in o.packet ≡ 0)
      among_map_out o a =
          let x : Message = record { from = Client c; to = o.to; packet = o.packet } in
          let there : Among x told_out = among_map (λ (o : Out). record { from = Client c; to = o.to; packet = o.packet }) o (tells round c (client_at s c).preserved) a in
          let t = told_is round c (client_at s c).preserved x there in
          of_told o (ap (λ (w : Message). subject w.packet) t.1) (ap (λ (w : Message). epoch_in w.packet) t.1)

-- ---- answers and releases

pub get_answered : (plan : PlanView) (s : State) (h : Inv plan s) (rest : List Message) (m : Message) → Takes s.bag rest m → (caller op : ℕ) (key : List ℕ) (num : ℕ) (body : Option (List ℕ)) (near : Bool) → m.packet ≡ GetAns caller op key num body near
    → Inv plan (client_turn s caller rest (client_takes plan.ops caller (client_at s caller) (GetAns caller op key num body near)))
get_answered plan s h rest m takes caller op key num body near e = client_quiet plan s h rest m takes caller (client_takes plan.ops caller (client_at s caller) (GetAns caller op key num body near))
    (omega arith) (ap (λ p. of_admission (subject p)) e) (ap (λ p. of_eviction (subject p)) e) (ap (λ p. of_snapshot (subject p)) e) (ap (λ p. of_round (subject p)) e) refl

pub write_answered : (plan : PlanView) (s : State) (h : Inv plan s) (rest : List Message) (m : Message) → Takes s.bag rest m → (caller op : ℕ) (key : List ℕ) (num : ℕ) (kept : Bool) → m.packet ≡ WriteAns caller op key num kept → (client_at s caller).waits ≡ Some op
    → Inv plan (client_turn s caller rest (client_takes plan.ops caller (client_at s caller) (WriteAns caller op key num kept)))
write_answered plan s h rest m takes caller op key num kept e waits = client_quiet plan s h rest m takes caller (client_takes plan.ops caller (client_at s caller) (WriteAns caller op key num kept))
    (go (kept && nat_lt (client_at s caller).released num)) (ap (λ p. of_admission (subject p)) e) (ap (λ p. of_eviction (subject p)) e) (ap (λ p. of_snapshot (subject p)) e) (ap (λ p. of_round (subject p)) e) refl
  where
    go : (b : Bool) → burden (cond b (record (closed (client_at s caller)) { preserved = put_record (answered_record plan.ops op num) (client_at s caller).preserved }) (closed (client_at s caller))) ≤ burden (client_at s caller)
    go true = let one : open_count (client_at s caller).waits ≡ 1 = ap open_count waits in let l = put_longer (answered_record plan.ops op num) (client_at s caller).preserved in omega (arith, one, l)
    go false = omega arith

pub release_taken : (plan : PlanView) (s : State) (h : Inv plan s) (rest : List Message) (m : Message) → Takes s.bag rest m → (c point : ℕ) → m.packet ≡ Release point
    → Inv plan (client_turn s c rest (client_takes plan.ops c (client_at s c) (Release point)))
release_taken plan s h rest m takes c point e = client_quiet plan s h rest m takes c (client_takes plan.ops c (client_at s c) (Release point))
    (let l = filter_shorter (λ (r : Record). nat_lt (max (client_at s c).released point) r.num) (client_at s c).preserved in omega (arith, l))
    (ap (λ p. of_admission (subject p)) e) (ap (λ p. of_eviction (subject p)) e) (ap (λ p. of_snapshot (subject p)) e) (ap (λ p. of_round (subject p)) e) refl

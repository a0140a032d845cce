-- Rounds at the controller: records are told and stored, tops are asked and told; recovery begins.
use Rattle.far_invariants.specs.Slots.{IsGiven}
use Rattle.std.proofs.Common.{◌≡◌, ℕ, zero, suc, ◌≤◌, ◌<◌, ◌⊎◌, inl, inr, Bool, true, false, true≢false, cond, not, ◌&&◌, nat_eq, eq-eqb, eqb-true, ne_eqb, List, [], ◌∷◌, ◌++◌, append_assoc, length, refl, sym, ap, ◌∙◌, subst, arith, le_trans}
use Rattle.std.specs.Prelude.{None, Some, slice_index_or, is_some}
use Rattle.std.specs.List.{count_by, list_all}
use Rattle.std.proofs.lemmas.Bool.{and_parts}
use Rattle.std.proofs.lemmas.List.{map-append}
use Rattle.far_base.specs.PlanView.{PlanView}
use Rattle.far_base.specs.declared.packet.Message.{Message}
use Rattle.far_base.specs.declared.packet.Out.{Out}
use Rattle.far_base.specs.declared.packet.Packet.{Packet}
use Rattle.far_base.specs.declared.packet.Packet.TheVariants.{TopAsk, TopIs}
use Rattle.far_base.specs.declared.party.Party.{Party}
use Rattle.far_base.specs.declared.party.Party.TheVariants.{Server, Controller}
use Rattle.far_model.specs.Controller.{ControllerState, round_turn, to_servers}
use Rattle.far_model.specs.Events.{controller_turn, is_switch}
use Rattle.far_model.specs.Evictions.{state_at}
use Rattle.far_invariants.specs.Flights.{Subject, OfEviction, OfJob, OfRound, subject}
use Rattle.far_model.specs.Members.{Among}
use Rattle.far_model.specs.Parties.{Turn, messages_from}
use Rattle.far_model.specs.Rounds.{Round, asks_tops, has_told}
use Rattle.far_model.specs.State.{State}
use Rattle.far_model.proofs.Members.{among_append, among_map}
use Rattle.far_invariants.specs.InFlight.{EvictionsFly, IsAsked, IsEvicted, IsTelling, OwnFlies, RoundFlies, RoundIs, TotalIs, due_top, epoch_in, is_ask, is_job_from, is_told, is_top}
use Rattle.flight_laws.proofs.ControlKeeps.{control_admissions, control_epochs, control_sized, control_snapshots}
use Rattle.flight_laws.proofs.Counts.{count_append, count_none, counted_false, each_counted, one_each}
use Rattle.flight_laws.proofs.Moves.{Takes, moves_taken, of_admission, of_snapshot, sent_is}
use Rattle.flight_laws.proofs.SwitchKeeps.{Inv}

-- ---- the questions for the tops

tops_are : (number n more : ℕ) (x : Message) → Among x (messages_from Controller (to_servers n more (TopAsk number))) → (k : ℕ) × (x ≡ record { from = Controller; to = Server k; packet = TopAsk number })
tops_are number n zero x a = absurd a
tops_are number n (suc more) x (inl e) = (n, e)
tops_are number n (suc more) x (inr a) = tops_are number (suc n) more x a

-- each server is asked once
tops_each : (number n more : ℕ) → messages_from Controller (to_servers n more (TopAsk number)) ≡ one_each (λ k. record { from = Controller; to = Server k; packet = TopAsk number }) n more
tops_each number n zero = refl
tops_each number n (suc more) = ap (λ (l : List Message). record { from = Controller; to = Server n; packet = TopAsk number } ∷ l) (tops_each number (suc n) more)

tops_counted : (number k more : ℕ) → k < more → count_by (λ (x : Message). is_top number k x.to x.packet) (messages_from Controller (to_servers 0 more (TopAsk number))) ≡ 1
tops_counted number k more b = ap (λ l. count_by (λ (x : Message). is_top number k x.to x.packet) l) (tops_each number 0 more)
    ∙ (each_counted (λ j. record { from = Controller; to = Server j; packet = TopAsk number }) (λ (x : Message). is_top number k x.to x.packet) k ((λ z. eq-eqb number number refl z && nat_eq k k) ∙ eq-eqb k k refl)
    (λ n ne. (λ z. nat_eq number number && ne_eqb n k ne z) ∙ and_none (nat_eq number number)) 0 more).1 (omega arith) (omega (arith, b))
  where
    and_none : (b : Bool) → b && false ≡ false
    and_none true = refl
    and_none false = refl

-- ---- what the round may count in a message that is of no round

-- a step of a round: what is taken and what is sent, the round before and after
module _ (plan : PlanView) (s : State) (h : Inv plan s) (rest : List Message) (m : Message) (takes : Takes s.bag rest m) (r : Round) (is : s.controller.round ≡ Some r) where
  round_is : RoundIs plan s r
  round_is = subst (RoundFlies plan s) is h.rounds.round

  -- the turn changes the round and the next job alone
  module _ (next : Round) (job : ℕ) (out : List Out) (more : s.controller.next_job ≤ job) (a : of_admission (subject m.packet) ≡ false) (sn : of_snapshot (subject m.packet) ≡ false)
      (outs : (o : Out) → Among o out → ((j : ℕ) × (subject o.packet ≡ OfJob j) × (j < job)) ⊎ (subject o.packet ≡ OfRound r.number)) (no_epoch : (o : Out) → Among o out → epoch_in o.packet ≡ 0) where
    abbrev turn : Turn ControllerState
    turn = record { state = record s.controller { round = Some next; next_job = job }; out = out; notes = [] }

    abbrev t : State
    t = controller_turn s rest turn

    abbrev sent : List Message
    sent = messages_from Controller out

    class_off : (class : Subject → Bool) → ((j : ℕ) → class (OfJob j) ≡ false) → class (OfRound r.number) ≡ false → (x : Message) → Among x sent → class (subject x.packet) ≡ false
    class_off class f g x b = let o = sent_is Controller out x b in ap (λ (w : Message). class (subject w.packet)) o.2 ∙ by o.0 (outs o.0 o.1)
      where
        by : (o : Out) → ((j : ℕ) × (subject o.packet ≡ OfJob j) × (j < job)) ⊎ (subject o.packet ≡ OfRound r.number) → class (subject o.packet) ≡ false
        by o (inl e) = ap class e.1 ∙ f e.0
        by o (inr e) = ap class e ∙ g

    calm : EvictionsFly t
    calm = record {
      tags = λ x i tag b e. tags x i tag e (among_append x rest sent b);
      jobs = λ x j b e. jobs x j e (among_append x rest sent b);
      owned = λ x i tag key b e g. owned x i tag key e g (among_append x rest sent b);
      evicting = λ i tag key e. let o = h.evictions.evicting i tag key e in record { eviction = o.eviction; is = o.is; slot = o.slot; tag_is = o.tag_is };
      flies = subst (OwnFlies (record s.controller { round = Some next; next_job = job }) (rest ++ sent)) (sym round_is.eviction) tt;
      emptied = λ e x b. emptied e;
    }
      where
        from_sent : (x : Message) → Among x sent → ((j : ℕ) × (subject x.packet ≡ OfJob j) × (j < job)) ⊎ (subject x.packet ≡ OfRound r.number)
        from_sent x b = let o = sent_is Controller out x b in subst (λ (w : Message). ((j : ℕ) × (subject w.packet ≡ OfJob j) × (j < job)) ⊎ (subject w.packet ≡ OfRound r.number)) (sym o.2) (outs o.0 o.1)

        not_eviction : (x : Message) (i tag : ℕ) → subject x.packet ≡ OfEviction i tag → ((j : ℕ) × (subject x.packet ≡ OfJob j) × (j < job)) ⊎ (subject x.packet ≡ OfRound r.number) → ⊥
        not_eviction x i tag e (inl k) = let z : OfEviction i tag ≡ OfJob k.0 = sym e ∙ k.1 in cc
        not_eviction x i tag e (inr k) = let z : OfEviction i tag ≡ OfRound r.number = sym e ∙ k in cc

        tags : (x : Message) (i tag : ℕ) → subject x.packet ≡ OfEviction i tag → Among x rest ⊎ Among x sent → tag < s.controller.next_tag
        tags x i tag e (inl b) = h.evictions.tags x i tag (takes.members x b) e
        tags x i tag e (inr b) = absurd (not_eviction x i tag e (from_sent x b))

        jobs : (x : Message) (j : ℕ) → subject x.packet ≡ OfJob j → Among x rest ⊎ Among x sent → j < job
        jobs x j e (inl b) = le_trans (h.evictions.jobs x j (takes.members x b) e) more
        jobs x j e (inr b) = by (from_sent x b)
          where
            by : ((j : ℕ) × (subject x.packet ≡ OfJob j) × (j < job)) ⊎ (subject x.packet ≡ OfRound r.number) → j < job
            by (inl k) = let z : OfJob k.0 ≡ OfJob j = sym k.1 ∙ e in let y : k.0 ≡ j = cc in subst (λ n. n < job) y k.2
            by (inr k) = let z : OfRound r.number ≡ OfJob j = sym k ∙ e in absurd cc

        owned : (x : Message) (i tag : ℕ) (key : List ℕ) → subject x.packet ≡ OfEviction i tag → IsGiven key tag (state_at s.controller.slots i) → Among x rest ⊎ Among x sent → IsEvicted (record s.controller { round = Some next; next_job = job }) i tag
        owned x i tag key e g b = absurd (subst (IsGiven key tag) (round_is.free i) g)

        emptied : {X : Type 0} → s.running ≡ true → X
        emptied e = absurd (true≢false (sym e ∙ round_is.running))

    pub round_keeps : RoundIs plan t next → Inv plan t
    round_keeps new = record {
      sized = control_sized plan s h rest takes.members turn refl h.sized.parts h.sized.views;
      epochs = control_epochs plan s h rest takes.members turn refl (λ o b. let z = no_epoch o b in omega (arith, z));
      admissions = control_admissions plan s h rest takes.members turn (moves_taken of_admission s.bag rest sent m takes a (class_off of_admission (λ j. refl) refl)) refl (λ e. absurd cc) (omega arith) refl;
      evictions = calm;
      snapshots = control_snapshots plan s h rest takes.members turn (moves_taken of_snapshot s.bag rest sent m takes sn (class_off of_snapshot (λ j. refl) refl)) refl refl (omega arith);
      rounds = record { numbers = λ x number b e. numbers x number e (among_append x rest sent b); round = new };
    }
      where
        numbers : (x : Message) (number : ℕ) → subject x.packet ≡ OfRound number → Among x rest ⊎ Among x sent → number < s.controller.next_round
        numbers x number e (inl b) = h.rounds.numbers x number (takes.members x b) e
        numbers x number e (inr b) = let o = sent_is Controller out x b in by o.0 (ap (λ (w : Message). subject w.packet) (sym o.2) ∙ e) (outs o.0 o.1)
          where
            by : (o : Out) → subject o.packet ≡ OfRound number → ((j : ℕ) × (subject o.packet ≡ OfJob j) × (j < job)) ⊎ (subject o.packet ≡ OfRound r.number) → number < s.controller.next_round
            by o k (inl z) = let y : OfJob z.0 ≡ OfRound number = sym z.1 ∙ k in absurd cc
            by o k (inr z) = let y : OfRound r.number ≡ OfRound number = sym z ∙ k in let w : r.number ≡ number = cc in subst (λ n. n < s.controller.next_round) w round_is.number

  -- ---- the round in the middle: what came was counted, and the tops may be asked next

  module _ (mid : Round) (job : ℕ) (out : List Out) (more : s.controller.next_job ≤ job) (a : of_admission (subject m.packet) ≡ false) (sn : of_snapshot (subject m.packet) ≡ false)
      (outs : (o : Out) → Among o out → (j : ℕ) × (subject o.packet ≡ OfJob j) × (j < job)) (no_epoch : (o : Out) → Among o out → epoch_in o.packet ≡ 0)
      (number : mid.number ≡ r.number) (first : mid.first_job ≡ r.first_job) (told_size : length mid.told ≡ plan.config.clients) (asked_same : mid.asked ≡ r.asked) (tops_same : mid.tops ≡ r.tops)
      (asked : mid.asked ≡ true → (list_all has_told mid.told ≡ true) × (mid.stores ≡ 0))
      (stores : count_by (λ (x : Message). is_job_from r.first_job (subject x.packet)) (rest ++ messages_from Controller out) ≡ mid.stores)
      (tellings : (c : ℕ) → c < plan.config.clients → IsAsked (rest ++ messages_from Controller out) mid c ⊎ IsTelling (rest ++ messages_from Controller out) mid c)
      (no_top : (n : ℕ) → is_top r.number n m.to m.packet ≡ false) where
    abbrev mids : List Message
    mids = messages_from Controller out

    outs_or : (o : Out) → Among o out → ((j : ℕ) × (subject o.packet ≡ OfJob j) × (j < job)) ⊎ (subject o.packet ≡ OfRound r.number)
    outs_or o b = inl (outs o b)

    job_no_top : (n : ℕ) (to : Party) (p : Packet) (j : ℕ) → subject p ≡ OfJob j → is_top r.number n to p ≡ false
    job_no_top n to (TopAsk round) j e = let z : OfRound round ≡ OfJob j = e in absurd cc
    job_no_top n to (TopIs round server top) j e = let z : OfRound round ≡ OfJob j = e in absurd cc
    job_no_top n to _ j e = refl

    mid_tops : (n : ℕ) → n < plan.config.servers → count_by (λ (x : Message). is_top r.number n x.to x.packet) (rest ++ mids) ≡ due_top r n
    mid_tops n b =
        let f = λ (x : Message). is_top r.number n x.to x.packet in
        let both = count_append f rest mids in
        let nothing = count_none f mids (λ x y. let o = sent_is Controller out x y in ap (λ (w : Message). is_top r.number n w.to w.packet) o.2 ∙ job_no_top n o.0.to o.0.packet (outs o.0 o.1).0 (outs o.0 o.1).1) in
        let gone = counted_false f m (no_top n) in
        let old = takes.count f in
        let was = round_is.tops n b in
        omega (arith, both, nothing, gone, old, was)

    mid_quiet : (x : Message) → Among x rest ⊎ Among x mids → is_switch x.from ≡ false
    mid_quiet x (inl b) = round_is.quiet x (takes.members x b)
    mid_quiet x (inr b) = let o = sent_is Controller out x b in ap (λ (w : Message). is_switch w.from) o.2

    due_same : (n : ℕ) → due_top mid n ≡ due_top r n
    due_same n = λ z. cond {A = ℕ} (asked_same z && not (is_some (slice_index_or (tops_same z) n None))) 1 0

    mid_goes : asks_tops mid ≡ false → Inv plan (controller_turn s rest (record { state = record s.controller { round = Some mid; next_job = job }; out = out; notes = [] }))
    mid_goes waits = round_keeps mid job out more a sn outs_or no_epoch (record {
      running = round_is.running;
      quiet = λ x b. mid_quiet x (among_append x rest mids b);
      free = round_is.free;
      wants = round_is.wants;
      eviction = round_is.eviction;
      job = round_is.job;
      number = subst (λ n. n < s.controller.next_round) (sym number) round_is.number;
      first_job = subst (λ n. n ≤ job) (sym first) (le_trans round_is.first_job more);
      told_size = told_size;
      tops_size = ap length tops_same ∙ round_is.tops_size;
      waits = waits;
      asked = asked;
      untold = λ e n. ap (λ l. is_some (slice_index_or l n None)) tops_same ∙ round_is.untold (sym asked_same ∙ e) n;
      stores = ap (λ n. count_by (λ (x : Message). is_job_from n (subject x.packet)) (rest ++ mids)) first ∙ stores;
      tellings = tellings;
      tops = λ n b. ap (λ k. count_by (λ (x : Message). is_top k n x.to x.packet) (rest ++ mids)) number ∙ mid_tops n b ∙ sym (due_same n);
    })

    abbrev questions : List Out
    questions = to_servers 0 plan.config.servers (TopAsk mid.number)

    abbrev asks : List Message
    asks = messages_from Controller (to_servers 0 plan.config.servers (TopAsk mid.number))

    question_is : (o : Out) → Among o (to_servers 0 plan.config.servers (TopAsk mid.number)) → o.packet ≡ TopAsk mid.number
    question_is o b = let x = tops_are mid.number 0 plan.config.servers (record { from = Controller; to = o.to; packet = o.packet }) (among_map (λ (w : Out). record { from = Controller; to = w.to; packet = w.packet }) o (to_servers 0 plan.config.servers (TopAsk mid.number)) b) in ap (λ (w : Message). w.packet) x.1

    mid_asks : asks_tops mid ≡ true → Inv plan (controller_turn s rest (record { state = record s.controller { round = Some (record mid { asked = true }); next_job = job }; out = out ++ to_servers 0 plan.config.servers (TopAsk mid.number); notes = [] }))
    mid_asks ask = round_keeps (record mid { asked = true }) job (out ++ to_servers 0 plan.config.servers (TopAsk mid.number)) more a sn (λ o b. all_outs o (among_append o out questions b)) (λ o b. all_epochs o (among_append o out questions b)) (record {
      running = round_is.running;
      quiet = λ x b. quiet x b;
      free = round_is.free;
      wants = round_is.wants;
      eviction = round_is.eviction;
      job = round_is.job;
      number = subst (λ n. n < s.controller.next_round) (sym number) round_is.number;
      first_job = subst (λ n. n ≤ job) (sym first) (le_trans round_is.first_job more);
      told_size = told_size;
      tops_size = ap length tops_same ∙ round_is.tops_size;
      waits = refl;
      asked = λ e. (p.0, eqb-true mid.stores 0 p.1);
      untold = λ e. absurd (true≢false e);
      stores = count (λ (x : Message). is_job_from mid.first_job (subject x.packet)) (λ x b. let o = tops_are mid.number 0 plan.config.servers x b in ap (λ (w : Message). is_job_from mid.first_job (subject w.packet)) o.1) ∙ ap (λ n. count_by (λ (x : Message). is_job_from n (subject x.packet)) (rest ++ mids)) first ∙ stores;
      tellings = λ c b. tells c (tellings c b);
      tops = λ n b. tops n b;
    })
      where
        not_asked : (b : Bool) → not b ≡ true → b ≡ false
        not_asked true h = absurd (true≢false (sym h))
        not_asked false h = refl

        off : mid.asked ≡ false
        off = not_asked mid.asked (and_parts (not mid.asked) (list_all has_told mid.told && nat_eq mid.stores 0) ask).0

        p : (list_all has_told mid.told ≡ true) × (nat_eq mid.stores 0 ≡ true)
        p = and_parts (list_all has_told mid.told) (nat_eq mid.stores 0) (and_parts (not mid.asked) (list_all has_told mid.told && nat_eq mid.stores 0) ask).1

        all_outs : (o : Out) → Among o out ⊎ Among o questions → ((j : ℕ) × (subject o.packet ≡ OfJob j) × (j < job)) ⊎ (subject o.packet ≡ OfRound r.number)
        all_outs o (inl b) = inl (outs o b)
        all_outs o (inr b) = inr (ap subject (question_is o b) ∙ ap OfRound number)

        all_epochs : (o : Out) → Among o out ⊎ Among o questions → epoch_in o.packet ≡ 0
        all_epochs o (inl b) = no_epoch o b
        all_epochs o (inr b) = ap epoch_in (question_is o b)

        bag : rest ++ messages_from Controller (out ++ to_servers 0 plan.config.servers (TopAsk mid.number)) ≡ (rest ++ mids) ++ asks
        bag = ap (λ l. rest ++ l) (map-append (λ (o : Out). record { from = Controller; to = o.to; packet = o.packet }) out (to_servers 0 plan.config.servers (TopAsk mid.number))) ∙ sym (append_assoc rest mids asks)

        split : (x : Message) → Among x (rest ++ messages_from Controller (out ++ to_servers 0 plan.config.servers (TopAsk mid.number))) → Among x (rest ++ mids) ⊎ Among x asks
        split x b = among_append x (rest ++ mids) asks (subst (Among x) bag b)

        quiet : (x : Message) → Among x (rest ++ messages_from Controller (out ++ to_servers 0 plan.config.servers (TopAsk mid.number))) → is_switch x.from ≡ false
        quiet x b = by (split x b)
          where
            by : Among x (rest ++ mids) ⊎ Among x asks → is_switch x.from ≡ false
            by (inl c) = mid_quiet x (among_append x rest mids c)
            by (inr c) = let o = tops_are mid.number 0 plan.config.servers x c in ap (λ (w : Message). is_switch w.from) o.1

        count : (f : Message → Bool) → ((x : Message) → Among x asks → f x ≡ false) → count_by f (rest ++ messages_from Controller (out ++ to_servers 0 plan.config.servers (TopAsk mid.number))) ≡ count_by f (rest ++ mids)
        count f none =
            let both = count_append f (rest ++ mids) asks in
            let nothing = count_none f asks none in
            ap (count_by f) bag ∙ omega (arith, both, nothing)

        tells : (c : ℕ) → IsAsked (rest ++ mids) mid c ⊎ IsTelling (rest ++ mids) mid c → IsAsked (rest ++ messages_from Controller (out ++ to_servers 0 plan.config.servers (TopAsk mid.number))) (record mid { asked = true }) c ⊎ IsTelling (rest ++ messages_from Controller (out ++ to_servers 0 plan.config.servers (TopAsk mid.number))) (record mid { asked = true }) c
        tells c k = by k
          where
            no_ask : (x : Message) → Among x asks → is_ask mid.number c x.to x.packet ≡ false
            no_ask x b = let o = tops_are mid.number 0 plan.config.servers x b in ap (λ (w : Message). is_ask mid.number c w.to w.packet) o.1

            no_told : (x : Message) → Among x asks → is_told mid.number c x.packet ≡ false
            no_told x b = let o = tops_are mid.number 0 plan.config.servers x b in ap (λ (w : Message). is_told mid.number c w.packet) o.1

            by : IsAsked (rest ++ mids) mid c ⊎ IsTelling (rest ++ mids) mid c → IsAsked (rest ++ messages_from Controller (out ++ to_servers 0 plan.config.servers (TopAsk mid.number))) (record mid { asked = true }) c ⊎ IsTelling (rest ++ messages_from Controller (out ++ to_servers 0 plan.config.servers (TopAsk mid.number))) (record mid { asked = true }) c
            by (inl k) = inl (record { asked = count (λ (x : Message). is_ask mid.number c x.to x.packet) no_ask ∙ k.asked; told = count (λ (x : Message). is_told mid.number c x.packet) no_told ∙ k.told; none = k.none })
            by (inr k) = inr (record { total = k.total; asked = count (λ (x : Message). is_ask mid.number c x.to x.packet) no_ask ∙ k.asked; told = (let e = count (λ (x : Message). is_told mid.number c x.packet) no_told in let b = k.told in omega (arith, e, b)); same = λ x b e. total x e (split x b); known = k.known })
              where
                total : (x : Message) → is_told mid.number c x.packet ≡ true → Among x (rest ++ mids) ⊎ Among x asks → TotalIs k.total x.packet
                total x e (inl b) = k.same x b e
                total x e (inr b) = absurd (true≢false (sym e ∙ no_told x b))

        tops : (n : ℕ) → n < plan.config.servers → count_by (λ (x : Message). is_top mid.number n x.to x.packet) (rest ++ messages_from Controller (out ++ to_servers 0 plan.config.servers (TopAsk mid.number))) ≡ due_top (record mid { asked = true }) n
        tops n b =
            let f = λ (x : Message). is_top mid.number n x.to x.packet in
            let both = count_append f (rest ++ mids) asks in
            let one = tops_counted mid.number n plan.config.servers b in
            let old : count_by f (rest ++ mids) ≡ due_top r n = ap (λ k. count_by (λ (x : Message). is_top k n x.to x.packet) (rest ++ mids)) number ∙ mid_tops n b in
            let none : due_top r n ≡ 0 = ap (λ z. cond {A = ℕ} (z && not (is_some (slice_index_or r.tops n None))) 1 0) (sym asked_same ∙ off) in
            let due : due_top (record mid { asked = true }) n ≡ 1 = ap (λ z. cond {A = ℕ} (not z) 1 0) (ap (λ l. is_some (slice_index_or l n None)) tops_same ∙ round_is.untold (sym asked_same ∙ off) n) in
            ap (count_by f) bag ∙ omega (arith, both, one, old, none, due)

    pub mid_keeps : Inv plan (controller_turn s rest (round_turn plan.config (record s.controller { next_job = job }) mid out))
    mid_keeps = go (asks_tops mid) refl
      where
        go : (b : Bool) → asks_tops mid ≡ b → Inv plan (controller_turn s rest (cond b (record { state = record s.controller { round = Some (record mid { asked = true }); next_job = job }; out = out ++ to_servers 0 plan.config.servers (TopAsk mid.number); notes = [] }) (record { state = record s.controller { round = Some mid; next_job = job }; out = out; notes = [] })))
        go true e = mid_asks e
        go false e = mid_goes e

    pub mid_idle : asks_tops mid ≡ false → Inv plan (controller_turn s rest (record { state = record s.controller { round = Some mid; next_job = job }; out = out; notes = [] }))
    mid_idle e = mid_goes e

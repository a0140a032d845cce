-- The three packets of a round that come to the controller.
use Rattle.std.proofs.Common.{◌≡◌, ◌≢◌, ℕ, zero, suc, ◌+◌, ◌-◌, ◌≤◌, ◌<◌, ◌⊎◌, inl, inr, Bool, true, false, true≢false, cond, not, ◌&&◌, nat_eq, nat_le, nat_lt, eq-eqb, eqb-true, ne_eqb, max, List, [], ◌∷◌, ◌++◌, append-nil, length, length-set, get_or, set, refl, sym, ap, ◌∙◌, subst, arith}
use Rattle.std.specs.Prelude.{Option, None, Some, slice_index_or, slice_set, is_some}
use Rattle.std.specs.List.{count_by, list_all}
use Rattle.std.proofs.lemmas.Bool.{and_parts, cases_eq, lt-ltb, ltb-true, le-leb, leb-true}
use Rattle.std.proofs.lemmas.Option.{none-some, same_Some}
use Rattle.std.proofs.lemmas.List.{get_or-set_same, get_or-set_other}
use Rattle.far_base.specs.PlanView.{PlanView}
use Rattle.far_base.specs.declared.packet.Message.{Message}
use Rattle.far_base.specs.declared.packet.Out.{Out}
use Rattle.far_base.specs.declared.packet.Packet.{Packet}
use Rattle.far_base.specs.declared.packet.Packet.TheVariants.{Store, Stored, Ask, Told, TopIs}
use Rattle.far_base.specs.declared.party.Party.{Party}
use Rattle.far_base.specs.declared.party.Party.TheVariants.{Switch, Server, Controller}
use Rattle.far_base.specs.declared.record.Record.{Record}
use Rattle.far_model.specs.Controller.{ControllerState, client_told, round_stored, round_turn, store_answered, store_outs, told_round, top_told}
use Rattle.far_model.specs.Events.{controller_turn}
use Rattle.far_model.specs.Evictions.{Eviction, removing, waits_job}
use Rattle.far_invariants.specs.Flights.{OfJob, OfRound, subject}
use Rattle.far_model.specs.Members.{Among}
use Rattle.far_model.specs.Parties.{Turn, idle, messages_from, to_party}
use Rattle.far_model.specs.Rounds.{Round, Telling, has_told, no_telling, tells_one, telling_at, told_of, total_from}
use Rattle.far_model.specs.State.{State}
use Rattle.far_model.specs.View.{server_of}
use Rattle.far_model.proofs.Members.{among_append}
use Rattle.far_invariants.specs.InFlight.{IsAsked, IsTelling, RoundFlies, RoundIs, TotalIs, due_top, epoch_in, is_ask, is_job_from, is_told, is_top}
use Rattle.flight_laws.proofs.ControlKeeps.{control_admissions, control_epochs, control_evictions, control_no_round, control_sized, control_snapshots}
use Rattle.flight_laws.proofs.Counts.{count_append, count_cons, count_least, count_none, counted_false, counted_true}
use Rattle.flight_laws.proofs.Moves.{Takes, moves_taken, of_admission, of_eviction, of_snapshot, sent_is}
use Rattle.flight_laws.proofs.RoundKeeps.{mid_keeps, round_keeps}
use Rattle.flight_laws.proofs.SwitchKeeps.{Inv}
use Rattle.flight_laws.proofs.TurnKeeps.{stored_own, stored_strange}

job_no_ask : (number c : ℕ) (to : Party) (p : Packet) (j : ℕ) → subject p ≡ OfJob j → is_ask number c to p ≡ false
job_no_ask number c to (Ask round) j e = let z : OfRound round ≡ OfJob j = e in absurd cc
job_no_ask number c to _ j e = refl

job_no_told : (number c : ℕ) (p : Packet) (j : ℕ) → subject p ≡ OfJob j → is_told number c p ≡ false
job_no_told number c (Told round caller total item) j e = let z : OfRound round ≡ OfJob j = e in absurd cc
job_no_told number c _ j e = refl

all_at : {X : Type 0} (p : X → Bool) (xs : List X) (i : ℕ) (d : X) → list_all p xs ≡ true → i < length xs → p (get_or xs i d) ≡ true
all_at p [] i d h b = absurd (omega (arith, b))
all_at p (x ∷ xs) zero d h b = (and_parts (p x) (list_all p xs) h).0
all_at p (x ∷ xs) (suc i) d h b = all_at p xs i d (and_parts (p x) (list_all p xs) h).1 (omega (arith, b))

module _ (plan : PlanView) (s : State) (h : Inv plan s) (rest : List Message) (m : Message) (takes : Takes s.bag rest m) where
  -- ---- outside a round nothing happens

  quiet_turn : of_admission (subject m.packet) ≡ false → of_eviction (subject m.packet) ≡ false → of_snapshot (subject m.packet) ≡ false → s.controller.round ≡ None → Inv plan (controller_turn s rest (idle s.controller))
  quiet_turn a e sn none =
      let turn : Turn ControllerState = idle s.controller in
      record {
        sized = control_sized plan s h rest takes.members turn refl h.sized.parts h.sized.views;
        epochs = control_epochs plan s h rest takes.members turn refl (λ o x. absurd x);
        admissions = control_admissions plan s h rest takes.members turn (moves_taken of_admission s.bag rest [] m takes a (λ x y. absurd y)) refl (λ e. e) (omega arith) refl;
        evictions = control_evictions plan s h rest takes.members turn (moves_taken of_eviction s.bag rest [] m takes e (λ x y. absurd y)) refl refl (omega arith) (omega arith) refl;
        snapshots = control_snapshots plan s h rest takes.members turn (moves_taken of_snapshot s.bag rest [] m takes sn (λ x y. absurd y)) refl refl (omega arith);
        rounds = control_no_round plan s h rest takes.members turn none (omega arith) (λ o a. absurd a);
      }

  module _ (r : Round) (is : s.controller.round ≡ Some r) where
    abbrev f : RoundIs plan s r
    f = subst (RoundFlies plan s) is h.rounds.round

    -- a client whose messages are not touched
    tell_on : (mid : Round) (out : List Out) (c : ℕ) → mid.number ≡ r.number → telling_at mid c ≡ telling_at r c → is_ask r.number c m.to m.packet ≡ false → is_told r.number c m.packet ≡ false → ((o : Out) → Among o out → (j : ℕ) × (subject o.packet ≡ OfJob j))
        → IsAsked s.bag r c ⊎ IsTelling s.bag r c → IsAsked (rest ++ messages_from Controller out) mid c ⊎ IsTelling (rest ++ messages_from Controller out) mid c
    tell_on mid out c number same ask told outs k = by k
      where
        count : (p : Message → Bool) → p m ≡ false → ((x : Message) → Among x (messages_from Controller out) → p x ≡ false) → count_by p (rest ++ messages_from Controller out) ≡ count_by p s.bag
        count p off none =
            let both = count_append p rest (messages_from Controller out) in
            let nothing = count_none p (messages_from Controller out) none in
            let gone = counted_false p m off in
            let old = takes.count p in
            omega (arith, both, nothing, gone, old)

        out_ask : (x : Message) → Among x (messages_from Controller out) → is_ask r.number c x.to x.packet ≡ false
        out_ask x b = let o = sent_is Controller out x b in ap (λ (w : Message). is_ask r.number c w.to w.packet) o.2 ∙ job_no_ask r.number c o.0.to o.0.packet (outs o.0 o.1).0 (outs o.0 o.1).1

        out_told : (x : Message) → Among x (messages_from Controller out) → is_told r.number c x.packet ≡ false
        out_told x b = let o = sent_is Controller out x b in ap (λ (w : Message). is_told r.number c w.packet) o.2 ∙ job_no_told r.number c o.0.packet (outs o.0 o.1).0 (outs o.0 o.1).1

        asks : count_by (λ (x : Message). is_ask mid.number c x.to x.packet) (rest ++ messages_from Controller out) ≡ count_by (λ (x : Message). is_ask r.number c x.to x.packet) s.bag
        asks = ap (λ n. count_by (λ (x : Message). is_ask n c x.to x.packet) (rest ++ messages_from Controller out)) number ∙ count (λ (x : Message). is_ask r.number c x.to x.packet) ask out_ask

        tolds : count_by (λ (x : Message). is_told mid.number c x.packet) (rest ++ messages_from Controller out) ≡ count_by (λ (x : Message). is_told r.number c x.packet) s.bag
        tolds = ap (λ n. count_by (λ (x : Message). is_told n c x.packet) (rest ++ messages_from Controller out)) number ∙ count (λ (x : Message). is_told r.number c x.packet) told out_told

        by : IsAsked s.bag r c ⊎ IsTelling s.bag r c → IsAsked (rest ++ messages_from Controller out) mid c ⊎ IsTelling (rest ++ messages_from Controller out) mid c
        by (inl k) = inl (record { asked = asks ∙ k.asked; told = tolds ∙ k.told; none = same ∙ k.none })
        by (inr k) = inr (record {
          total = k.total;
          asked = asks ∙ k.asked;
          told = (let e = tolds in let b = k.told in let t : (telling_at mid c).count ≡ (telling_at r c).count = ap (λ (w : Telling). w.count) same in omega (arith, e, b, t));
          same = λ x b e. total x (ap (λ n. is_told n c x.packet) (sym number) ∙ e) (among_append x rest (messages_from Controller out) b);
          known = subst (λ w. (w ≡ no_telling) ⊎ (w.total ≡ Some k.total)) (sym same) k.known;
        })
          where
            total : (x : Message) → is_told r.number c x.packet ≡ true → Among x rest ⊎ Among x (messages_from Controller out) → TotalIs k.total x.packet
            total x e (inl b) = k.same x (takes.members x b) e
            total x e (inr b) = absurd (true≢false (sym e ∙ out_told x b))

    -- a packet that counts for nothing
    idle_round : of_admission (subject m.packet) ≡ false → of_snapshot (subject m.packet) ≡ false → is_job_from r.first_job (subject m.packet) ≡ false → ((c : ℕ) → c < plan.config.clients → (is_ask r.number c m.to m.packet ≡ false) × (is_told r.number c m.packet ≡ false)) → ((n : ℕ) → n < plan.config.servers → is_top r.number n m.to m.packet ≡ false)
        → Inv plan (controller_turn s rest (idle s.controller))
    idle_round a sn job tells tops = subst (λ o. Inv plan (controller_turn s rest (idle (record s.controller { round = o })))) (sym is)
        (round_keeps plan s h rest m takes r is r s.controller.next_job [] (omega arith) a sn (λ o b. absurd b) (λ o b. absurd b) (record {
          running = f.running;
          quiet = λ x b. f.quiet x (takes.members x (subst (Among x) (append-nil rest) b));
          free = f.free;
          wants = f.wants;
          eviction = f.eviction;
          job = f.job;
          number = f.number;
          first_job = f.first_job;
          told_size = f.told_size;
          tops_size = f.tops_size;
          waits = f.waits;
          asked = f.asked;
          untold = f.untold;
          stores = count (λ (x : Message). is_job_from r.first_job (subject x.packet)) job ∙ f.stores;
          tellings = λ c b. tell_on r [] c refl refl (tells c b).0 (tells c b).1 (λ o z. absurd z) (f.tellings c b);
          tops = λ n b. count (λ (x : Message). is_top r.number n x.to x.packet) (tops n b) ∙ f.tops n b;
        }))
      where
        count : (p : Message → Bool) → p m ≡ false → count_by p (rest ++ []) ≡ count_by p s.bag
        count p off = let gone = counted_false p m off in let old = takes.count p in ap (count_by p) (append-nil rest) ∙ omega (arith, gone, old)

    -- ---- a job is stored

    stored_in : (job : ℕ) → m.packet ≡ Stored job → Inv plan (controller_turn s rest (round_stored plan.config s.controller job (Some r)))
    stored_in job k = by (nat_le r.first_job job && (nat_lt job s.controller.next_job && not (nat_eq r.stores 0))) refl
      where
        a : of_admission (subject m.packet) ≡ false
        a = ap (λ p. of_admission (subject p)) k

        sn : of_snapshot (subject m.packet) ≡ false
        sn = ap (λ p. of_snapshot (subject p)) k

        below : job < s.controller.next_job
        below = h.evictions.jobs m job takes.there (ap subject k)

        tells : (c : ℕ) → (is_ask r.number c m.to m.packet ≡ false) × (is_told r.number c m.packet ≡ false)
        tells c = (ap (is_ask r.number c m.to) k, ap (is_told r.number c) k)

        tops : (n : ℕ) → is_top r.number n m.to m.packet ≡ false
        tops n = ap (is_top r.number n m.to) k

        by : (b : Bool) → nat_le r.first_job job && (nat_lt job s.controller.next_job && not (nat_eq r.stores 0)) ≡ b → Inv plan (controller_turn s rest (cond b (round_turn plan.config s.controller (record r { stores = r.stores - 1 }) []) (idle s.controller)))
        by true e =
            let p = and_parts (nat_le r.first_job job) (nat_lt job s.controller.next_job && not (nat_eq r.stores 0)) e in
            let q = and_parts (nat_lt job s.controller.next_job) (not (nat_eq r.stores 0)) p.1 in
            mid_keeps plan s h rest m takes r is (record r { stores = r.stores - 1 }) s.controller.next_job [] (omega arith) a sn (λ o b. absurd b) (λ o b. absurd b) refl refl f.told_size refl refl
            (λ z. absurd (true≢false (sym q.1 ∙ ap not (eq-eqb r.stores 0 (f.asked z).1))))
            (let c = λ (x : Message). is_job_from r.first_job (subject x.packet) in
            let mine = counted_true c m (ap (λ p. is_job_from r.first_job (subject p)) k ∙ p.0) in
            let old = takes.count c in
            let st = f.stores in
            ap (count_by c) (append-nil rest) ∙ omega (arith, mine, old, st))
            (λ c b. tell_on (record r { stores = r.stores - 1 }) [] c refl refl (tells c).0 (tells c).1 (λ o z. absurd z) (f.tellings c b))
            tops
        by false e = idle_round a sn (ap (λ p. is_job_from r.first_job (subject p)) k ∙ off (nat_le r.first_job job) refl) (λ c b. tells c) (λ n b. tops n)
          where
            off : (b : Bool) → nat_le r.first_job job ≡ b → b ≡ false
            off false z = refl
            off true z =
                let c = λ (x : Message). is_job_from r.first_job (subject x.packet) in
                let mine = counted_true c m (ap (λ p. is_job_from r.first_job (subject p)) k ∙ z) in
                let old = takes.count c in
                let st = f.stores in
                let some : r.stores ≢ 0 = (λ y. omega (arith, mine, old, st, y)) in
                absurd (true≢false (sym ((λ w. z w && (lt-ltb job s.controller.next_job below w && not (nat_eq r.stores 0))) ∙ ap not (ne_eqb r.stores 0 some)) ∙ e))

    -- ---- a top is told

    top_in : (number server top : ℕ) → m.packet ≡ TopIs number server top → Inv plan (controller_turn s rest (top_told plan.config s.controller number server top (Some r)))
    top_in number server top k = by (nat_eq r.number number && (r.asked && (nat_lt server (length r.tops) && not (is_some (slice_index_or r.tops server None))))) refl
      where
        a : of_admission (subject m.packet) ≡ false
        a = ap (λ p. of_admission (subject p)) k

        sn : of_snapshot (subject m.packet) ≡ false
        sn = ap (λ p. of_snapshot (subject p)) k

        tells : (c : ℕ) → (is_ask r.number c m.to m.packet ≡ false) × (is_told r.number c m.packet ≡ false)
        tells c = (ap (is_ask r.number c m.to) k, ap (is_told r.number c) k)

        by : (b : Bool) → nat_eq r.number number && (r.asked && (nat_lt server (length r.tops) && not (is_some (slice_index_or r.tops server None)))) ≡ b
            → Inv plan (controller_turn s rest (cond b (record { state = record s.controller { round = Some (record r { tops = slice_set r.tops server (Some top) }) }; out = []; notes = [] }) (idle s.controller)))
        by true e =
            let p = and_parts (nat_eq r.number number) (r.asked && (nat_lt server (length r.tops) && not (is_some (slice_index_or r.tops server None)))) e in
            let q = and_parts r.asked (nat_lt server (length r.tops) && not (is_some (slice_index_or r.tops server None))) p.1 in
            let w = and_parts (nat_lt server (length r.tops)) (not (is_some (slice_index_or r.tops server None))) q.1 in
            let same : r.number ≡ number = eqb-true r.number number p.0 in
            round_keeps plan s h rest m takes r is (record r { tops = slice_set r.tops server (Some top) }) s.controller.next_job [] (omega arith) a sn (λ o b. absurd b) (λ o b. absurd b) (record {
              running = f.running;
              quiet = λ x b. f.quiet x (takes.members x (subst (Among x) (append-nil rest) b));
              free = f.free;
              wants = f.wants;
              eviction = f.eviction;
              job = f.job;
              number = f.number;
              first_job = f.first_job;
              told_size = f.told_size;
              tops_size = length-set r.tops server (Some top) ∙ f.tops_size;
              waits = f.waits;
              asked = f.asked;
              untold = λ z. absurd (true≢false (sym q.0 ∙ z));
              stores = count (λ (x : Message). is_job_from r.first_job (subject x.packet)) (ap (λ p. is_job_from r.first_job (subject p)) k) ∙ f.stores;
              tellings = λ c b. tell_on (record r { tops = slice_set r.tops server (Some top) }) [] c refl refl (tells c).0 (tells c).1 (λ o z. absurd z) (f.tellings c b);
              tops = λ n b. tops same (ltb-true server (length r.tops) w.0) q.0 w.1 n b (cases_eq n server);
            })
          where
            count : (p : Message → Bool) → p m ≡ false → count_by p (rest ++ []) ≡ count_by p s.bag
            count p off = let gone = counted_false p m off in let old = takes.count p in ap (count_by p) (append-nil rest) ∙ omega (arith, gone, old)

            and_none : (b : Bool) → b && false ≡ false
            and_none true = refl
            and_none false = refl

            tops : r.number ≡ number → server < length r.tops → r.asked ≡ true → not (is_some (slice_index_or r.tops server None)) ≡ true → (n : ℕ) → n < plan.config.servers → (n ≡ server) ⊎ (n ≡ server → ⊥)
                → count_by (λ (x : Message). is_top r.number n x.to x.packet) (rest ++ []) ≡ due_top (record r { tops = slice_set r.tops server (Some top) }) n
            tops same within asked missing n b (inl z) =
                let c = λ (x : Message). is_top r.number n x.to x.packet in
                let mine = counted_true c m (ap (is_top r.number n m.to) k ∙ (λ w. eq-eqb number r.number (sym same) w && nat_eq server n) ∙ eq-eqb server n (sym z)) in
                let old = takes.count c in
                let was = f.tops n b in
                let due : due_top r n ≡ 1 = ap (λ w. cond {A = ℕ} (w && not (is_some (slice_index_or r.tops n None))) 1 0) asked ∙ ap (λ w. cond {A = ℕ} w 1 0) (ap (λ i. not (is_some (slice_index_or r.tops i None))) z ∙ missing) in
                let now : due_top (record r { tops = slice_set r.tops server (Some top) }) n ≡ 0 = ap (λ w. cond {A = ℕ} (r.asked && not (is_some w)) 1 0) (ap (λ i. get_or (set r.tops server (Some top)) i None) z ∙ get_or-set_same r.tops server (Some top) None within) ∙ ap (λ w. cond {A = ℕ} w 1 0) (and_none r.asked) in
                ap (count_by c) (append-nil rest) ∙ omega (arith, mine, old, was, due, now)
            tops same within asked missing n b (inr ne) =
                let off : is_top r.number n m.to m.packet ≡ false = ap (is_top r.number n m.to) k ∙ (λ w. nat_eq number r.number && ne_eqb server n (λ z. ne (sym z)) w) ∙ and_none (nat_eq number r.number) in
                count (λ (x : Message). is_top r.number n x.to x.packet) off ∙ f.tops n b ∙ ap (λ w. cond {A = ℕ} (r.asked && not (is_some w)) 1 0) (sym (get_or-set_other r.tops server n (Some top) None ne))
        by false e = idle_round a sn (ap (λ p. is_job_from r.first_job (subject p)) k) (λ c b. tells c) (λ n b. off n b (is_top r.number n m.to m.packet) refl)
          where
            off : (n : ℕ) → n < plan.config.servers → (z : Bool) → is_top r.number n m.to m.packet ≡ z → z ≡ false
            off n b false z = refl
            off n b true z =
                let c = λ (x : Message). is_top r.number n x.to x.packet in
                let old = count_least c s.bag m takes.there z in
                let was = f.tops n b in
                let p = and_parts (nat_eq number r.number) (nat_eq server n) (sym (ap (is_top r.number n m.to) k) ∙ z) in
                let place : server ≡ n = eqb-true server n p.1 in
                let due = due_parts (r.asked && not (is_some (slice_index_or r.tops n None))) (omega (arith, old, was)) in
                let q = and_parts r.asked (not (is_some (slice_index_or r.tops n None))) due in
                absurd (true≢false (sym ((λ w. eq-eqb r.number number (sym (eqb-true number r.number p.0)) w && (r.asked && (nat_lt server (length r.tops) && not (is_some (slice_index_or r.tops server None)))))
                ∙ (λ w. q.0 w && (nat_lt server (length r.tops) && not (is_some (slice_index_or r.tops server None))))
                ∙ (λ w. lt-ltb server (length r.tops) (let sz = f.tops_size in omega (arith, place, b, sz)) w && not (is_some (slice_index_or r.tops server None)))
                ∙ ap (λ i. not (is_some (slice_index_or r.tops i None))) place ∙ q.1) ∙ e))
              where
                due_parts : (d : Bool) → 1 ≤ cond {A = ℕ} d 1 0 → d ≡ true
                due_parts true x = refl
                due_parts false x = absurd (omega (arith, x))

    -- ---- a client tells

    told_in : (number caller total : ℕ) (item : Option Record) → m.packet ≡ Told number caller total item → Inv plan (controller_turn s rest (client_told plan.config s.controller number caller total item (Some r)))
    told_in number caller total item k = by (nat_eq r.number number && (nat_lt caller (length r.told) && not (has_told (telling_at r caller)))) refl
      where
        a : of_admission (subject m.packet) ≡ false
        a = ap (λ p. of_admission (subject p)) k

        sn : of_snapshot (subject m.packet) ≡ false
        sn = ap (λ p. of_snapshot (subject p)) k

        new : ℕ
        new = length (store_outs plan.config s.controller.next_job item)

        ask : (c : ℕ) → is_ask r.number c m.to m.packet ≡ false
        ask c = ap (is_ask r.number c m.to) k

        and_none : (b : Bool) → b && false ≡ false
        and_none true = refl
        and_none false = refl

        outs : (item : Option Record) (o : Out) → Among o (store_outs plan.config s.controller.next_job item) → (j : ℕ) × (subject o.packet ≡ OfJob j) × (j < s.controller.next_job + length (store_outs plan.config s.controller.next_job item))
        outs None o b = absurd b
        outs (Some x) o (inl e) = (s.controller.next_job, ap (λ (w : Out). subject w.packet) e, omega arith)
        outs (Some x) o (inr b) = absurd b

        no_epoch : (item : Option Record) (o : Out) → Among o (store_outs plan.config s.controller.next_job item) → epoch_in o.packet ≡ 0
        no_epoch None o b = absurd b
        no_epoch (Some x) o (inl e) = ap (λ (w : Out). epoch_in w.packet) e
        no_epoch (Some x) o (inr b) = absurd b

        stores_counted : (item : Option Record) → count_by (λ (x : Message). is_job_from r.first_job (subject x.packet)) (messages_from Controller (store_outs plan.config s.controller.next_job item)) ≡ length (store_outs plan.config s.controller.next_job item)
        stores_counted None = refl
        stores_counted (Some x) =
            let c = λ (x : Message). is_job_from r.first_job (subject x.packet) in
            let q : Message = record { from = Controller; to = Server (server_of plan.config x.key); packet = Store s.controller.next_job x } in
            let last = count_cons c q [] in
            let mine = counted_true c q (le-leb r.first_job s.controller.next_job f.first_job) in
            omega (arith, last, mine)

        mid : Round
        mid = told_round r caller total (length (store_outs plan.config s.controller.next_job item))

        by : (b : Bool) → nat_eq r.number number && (nat_lt caller (length r.told) && not (has_told (telling_at r caller))) ≡ b
            → Inv plan (controller_turn s rest (cond b (round_turn plan.config (record s.controller { next_job = s.controller.next_job + length (store_outs plan.config s.controller.next_job item) }) (told_round r caller total (length (store_outs plan.config s.controller.next_job item))) (store_outs plan.config s.controller.next_job item)) (idle s.controller)))
        by true e =
            let p = and_parts (nat_eq r.number number) (nat_lt caller (length r.told) && not (has_told (telling_at r caller))) e in
            let q = and_parts (nat_lt caller (length r.told)) (not (has_told (telling_at r caller))) p.1 in
            mid_keeps plan s h rest m takes r is (told_round r caller total (length (store_outs plan.config s.controller.next_job item))) (s.controller.next_job + length (store_outs plan.config s.controller.next_job item)) (store_outs plan.config s.controller.next_job item) (omega arith) a sn
            (outs item) (no_epoch item) refl refl (length-set r.told caller (tells_one total (telling_at r caller)) ∙ f.told_size) refl refl
            (λ z. absurd (true≢false (sym q.1 ∙ ap not (all_at has_told r.told caller no_telling (f.asked z).0 (ltb-true caller (length r.told) q.0)))))
            (let c = λ (x : Message). is_job_from r.first_job (subject x.packet) in
            let gone = counted_false c m (ap (λ p. is_job_from r.first_job (subject p)) k) in
            let old = takes.count c in
            let st = f.stores in
            let both = count_append c rest (messages_from Controller (store_outs plan.config s.controller.next_job item)) in
            let more = stores_counted item in
            omega (arith, gone, old, st, both, more))
            (λ c b. tellings (eqb-true r.number number p.0) (ltb-true caller (length r.told) q.0) c b (cases_eq c caller))
            (λ n. ap (is_top r.number n m.to) k)
          where
            out : List Out
            out = store_outs plan.config s.controller.next_job item

            tellings : r.number ≡ number → caller < length r.told → (c : ℕ) → c < plan.config.clients → (c ≡ caller) ⊎ (c ≡ caller → ⊥)
                → IsAsked (rest ++ messages_from Controller (store_outs plan.config s.controller.next_job item)) (told_round r caller total (length (store_outs plan.config s.controller.next_job item))) c
                ⊎ IsTelling (rest ++ messages_from Controller (store_outs plan.config s.controller.next_job item)) (told_round r caller total (length (store_outs plan.config s.controller.next_job item))) c
            tellings same within c b (inr ne) = tell_on (told_round r caller total (length (store_outs plan.config s.controller.next_job item))) (store_outs plan.config s.controller.next_job item) c refl
                (get_or-set_other r.told caller c (tells_one total (telling_at r caller)) no_telling ne) (ask c)
                (ap (is_told r.number c) k ∙ (λ w. nat_eq number r.number && ne_eqb caller c (λ z. ne (sym z)) w) ∙ and_none (nat_eq number r.number)) (λ o z. let w = outs item o z in (w.0, w.1)) (f.tellings c b)
            tellings same within c b (inl z) = subst (λ n. IsAsked (rest ++ messages_from Controller (store_outs plan.config s.controller.next_job item)) (told_round r caller total (length (store_outs plan.config s.controller.next_job item))) n
                ⊎ IsTelling (rest ++ messages_from Controller (store_outs plan.config s.controller.next_job item)) (told_round r caller total (length (store_outs plan.config s.controller.next_job item))) n) (sym z) (mine (f.tellings caller (subst (λ n. n < plan.config.clients) z b)))
              where
                hit : is_told r.number caller m.packet ≡ true
                hit = ap (is_told r.number caller) k ∙ (λ w. eq-eqb number r.number (sym same) w && nat_eq caller caller) ∙ eq-eqb caller caller refl

                at : telling_at (told_round r caller total (length (store_outs plan.config s.controller.next_job item))) caller ≡ tells_one total (telling_at r caller)
                at = get_or-set_same r.told caller (tells_one total (telling_at r caller)) no_telling within

                mine : IsAsked s.bag r caller ⊎ IsTelling s.bag r caller
                    → IsAsked (rest ++ messages_from Controller (store_outs plan.config s.controller.next_job item)) (told_round r caller total (length (store_outs plan.config s.controller.next_job item))) caller
                    ⊎ IsTelling (rest ++ messages_from Controller (store_outs plan.config s.controller.next_job item)) (told_round r caller total (length (store_outs plan.config s.controller.next_job item))) caller
                mine (inl q) = absurd (let l = count_least (λ (x : Message). is_told r.number caller x.packet) s.bag m takes.there hit in let n = q.told in omega (arith, l, n))
                mine (inr q) = inr (record {
                  total = q.total;
                  asked =
                      let c = λ (x : Message). is_ask r.number caller x.to x.packet in
                      let gone = counted_false c m (ask caller) in
                      let old = takes.count c in
                      let both = count_append c rest (messages_from Controller (store_outs plan.config s.controller.next_job item)) in
                      let nothing = count_none c (messages_from Controller (store_outs plan.config s.controller.next_job item)) (λ x y. let o = sent_is Controller (store_outs plan.config s.controller.next_job item) x y in let w = outs item o.0 o.1 in ap (λ (w : Message). is_ask r.number caller w.to w.packet) o.2 ∙ job_no_ask r.number caller o.0.to o.0.packet w.0 w.1) in
                      let z = q.asked in
                      omega (arith, gone, old, both, nothing, z);
                  told =
                      let c = λ (x : Message). is_told r.number caller x.packet in
                      let one = counted_true c m hit in
                      let old = takes.count c in
                      let both = count_append c rest (messages_from Controller (store_outs plan.config s.controller.next_job item)) in
                      let nothing = count_none c (messages_from Controller (store_outs plan.config s.controller.next_job item)) (λ x y. no_told x y) in
                      let z = q.told in
                      let t : (telling_at (told_round r caller total (length (store_outs plan.config s.controller.next_job item))) caller).count ≡ (telling_at r caller).count + 1 = ap (λ (w : Telling). w.count) at in
                      omega (arith, one, old, both, nothing, z, t);
                  same = λ x y e. total_same x e (among_append x rest (messages_from Controller (store_outs plan.config s.controller.next_job item)) y);
                  known = inr (ap (λ (w : Telling). w.total) at ∙ known (telling_at r caller) q.known);
                })
                  where
                    no_told : (x : Message) → Among x (messages_from Controller (store_outs plan.config s.controller.next_job item)) → is_told r.number caller x.packet ≡ false
                    no_told x y = let o = sent_is Controller (store_outs plan.config s.controller.next_job item) x y in let w = outs item o.0 o.1 in ap (λ (w : Message). is_told r.number caller w.packet) o.2 ∙ job_no_told r.number caller o.0.packet w.0 w.1

                    total_same : (x : Message) → is_told r.number caller x.packet ≡ true → Among x rest ⊎ Among x (messages_from Controller (store_outs plan.config s.controller.next_job item)) → TotalIs q.total x.packet
                    total_same x e (inl y) = q.same x (takes.members x y) e
                    total_same x e (inr y) = absurd (true≢false (sym e ∙ no_told x y))

                    its_total : total ≡ q.total
                    its_total = subst (TotalIs q.total) k (q.same m takes.there hit)

                    known : (w : Telling) → (w ≡ no_telling) ⊎ (w.total ≡ Some q.total) → total_from w.total total ≡ Some q.total
                    known w (inl z) = ap (λ (v : Telling). total_from v.total total) z ∙ ap Some its_total
                    known w (inr z) = ap (λ v. total_from v total) z
        by false e = idle_round a sn (ap (λ p. is_job_from r.first_job (subject p)) k) (λ c b. (ask c, off c b (is_told r.number c m.packet) refl)) (λ n b. ap (is_top r.number n m.to) k)
          where
            off : (c : ℕ) → c < plan.config.clients → (z : Bool) → is_told r.number c m.packet ≡ z → z ≡ false
            off c b false z = refl
            off c b true z =
                let p = and_parts (nat_eq number r.number) (nat_eq caller c) (sym (ap (is_told r.number c) k) ∙ z) in
                let place : caller ≡ c = eqb-true caller c p.1 in
                let sz = f.told_size in
                absurd (told (f.tellings c b) (has_told (telling_at r c)) refl
                (λ y. true≢false (sym ((λ w. eq-eqb r.number number (sym (eqb-true number r.number p.0)) w && (nat_lt caller (length r.told) && not (has_told (telling_at r caller))))
                ∙ (λ w. lt-ltb caller (length r.told) (omega (arith, place, b, sz)) w && not (has_told (telling_at r caller)))
                ∙ ap (λ i. not (has_told (telling_at r i))) place ∙ ap not y) ∙ e)))
              where
                least : 1 ≤ count_by (λ (x : Message). is_told r.number c x.packet) s.bag
                least = count_least (λ (x : Message). is_told r.number c x.packet) s.bag m takes.there z

                told : IsAsked s.bag r c ⊎ IsTelling s.bag r c → (y : Bool) → has_told (telling_at r c) ≡ y → (has_told (telling_at r c) ≡ false → ⊥) → ⊥
                told (inl q) y w n = let l = least in let t = q.told in omega (arith, l, t)
                told (inr q) false w n = n w
                told (inr q) true w n = by' q.known
                  where
                    by' : (telling_at r c ≡ no_telling) ⊎ ((telling_at r c).total ≡ Some q.total) → ⊥
                    by' (inl v) = true≢false (sym w ∙ ap has_told v)
                    by' (inr v) = let l = least in let t = q.told in let le = leb-true (max q.total 1) (telling_at r c).count (sym (ap (λ o. told_of o (telling_at r c).count) v) ∙ w) in omega (arith, l, t, le)

  -- ---- the packets

  pub told_keeps : (number caller total : ℕ) (item : Option Record) → m.packet ≡ Told number caller total item → Inv plan (controller_turn s rest (client_told plan.config s.controller number caller total item s.controller.round))
  told_keeps number caller total item k = go s.controller.round refl
    where
      go : (o : Option Round) → s.controller.round ≡ o → Inv plan (controller_turn s rest (client_told plan.config s.controller number caller total item o))
      go None e = quiet_turn (ap (λ p. of_admission (subject p)) k) (ap (λ p. of_eviction (subject p)) k) (ap (λ p. of_snapshot (subject p)) k) e
      go (Some r) e = told_in r e number caller total item k

  pub top_keeps : (number server top : ℕ) → m.packet ≡ TopIs number server top → Inv plan (controller_turn s rest (top_told plan.config s.controller number server top s.controller.round))
  top_keeps number server top k = go s.controller.round refl
    where
      go : (o : Option Round) → s.controller.round ≡ o → Inv plan (controller_turn s rest (top_told plan.config s.controller number server top o))
      go None e = quiet_turn (ap (λ p. of_admission (subject p)) k) (ap (λ p. of_eviction (subject p)) k) (ap (λ p. of_snapshot (subject p)) k) e
      go (Some r) e = top_in r e number server top k

  pub stored_keeps : (job : ℕ) → m.packet ≡ Stored job → Inv plan (controller_turn s rest (store_answered plan.config s.controller job s.controller.eviction))
  stored_keeps job k = go s.controller.eviction refl
    where
      round : (o : Option Round) → s.controller.round ≡ o → ((e : Eviction) → s.controller.eviction ≡ Some e → waits_job job e ≡ false) → Inv plan (controller_turn s rest (round_stored plan.config s.controller job o))
      round None e off = stored_strange plan s h rest m takes job k off (control_no_round plan s h rest takes.members (idle s.controller) e (omega arith) (λ o a. absurd a))
      round (Some r) e off = stored_in r e job k

      go : (o : Option Eviction) → s.controller.eviction ≡ o → Inv plan (controller_turn s rest (store_answered plan.config s.controller job o))
      go None e = round s.controller.round refl (λ x y. absurd (none-some x (sym e ∙ y)))
      go (Some e) is = by (waits_job job e) refl
        where
          by : (b : Bool) → waits_job job e ≡ b → Inv plan (controller_turn s rest (cond b (record { state = record s.controller { eviction = Some (removing e) }; out = to_party Switch (Rattle.far_model.specs.Evictions.after_store e) ∷ []; notes = [] }) (round_stored plan.config s.controller job s.controller.round)))
          by true w = stored_own plan s h rest m takes job k e is w
          by false w = round s.controller.round refl (λ x y. subst (λ z. waits_job job z ≡ false) (same_Some e x (sym is ∙ y)) w)

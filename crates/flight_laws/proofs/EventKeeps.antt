-- Every event keeps what is in flight.
use Rattle.far_invariants.specs.Slots.{IsGiven, is_admission_of, admits_under, admission_count}
use Rattle.std.proofs.Common.{◌≡◌, ℕ, zero, suc, ◌+◌, ◌≤◌, ◌<◌, ◌⊎◌, inl, inr, Bool, true, false, true≢false, not, ◌&&◌, ◌||◌, nat_eq, eq-eqb, ne_eqb, List, [], ◌∷◌, ◌++◌, length, replicate, refl, sym, ap, ◌∙◌, subst, arith}
use Rattle.std.specs.Prelude.{Option, None, Some, is_some, slice_index_or}
use Rattle.std.specs.List.{count_by, list_all, list_any}
use Rattle.std.proofs.lemmas.Bool.{and_parts, le-leb, lt-leb}
use Rattle.std.proofs.lemmas.Option.{none-some}
use Rattle.std.proofs.lemmas.List.{length-replicate, map-append}
use Rattle.far_base.specs.Limits.{IsPlan}
use Rattle.far_base.specs.PlanView.{PlanView}
use Rattle.far_base.specs.declared.event.Event.TheVariants.{Recover}
use Rattle.far_base.specs.declared.packet.Message.{Message}
use Rattle.far_base.specs.declared.packet.Out.{Out}
use Rattle.far_base.specs.declared.packet.Packet.{Packet}
use Rattle.far_base.specs.declared.packet.Packet.TheVariants.{Admit, AdmitAck, RemoveAns, Store, Ask, Told, TopAsk, TopIs}
use Rattle.far_base.specs.declared.party.Party.TheVariants.{Client, Server, Controller}
use Rattle.far_base.specs.declared.record.Record.{Record}
use Rattle.far_base.specs.declared.slot_state.SlotState.TheVariants.{Free, Admitting, Evicting}
use Rattle.far_model.specs.Controller.{ControllerState, controller_takes, evict_key, ready, ready_in, snapshot_stores, start_recovery, start_snapshot, store_of, stores_of, tick, to_clients, wanted}
use Rattle.far_model.specs.Events.{Keeping, can_recover, happens_with, is_switch, restarts, stops}
use Rattle.far_model.specs.Evictions.{state_at}
use Rattle.far_invariants.specs.Flights.{Subject, OfOperation, OfAdmission, OfEviction, OfJob, OfSnapshot, OfRound, OfNone, subject, IsInFlight}
use Rattle.far_model.specs.Members.{Among}
use Rattle.far_model.specs.Parties.{messages_from}
use Rattle.far_model.specs.Rounds.{Round, has_told, no_telling}
use Rattle.far_model.specs.State.{State}
use Rattle.far_model.specs.View.{SlotView, empty_slot, opening_view, server_of, slot_at}
use Rattle.far_model.proofs.Members.{among_append}
use Rattle.flight_laws.proofs.Lists.{get_or-replicate_default}
use Rattle.far_invariants.specs.InFlight.{AdmissionFits, AdmissionMeets, Emptied, OwnFlies, RoundFlies, epoch_in, is_ask, is_job_from, is_told, is_top}
use Rattle.far_invariants.specs.Sizes.{IsSizedView}
use Rattle.flight_laws.proofs.Counts.{count_append, count_cons, count_none, counted_true, each_counted, one_each}
use Rattle.flight_laws.proofs.Frames.{no_round}
use Rattle.flight_laws.proofs.SwitchKeeps.{Inv, running_no_round}

-- ---- a switch without memory

reset_sized : (plan : PlanView) (epoch counter : ℕ) → IsSizedView plan.config.slots (opening_view plan.config epoch counter)
reset_sized plan epoch counter = record { bound = length-replicate plan.config.slots None; slots_there = length-replicate plan.config.slots empty_slot; taken = length-replicate plan.config.slots 0 }

reset_off : (plan : PlanView) (epoch counter i : ℕ) → (slot_at (opening_view plan.config epoch counter) i).valid ≡ false
reset_off plan epoch counter i = ap (λ (x : SlotView). x.valid) (get_or-replicate_default plan.config.slots i empty_slot)

reset_taken : (plan : PlanView) (epoch counter i n : ℕ) → 0 < n → slice_index_or (opening_view plan.config epoch counter).taken i 0 < n
reset_taken plan epoch counter i n b = subst (λ k. k < n) (sym (get_or-replicate_default plan.config.slots i 0)) b

-- the switch stops
pub stop_keeps : (plan : PlanView) (s : State) → Inv plan s → s.running ≡ true → Inv plan (stops plan s)
stop_keeps plan s h running = record {
  sized = record { view = reset_sized plan 0 0; states = h.sized.states; parts = h.sized.parts; views = h.sized.views; done = h.sized.done; preserved = h.sized.preserved };
  epochs = record { running = λ e. absurd (true≢false (sym e)); sent = h.epochs.sent };
  admissions = record { given = h.admissions.given; drawn = h.admissions.drawn; fits = h.admissions.fits; meets = λ e. absurd (true≢false (sym e)); one = h.admissions.one; once = h.admissions.once; empty = λ e. absurd (true≢false (sym e)) };
  evictions = record { tags = h.evictions.tags; jobs = h.evictions.jobs; owned = h.evictions.owned; evicting = h.evictions.evicting; flies = h.evictions.flies; emptied = λ e. absurd (true≢false (sym e)) };
  snapshots = record { ids = h.snapshots.ids; snap = (let b = h.snapshots.snap in omega (arith, b)); taken = λ i. reset_taken plan 0 0 i s.controller.next_id (let b = h.snapshots.snap in omega (arith, b)) };
  rounds = no_round plan s (stops plan s) h.rounds (λ x n a e. a) (omega arith) (running_no_round plan s h.rounds running);
}

-- the switch runs again
pub restart_keeps : (plan : PlanView) (k : Keeping) (s : State) → Inv plan s → (o : Option ℕ) → ready s.controller ≡ o → is_some o ≡ true → Inv plan (restarts plan k s o)
restart_keeps plan k s h None e able = absurd (true≢false (sym able))
restart_keeps plan k s h (Some counter) e able = go s.controller.round refl h.rounds.round e
  where
    t : State
    t = restarts plan k s (Some counter)

    go : (o : Option Round) → s.controller.round ≡ o → RoundFlies plan s o → ready_in o ≡ Some counter → Inv plan (restarts plan k s (Some counter))
    go None is f ready = absurd (none-some counter ready)
    go (Some r) is f ready = record {
      sized = record { view = reset_sized plan (s.controller.epoch + 1) counter; states = h.sized.states; parts = h.sized.parts; views = h.sized.views; done = h.sized.done; preserved = h.sized.preserved };
      epochs = record { running = λ e. refl; sent = λ m a. let b = h.epochs.sent m a in omega (arith, b) };
      admissions = record {
        given = h.admissions.given;
        drawn = h.admissions.drawn;
        fits = λ m a. fits m.packet (h.admissions.fits m a) (h.epochs.sent m a);
        meets = λ e m a. meets m.packet (h.admissions.fits m a) (h.epochs.sent m a);
        one = λ none i. count_none (λ (m : Message). is_admission_of i (s.controller.epoch + 1) m.packet) s.bag (λ m a. none_of i m.packet (h.admissions.fits m a) (h.epochs.sent m a)) ∙ sym (ap admission_count (f.free i));
        once = h.admissions.once;
        empty = λ e i free. reset_off plan (s.controller.epoch + 1) counter i;
      };
      evictions = record {
        tags = h.evictions.tags;
        jobs = h.evictions.jobs;
        owned = λ m i tag key a e g. absurd (subst (IsGiven key tag) (f.free i) g);
        evicting = λ i tag key e. absurd (let z : Free ≡ Evicting key tag = sym (f.free i) ∙ e in cc);
        flies = subst (OwnFlies (Rattle.far_model.specs.Controller.restarted s.controller) s.bag) (sym f.eviction) tt;
        emptied = λ e m a. emptied m.packet;
      };
      snapshots = record {
        ids = h.snapshots.ids;
        snap = (let b = h.snapshots.snap in omega (arith, b));
        taken = λ i. reset_taken plan (s.controller.epoch + 1) counter i s.controller.next_id (let b = h.snapshots.snap in omega (arith, b));
      };
      rounds = record { numbers = h.rounds.numbers; round = tt };
    }
      where
        not_admitting : (i : ℕ) (key : List ℕ) (tag : ℕ) → state_at s.controller.slots i ≡ Admitting key tag → ⊥
        not_admitting i key tag e = let z : Free ≡ Admitting key tag = sym (f.free i) ∙ e in cc

        fits : (p : Packet) → AdmissionFits s.controller p → epoch_in p ≤ s.controller.epoch → AdmissionFits (Rattle.far_model.specs.Controller.restarted s.controller) p
        fits (Admit epoch i key tag) g b = λ none e. absurd (omega (arith, b, e))
        fits (AdmitAck i tag) g b = absurd (not_admitting i g.0 tag g.1)
        fits _ g b = tt

        meets : (p : Packet) → AdmissionFits s.controller p → epoch_in p ≤ s.controller.epoch → AdmissionMeets (opening_view plan.config (s.controller.epoch + 1) counter) (s.controller.epoch + 1) p
        meets (Admit epoch i key tag) g b = λ e. reset_off plan (s.controller.epoch + 1) counter i
        meets (AdmitAck i tag) g b = absurd (not_admitting i g.0 tag g.1)
        meets _ g b = tt

        none_of : (i : ℕ) (p : Packet) → AdmissionFits s.controller p → epoch_in p ≤ s.controller.epoch → is_admission_of i (s.controller.epoch + 1) p ≡ false
        none_of i (Admit epoch j key tag) g b = ap (λ z. z && nat_eq j i) (ne_eqb epoch (s.controller.epoch + 1) (λ e. omega (arith, b, e)))
        none_of i (AdmitAck j tag) g b = absurd (not_admitting j g.0 tag g.1)
        none_of i _ g b = refl

        emptied : (p : Packet) → Emptied (opening_view plan.config (s.controller.epoch + 1) counter) (Rattle.far_model.specs.Controller.restarted s.controller) p
        emptied (RemoveAns i tag done latest num body) = λ d key g. absurd (subst (IsGiven key tag) (f.free i) g)
        emptied _ = tt

-- ---- recovery begins

ask_is : (number n more : ℕ) (x : Message) → Among x (messages_from Controller (to_clients n more (Ask number))) → (k : ℕ) × (x ≡ record { from = Controller; to = Client k; packet = Ask number })
ask_is number n zero x a = absurd a
ask_is number n (suc more) x (inl e) = (n, e)
ask_is number n (suc more) x (inr a) = ask_is number (suc n) more x a

-- each client is asked once
asks_each : (number n more : ℕ) → messages_from Controller (to_clients n more (Ask number)) ≡ one_each (λ k. record { from = Controller; to = Client k; packet = Ask number }) n more
asks_each number n zero = refl
asks_each number n (suc more) = ap (λ (l : List Message). record { from = Controller; to = Client n; packet = Ask number } ∷ l) (asks_each number (suc n) more)

asks_counted : (number k more : ℕ) → k < more → count_by (λ (x : Message). is_ask number k x.to x.packet) (messages_from Controller (to_clients 0 more (Ask number))) ≡ 1
asks_counted number k more b = ap (λ l. count_by (λ (x : Message). is_ask number k x.to x.packet) l) (asks_each number 0 more)
    ∙ (each_counted (λ j. record { from = Controller; to = Client j; packet = Ask number }) (λ (x : Message). is_ask number k x.to x.packet) k ((λ z. eq-eqb number number refl z && nat_eq k k) ∙ eq-eqb k k refl)
    (λ n ne. (λ z. nat_eq number number && ne_eqb n k ne z) ∙ and_none (nat_eq number number)) 0 more).1 (omega arith) (omega (arith, b))
  where
    and_none : (b : Bool) → b && false ≡ false
    and_none true = refl
    and_none false = refl

store_is : (plan : PlanView) (job : ℕ) (items : List Record) (x : Message) → Among x (messages_from Controller (stores_of plan.config job items)) → (j : ℕ) × (item : Record) × (x ≡ record { from = Controller; to = Server (server_of plan.config item.key); packet = Store j item }) × (job ≤ j) × (j < job + length items)
store_is plan job [] x a = absurd a
store_is plan job (r ∷ rs) x (inl e) = (job, r, e, omega arith, omega arith)
store_is plan job (r ∷ rs) x (inr a) = let p = store_is plan (suc job) rs x a in let b = p.3 in let c = p.4 in (p.0, p.1, p.2, omega (arith, b), omega (arith, c))

stores_counted : (plan : PlanView) (first job : ℕ) (items : List Record) → first ≤ job → count_by (λ (x : Message). is_job_from first (subject x.packet)) (messages_from Controller (stores_of plan.config job items)) ≡ length items
stores_counted plan first job [] b = refl
stores_counted plan first job (r ∷ rs) b =
    let f = λ (x : Message). is_job_from first (subject x.packet) in
    let m : Message = record { from = Controller; to = Server (server_of plan.config r.key); packet = Store job r } in
    let one = counted_true f m (le-leb first job b) in
    let all = count_cons f m (messages_from Controller (stores_of plan.config (suc job) rs)) in
    let more = stores_counted plan first (suc job) rs (omega (arith, b)) in
    omega (arith, one, all, more)

pub recovery_keeps : (plan : PlanView) (k : Keeping) (s : State) → IsPlan plan → IsInFlight plan s → Inv plan s → can_recover s ≡ true → Inv plan (happens_with plan k s Recover)
recovery_keeps plan k s valid flight h able = record {
  sized = record { view = h.sized.view; states = length-replicate (length s.controller.slots) Free ∙ h.sized.states; parts = tt; views = h.sized.views; done = h.sized.done; preserved = h.sized.preserved };
  epochs = record { running = λ e. absurd (true≢false (sym e ∙ stopped)); sent = λ x a. epochs x (split x a) };
  admissions = record {
    given = λ i tag key g. absurd (subst (IsGiven key tag) (free i) g);
    drawn = λ x i tag a e. drawn x i tag e (split x a);
    fits = λ x a. fits x (split x a);
    meets = λ e. absurd (true≢false (sym e ∙ stopped));
    one = λ none. absurd (none-some _ (sym none));
    once = λ tag. subst (λ n. n ≤ 1) (sym (count (λ (x : Message). admits_under tag x.packet) (λ x n e. ap (λ (w : Message). admits_under tag w.packet) e) (λ x j item e. ap (λ (w : Message). admits_under tag w.packet) e))) (h.admissions.once tag);
    empty = λ e. absurd (true≢false (sym e ∙ stopped));
  };
  evictions = record {
    tags = λ x i tag a e. tags x i tag e (split x a);
    jobs = λ x j a e. jobs x j e (split x a);
    owned = λ x i tag key a e g. absurd (subst (IsGiven key tag) (free i) g);
    evicting = λ i tag key e. absurd (let z : Free ≡ Evicting key tag = sym (free i) ∙ e in cc);
    flies = tt;
    emptied = λ e. absurd (true≢false (sym e ∙ stopped));
  };
  snapshots = record {
    ids = λ x id a e. ids x id e (split x a);
    snap = h.snapshots.snap;
    taken = h.snapshots.taken;
  };
  rounds = record {
    numbers = λ x number a e. numbers x number e (split x a);
    round = record {
      running = stopped;
      quiet = λ x a. quiet x (split x a);
      free = free;
      wants = refl;
      eviction = refl;
      job = refl;
      number = omega arith;
      first_job = omega arith;
      told_size = length-replicate plan.config.clients no_telling;
      tops_size = length-replicate plan.config.servers None;
      waits = waits plan.config.clients valid.config.clients.0;
      asked = λ e. absurd (true≢false (sym e));
      untold = λ e n. ap is_some (get_or-replicate_default plan.config.servers n None);
      stores = count_stores;
      tellings = λ c b. inl (record { asked = count_asks c b; told = count_none (λ (x : Message). is_told s.controller.next_round c x.packet) t.bag (λ x a. no_told c x (split x a)); none = get_or-replicate_default plan.config.clients c no_telling });
      tops = λ n b. count_none (λ (x : Message). is_top s.controller.next_round n x.to x.packet) t.bag (λ x a. no_top n x (split x a));
    };
  };
}
  where
    t : State
    t = happens_with plan k s Recover

    asks : List Message
    asks = messages_from Controller (to_clients 0 plan.config.clients (Ask s.controller.next_round))

    items : List Record
    items = snapshot_stores s.controller

    stores : List Message
    stores = messages_from Controller (stores_of plan.config s.controller.next_job (snapshot_stores s.controller))

    parts : (not s.running ≡ true) × (not (is_some s.controller.round) && not (list_any (λ (m : Message). is_switch m.from) s.bag) ≡ true)
    parts = and_parts (not s.running) (not (is_some s.controller.round) && not (list_any (λ (m : Message). is_switch m.from) s.bag)) able

    not_false : (b : Bool) → not b ≡ true → b ≡ false
    not_false true e = absurd (true≢false (sym e))
    not_false false e = refl

    stopped : s.running ≡ false
    stopped = not_false s.running parts.0

    none_sent : list_any (λ (m : Message). is_switch m.from) s.bag ≡ false
    none_sent = not_false _ (and_parts (not (is_some s.controller.round)) (not (list_any (λ (m : Message). is_switch m.from) s.bag)) parts.1).1

    not_any : (p : Message → Bool) (bag : List Message) (x : Message) → list_any p bag ≡ false → Among x bag → p x ≡ false
    not_any p [] x e a = absurd a
    not_any p (y ∷ ys) x e a = go (p y) refl e a (λ z b. not_any p ys x z b)
      where
        go : (b : Bool) → p y ≡ b → b || list_any p ys ≡ false → Among x (y ∷ ys) → (list_any p ys ≡ false → Among x ys → p x ≡ false) → p x ≡ false
        go true e z a f = absurd (true≢false z)
        go false e z (inl w) f = ap p w ∙ e
        go false e z (inr w) f = f z w

    calm : (x : Message) → Among x s.bag → is_switch x.from ≡ false
    calm x a = not_any (λ (m : Message). is_switch m.from) s.bag x none_sent a

    bag : t.bag ≡ s.bag ++ (asks ++ stores)
    bag = ap (λ l. s.bag ++ l) (map-append (λ (o : Out). record { from = Controller; to = o.to; packet = o.packet }) (to_clients 0 plan.config.clients (Ask s.controller.next_round)) (stores_of plan.config s.controller.next_job (snapshot_stores s.controller)))

    split : (x : Message) → Among x t.bag → Among x s.bag ⊎ (Among x asks ⊎ Among x stores)
    split x a = by (among_append x s.bag (asks ++ stores) (subst (Among x) bag a))
      where
        by : Among x s.bag ⊎ Among x (asks ++ stores) → Among x s.bag ⊎ (Among x asks ⊎ Among x stores)
        by (inl b) = inl b
        by (inr b) = inr (among_append x asks stores b)

    free : (i : ℕ) → state_at (replicate (length s.controller.slots) Free) i ≡ Free
    free i = get_or-replicate_default (length s.controller.slots) i Free

    -- what is counted of nothing that is sent
    count : (p : Message → Bool) → ((x : Message) (n : ℕ) → x ≡ record { from = Controller; to = Client n; packet = Ask s.controller.next_round } → p x ≡ false) → ((x : Message) (j : ℕ) (item : Record) → x ≡ record { from = Controller; to = Server (server_of plan.config item.key); packet = Store j item } → p x ≡ false) → count_by p t.bag ≡ count_by p s.bag
    count p f g =
        let both = count_append p s.bag (asks ++ stores) in
        let two = count_append p asks stores in
        let none = count_none p asks (λ x a. let e = ask_is s.controller.next_round 0 plan.config.clients x a in f x e.0 e.1) in
        let nothing = count_none p stores (λ x a. let e = store_is plan s.controller.next_job (snapshot_stores s.controller) x a in g x e.0 e.1 e.2) in
        ap (count_by p) bag ∙ omega (arith, both, two, none, nothing)

    epochs : (x : Message) → Among x s.bag ⊎ (Among x asks ⊎ Among x stores) → epoch_in x.packet ≤ s.controller.epoch
    epochs x (inl a) = h.epochs.sent x a
    epochs x (inr (inl a)) = let e = ask_is s.controller.next_round 0 plan.config.clients x a in let z : epoch_in x.packet ≡ 0 = ap (λ (w : Message). epoch_in w.packet) e.1 in omega (arith, z)
    epochs x (inr (inr a)) = let e = store_is plan s.controller.next_job (snapshot_stores s.controller) x a in let z : epoch_in x.packet ≡ 0 = ap (λ (w : Message). epoch_in w.packet) e.2 in omega (arith, z)

    -- the subject of what is sent
    sub : (x : Message) → Among x asks ⊎ Among x stores → (subject x.packet ≡ OfRound s.controller.next_round) ⊎ ((j : ℕ) × (subject x.packet ≡ OfJob j) × (j < s.controller.next_job + length (snapshot_stores s.controller)))
    sub x (inl a) = let e = ask_is s.controller.next_round 0 plan.config.clients x a in inl (ap (λ (w : Message). subject w.packet) e.1)
    sub x (inr a) = let e = store_is plan s.controller.next_job (snapshot_stores s.controller) x a in inr (e.0, ap (λ (w : Message). subject w.packet) e.2, e.4)

    drawn : (x : Message) (i tag : ℕ) → subject x.packet ≡ OfAdmission i tag → Among x s.bag ⊎ (Among x asks ⊎ Among x stores) → tag < s.controller.next_tag
    drawn x i tag e (inl a) = h.admissions.drawn x i tag a e
    drawn x i tag e (inr a) = by (sub x a)
      where
        by : (subject x.packet ≡ OfRound s.controller.next_round) ⊎ ((j : ℕ) × (subject x.packet ≡ OfJob j) × (j < s.controller.next_job + length (snapshot_stores s.controller))) → tag < s.controller.next_tag
        by (inl z) = let w : OfAdmission i tag ≡ OfRound s.controller.next_round = sym e ∙ z in absurd cc
        by (inr z) = let w : OfAdmission i tag ≡ OfJob z.0 = sym e ∙ z.1 in absurd cc

    fits : (x : Message) → Among x s.bag ⊎ (Among x asks ⊎ Among x stores) → AdmissionFits t.controller x.packet
    fits x (inl a) = of x.packet (flight.routed.messages x a).source (calm x a)
      where
        of : (p : Packet) → Rattle.far_invariants.specs.Flights.IsFrom p x.from → is_switch x.from ≡ false → AdmissionFits t.controller p
        of (Admit epoch i key tag) from off = λ none. absurd (none-some _ (sym none))
        of (AdmitAck i tag) from off = absurd (true≢false (sym (ap is_switch from) ∙ off))
        of _ from off = tt
    fits x (inr (inl a)) = let e = ask_is s.controller.next_round 0 plan.config.clients x a in subst (λ (w : Message). AdmissionFits t.controller w.packet) (sym e.1) tt
    fits x (inr (inr a)) = let e = store_is plan s.controller.next_job (snapshot_stores s.controller) x a in subst (λ (w : Message). AdmissionFits t.controller w.packet) (sym e.2) tt

    tags : (x : Message) (i tag : ℕ) → subject x.packet ≡ OfEviction i tag → Among x s.bag ⊎ (Among x asks ⊎ Among x stores) → tag < s.controller.next_tag
    tags x i tag e (inl a) = h.evictions.tags x i tag a e
    tags x i tag e (inr a) = by (sub x a)
      where
        by : (subject x.packet ≡ OfRound s.controller.next_round) ⊎ ((j : ℕ) × (subject x.packet ≡ OfJob j) × (j < s.controller.next_job + length (snapshot_stores s.controller))) → tag < s.controller.next_tag
        by (inl z) = let w : OfEviction i tag ≡ OfRound s.controller.next_round = sym e ∙ z in absurd cc
        by (inr z) = let w : OfEviction i tag ≡ OfJob z.0 = sym e ∙ z.1 in absurd cc

    jobs : (x : Message) (j : ℕ) → subject x.packet ≡ OfJob j → Among x s.bag ⊎ (Among x asks ⊎ Among x stores) → j < s.controller.next_job + length (snapshot_stores s.controller)
    jobs x j e (inl a) = let b = h.evictions.jobs x j a e in omega (arith, b)
    jobs x j e (inr a) = by (sub x a)
      where
        by : (subject x.packet ≡ OfRound s.controller.next_round) ⊎ ((j : ℕ) × (subject x.packet ≡ OfJob j) × (j < s.controller.next_job + length (snapshot_stores s.controller))) → j < s.controller.next_job + length (snapshot_stores s.controller)
        by (inl z) = let w : OfJob j ≡ OfRound s.controller.next_round = sym e ∙ z in absurd cc
        by (inr z) = let w : OfJob z.0 ≡ OfJob j = sym z.1 ∙ e in let y : z.0 ≡ j = cc in subst (λ n. n < s.controller.next_job + length (snapshot_stores s.controller)) y z.2

    ids : (x : Message) (id : ℕ) → subject x.packet ≡ OfSnapshot id → Among x s.bag ⊎ (Among x asks ⊎ Among x stores) → id < s.controller.next_id
    ids x id e (inl a) = h.snapshots.ids x id a e
    ids x id e (inr a) = by (sub x a)
      where
        by : (subject x.packet ≡ OfRound s.controller.next_round) ⊎ ((j : ℕ) × (subject x.packet ≡ OfJob j) × (j < s.controller.next_job + length (snapshot_stores s.controller))) → id < s.controller.next_id
        by (inl z) = let w : OfSnapshot id ≡ OfRound s.controller.next_round = sym e ∙ z in absurd cc
        by (inr z) = let w : OfSnapshot id ≡ OfJob z.0 = sym e ∙ z.1 in absurd cc

    numbers : (x : Message) (number : ℕ) → subject x.packet ≡ OfRound number → Among x s.bag ⊎ (Among x asks ⊎ Among x stores) → number < s.controller.next_round + 1
    numbers x number e (inl a) = let b = h.rounds.numbers x number a e in omega (arith, b)
    numbers x number e (inr a) = by (sub x a)
      where
        by : (subject x.packet ≡ OfRound s.controller.next_round) ⊎ ((j : ℕ) × (subject x.packet ≡ OfJob j) × (j < s.controller.next_job + length (snapshot_stores s.controller))) → number < s.controller.next_round + 1
        by (inl z) = let w : OfRound s.controller.next_round ≡ OfRound number = sym z ∙ e in let y : s.controller.next_round ≡ number = cc in omega (arith, y)
        by (inr z) = let w : OfRound number ≡ OfJob z.0 = sym e ∙ z.1 in absurd cc

    quiet : (x : Message) → Among x s.bag ⊎ (Among x asks ⊎ Among x stores) → is_switch x.from ≡ false
    quiet x (inl a) = calm x a
    quiet x (inr (inl a)) = let e = ask_is s.controller.next_round 0 plan.config.clients x a in ap (λ (w : Message). is_switch w.from) e.1
    quiet x (inr (inr a)) = let e = store_is plan s.controller.next_job (snapshot_stores s.controller) x a in ap (λ (w : Message). is_switch w.from) e.2

    waits : (n : ℕ) → 1 ≤ n → list_all has_told (replicate n no_telling) && nat_eq (length (snapshot_stores s.controller)) 0 ≡ false
    waits zero b = absurd (omega arith)
    waits (suc n) b = refl

    -- no old packet is of the new round, and no old job of its stores
    old_number : (x : Message) (number : ℕ) → Among x s.bag → subject x.packet ≡ OfRound number → number ≡ s.controller.next_round → ⊥
    old_number x number a e same = let b = h.rounds.numbers x number a e in omega (arith, b, same)

    no_told : (c : ℕ) (x : Message) → Among x s.bag ⊎ (Among x asks ⊎ Among x stores) → is_told s.controller.next_round c x.packet ≡ false
    no_told c x (inl a) = of x.packet refl
      where
        of : (p : Packet) → x.packet ≡ p → is_told s.controller.next_round c p ≡ false
        of (Told round caller total item) e = ap (λ z. z && nat_eq caller c) (ne_eqb round s.controller.next_round (old_number x round a (ap subject e)))
        of _ e = refl
    no_told c x (inr (inl a)) = let e = ask_is s.controller.next_round 0 plan.config.clients x a in ap (λ (w : Message). is_told s.controller.next_round c w.packet) e.1
    no_told c x (inr (inr a)) = let e = store_is plan s.controller.next_job (snapshot_stores s.controller) x a in ap (λ (w : Message). is_told s.controller.next_round c w.packet) e.2

    no_top : (n : ℕ) (x : Message) → Among x s.bag ⊎ (Among x asks ⊎ Among x stores) → is_top s.controller.next_round n x.to x.packet ≡ false
    no_top n x (inl a) = of x.packet refl
      where
        of : (p : Packet) → x.packet ≡ p → is_top s.controller.next_round n x.to p ≡ false
        of (TopAsk round) e = ap (λ z. z && Rattle.far_invariants.specs.InFlight.is_to_server n x.to) (ne_eqb round s.controller.next_round (old_number x round a (ap subject e)))
        of (TopIs round server top) e = ap (λ z. z && nat_eq server n) (ne_eqb round s.controller.next_round (old_number x round a (ap subject e)))
        of _ e = refl
    no_top n x (inr (inl a)) = let e = ask_is s.controller.next_round 0 plan.config.clients x a in ap (λ (w : Message). is_top s.controller.next_round n w.to w.packet) e.1
    no_top n x (inr (inr a)) = let e = store_is plan s.controller.next_job (snapshot_stores s.controller) x a in ap (λ (w : Message). is_top s.controller.next_round n w.to w.packet) e.2

    count_asks : (c : ℕ) → c < plan.config.clients → count_by (λ (x : Message). is_ask s.controller.next_round c x.to x.packet) t.bag ≡ 1
    count_asks c b =
        let p = λ (x : Message). is_ask s.controller.next_round c x.to x.packet in
        let both = count_append p s.bag (asks ++ stores) in
        let two = count_append p asks stores in
        let one = asks_counted s.controller.next_round c plan.config.clients b in
        let nothing = count_none p stores (λ x a. let e = store_is plan s.controller.next_job (snapshot_stores s.controller) x a in ap (λ (w : Message). is_ask s.controller.next_round c w.to w.packet) e.2) in
        let old = count_none p s.bag (λ x a. of x a x.packet refl) in
        ap (count_by p) bag ∙ omega (arith, both, two, one, nothing, old)
      where
        of : (x : Message) → Among x s.bag → (p : Packet) → x.packet ≡ p → is_ask s.controller.next_round c x.to p ≡ false
        of x a (Ask round) e = ap (λ z. z && Rattle.far_invariants.specs.InFlight.is_to_client c x.to) (ne_eqb round s.controller.next_round (old_number x round a (ap subject e)))
        of x a _ e = refl

    count_stores : count_by (λ (x : Message). is_job_from s.controller.next_job (subject x.packet)) t.bag ≡ length (snapshot_stores s.controller)
    count_stores =
        let p = λ (x : Message). is_job_from s.controller.next_job (subject x.packet) in
        let both = count_append p s.bag (asks ++ stores) in
        let two = count_append p asks stores in
        let none = count_none p asks (λ x a. let e = ask_is s.controller.next_round 0 plan.config.clients x a in ap (λ (w : Message). is_job_from s.controller.next_job (subject w.packet)) e.1) in
        let all = stores_counted plan s.controller.next_job s.controller.next_job (snapshot_stores s.controller) (omega arith) in
        let old = count_none p s.bag (λ x a. of x a (subject x.packet) refl) in
        ap (count_by p) bag ∙ omega (arith, both, two, none, all, old)
      where
        of : (x : Message) → Among x s.bag → (u : Subject) → subject x.packet ≡ u → is_job_from s.controller.next_job u ≡ false
        of x a (OfJob job) e = lt-leb s.controller.next_job job (h.evictions.jobs x job a e)
        of x a (OfOperation caller op) e = refl
        of x a (OfAdmission slot tag) e = refl
        of x a (OfEviction slot tag) e = refl
        of x a (OfSnapshot id) e = refl
        of x a (OfRound round) e = refl
        of x a OfNone e = refl

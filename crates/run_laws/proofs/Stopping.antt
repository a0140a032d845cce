-- A stop, the beginning of a recovery, and a restart: what numbers and slots are afterwards.
use Rattle.far_invariants.specs.Slots.{FitsState, IsGiven, is_admission_of, admits_under, admission_count}
use Rattle.far_invariants.specs.Numbers.{ExposedAtMost, slot_if, entry, reach}
use Rattle.far_invariants.specs.Covers.{look}
use Rattle.far_invariants.specs.Operations.{LineStands, IsDrawn, IsTagged, Relies, OperationsStand}
use Rattle.far_invariants.proofs.Noted.{IsNote, log_cases}
use Rattle.std.proofs.Common.{◌≡◌, ℕ, zero, suc, ◌+◌, ◌≤◌, ◌⊎◌, inl, inr, Bool, true, false, List, [], ◌∷◌, ◌++◌, length, replicate, refl, sym, ap, ◌∙◌, subst, arith, ne_eqb}
use Rattle.std.specs.Prelude.{Some, None, ◌&&◌, nat_eq}
use Rattle.std.proofs.lemmas.List.{length-replicate}
use Rattle.flight_laws.proofs.Lists.{get_or-replicate_default}
use Rattle.far_base.specs.PlanView.{PlanView}
use Rattle.far_base.specs.declared.log.LogEntry.{LogEntry}
use Rattle.far_base.specs.declared.log.LogEntry.TheVariants.{Sent, Numbered, Emitted, Answered, Stopped, Recovered}
use Rattle.far_base.specs.declared.log.LogLine.{LogLine}
use Rattle.far_base.specs.declared.packet.Message.{Message}
use Rattle.far_base.specs.declared.packet.Out.{Out}
use Rattle.far_base.specs.declared.packet.Packet.{Packet}
use Rattle.far_base.specs.declared.packet.Packet.TheVariants.{GetReq, WriteReq, GetFwd, WriteFwd, GetRep, WriteRep, GetAns, WriteAns, Admit, AdmitAck, Ask}
use Rattle.far_base.specs.declared.party.Party.TheVariants.{Switch, Controller}
use Rattle.far_base.specs.declared.record.Record.{Record}
use Rattle.far_base.specs.declared.slot_state.SlotState.TheVariants.{Free, Admitting}
use Rattle.far_model.specs.Controller.{ControllerState, start_recovery, stores_of, snapshot_stores, to_clients}
use Rattle.far_model.specs.Events.{Keeping, controller_turn, is_switch, recovery_items, restarts, stops}
use Rattle.far_model.specs.Evictions.{state_at}
use Rattle.far_invariants.specs.Flights.{IsFrom, IsRouted}
use Rattle.far_model.specs.Parties.{Turn, messages_from}
use Rattle.far_base.specs.declared.plan.Config.{Config}
use Rattle.far_model.specs.Members.{Among, Each}
use Rattle.far_model.specs.State.{State, line_at, now}
use Rattle.far_model.specs.View.{SlotView, SwitchView, slot_at, empty_slot, bound_place, entry_if, opening_view}
use Rattle.far_model.proofs.Members.{among_append, among_map_from, each_among}
use Rattle.record_laws.proofs.Controls.{IsControlNote, each_to, note_off}
use Rattle.record_laws.proofs.Frame.{NotOn, off_shows_each, shown_lasts}
use Rattle.record_laws.proofs.Seats.{admits_no_tag, count_append, count_none}
use Rattle.eviction_laws.proofs.Rules.{Rules, SlotGoes, rules_keep}
use Rattle.eviction_laws.proofs.Steady.{is_steady, AreSteady, steady_none, turn_keeps}
use Rattle.far_invariants.specs.SeatNeeds.{IsRestorable}
use Rattle.far_invariants.specs.Seated.{AdmissionStands, Seated}
use Rattle.run_laws.proofs.Seating.{admission_free}

-- ---- the counter, and whether the switch runs, may change where what is guarded by running holds anew

abbrev pub recounted : State → Bool → ℕ → State
recounted t running counter = record t { running = running; switch = record t.switch { counter = counter } }

pub recount_keeps : (plan : PlanView) (t : State) (running : Bool) (counter : ℕ) → OperationsStand plan t
    → (running ≡ true → (at op num : ℕ) → Among (line_at at (Numbered op num)) t.log → num ≤ counter)
    → (running ≡ true → (key : List ℕ) → ExposedAtMost plan t.log key (reach plan t key))
    → OperationsStand plan (recounted t running counter)
recount_keeps plan t running counter k counts covers = record {
  some_server = k.some_server;
  servers = k.servers;
  config = k.config;
  order = k.order;
  lines = λ l a. record { passed = (k.lines l a).passed; stands = stands l.moment l.entry a (k.lines l a).stands };
  relies = λ m a. relies m.packet (k.relies m a);
  records = k.records;
  left = λ c. record { of_client = (k.left c).of_client; unsent = (k.left c).unsent; apart = (k.left c).apart };
  open_or_answered = k.open_or_answered;
  covers = covers;
  slots = λ key slot is. let h = k.slots key slot is in record { drawn = drawn slot.tag h.drawn; written = h.written };
  untagged = drawn 0 k.untagged;
}
  where
    u : State
    u = recounted t running counter

    drawn : (tag : ℕ) → IsDrawn t tag → IsDrawn (recounted t running counter) tag
    drawn tag d = record { below = d.below; admitted = d.admitted }

    stands : (moment : ℕ) (e : LogEntry) → Among (line_at moment e) t.log → LineStands plan t moment e → LineStands plan (recounted t running counter) moment e
    stands moment (Sent op line) a h = h
    stands moment (Numbered op num) a h = record { sent = h.sent; write = h.write; above = h.above; counted = λ runs. counts runs moment op num a }
    stands moment (Emitted op num body near) a h = record {
      sent = h.sent;
      key = h.key;
      on_key = h.on_key;
      written = h.written;
      source = h.source;
      same = h.same;
      floor = h.floor;
      own = h.own;
      stored = h.stored;
    }
    stands moment (Answered op) a h = h
    stands moment _ a h = tt

    tagged : (key : List ℕ) (tag num : ℕ) → IsTagged plan t key tag num → IsTagged plan (recounted t running counter) key tag num
    tagged key tag num h = record { drawn = drawn tag h.drawn; current = h.current }

    relies : (p : Packet) → Relies plan t p → Relies plan (recounted t running counter) p
    relies (GetReq caller op key) h = record { serves = record { sent = h.serves.sent; on_key = h.serves.on_key; by_client = h.serves.by_client; unanswered = h.serves.unanswered }; read = h.read; unemitted = h.unemitted }
    relies (WriteReq caller op key body) h = record { serves = record { sent = h.serves.sent; on_key = h.serves.on_key; by_client = h.serves.by_client; unanswered = h.serves.unanswered }; write = h.write; same_body = h.same_body; unnumbered = h.unnumbered; unemitted = h.unemitted }
    relies (GetFwd caller op key tag) h = record {
      serves = record { sent = h.serves.sent; on_key = h.serves.on_key; by_client = h.serves.by_client; unanswered = h.serves.unanswered };
      read = h.read;
      unemitted = h.unemitted;
      floor = h.floor;
      tagged = tagged key tag _ h.tagged;
    }
    relies (WriteFwd caller op key num body) h = record { serves = record { sent = h.serves.sent; on_key = h.serves.on_key; by_client = h.serves.by_client; unanswered = h.serves.unanswered }; write = h.write; same_body = h.same_body; own = h.own; above = h.above; unemitted = h.unemitted }
    relies (GetRep caller op key tag num body) h = record {
      serves = record { sent = h.serves.sent; on_key = h.serves.on_key; by_client = h.serves.by_client; unanswered = h.serves.unanswered };
      read = h.read;
      unemitted = h.unemitted;
      floor = h.floor;
      known = h.known;
      written = h.written;
      tagged = tagged key tag num h.tagged;
    }
    relies (WriteRep caller op key num body) h = record { serves = record { sent = h.serves.sent; on_key = h.serves.on_key; by_client = h.serves.by_client; unanswered = h.serves.unanswered }; write = h.write; unemitted = h.unemitted; own = h.own; known = h.known; written = h.written }
    relies (GetAns caller op key num body near) h = record { serves = record { sent = h.serves.sent; on_key = h.serves.on_key; by_client = h.serves.by_client; unanswered = h.serves.unanswered }; emitted = h.emitted }
    relies (WriteAns caller op key num kept) h = record { serves = record { sent = h.serves.sent; on_key = h.serves.on_key; by_client = h.serves.by_client; unanswered = h.serves.unanswered }; emitted = h.emitted }
    relies _ h = tt

-- ---- slots of a switch with no memory

module _ (plan : PlanView) (epoch counter : ℕ) where
  abbrev bare : SwitchView
  bare = opening_view plan.config epoch counter

  pub bare_slot : (i : ℕ) → slot_at bare i ≡ empty_slot
  bare_slot i = get_or-replicate_default plan.config.slots i empty_slot

  pub bare_invalid : (i : ℕ) → (slot_at bare i).valid ≡ false
  bare_invalid i = ap (λ (w : SlotView). w.valid) (bare_slot i)

  -- no key is bound
  bound_none : (key : List ℕ) (n : ℕ) → bound_place key (replicate n None) ≡ None
  bound_none key zero = refl
  bound_none key (suc n) = ap Rattle.far_model.specs.View.next_place (bound_none key n)

  pub bare_entry : (key : List ℕ) → entry key bare ≡ None
  bare_entry key = ap (λ o. slot_if bare (entry_if key bare o)) (bound_none key plan.config.slots)

items_control : (records : List Record) → Each IsControlNote (recovery_items records)
items_control [] = tt
items_control (r ∷ rs) = (tt, items_control rs)

off_false : (b : Bool) → b ≡ false → b ≡ true → ⊥
off_false b h k = let clash : true ≡ false = sym k ∙ h in cc

-- ---- a stop

module _ (plan : PlanView) (s : State) (done : ℕ) where
  abbrev pub stopped : State
  stopped = record (stops plan s) { done = done }

  -- the same, with the counter that the switch had
  abbrev counting : State
  counting = record (stops plan s) { done = done; switch = opening_view plan.config 0 s.switch.counter }

  pub stop_keeps : OperationsStand plan s → OperationsStand plan stopped
  stop_keeps k = recount_keeps plan counting false 0 (rules_keep plan (Stopped ∷ []) s counting k rules (λ key. goes key)) (λ runs. absurd cc) (λ runs. absurd cc)
    where
      rules : Rules plan (Stopped ∷ []) s counting
      rules = record {
        log = refl;
        notes_are = (tt, tt);
        steps = refl;
        running = λ runs. absurd cc;
        config = sym k.config;
        counter = omega arith;
        servers = refl;
        more = λ key. omega arith;
        written = k.records;
        waits = λ c. refl;
        left = λ c. refl;
        tags = omega arith;
        bag = λ m a. inl a;
      }

      goes : (key : List ℕ) → SlotGoes plan s counting key
      goes key = record { reach = λ runs. absurd cc; before = λ slot is. absurd (let clash : None ≡ Some slot = sym (bare_entry plan 0 s.switch.counter key) ∙ is in cc) }

  admission_loses : (p : Packet) → AdmissionStands s p → AdmissionStands stopped p
  admission_loses (Admit epoch i key tag) h = (h.0, h.1, λ e outside. ((h.2 e outside).0, λ runs. absurd cc))
  admission_loses (AdmitAck i tag) h = (h.0, h.1, λ runs. absurd cc)
  admission_loses _ h = tt

  pub stop_sits : Seated plan s → Seated plan stopped
  stop_sits h = record {
    slots = record {
      epoch = λ runs. absurd cc;
      bounds = length-replicate plan.config.slots None;
      slots = length-replicate plan.config.slots empty_slot;
      states = h.slots.states;
      fits = λ runs. absurd cc;
      apart = h.slots.apart;
      drawn = h.slots.drawn;
      owned = λ i key valid is. absurd (off_false (slot_at stopped.switch i).valid (bare_invalid plan 0 0 i) valid);
    };
    admissions = record { packets = λ m a. admission_loses m.packet (h.admissions.packets m a); one = h.admissions.one; once = h.admissions.once };
  }

-- ---- a restart: nothing of slots is left, and admissions that are still on their way are of older epochs

module _ (plan : PlanView) (s : State) (k : Keeping) (counter : ℕ) where
  abbrev pub restart : State
  restart = restarts plan k s (Some counter)

  abbrev waking : State
  waking = record (restarts plan k s (Some counter)) { running = false; switch = opening_view plan.config (s.controller.epoch + 1) s.switch.counter }

  abbrev notes : List LogEntry
  notes = Recovered counter (length k.records) ∷ recovery_items k.records

  controls : Each IsControlNote (Recovered counter (length k.records) ∷ recovery_items k.records)
  controls = (tt, items_control k.records)

  pub restart_keeps : OperationsStand plan s → IsRestorable plan s counter → OperationsStand plan restart
  restart_keeps keeps found = recount_keeps plan waking true counter (rules_keep plan notes s waking keeps rules (λ key. goes key)) (λ runs at op num a. own at op num (log_cases s waking notes refl _ a)) (λ runs key. shown key)
    where
      rules : Rules plan notes s waking
      rules = record {
        log = refl;
        notes_are = controls;
        steps = refl;
        running = λ runs. absurd cc;
        config = sym keeps.config;
        counter = omega arith;
        servers = refl;
        more = λ key. omega arith;
        written = keeps.records;
        waits = λ c. refl;
        left = λ c. refl;
        tags = omega arith;
        bag = λ m a. inl a;
      }

      goes : (key : List ℕ) → SlotGoes plan s waking key
      goes key = record { reach = λ runs. absurd cc; before = λ slot is. absurd (let clash : None ≡ Some slot = sym (bare_entry plan (s.controller.epoch + 1) s.switch.counter key) ∙ is in cc) }

      own : (at op num : ℕ) → Among (line_at at (Numbered op num)) s.log ⊎ IsNote notes (now s) (line_at at (Numbered op num)) → num ≤ counter
      own at op num (inl a) = found.own at op num a
      own at op num (inr n) = absurd (subst IsControlNote (sym (ap (λ (w : LogLine). w.entry) n.is)) (each_among IsControlNote n.entry notes controls n.among))

      shown : (key : List ℕ) → ExposedAtMost plan waking.log key (reach plan waking key)
      shown key =
          let none : reach plan waking key ≡ (look plan s key).num = ap (Rattle.far_invariants.specs.Numbers.reach_by (look plan s key).num) (bare_entry plan (s.controller.epoch + 1) s.switch.counter key) in
          subst (ExposedAtMost plan waking.log key) (sym none) (shown_lasts s waking notes refl plan key (look plan s key).num (found.shown key) (off_shows_each plan key (look plan s key).num notes (each_to IsControlNote (NotOn plan key) notes (note_off plan key) controls)))

  module _ (free : (i : ℕ) → state_at s.controller.slots i ≡ Free) (h : Seated plan s) where
    admission_ages : (p : Packet) → AdmissionStands s p → AdmissionStands restart p
    admission_ages (Admit epoch i key tag) a = (a.0, let b = a.1 in omega (arith, b), λ e outside. absurd (let b = a.1 in omega (arith, b, e)))
    admission_ages (AdmitAck i tag) a = absurd (let clash : Free ≡ Admitting a.0 tag = sym (free i) ∙ a.1 in cc)
    admission_ages _ a = tt

    -- what is on its way is of older epochs
    ages : (i : ℕ) (p : Packet) → AdmissionStands s p → is_admission_of i (s.controller.epoch + 1) p ≡ false
    ages i (Admit epoch j key tag) a = ap (λ b. b && nat_eq j i) (ne_eqb epoch (s.controller.epoch + 1) (λ e. let b = a.1 in omega (arith, b, e)))
    ages i (AdmitAck j tag) a = absurd (let clash : Free ≡ Admitting a.0 tag = sym (free j) ∙ a.1 in cc)
    ages i _ a = refl

    pub restart_sits : Seated plan restart
    restart_sits = record {
      slots = record {
        epoch = λ runs. refl;
        bounds = length-replicate plan.config.slots None;
        slots = length-replicate plan.config.slots empty_slot;
        states = h.slots.states;
        fits = λ runs i. subst (FitsState (slot_at restart.switch i)) (sym (free i)) (bare_invalid plan (s.controller.epoch + 1) counter i);
        apart = h.slots.apart;
        drawn = h.slots.drawn;
        owned = λ i key valid is. absurd (off_false (slot_at restart.switch i).valid (bare_invalid plan (s.controller.epoch + 1) counter i) valid);
      };
      admissions = record {
        packets = λ m a. admission_ages m.packet (h.admissions.packets m a);
        one = λ outside i. count_none (λ (m : Message). is_admission_of i (s.controller.epoch + 1) m.packet) s.bag (λ m a. ages i m.packet (h.admissions.packets m a)) ∙ ap admission_count (sym (free i));
        once = h.admissions.once;
      };
    }

-- ---- a recovery begins: nothing that the switch sent is on its way

pub each_append : {A : Type 0} (P : A → Type 0) (xs ys : List A) → Each P xs → Each P ys → Each P (xs ++ ys)
each_append P [] ys a b = b
each_append P (x ∷ xs) ys a b = (a.0, each_append P xs ys a.1 b)

abbrev pub IsSteadyOut : Out → Type 0
IsSteadyOut o = is_steady o.packet ≡ true

pub outs_steady : (outs : List Out) → Each IsSteadyOut outs → AreSteady (messages_from Controller outs)
outs_steady outs h m a =
    let p = among_map_from (λ (o : Out). record { from = Controller; to = o.to; packet = o.packet }) m outs a in
    ap (λ (w : Message). is_steady w.packet) p.2 ∙ each_among IsSteadyOut p.0 outs h p.1

asks_steady : (n more round : ℕ) → Each IsSteadyOut (to_clients n more (Ask round))
asks_steady n zero round = tt
asks_steady n (suc more) round = (refl, asks_steady (suc n) more round)

stores_steady : (config : Config) (job : ℕ) (rs : List Record) → Each IsSteadyOut (stores_of config job rs)
stores_steady config job [] = tt
stores_steady config job (r ∷ rs) = (refl, stores_steady config (suc job) rs)

module _ (plan : PlanView) (s : State) where
  abbrev recovering : Turn ControllerState
  recovering = start_recovery plan.config s.controller

  abbrev pub recovered : State
  recovered = controller_turn s s.bag recovering

  pub sends_steady : AreSteady (messages_from Controller recovering.out)
  sends_steady = outs_steady recovering.out (each_append IsSteadyOut (to_clients 0 plan.config.clients (Ask s.controller.next_round)) (stores_of plan.config s.controller.next_job (snapshot_stores s.controller))
      (asks_steady 0 plan.config.clients s.controller.next_round) (stores_steady plan.config s.controller.next_job (snapshot_stores s.controller)))

  pub recover_keeps : OperationsStand plan s → OperationsStand plan recovered
  recover_keeps k = turn_keeps plan s s.bag recovering s.done k (λ m a. a) sends_steady tt (omega arith)

  module _ (off : s.running ≡ false) (quiet : (m : Message) → Among m s.bag → is_switch m.from ≡ false) (routed : IsRouted plan s) (h : Seated plan s) where
    from_switch : (m : Message) → Among m s.bag → m.from ≡ Switch → ⊥
    from_switch m a e = let on : is_switch m.from ≡ true = ap is_switch e in off_false (is_switch m.from) (quiet m a) on

    old : (m : Message) → Among m s.bag → (p : Packet) → m.packet ≡ p → AdmissionStands s p → AdmissionStands recovered p
    old m a (Admit epoch i key tag) is p = (p.0, p.1, λ e outside. absurd cc)
    old m a (AdmitAck i tag) is p = absurd (from_switch m a (subst (λ w. IsFrom w m.from) is (routed.messages m a).source))
    old m a _ is p = tt

    packet : (m : Message) → Among m s.bag ⊎ Among m (messages_from Controller recovering.out) → AdmissionStands recovered m.packet
    packet m (inl a) = old m a m.packet refl (h.admissions.packets m a)
    packet m (inr a) = admission_free recovered m.packet (steady_none m.packet (sends_steady m a))

    all_free : (i : ℕ) → state_at recovered.controller.slots i ≡ Free
    all_free i = get_or-replicate_default (length s.controller.slots) i Free

    given_none : (i : ℕ) (key : List ℕ) (tag : ℕ) → IsGiven key tag (state_at recovered.controller.slots i) → ⊥
    given_none i key tag g = subst (IsGiven key tag) (all_free i) g

    pub recover_sits : Seated plan recovered
    recover_sits = record {
      slots = record {
        epoch = λ runs. absurd (off_false s.running off runs);
        bounds = h.slots.bounds;
        slots = h.slots.slots;
        states = length-replicate (length s.controller.slots) Free ∙ h.slots.states;
        fits = λ runs. absurd (off_false s.running off runs);
        apart = λ i j key other tag own ne a b. absurd (given_none i key tag a);
        drawn = λ i key tag a. absurd (given_none i key tag a);
        owned = h.slots.owned;
      };
      admissions = record {
        packets = λ m a. packet m (among_append m s.bag (messages_from Controller recovering.out) a);
        one = λ outside. absurd cc;
        once = λ tag.
            let more = count_append (λ (m : Message). admits_under tag m.packet) s.bag (messages_from Controller recovering.out) in
            let none = count_none (λ (m : Message). admits_under tag m.packet) (messages_from Controller recovering.out) (λ m a. admits_no_tag tag m.packet (steady_none m.packet (sends_steady m a))) in
            let before = h.admissions.once tag in
            omega (arith, more, none, before);
      };
    }

-- What the controller does with a packet keeps what is in flight: admissions, evictions and wants.
use Rattle.far_invariants.specs.Slots.{IsGiven, is_admission_of, admits_under, admission_count}
use Rattle.std.proofs.Common.{◌≡◌, ◌≢◌, ℕ, ◌≤◌, ◌<◌, ◌⊎◌, inl, inr, Bool, true, false, true≢false, cond, ◌&&◌, nat_eq, eq-eqb, ne_eqb, List, [], ◌∷◌, ◌++◌, append-nil, length, length-set, refl, sym, ap, ◌∙◌, subst, arith}
use Rattle.std.specs.Prelude.{Option, None, Some, is_some}
use Rattle.std.specs.List.{count_by}
use Rattle.std.proofs.lemmas.Bool.{cases_eq}
use Rattle.std.proofs.lemmas.Option.{none-some}
use Rattle.std.proofs.lemmas.List.{get_or-set_same, get_or-set_other}
use Rattle.far_base.specs.PlanView.{PlanView}
use Rattle.far_base.specs.declared.log.LogEntry.TheVariants.{Admitted}
use Rattle.far_base.specs.declared.packet.Message.{Message}
use Rattle.far_base.specs.declared.packet.Out.{Out}
use Rattle.far_base.specs.declared.packet.Packet.{Packet}
use Rattle.far_base.specs.declared.packet.Packet.TheVariants.{Admit, AdmitAck}
use Rattle.far_base.specs.declared.party.Party.{Party}
use Rattle.far_base.specs.declared.party.Party.TheVariants.{Controller}
use Rattle.far_base.specs.declared.slot_state.SlotState.TheVariants.{Free, Admitting, Held, Evicting}
use Rattle.far_model.specs.Controller.{ControllerState, acked_state, acknowledged, wanted, with_state}
use Rattle.far_model.specs.Events.{controller_turn, is_switch}
use Rattle.far_model.specs.Evictions.{Eviction, is_admitting, is_free, key_in, state_at}
use Rattle.far_invariants.specs.Flights.{Subject, OfRound, OfNone, subject}
use Rattle.far_model.specs.Members.{Among}
use Rattle.far_model.specs.Parties.{Turn, idle, messages_from}
use Rattle.far_model.specs.Rounds.{Round}
use Rattle.far_model.specs.Snapshots.{Job}
use Rattle.far_model.specs.State.{State}
use Rattle.far_model.specs.View.{slot_at}
use Rattle.far_model.proofs.Members.{among_append}
use Rattle.far_invariants.specs.InFlight.{AdmissionFits, AdmissionsFly, EpochsFit, EvictionsFly, RoundFlies, RoundIs, RoundsFly, SnapshotsFly, epoch_in}
use Rattle.far_invariants.specs.Sizes.{IsSized, PartsFit}
use Rattle.flight_laws.proofs.Counts.{count_none, counted, counted_false, counted_true, none_counted}
use Rattle.flight_laws.proofs.Frames.{evictions_last, no_round, owners_refl, plain_admissions, plain_evictions, rounds_last, snapshots_last}
use Rattle.flight_laws.proofs.Moves.{Moves, Takes, moves_taken, of_admission, of_eviction, of_round, of_snapshot, sent_is}
use Rattle.flight_laws.proofs.SwitchKeeps.{Inv}
use Rattle.flight_laws.proofs.Weights.{state_within}

-- a turn of the controller, whatever it does, leaves the switch, the clients and the servers
module _ (plan : PlanView) (s : State) (h : Inv plan s) (rest : List Message) (members : (x : Message) → Among x rest → Among x s.bag) (turn : Turn ControllerState) where
  abbrev after : State
  after = controller_turn s rest turn

  abbrev sent : List Message
  sent = messages_from Controller turn.out

  -- what holds of the packets of all that is sent
  all_sent : (P : Packet → Type 0) → ((o : Out) → Among o turn.out → P o.packet) → (x : Message) → Among x sent → P x.packet
  all_sent P f x a = let o = sent_is Controller turn.out x a in subst (λ (w : Message). P w.packet) (sym o.2) (f o.0 o.1)

  pub control_sized : length turn.state.slots ≡ length s.controller.slots → PartsFit plan.config.slots turn.state.job → length turn.state.last.views ≤ plan.config.slots → IsSized plan after
  control_sized states parts views = record { view = h.sized.view; states = states ∙ h.sized.states; parts = parts; views = views; done = h.sized.done; preserved = h.sized.preserved }

  pub control_epochs : turn.state.epoch ≡ s.controller.epoch → ((o : Out) → Among o turn.out → epoch_in o.packet ≤ s.controller.epoch) → EpochsFit after
  control_epochs same le = record {
    running = λ e. h.epochs.running e ∙ sym same;
    sent = λ x a. subst (λ n. epoch_in x.packet ≤ n) (sym same) (by x (among_append x rest sent a));
  }
    where
      by : (x : Message) → Among x rest ⊎ Among x sent → epoch_in x.packet ≤ s.controller.epoch
      by x (inl a) = h.epochs.sent x (members x a)
      by x (inr a) = all_sent (λ p. epoch_in p ≤ s.controller.epoch) le x a

  pub class_sent : (q : Subject → Bool) → ((o : Out) → Among o turn.out → q (subject o.packet) ≡ false) → (x : Message) → Among x sent → q (subject x.packet) ≡ false
  class_sent q f x a = all_sent (λ p. q (subject p) ≡ false) f x a

  pub control_admissions : Moves of_admission s.bag (rest ++ sent) → turn.state.epoch ≡ s.controller.epoch → (turn.state.round ≡ None → s.controller.round ≡ None) → s.controller.next_tag ≤ turn.state.next_tag → turn.state.slots ≡ s.controller.slots → AdmissionsFly after
  control_admissions moves epoch round tags slots = plain_admissions s after h.admissions moves epoch round (λ e. e) tags slots (owners_refl s.switch)

  pub control_evictions : Moves of_eviction s.bag (rest ++ sent) → turn.state.epoch ≡ s.controller.epoch → turn.state.eviction ≡ s.controller.eviction → s.controller.next_tag ≤ turn.state.next_tag → s.controller.next_job ≤ turn.state.next_job → turn.state.slots ≡ s.controller.slots → EvictionsFly after
  control_evictions moves epoch eviction tags jobs slots = plain_evictions s after h.evictions moves epoch eviction (λ e. e) tags jobs slots (owners_refl s.switch)

  pub control_snapshots : Moves of_snapshot s.bag (rest ++ sent) → turn.state.epoch ≡ s.controller.epoch → turn.state.job ≡ s.controller.job → s.controller.next_id ≤ turn.state.next_id → SnapshotsFly plan after
  control_snapshots moves epoch job ids = snapshots_last plan s after h.snapshots (record { moves = moves; epoch = epoch; job = job; running = λ e. e; ids = ids; snap = refl; taken = refl })

  pub control_no_round : turn.state.round ≡ None → s.controller.next_round ≤ turn.state.next_round → ((o : Out) → Among o turn.out → of_round (subject o.packet) ≡ false) → RoundsFly plan after
  control_no_round none numbers off = no_round plan s after h.rounds (λ x number a e. by x number e (among_append x rest sent a)) numbers none
    where
      by : (x : Message) (number : ℕ) → subject x.packet ≡ OfRound number → Among x rest ⊎ Among x sent → Among x s.bag
      by x number e (inl a) = members x a
      by x number e (inr a) = absurd (true≢false (sym (ap of_round e) ∙ class_sent of_round off x a))

  -- where no more than jobs of no round are sent
  pub control_no_round_jobs : turn.state.round ≡ None → s.controller.next_round ≤ turn.state.next_round → ((o : Out) (number : ℕ) → Among o turn.out → subject o.packet ≡ OfRound number → ⊥) → RoundsFly plan after
  control_no_round_jobs none numbers off = no_round plan s after h.rounds (λ x number a e. by x number e (among_append x rest sent a)) numbers none
    where
      by : (x : Message) (number : ℕ) → subject x.packet ≡ OfRound number → Among x rest ⊎ Among x sent → Among x s.bag
      by x number e (inl a) = members x a
      by x number e (inr a) = let o = sent_is Controller turn.out x a in absurd (off o.0 number o.1 (ap (λ (w : Message). subject w.packet) (sym o.2) ∙ e))

  pub control_rounds : Moves of_round s.bag (rest ++ sent) → turn.state.round ≡ s.controller.round → s.controller.next_round ≤ turn.state.next_round → s.controller.next_job ≤ turn.state.next_job → turn.state.slots ≡ s.controller.slots → turn.state.wants ≡ s.controller.wants
      → turn.state.eviction ≡ s.controller.eviction → turn.state.job ≡ s.controller.job → RoundsFly plan after
  control_rounds moves round numbers jobs slots wants eviction job = rounds_last plan s after h.rounds (record {
    moves = moves;
    sources = λ x a. by x (among_append x rest sent a);
    running = refl;
    round = round;
    numbers = numbers;
    jobs = jobs;
    slots = slots;
    wants = wants;
    eviction = eviction;
    job = job;
  })
    where
      by : (x : Message) → Among x rest ⊎ Among x sent → Among x s.bag ⊎ (is_switch x.from ≡ false)
      by x (inl a) = inl (members x a)
      by x (inr a) = let o = sent_is Controller turn.out x a in inr (ap (λ (w : Message). is_switch w.from) o.2)

-- ---- what a round excludes

pub round_or_none : (plan : PlanView) (s : State) → RoundsFly plan s → (s.controller.round ≡ None) ⊎ ((r : Round) × (s.controller.round ≡ Some r) × RoundIs plan s r)
round_or_none plan s h = go s.controller.round refl h.round
  where
    go : (o : Option Round) → s.controller.round ≡ o → RoundFlies plan s o → (s.controller.round ≡ None) ⊎ ((r : Round) × (s.controller.round ≡ Some r) × RoundIs plan s r)
    go None e f = inl e
    go (Some r) e f = inr (r, e, f)

pub evicting_no_round : (plan : PlanView) (s : State) (e : Eviction) → RoundsFly plan s → s.controller.eviction ≡ Some e → s.controller.round ≡ None
evicting_no_round plan s e h is = by (round_or_none plan s h)
  where
    by : (s.controller.round ≡ None) ⊎ ((r : Round) × (s.controller.round ≡ Some r) × RoundIs plan s r) → s.controller.round ≡ None
    by (inl n) = n
    by (inr r) = absurd (none-some e (sym (r.2).eviction ∙ is))

pub job_no_round : (plan : PlanView) (s : State) (j : Job) → RoundsFly plan s → s.controller.job ≡ Some j → s.controller.round ≡ None
job_no_round plan s j h is = by (round_or_none plan s h)
  where
    by : (s.controller.round ≡ None) ⊎ ((r : Round) × (s.controller.round ≡ Some r) × RoundIs plan s r) → s.controller.round ≡ None
    by (inl n) = n
    by (inr r) = absurd (none-some j (sym (r.2).job ∙ is))

pub busy_no_round : (plan : PlanView) (s : State) (i : ℕ) → RoundsFly plan s → is_free (state_at s.controller.slots i) ≡ false → s.controller.round ≡ None
busy_no_round plan s i h busy = by (round_or_none plan s h)
  where
    by : (s.controller.round ≡ None) ⊎ ((r : Round) × (s.controller.round ≡ Some r) × RoundIs plan s r) → s.controller.round ≡ None
    by (inl n) = n
    by (inr r) = absurd (true≢false (sym (ap is_free ((r.2).free i)) ∙ busy))

-- ---- wants

module _ (plan : PlanView) (s : State) (h : Inv plan s) (rest : List Message) (members : (x : Message) → Among x rest → Among x s.bag) (moves : (q : Subject → Bool) → q OfNone ≡ false → Moves q s.bag (rest ++ [])) where
  pub wants_keep : (ws : List (List ℕ)) → s.controller.round ≡ None → Inv plan (controller_turn s rest (idle (record s.controller { wants = ws })))
  wants_keep ws none =
      let turn : Turn ControllerState = idle (record s.controller { wants = ws }) in
      record {
        sized = control_sized plan s h rest members turn refl h.sized.parts h.sized.views;
        epochs = control_epochs plan s h rest members turn refl (λ o a. absurd a);
        admissions = control_admissions plan s h rest members turn (moves of_admission refl) refl (λ e. e) (omega arith) refl;
        evictions = control_evictions plan s h rest members turn (moves of_eviction refl) refl refl (omega arith) (omega arith) refl;
        snapshots = control_snapshots plan s h rest members turn (moves of_snapshot refl) refl refl (omega arith);
        rounds = control_no_round plan s h rest members turn none (omega arith) (λ o a. absurd a);
      }

  pub idle_keeps : Inv plan (controller_turn s rest (idle s.controller))
  idle_keeps =
      let turn : Turn ControllerState = idle s.controller in
      record {
        sized = control_sized plan s h rest members turn refl h.sized.parts h.sized.views;
        epochs = control_epochs plan s h rest members turn refl (λ o a. absurd a);
        admissions = control_admissions plan s h rest members turn (moves of_admission refl) refl (λ e. e) (omega arith) refl;
        evictions = control_evictions plan s h rest members turn (moves of_eviction refl) refl refl (omega arith) (omega arith) refl;
        snapshots = control_snapshots plan s h rest members turn (moves of_snapshot refl) refl refl (omega arith);
        rounds = control_rounds plan s h rest members turn (moves of_round refl) refl (omega arith) (omega arith) refl refl refl refl;
      }

  pub wanted_keeps : (key : List ℕ) → Inv plan (controller_turn s rest (idle (wanted key s.controller)))
  wanted_keeps key = go s.controller.round refl
    where
      go : (o : Option Round) → s.controller.round ≡ o → Inv plan (controller_turn s rest (idle (cond (is_some o) s.controller (record s.controller { wants = s.controller.wants ++ key ∷ [] }))))
      go None e = wants_keep (s.controller.wants ++ key ∷ []) e
      go (Some r) e = idle_keeps

-- ---- the slot of an admission is held

module _ (plan : PlanView) (s : State) (h : Inv plan s) (rest : List Message) (from to : Party) (i tag : ℕ) (takes : Takes s.bag rest (record { from = from; to = to; packet = AdmitAck i tag })) where
  abbrev acked : Message
  acked = record { from = from; to = to; packet = AdmitAck i tag }

  abbrev ack_key : List ℕ
  ack_key = (h.admissions.fits acked takes.there).0

  ack_state : state_at s.controller.slots i ≡ Admitting ack_key tag
  ack_state = (h.admissions.fits acked takes.there).1

  ack_round : s.controller.round ≡ None
  ack_round = busy_no_round plan s i h.rounds (ap is_free ack_state)

  ack_rest : (x : Message) → Among x rest → is_admission_of i s.controller.epoch x.packet ≡ false
  ack_rest x a = none_counted (λ (x : Message). is_admission_of i s.controller.epoch x.packet) rest x (
      let p = λ (x : Message). is_admission_of i s.controller.epoch x.packet in
      let mine : counted p acked ≡ 1 = counted_true p acked (eq-eqb i i refl) in
      let old = takes.count p in
      let one = h.admissions.one ack_round i in
      let is : admission_count (state_at s.controller.slots i) ≡ 1 = ap admission_count ack_state in
      omega (arith, mine, old, one, is)) a

  abbrev held : Turn ControllerState
  held = record { state = with_state s.controller i (Held ack_key tag); out = []; notes = Admitted i ack_key tag ∷ [] }

  abbrev now : State
  now = controller_turn s rest held

  within : i < length s.controller.slots
  within = state_within s.controller.slots i (ap is_free ack_state)

  here : state_at now.controller.slots i ≡ Held ack_key tag
  here = get_or-set_same s.controller.slots i (Held ack_key tag) Free within

  there : (j : ℕ) → j ≢ i → state_at now.controller.slots j ≡ state_at s.controller.slots j
  there j ne = get_or-set_other s.controller.slots i j (Held ack_key tag) Free ne

  given_was : (j t : ℕ) (k : List ℕ) → IsGiven k t (state_at now.controller.slots j) → IsGiven k t (state_at s.controller.slots j)
  given_was j t k g = by (cases_eq j i)
    where
      by : (j ≡ i) ⊎ (j ≡ i → ⊥) → IsGiven k t (state_at s.controller.slots j)
      by (inl e) = subst (λ n. IsGiven k t (state_at s.controller.slots n)) (sym e) (subst (IsGiven k t) (sym ack_state) (subst (IsGiven k t) here (subst (λ n. IsGiven k t (state_at now.controller.slots n)) e g)))
      by (inr ne) = subst (IsGiven k t) (there j ne) g

  old : (x : Message) → Among x (rest ++ []) → Among x rest
  old x a = subst (Among x) (append-nil rest) a

  held_admissions : AdmissionsFly now
  held_admissions = record {
    given = λ j t k g. h.admissions.given j t k (given_was j t k g);
    drawn = λ x j t a e. h.admissions.drawn x j t (takes.members x (old x a)) e;
    fits = λ x a. fits x (old x a);
    meets = λ r x a. h.admissions.meets r x (takes.members x (old x a));
    one = λ none j. one j (cases_eq j i);
    once = λ t. let p = λ (x : Message). admits_under t x.packet in let was = takes.count p in let b = h.admissions.once t in subst (λ l. count_by p l ≤ 1) (sym (append-nil rest)) (omega (arith, was, b));
    empty = λ r j k. empty r j k (cases_eq j i);
  }
    where
      fits : (x : Message) → Among x rest → AdmissionFits now.controller x.packet
      fits x a = of x.packet (ack_rest x a) (h.admissions.fits x (takes.members x a))
        where
          of : (p : Packet) → is_admission_of i s.controller.epoch p ≡ false → AdmissionFits s.controller p → AdmissionFits now.controller p
          of (Admit epoch j k t) off f = λ none e. by none e (cases_eq j i)
            where
              by : now.controller.round ≡ None → epoch ≡ s.controller.epoch → (j ≡ i) ⊎ (j ≡ i → ⊥) → state_at now.controller.slots j ≡ Admitting k t
              by none e (inl same) = absurd (true≢false (sym ((λ z. eq-eqb epoch s.controller.epoch e z && nat_eq j i) ∙ eq-eqb j i same) ∙ off))
              by none e (inr ne) = there j ne ∙ f none e
          of (AdmitAck j t) off f = by (cases_eq j i)
            where
              by : (j ≡ i) ⊎ (j ≡ i → ⊥) → AdmissionFits now.controller (AdmitAck j t)
              by (inl same) = absurd (true≢false (sym (eq-eqb j i same) ∙ off))
              by (inr ne) = (f.0, there j ne ∙ f.1)
          of _ off f = tt

      one : (j : ℕ) → (j ≡ i) ⊎ (j ≡ i → ⊥) → count_by (λ (x : Message). is_admission_of j s.controller.epoch x.packet) (rest ++ []) ≡ admission_count (state_at now.controller.slots j)
      one j (inl e) =
          let none = count_none (λ (x : Message). is_admission_of j s.controller.epoch x.packet) rest (λ x a. ap (λ n. is_admission_of n s.controller.epoch x.packet) e ∙ ack_rest x a) in
          ap (count_by (λ (x : Message). is_admission_of j s.controller.epoch x.packet)) (append-nil rest) ∙ none ∙ sym (ap admission_count (ap (state_at now.controller.slots) e ∙ here))
      one j (inr ne) =
          let p = λ (x : Message). is_admission_of j s.controller.epoch x.packet in
          let mine : counted p acked ≡ 0 = counted_false p acked (ne_eqb i j (λ e. ne (sym e))) in
          let was = takes.count p in
          let b = h.admissions.one ack_round j in
          let same : admission_count (state_at now.controller.slots j) ≡ admission_count (state_at s.controller.slots j) = ap admission_count (there j ne) in
          ap (count_by p) (append-nil rest) ∙ omega (arith, mine, was, b, same)

      empty : s.running ≡ true → (j : ℕ) → state_at now.controller.slots j ≡ Free → (j ≡ i) ⊎ (j ≡ i → ⊥) → (slot_at s.switch j).valid ≡ false
      empty r j k (inl e) = let f : Free ≡ Held ack_key tag = sym k ∙ ap (state_at now.controller.slots) e ∙ here in absurd cc
      empty r j k (inr ne) = h.admissions.empty r j (sym (there j ne) ∙ k)

  pub ack_keeps : Inv plan now
  ack_keeps = record {
    sized = control_sized plan s h rest takes.members held (length-set s.controller.slots i (Held ack_key tag)) h.sized.parts h.sized.views;
    epochs = control_epochs plan s h rest takes.members held refl (λ o a. absurd a);
    admissions = held_admissions;
    evictions = evictions_last s now h.evictions (record {
      moves = moves_taken of_eviction s.bag rest [] acked takes refl (λ x a. absurd a);
      epoch = refl;
      eviction = refl;
      running = λ e. e;
      tags = omega arith;
      jobs = omega arith;
      given = λ j t k g. inl (given_was j t k g);
      evicting = λ j t k e. evicting j t k e (cases_eq j i);
      still = λ j t k e. still j t k e (cases_eq j i);
      emptied = λ r j t k st off. off;
    });
    snapshots = control_snapshots plan s h rest takes.members held (moves_taken of_snapshot s.bag rest [] acked takes refl (λ x a. absurd a)) refl refl (omega arith);
    rounds = control_no_round plan s h rest takes.members held ack_round (omega arith) (λ o a. absurd a);
  }
    where
      evicting : (j t : ℕ) (k : List ℕ) → state_at now.controller.slots j ≡ Evicting k t → (j ≡ i) ⊎ (j ≡ i → ⊥) → state_at s.controller.slots j ≡ Evicting k t
      evicting j t k e (inl same) = let f : Held ack_key tag ≡ Evicting k t = sym here ∙ ap (state_at now.controller.slots) (sym same) ∙ e in absurd cc
      evicting j t k e (inr ne) = sym (there j ne) ∙ e

      still : (j t : ℕ) (k : List ℕ) → state_at s.controller.slots j ≡ Evicting k t → (j ≡ i) ⊎ (j ≡ i → ⊥) → state_at now.controller.slots j ≡ Evicting k t
      still j t k e (inl same) = let f : Admitting ack_key tag ≡ Evicting k t = sym ack_state ∙ ap (state_at s.controller.slots) (sym same) ∙ e in absurd cc
      still j t k e (inr ne) = there j ne ∙ e

  pub acked_keeps : Inv plan (controller_turn s rest (acknowledged s.controller i tag))
  acked_keeps = subst (λ st. Inv plan (controller_turn s rest (cond (is_admitting tag st) (record { state = with_state s.controller i (acked_state st); out = []; notes = Admitted i (key_in st) tag ∷ [] }) (idle s.controller)))) (sym ack_state)
      (subst (λ b. Inv plan (controller_turn s rest (cond b held (idle s.controller)))) (sym (eq-eqb tag tag refl)) ack_keeps)

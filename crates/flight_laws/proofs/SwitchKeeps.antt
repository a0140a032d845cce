-- A pass through the running switch keeps what is in flight.
use Rattle.far_invariants.specs.Slots.{IsGiven, is_admission_of, admits_under, admission_count}
use Rattle.std.proofs.Common.{◌≡◌, ◌≢◌, ℕ, ◌≤◌, ◌<◌, ◌⊎◌, inl, inr, Bool, true, false, true≢false, cond, ◌&&◌, nat_eq, nat_lt, eq-eqb, eqb-true, ne_eqb, List, [], ◌∷◌, ◌++◌, append-nil, append_assoc, length, get_or, set, refl, sym, ap, ◌∙◌, subst, arith}
use Rattle.std.specs.Prelude.{Option, None, Some, slice_index_or}
use Rattle.std.specs.List.{count_by}
use Rattle.std.proofs.lemmas.Bool.{and_parts, cases_eq, lt-ltb}
use Rattle.std.proofs.lemmas.Option.{same_Some}
use Rattle.std.proofs.lemmas.List.{get_or-set_same, get_or-set_other}
use Rattle.far_base.specs.PlanView.{PlanView}
use Rattle.far_base.specs.declared.packet.Message.{Message}
use Rattle.far_base.specs.declared.packet.Out.{Out}
use Rattle.far_base.specs.declared.packet.Packet.{Packet}
use Rattle.far_base.specs.declared.packet.Packet.TheVariants.{GetReq, WriteReq, GetRep, WriteRep, Hot, Admit, AdmitAck, Peek, Remove, RemoveAns, SnapStart, SnapBegun, SnapRead, SnapPart, Release, Ask, TopAsk, SnapFrom, SnapSame}
use Rattle.far_base.specs.declared.party.Party.{Party}
use Rattle.far_base.specs.declared.party.Party.TheVariants.{Switch, Controller}
use Rattle.far_base.specs.declared.plan.Config.{Config}
use Rattle.far_base.specs.declared.slot_state.SlotState.TheVariants.{Free, Admitting, Evicting}
use Rattle.far_model.specs.Events.{switch_turn}
use Rattle.far_model.specs.Evictions.{Eviction, is_free, state_at}
use Rattle.far_invariants.specs.Flights.{IsFor, Subject, OfAdmission, OfEviction, OfJob, OfSnapshot, OfRound, OfNone, subject}
use Rattle.far_model.specs.Members.{Among}
use Rattle.far_model.specs.Parties.{messages_from, to_party}
use Rattle.far_model.specs.Pass.{Passed, dropped, is_slot_there, is_under, pass, passed_out, with_slot, with_taken, part_packet, is_as_before}
use Rattle.far_model.specs.Rounds.{Round}
use Rattle.far_model.specs.State.{State}
use Rattle.far_model.specs.View.{SlotView, SwitchView, bind_key, empty_slot, held_record, shown_body, slot_at}
use Rattle.far_model.proofs.Members.{among_append}
use Rattle.far_invariants.specs.InFlight.{AdmissionFits, AdmissionMeets, AdmissionsFly, Emptied, EpochsFit, EvictionsFly, FitsDue, IsEvicted, OwnFlies, RoundFlies, RoundsFly, SnapshotsFly, epoch_in, is_own}
use Rattle.far_invariants.specs.Sizes.{IsSized}
use Rattle.flight_laws.proofs.Counts.{count_append, count_cons, count_least, counted, counted_false, counted_true}
use Rattle.flight_laws.proofs.Frames.{SameOwners, admissions_last, evictions_last, meets_still, no_round, owners_refl, plain_admissions, plain_evictions}
use Rattle.flight_laws.proofs.Moves.{Moves, Takes, moves_sent, moves_taken, of_admission, of_eviction, of_round, sent_is}
use Rattle.flight_laws.proofs.PassFacts.{IsSide, PartsLeave, PassIs, changes_owner, no_epoch, pass_is, starts}
use Rattle.flight_laws.proofs.Passes.{admit_cases, changes_cases, peek_cases, remove_cases, from_cases, start_cases}
use Rattle.flight_laws.proofs.Weights.{state_within}
use Rattle.flight_laws.proofs.Lists.{by_test}

-- all of it
pub record Inv (plan : PlanView) (s : State) : Type 0 where
  pub sized : IsSized plan s
  pub epochs : EpochsFit s
  pub admissions : AdmissionsFly s
  pub evictions : EvictionsFly s
  pub snapshots : SnapshotsFly plan s
  pub rounds : RoundsFly plan s

pub running_no_round : (plan : PlanView) (s : State) → RoundsFly plan s → s.running ≡ true → s.controller.round ≡ None
running_no_round plan s h running = go s.controller.round h.round
  where
    go : (o : Option Round) → RoundFlies plan s o → o ≡ None
    go None f = refl
    go (Some r) f = absurd (true≢false (sym running ∙ f.running))

-- ---- a packet of an eviction or of a job is answered by one of the same

-- the state after, with the controller as it was
pub evictions_answer : (s t : State) (rest : List Message) (m q : Message) → EvictionsFly s → Takes s.bag rest m → t.bag ≡ rest ++ q ∷ [] → subject q.packet ≡ subject m.packet
    → ((e : Eviction) → is_own e (subject m.packet) ≡ true → FitsDue s.controller.epoch e m.packet → FitsDue s.controller.epoch e q.packet) → (t.running ≡ true → s.running ≡ true)
    → (t.running ≡ true → (i tag : ℕ) (key : List ℕ) → state_at s.controller.slots i ≡ Evicting key tag → (slot_at s.switch i).valid ≡ false → (slot_at t.switch i).valid ≡ false)
    → (t.running ≡ true → Emptied t.switch s.controller q.packet) → EvictionsFly (record t { controller = s.controller })
evictions_answer s t rest m q h takes bag same due running off new = record {
  tags = λ x i tag a e. tags x i tag e (olds x a);
  jobs = λ x job a e. jobs x job e (olds x a);
  owned = λ x i tag key a e g. owned x i tag key e g (olds x a);
  evicting = h.evicting;
  flies = flies s.controller.eviction h.flies;
  emptied = λ r x a. emptied r x (olds x a);
}
  where
    olds : (x : Message) → Among x t.bag → Among x rest ⊎ (x ≡ q)
    olds x a = by (among_append x rest (q ∷ []) (subst (Among x) bag a))
      where
        by : Among x rest ⊎ Among x (q ∷ []) → Among x rest ⊎ (x ≡ q)
        by (inl b) = inl b
        by (inr (inl e)) = inr e
        by (inr (inr b)) = absurd b

    of_q : (x : Message) (sub : Subject) → x ≡ q → subject x.packet ≡ sub → subject m.packet ≡ sub
    of_q x sub e k = sym same ∙ ap (λ (w : Message). subject w.packet) (sym e) ∙ k

    tags : (x : Message) (i tag : ℕ) → subject x.packet ≡ OfEviction i tag → Among x rest ⊎ (x ≡ q) → tag < s.controller.next_tag
    tags x i tag e (inl a) = h.tags x i tag (takes.members x a) e
    tags x i tag e (inr k) = h.tags m i tag takes.there (of_q x (OfEviction i tag) k e)

    jobs : (x : Message) (job : ℕ) → subject x.packet ≡ OfJob job → Among x rest ⊎ (x ≡ q) → job < s.controller.next_job
    jobs x job e (inl a) = h.jobs x job (takes.members x a) e
    jobs x job e (inr k) = h.jobs m job takes.there (of_q x (OfJob job) k e)

    owned : (x : Message) (i tag : ℕ) (key : List ℕ) → subject x.packet ≡ OfEviction i tag → IsGiven key tag (state_at s.controller.slots i) → Among x rest ⊎ (x ≡ q) → IsEvicted s.controller i tag
    owned x i tag key e g (inl a) = h.owned x i tag key (takes.members x a) e g
    owned x i tag key e g (inr k) = h.owned m i tag key takes.there (of_q x (OfEviction i tag) k e) g

    flies : (o : Option Eviction) → OwnFlies s.controller s.bag o → OwnFlies s.controller t.bag o
    flies None f = tt
    flies (Some e) f = (
      f.0,
      (let p = λ (w : Message). is_own e (subject w.packet) in
          let old = takes.count p in
          let both = count_append p rest (q ∷ []) in
          let one = count_cons p q [] in
          let same_count : counted p q ≡ counted p m = ap (λ w. cond {A = ℕ} (is_own e w) 1 0) same in
          let was = f.1 in
          ap (count_by p) bag ∙ omega (arith, old, both, one, same_count, was)),
      λ x a own. fits x own (olds x a),
    )
      where
        fits : (x : Message) → is_own e (subject x.packet) ≡ true → Among x rest ⊎ (x ≡ q) → FitsDue s.controller.epoch e x.packet
        fits x own (inl a) = f.2 x (takes.members x a) own
        fits x own (inr k) =
            let mine : is_own e (subject m.packet) ≡ true = ap (is_own e) (of_q x (subject x.packet) k refl) ∙ own in
            subst (λ (w : Message). FitsDue s.controller.epoch e w.packet) (sym k) (due e mine (f.2 m takes.there mine))

    emptied : t.running ≡ true → (x : Message) → Among x rest ⊎ (x ≡ q) → Emptied t.switch s.controller x.packet
    emptied r x (inr k) = subst (λ (w : Message). Emptied t.switch s.controller w.packet) (sym k) (new r)
    emptied r x (inl a) = of x.packet refl (h.emptied (running r) x (takes.members x a))
      where
        of : (p : Packet) → x.packet ≡ p → Emptied s.switch s.controller p → Emptied t.switch s.controller p
        of (RemoveAns i tag done latest num body) k f = λ d key g.
            let o = h.owned x i tag key (takes.members x a) (ap subject k) g in
            let is = (subst (OwnFlies s.controller s.bag) o.is h.flies).0 in
            off r i o.eviction.tag o.eviction.key (ap (state_at s.controller.slots) (sym o.slot) ∙ is.state) (f d key g)
        of _ k f = tt

-- ---- a packet of an eviction that is not the one under way goes

pub evictions_drop : (s t : State) (rest : List Message) (m : Message) → EvictionsFly s → Takes s.bag rest m → t.bag ≡ rest ++ [] → ((e : Eviction) → s.controller.eviction ≡ Some e → is_own e (subject m.packet) ≡ false) → (t.running ≡ true → s.running ≡ true) → SameOwners s.switch t.switch
    → EvictionsFly (record t { controller = s.controller })
evictions_drop s t rest m h takes bag strange running owners = record {
  tags = λ x i tag a e. h.tags x i tag (old x a) e;
  jobs = λ x job a e. h.jobs x job (old x a) e;
  owned = λ x i tag key a e g. h.owned x i tag key (old x a) e g;
  evicting = h.evicting;
  flies = flies s.controller.eviction refl h.flies;
  emptied = λ r x a. of r x.packet (h.emptied (running r) x (old x a));
}
  where
    bag_is : t.bag ≡ rest
    bag_is = bag ∙ append-nil rest

    old : (x : Message) → Among x t.bag → Among x s.bag
    old x a = takes.members x (subst (Among x) bag_is a)

    flies : (o : Option Eviction) → s.controller.eviction ≡ o → OwnFlies s.controller s.bag o → OwnFlies s.controller t.bag o
    flies None k f = tt
    flies (Some e) k f = (
      f.0,
      (let p = λ (w : Message). is_own e (subject w.packet) in
          let was = takes.count p in
          let gone = counted_false p m (strange e k) in
          let one = f.1 in
          ap (count_by p) bag_is ∙ omega (arith, was, gone, one)),
      λ x a own. f.2 x (old x a) own,
    )

    of : t.running ≡ true → (p : Packet) → Emptied s.switch s.controller p → Emptied t.switch s.controller p
    of r (RemoveAns i tag done latest num body) f = λ d key g. owners.valid i ∙ f d key g
    of r _ f = tt

module _ (plan : PlanView) (s : State) (h : Inv plan s) (running : s.running ≡ true) (config : s.switch.config ≡ plan.config) (rest : List Message) (m : Message) (takes : Takes s.bag rest m) (goes : IsFor plan.config m.packet Switch) where
  abbrev p : Packet
  p = m.packet

  abbrev r : Passed
  r = pass s.switch p

  abbrev out : List Message
  out = messages_from Switch (passed_out r)

  abbrev t : State
  t = switch_turn s rest p r

  slots_are : s.switch.config.slots ≡ plan.config.slots
  slots_are = ap (λ (c : Config). c.slots) config

  is : PassIs plan.config.slots s.switch p r
  is = pass_is plan.config.slots s.switch h.sized.view plan.config p slots_are goes

  no_round_now : s.controller.round ≡ None
  no_round_now = running_no_round plan s h.rounds running

  -- what is sent is of the same subject, or of a hot key or a part
  sent : (q : Subject → Bool) → q (subject p) ≡ false → q OfNone ≡ false → (q (OfSnapshot s.switch.snap) ≡ false) → (x : Message) → Among x out → q (subject x.packet) ≡ false
  sent q off none snap x a = let o = sent_is Switch (passed_out r) x a in ap (λ (w : Message). q (subject w.packet)) o.2 ∙ by o.0.packet (is.outs o.0 o.1).0
    where
      side : (k : Packet) → IsSide s.switch k → q (subject k) ≡ false
      side (Hot key) e = none
      side (SnapPart id i view) e = ap (λ n. q (OfSnapshot n)) e ∙ snap
      side (SnapSame id i) e = ap (λ n. q (OfSnapshot n)) e ∙ snap
      side _ e = absurd e

      by : (k : Packet) → (subject k ≡ subject p) ⊎ IsSide s.switch k → q (subject k) ≡ false
      by k (inl e) = ap q e ∙ off
      by k (inr e) = side k e

  sized : IsSized plan t
  sized = record { view = is.sized; states = h.sized.states; parts = h.sized.parts; views = h.sized.views; done = h.sized.done; preserved = h.sized.preserved }

  epochs : EpochsFit t
  epochs = record { running = λ e. is.epoch ∙ h.epochs.running e; sent = λ x a. by x (among_append x rest out a) }
    where
      by : (x : Message) → Among x rest ⊎ Among x out → epoch_in x.packet ≤ s.controller.epoch
      by x (inl a) = h.epochs.sent x (takes.members x a)
      by x (inr a) = let o = sent_is Switch (passed_out r) x a in let e : epoch_in x.packet ≡ 0 = ap (λ (w : Message). epoch_in w.packet) o.2 ∙ no_epoch o.0.packet (is.outs o.0 o.1).1 in omega (arith, e)

  rounds : of_round (subject p) ≡ false → RoundsFly plan t
  rounds off = no_round plan s t h.rounds (λ x number a e. by x number e (among_append x rest out a)) (omega arith) no_round_now
    where
      by : (x : Message) (number : ℕ) → subject x.packet ≡ OfRound number → Among x rest ⊎ Among x out → Among x s.bag
      by x number e (inl a) = takes.members x a
      by x number e (inr a) = absurd (true≢false (sym (ap of_round e) ∙ sent of_round off refl refl x a))

  -- ---- where no owner changes

  admissions : of_admission (subject p) ≡ false → changes_owner p ≡ false → AdmissionsFly t
  admissions off same = plain_admissions s t h.admissions (moves_taken of_admission s.bag rest out m takes off (sent of_admission off refl refl)) refl (λ e. e) (λ e. e) (omega arith) refl (is.owners same)

  evictions : of_eviction (subject p) ≡ false → changes_owner p ≡ false → EvictionsFly t
  evictions off same = plain_evictions s t h.evictions (moves_taken of_eviction s.bag rest out m takes off (sent of_eviction off refl refl)) refl refl (λ e. e) (omega arith) (omega arith) refl (is.owners same)

  -- ---- snapshots: a part leaves, or none

  snapshots : PartsLeave s.switch r → SnapshotsFly plan t
  snapshots leaves = record {
    ids = λ x id a e. ids x id e (among_append x rest out a);
    snap = subst (λ n. n < s.controller.next_id) (sym leaves.snap) h.snapshots.snap;
    taken = λ i. taken i (leaves.taken i);
  }
    where
      taken : (i : ℕ) → (slice_index_or r.view.taken i 0 ≡ slice_index_or s.switch.taken i 0) ⊎ (slice_index_or r.view.taken i 0 ≡ s.switch.snap) → slice_index_or r.view.taken i 0 < s.controller.next_id
      taken i (inl e) = subst (λ n. n < s.controller.next_id) (sym e) (h.snapshots.taken i)
      taken i (inr e) = subst (λ n. n < s.controller.next_id) (sym e) h.snapshots.snap

      ids : (x : Message) (id : ℕ) → subject x.packet ≡ OfSnapshot id → Among x rest ⊎ Among x out → id < s.controller.next_id
      ids x id e (inl a) = h.snapshots.ids x id (takes.members x a) e
      ids x id e (inr a) = let o = sent_is Switch (passed_out r) x a in by o.0.packet (is.outs o.0 o.1).0 (ap (λ (w : Message). subject w.packet) (sym o.2) ∙ e)
        where
          side : (k : Packet) → IsSide s.switch k → subject k ≡ OfSnapshot id → id < s.controller.next_id
          side (Hot key) i k = absurd cc
          side (SnapPart own i view) same k = let j : own ≡ id = cc in subst (λ n. n < s.controller.next_id) (sym same ∙ j) h.snapshots.snap
          side (SnapSame own i) same k = let j : own ≡ id = cc in subst (λ n. n < s.controller.next_id) (sym same ∙ j) h.snapshots.snap
          side _ i k = absurd i

          by : (k : Packet) → (subject k ≡ subject p) ⊎ IsSide s.switch k → subject k ≡ OfSnapshot id → id < s.controller.next_id
          by k (inl same) f = h.snapshots.ids m id takes.there (sym same ∙ f)
          by k (inr i) f = side k i f

  -- a pass that is no admission, no removal, no peek and no start
  plain : of_admission (subject p) ≡ false → of_eviction (subject p) ≡ false → of_round (subject p) ≡ false → changes_owner p ≡ false → starts p ≡ false → Inv plan t
  plain a e o c st = record { sized = sized; epochs = epochs; admissions = admissions a c; evictions = evictions e c; snapshots = snapshots (is.parts st); rounds = rounds o }

-- ---- an eviction's packet is answered, and a part may leave

module _ (plan : PlanView) (s : State) (h : Inv plan s) (running : s.running ≡ true) (rest : List Message) (m : Message) (takes : Takes s.bag rest m) where
  eviction_answered : (w : SwitchView) (q : Packet) (second : Option Out) → (second ≡ None) ⊎ ((o : Out) × (second ≡ Some o) × (of_eviction (subject o.packet) ≡ false)) → subject q ≡ subject m.packet
      → ((e : Eviction) → is_own e (subject m.packet) ≡ true → FitsDue s.controller.epoch e m.packet → FitsDue s.controller.epoch e q)
      → ((i tag : ℕ) (key : List ℕ) → state_at s.controller.slots i ≡ Evicting key tag → (slot_at s.switch i).valid ≡ false → (slot_at w i).valid ≡ false)
      → Emptied w s.controller q → EvictionsFly (switch_turn s rest m.packet (record { view = w; first = Some (to_party Controller q); second = second }))
  eviction_answered w q second none same due off new = by second none
    where
      after : Option Out → State
      after x = switch_turn s rest m.packet (record { view = w; first = Some (to_party Controller q); second = x })

      one : EvictionsFly (after None)
      one = evictions_answer s (after None) rest m (record { from = Switch; to = Controller; packet = q }) h.evictions takes refl same due (λ e. e) (λ e. off) (λ e. new)

      by : (x : Option Out) → (x ≡ None) ⊎ ((o : Out) × (x ≡ Some o) × (of_eviction (subject o.packet) ≡ false)) → EvictionsFly (after x)
      by None n = one
      by (Some o) (inl e) = absurd cc
      by (Some o) (inr n) =
          let same' : o ≡ n.0 = same_Some o n.0 n.1 in
          let side : Message = record { from = Switch; to = o.to; packet = o.packet } in
          plain_evictions (after None) (after (Some o)) one
          (subst (λ l. Moves of_eviction (rest ++ record { from = Switch; to = Controller; packet = q } ∷ []) l) (append_assoc rest (record { from = Switch; to = Controller; packet = q } ∷ []) (side ∷ []))
          (moves_sent of_eviction (rest ++ record { from = Switch; to = Controller; packet = q } ∷ []) (side ∷ []) (only (ap (λ (x : Out). of_eviction (subject x.packet)) same' ∙ n.2))))
          refl refl (λ e. e) (omega arith) (omega arith) refl (record { valid = λ i. refl; tag = λ i. refl })
        where
          only : of_eviction (subject o.packet) ≡ false → (x : Message) → Among x (record { from = Switch; to = o.to; packet = o.packet } ∷ []) → of_eviction (subject x.packet) ≡ false
          only e x (inl k) = ap (λ (w : Message). of_eviction (subject w.packet)) k ∙ e
          only e x (inr a) = absurd a

-- ---- admissions at the switch

module _ (plan : PlanView) (s : State) (h : Inv plan s) (running : s.running ≡ true) (config : s.switch.config ≡ plan.config) (rest : List Message) (from to : Party) (epoch i : ℕ) (key : List ℕ) (tag : ℕ)
    (takes : Takes s.bag rest (record { from = from; to = to; packet = Admit epoch i key tag })) where
  abbrev asked : Message
  asked = record { from = from; to = to; packet = Admit epoch i key tag }

  abbrev passed : Passed → State
  passed r = switch_turn s rest (Admit epoch i key tag) r

  admit_round : s.controller.round ≡ None
  admit_round = running_no_round plan s h.rounds running

  admit_state : epoch ≡ s.switch.epoch → state_at s.controller.slots i ≡ Admitting key tag
  admit_state e = h.admissions.fits asked takes.there admit_round (e ∙ h.epochs.running running)

  admit_off : epoch ≡ s.switch.epoch → (slot_at s.switch i).valid ≡ false
  admit_off e = h.admissions.meets running asked takes.there (e ∙ h.epochs.running running)

  -- where the slot is there, an admission of the epoch is taken
  admit_there : is_slot_there s.switch epoch i ≡ false → epoch ≡ s.controller.epoch → ⊥
  admit_there none e =
      let same : epoch ≡ s.switch.epoch = e ∙ sym (h.epochs.running running) in
      let w = state_within s.controller.slots i (ap is_free (admit_state same)) in
      let below : i < s.switch.config.slots = (let st = h.sized.states in let c = ap (λ (x : Config). x.slots) config in omega (arith, w, st, c)) in
      true≢false (sym ((λ z. eq-eqb epoch s.switch.epoch same z && nat_lt i s.switch.config.slots) ∙ lt-ltb i s.switch.config.slots below) ∙ none)

  -- no other packet of the slot's admission is there
  only_one : epoch ≡ s.controller.epoch → (x : Message) → Among x rest → is_admission_of i s.controller.epoch x.packet ≡ false
  only_one e x a = go (is_admission_of i s.controller.epoch x.packet) refl
    where
      f : Message → Bool
      f x = is_admission_of i s.controller.epoch x.packet

      go : (b : Bool) → is_admission_of i s.controller.epoch x.packet ≡ b → b ≡ false
      go false k = refl
      go true k =
          let p = λ (x : Message). is_admission_of i s.controller.epoch x.packet in
          let mine : counted p asked ≡ 1 = counted_true p asked ((λ z. eq-eqb epoch s.controller.epoch e z && nat_eq i i) ∙ eq-eqb i i refl) in
          let old = takes.count p in
          let least = count_least p rest x a k in
          let one = h.admissions.one admit_round i in
          let is : admission_count (state_at s.controller.slots i) ≡ 1 = ap admission_count (admit_state (e ∙ sym (h.epochs.running running))) in
          absurd (omega (arith, mine, old, least, one, is))

  abbrev ack : Message
  ack = record { from = Switch; to = Controller; packet = AdmitAck i tag }

  admit_taken : epoch ≡ s.switch.epoch → i < s.switch.config.slots
      → AdmissionsFly (passed (record { view = with_slot (record s.switch { bound = bind_key key i s.switch.bound }) i (record { key = Some key; tag = tag; valid = true; latest = false; num = 0; body = None }); first = Some (to_party Controller (AdmitAck i tag)); second = None }))
  admit_taken e w = record {
    given = h.admissions.given;
    drawn = λ x j t a k. drawn x j t k (among_append x rest (ack ∷ []) a);
    fits = λ x a. fits x (among_append x rest (ack ∷ []) a);
    meets = λ r x a. meets x (among_append x rest (ack ∷ []) a);
    one = λ none j. one j;
    once = once;
    empty = λ r j k. empty j k (cases_eq j i);
  }
    where
      epoch_now : epoch ≡ s.controller.epoch
      epoch_now = e ∙ h.epochs.running running

      view' : SwitchView
      view' = with_slot (record s.switch { bound = bind_key key i s.switch.bound }) i (record { key = Some key; tag = tag; valid = true; latest = false; num = 0; body = None })

      within : i < length s.switch.slots
      within = let c = ap (λ (x : Config). x.slots) config in let l = h.sized.view.slots_there in omega (arith, w, c, l)

      here : slot_at (with_slot (record s.switch { bound = bind_key key i s.switch.bound }) i (record { key = Some key; tag = tag; valid = true; latest = false; num = 0; body = None })) i ≡ record { key = Some key; tag = tag; valid = true; latest = false; num = 0; body = None }
      here = get_or-set_same s.switch.slots i (record { key = Some key; tag = tag; valid = true; latest = false; num = 0; body = None }) empty_slot within

      there : (j : ℕ) → j ≢ i → slot_at (with_slot (record s.switch { bound = bind_key key i s.switch.bound }) i (record { key = Some key; tag = tag; valid = true; latest = false; num = 0; body = None })) j ≡ slot_at s.switch j
      there j ne = get_or-set_other s.switch.slots i j (record { key = Some key; tag = tag; valid = true; latest = false; num = 0; body = None }) empty_slot ne

      drawn : (x : Message) (j t : ℕ) → subject x.packet ≡ OfAdmission j t → Among x rest ⊎ Among x (ack ∷ []) → t < s.controller.next_tag
      drawn x j t k (inl a) = h.admissions.drawn x j t (takes.members x a) k
      drawn x j t k (inr (inl same)) = h.admissions.drawn asked j t takes.there (ap (λ (y : Message). subject y.packet) (sym same) ∙ k)
      drawn x j t k (inr (inr a)) = absurd a

      fits : (x : Message) → Among x rest ⊎ Among x (ack ∷ []) → AdmissionFits s.controller x.packet
      fits x (inl a) = h.admissions.fits x (takes.members x a)
      fits x (inr (inl same)) = subst (λ (y : Message). AdmissionFits s.controller y.packet) (sym same) (key, admit_state e)
      fits x (inr (inr a)) = absurd a

      meets : (x : Message) → Among x rest ⊎ Among x (ack ∷ []) → AdmissionMeets (with_slot (record s.switch { bound = bind_key key i s.switch.bound }) i (record { key = Some key; tag = tag; valid = true; latest = false; num = 0; body = None })) s.controller.epoch x.packet
      meets x (inr (inl same)) = subst (λ (y : Message). AdmissionMeets (with_slot (record s.switch { bound = bind_key key i s.switch.bound }) i (record { key = Some key; tag = tag; valid = true; latest = false; num = 0; body = None })) s.controller.epoch y.packet) (sym same) (ap (λ (y : SlotView). y.valid) here, ap (λ (y : SlotView). y.tag) here)
      meets x (inr (inr a)) = absurd a
      meets x (inl a) = of x.packet (only_one epoch_now x a) (h.admissions.meets running x (takes.members x a))
        where
          of : (q : Packet) → is_admission_of i s.controller.epoch q ≡ false → AdmissionMeets s.switch s.controller.epoch q → AdmissionMeets (with_slot (record s.switch { bound = bind_key key i s.switch.bound }) i (record { key = Some key; tag = tag; valid = true; latest = false; num = 0; body = None })) s.controller.epoch q
          of (Admit own j k t) off f = λ now. by now (cases_eq j i)
            where
              by : own ≡ s.controller.epoch → (j ≡ i) ⊎ (j ≡ i → ⊥) → (slot_at (with_slot (record s.switch { bound = bind_key key i s.switch.bound }) i (record { key = Some key; tag = tag; valid = true; latest = false; num = 0; body = None })) j).valid ≡ false
              by now (inl same) = absurd (true≢false (sym ((λ z. eq-eqb own s.controller.epoch now z && nat_eq j i) ∙ eq-eqb j i same) ∙ off))
              by now (inr ne) = ap (λ (y : SlotView). y.valid) (there j ne) ∙ f now
          of (AdmitAck j t) off f = by (cases_eq j i)
            where
              by : (j ≡ i) ⊎ (j ≡ i → ⊥) → AdmissionMeets (with_slot (record s.switch { bound = bind_key key i s.switch.bound }) i (record { key = Some key; tag = tag; valid = true; latest = false; num = 0; body = None })) s.controller.epoch (AdmitAck j t)
              by (inl same) = absurd (true≢false (sym (eq-eqb j i same) ∙ off))
              by (inr ne) = (ap (λ (y : SlotView). y.valid) (there j ne) ∙ f.0, ap (λ (y : SlotView). y.tag) (there j ne) ∙ f.1)
          of _ off f = tt

      one : (j : ℕ) → count_by (λ (x : Message). is_admission_of j s.controller.epoch x.packet) (rest ++ ack ∷ []) ≡ admission_count (state_at s.controller.slots j)
      one j =
          let p = λ (x : Message). is_admission_of j s.controller.epoch x.packet in
          let both = count_append p rest (ack ∷ []) in
          let last = count_cons p ack [] in
          let same : counted p asked ≡ counted p ack = ap (λ b. cond {A = ℕ} (b && nat_eq i j) 1 0) (eq-eqb epoch s.controller.epoch epoch_now) in
          let old = takes.count p in
          let was = h.admissions.one admit_round j in
          omega (arith, both, last, same, old, was)

      once : (t : ℕ) → count_by (λ (x : Message). admits_under t x.packet) (rest ++ ack ∷ []) ≤ 1
      once t =
          let p = λ (x : Message). admits_under t x.packet in
          let both = count_append p rest (ack ∷ []) in
          let last = count_cons p ack [] in
          let old = takes.count p in
          let was = h.admissions.once t in
          omega (arith, both, last, old, was)

      empty : (j : ℕ) → state_at s.controller.slots j ≡ Free → (j ≡ i) ⊎ (j ≡ i → ⊥) → (slot_at (with_slot (record s.switch { bound = bind_key key i s.switch.bound }) i (record { key = Some key; tag = tag; valid = true; latest = false; num = 0; body = None })) j).valid ≡ false
      empty j k (inl same) = let f : Free ≡ Admitting key tag = sym k ∙ ap (state_at s.controller.slots) same ∙ admit_state e in absurd cc
      empty j k (inr ne) = ap (λ (y : SlotView). y.valid) (there j ne) ∙ h.admissions.empty running j k

  -- one of another epoch goes
  admit_dropped : is_slot_there s.switch epoch i ≡ false → AdmissionsFly (passed (dropped s.switch))
  admit_dropped none = record {
    given = h.admissions.given;
    drawn = λ x j t a k. h.admissions.drawn x j t (old x a) k;
    fits = λ x a. h.admissions.fits x (old x a);
    meets = λ r x a. h.admissions.meets r x (old x a);
    one = λ now j.
        let p = λ (x : Message). is_admission_of j s.controller.epoch x.packet in
        let was = takes.count p in
        let gone : counted p asked ≡ 0 = ap (λ b. cond {A = ℕ} (b && nat_eq i j) 1 0) (ne_eqb epoch s.controller.epoch (admit_there none)) in
        ap (count_by p) (append-nil rest) ∙ (let b = h.admissions.one now j in omega (arith, was, gone, b));
    once = λ t. let p = λ (x : Message). admits_under t x.packet in let was = takes.count p in let b = h.admissions.once t in subst (λ l. count_by p l ≤ 1) (sym (append-nil rest)) (omega (arith, was, b));
    empty = h.admissions.empty;
  }
    where
      old : (x : Message) → Among x (rest ++ []) → Among x s.bag
      old x a = takes.members x (subst (Among x) (append-nil rest) a)

  admit_admissions : AdmissionsFly (passed (pass s.switch (Admit epoch i key tag)))
  admit_admissions = admit_cases (λ r. AdmissionsFly (passed r)) s.switch epoch i key tag
      (λ e w off. admit_taken e w)
      (λ e w on. absurd (true≢false (sym on ∙ admit_off e)))
      admit_dropped

  -- what was emptied stays so, since its slot is not being admitted
  admit_view : (j t : ℕ) (k : List ℕ) → state_at s.controller.slots j ≡ Evicting k t → (slot_at s.switch j).valid ≡ false → (slot_at (pass s.switch (Admit epoch i key tag)).view j).valid ≡ false
  admit_view j t k st off = admit_cases (λ r. (slot_at r.view j).valid ≡ false) s.switch epoch i key tag
      (λ e w o. by e (cases_eq j i))
      (λ e w on. absurd (true≢false (sym on ∙ admit_off e)))
      (λ z. off)
    where
      by : epoch ≡ s.switch.epoch → (j ≡ i) ⊎ (j ≡ i → ⊥) → (slot_at (with_slot (record s.switch { bound = bind_key key i s.switch.bound }) i (record { key = Some key; tag = tag; valid = true; latest = false; num = 0; body = None })) j).valid ≡ false
      by e (inl same) = let f : Evicting k t ≡ Admitting key tag = sym st ∙ ap (state_at s.controller.slots) same ∙ admit_state e in absurd cc
      by e (inr ne) = ap (λ (y : SlotView). y.valid) (get_or-set_other s.switch.slots i j (record { key = Some key; tag = tag; valid = true; latest = false; num = 0; body = None }) empty_slot ne) ∙ off

  pub admit_keeps : Inv plan (passed (pass s.switch (Admit epoch i key tag)))
  admit_keeps = record {
    sized = sized plan s h running config rest asked takes refl;
    epochs = epochs plan s h running config rest asked takes refl;
    admissions = admit_admissions;
    evictions = evictions_last s (passed (pass s.switch (Admit epoch i key tag))) h.evictions (record {
      moves = moves_taken of_eviction s.bag rest (messages_from Switch (passed_out (pass s.switch (Admit epoch i key tag)))) asked takes refl (sent plan s h running config rest asked takes refl of_eviction refl refl refl);
      epoch = refl;
      eviction = refl;
      running = λ e. e;
      tags = omega arith;
      jobs = omega arith;
      given = λ j t k g. inl g;
      evicting = λ j t k e. e;
      still = λ j t k e. e;
      emptied = λ e j t k st off. admit_view j t k st off;
    });
    snapshots = snapshots plan s h running config rest asked takes refl ((is plan s h running config rest asked takes refl).parts refl);
    rounds = rounds plan s h running config rest asked takes refl refl;
  }

-- ---- peeks, removals and starts

module _ (plan : PlanView) (s : State) (h : Inv plan s) (running : s.running ≡ true) (config : s.switch.config ≡ plan.config) (rest : List Message) where
  -- the eviction's own packet is not dropped
  own_there : (e : Eviction) (i tag epoch : ℕ) → s.controller.eviction ≡ Some e → nat_eq e.slot i && nat_eq e.tag tag ≡ true → epoch ≡ s.controller.epoch → is_slot_there s.switch epoch i ≡ false → ⊥
  own_there e i tag epoch k own now none =
      let is = (subst (OwnFlies s.controller s.bag) k h.evictions.flies).0 in
      let same : e.slot ≡ i = eqb-true e.slot i (and_parts _ _ own).0 in
      let w = state_within s.controller.slots e.slot (ap is_free is.state) in
      let below : i < s.switch.config.slots = (let st = h.sized.states in let c = ap (λ (x : Config). x.slots) config in omega (arith, w, st, c, same)) in
      true≢false (sym ((λ z. eq-eqb epoch s.switch.epoch (now ∙ sym (h.epochs.running running)) z && nat_lt i s.switch.config.slots) ∙ lt-ltb i s.switch.config.slots below) ∙ none)

  not_own_if : (e : Eviction) (sub : Subject) → (is_own e sub ≡ true → ⊥) → is_own e sub ≡ false
  not_own_if e sub n = go (is_own e sub) refl
    where
      go : (b : Bool) → is_own e sub ≡ b → b ≡ false
      go true k = absurd (n k)
      go false k = refl

  module _ (from to : Party) (epoch i tag : ℕ) (takes : Takes s.bag rest (record { from = from; to = to; packet = Peek epoch i tag })) where
    abbrev peek : Message
    peek = record { from = from; to = to; packet = Peek epoch i tag }

    peek_evictions : EvictionsFly (switch_turn s rest (Peek epoch i tag) (pass s.switch (Peek epoch i tag)))
    peek_evictions = peek_cases (λ r. EvictionsFly (switch_turn s rest (Peek epoch i tag) r)) s.switch epoch i tag
        (λ e w. eviction_answered plan s h running rest peek takes s.switch _ None (inl refl) refl (λ x own due. due.0) (λ j t k st off. off) tt)
        (λ e w. eviction_answered plan s h running rest peek takes s.switch _ None (inl refl) refl (λ x own due. due.0) (λ j t k st off. off) tt)
        (λ none. evictions_drop s (switch_turn s rest (Peek epoch i tag) (dropped s.switch)) rest peek h.evictions takes refl
        (λ e k. not_own_if e (OfEviction i tag) (λ own. own_there e i tag epoch k own (((subst (OwnFlies s.controller s.bag) k h.evictions.flies).2 peek takes.there own).1) none)) (λ e. e) (owners_refl s.switch))

    pub peek_keeps : Inv plan (switch_turn s rest (Peek epoch i tag) (pass s.switch (Peek epoch i tag)))
    peek_keeps = record {
      sized = sized plan s h running config rest peek takes refl;
      epochs = epochs plan s h running config rest peek takes refl;
      admissions = admissions plan s h running config rest peek takes refl refl refl;
      evictions = peek_evictions;
      snapshots = snapshots plan s h running config rest peek takes refl ((is plan s h running config rest peek takes refl).parts refl);
      rounds = rounds plan s h running config rest peek takes refl refl;
    }

  module _ (from to : Party) (epoch i tag : ℕ) (latest : Bool) (num : ℕ) (takes : Takes s.bag rest (record { from = from; to = to; packet = Remove epoch i tag latest num })) where
    abbrev removal : Message
    removal = record { from = from; to = to; packet = Remove epoch i tag latest num }

    abbrev removed : Passed → State
    removed r = switch_turn s rest (Remove epoch i tag latest num) r

    abbrev answer : Bool → Packet
    answer done = RemoveAns i tag done (slot_at s.switch i).latest (slot_at s.switch i).num (shown_body (slot_at s.switch i))

    -- the slot was of that tag, and is empty
    record Gone (w : SwitchView) : Type 0 where
      under : (slot_at s.switch i).tag ≡ tag
      off : (slot_at w i).valid ≡ false
      others : (j : ℕ) → j ≢ i → slot_at w j ≡ slot_at s.switch j

    gone_at : (w : SwitchView) → i < s.switch.config.slots → is_under tag (slot_at s.switch i) ≡ true → w.slots ≡ set s.switch.slots i empty_slot → Gone w
    gone_at w b u e = record {
      under = eqb-true (slot_at s.switch i).tag tag (and_parts _ _ u).1;
      off = ap (λ l. (get_or l i empty_slot).valid) e ∙ ap (λ (x : SlotView). x.valid) (get_or-set_same s.switch.slots i empty_slot empty_slot (let c = ap (λ (x : Config). x.slots) config in let l = h.sized.view.slots_there in omega (arith, b, c, l)));
      others = λ j ne. ap (λ l. get_or l j empty_slot) e ∙ get_or-set_other s.switch.slots i j empty_slot empty_slot ne;
    }

    part_plain : (q : Subject → Bool) → ((n : ℕ) → q (OfSnapshot n) ≡ false) → q (subject (part_packet s.switch i)) ≡ false
    part_plain q off = by_test (λ p. q (subject p) ≡ false) (is_as_before s.switch i) (SnapSame s.switch.snap i) (SnapPart s.switch.snap i (held_record (slot_at s.switch i))) (off s.switch.snap) (off s.switch.snap)

    remove_view : SameOwners s.switch (pass s.switch (Remove epoch i tag latest num)).view ⊎ Gone (pass s.switch (Remove epoch i tag latest num)).view
    remove_view = remove_cases (λ r. SameOwners s.switch r.view ⊎ Gone r.view) s.switch epoch i tag latest num
        (λ e b u. changes_cases (λ r. SameOwners s.switch r.view ⊎ Gone r.view) s.switch s.switch i empty_slot (Some (to_party Controller (answer true))) (λ t. inr (gone_at (with_slot s.switch i empty_slot) b u refl)) (λ t. inr (gone_at (with_taken (with_slot s.switch i empty_slot) i (held_record (slot_at s.switch i))) b u refl)))
        (λ e b u. inr (gone_at (with_slot s.switch i empty_slot) b u refl))
        (λ e b. inl (owners_refl s.switch)) (λ e b. inl (owners_refl s.switch)) (λ z. inl (owners_refl s.switch))

    -- the slot is not being admitted under that tag
    not_admitting : (t : ℕ) (k : List ℕ) → state_at s.controller.slots i ≡ Admitting k t → t ≡ tag → ⊥
    not_admitting t k st same =
        let o = h.evictions.owned removal i tag k takes.there refl (subst (IsGiven k tag) (sym st) (refl, same)) in
        let is = (subst (OwnFlies s.controller s.bag) o.is h.evictions.flies).0 in
        let e : Admitting k t ≡ Evicting o.eviction.key o.eviction.tag = sym st ∙ ap (state_at s.controller.slots) (sym o.slot) ∙ is.state in
        cc

    gone_meets : (w : SwitchView) → Gone w → (x : Message) → Among x s.bag → AdmissionMeets s.switch s.controller.epoch x.packet → AdmissionMeets w s.controller.epoch x.packet
    gone_meets w g x a = of x.packet (h.admissions.fits x a)
      where
        of : (q : Packet) → AdmissionFits s.controller q → AdmissionMeets s.switch s.controller.epoch q → AdmissionMeets w s.controller.epoch q
        of (Admit own j k t) fit f = λ now. by now (cases_eq j i)
          where
            by : own ≡ s.controller.epoch → (j ≡ i) ⊎ (j ≡ i → ⊥) → (slot_at w j).valid ≡ false
            by now (inl same) = ap (λ n. (slot_at w n).valid) same ∙ g.off
            by now (inr ne) = ap (λ (y : SlotView). y.valid) (g.others j ne) ∙ f now
        of (AdmitAck j t) fit f = by (cases_eq j i)
          where
            by : (j ≡ i) ⊎ (j ≡ i → ⊥) → AdmissionMeets w s.controller.epoch (AdmitAck j t)
            by (inl same) = absurd (not_admitting t fit.0 (ap (state_at s.controller.slots) (sym same) ∙ fit.1) (sym f.1 ∙ ap (λ n. (slot_at s.switch n).tag) same ∙ g.under))
            by (inr ne) = (ap (λ (y : SlotView). y.valid) (g.others j ne) ∙ f.0, ap (λ (y : SlotView). y.tag) (g.others j ne) ∙ f.1)
        of _ fit f = tt

    gone_off : (w : SwitchView) → SameOwners s.switch w ⊎ Gone w → (j : ℕ) → (slot_at s.switch j).valid ≡ false → (slot_at w j).valid ≡ false
    gone_off w (inl same) j off = same.valid j ∙ off
    gone_off w (inr g) j off = by (cases_eq j i)
      where
        by : (j ≡ i) ⊎ (j ≡ i → ⊥) → (slot_at w j).valid ≡ false
        by (inl same) = ap (λ n. (slot_at w n).valid) same ∙ g.off
        by (inr ne) = ap (λ (y : SlotView). y.valid) (g.others j ne) ∙ off

    remove_meets : (w : SwitchView) → SameOwners s.switch w ⊎ Gone w → (x : Message) → Among x s.bag → AdmissionMeets s.switch s.controller.epoch x.packet → AdmissionMeets w s.controller.epoch x.packet
    remove_meets w (inl same) x a f = meets_still s.switch w s.controller.epoch x.packet same f
    remove_meets w (inr g) x a f = gone_meets w g x a f

    remove_admissions : AdmissionsFly (removed (pass s.switch (Remove epoch i tag latest num)))
    remove_admissions = admissions_last s (removed (pass s.switch (Remove epoch i tag latest num))) h.admissions (record {
      moves = moves_taken of_admission s.bag rest (messages_from Switch (passed_out (pass s.switch (Remove epoch i tag latest num)))) removal takes refl (sent plan s h running config rest removal takes refl of_admission refl refl refl);
      epoch = refl;
      round = λ e. e;
      running = λ e. e;
      tags = omega arith;
      given = λ j t k g. g;
      admitting = λ j t k e. e;
      count = λ j. refl;
      empty = λ e j k. gone_off (pass s.switch (Remove epoch i tag latest num)).view remove_view j (h.admissions.empty running j k);
      meets = λ e x a f. remove_meets (pass s.switch (Remove epoch i tag latest num)).view remove_view x a f;
    })

    emptied_now : (w : SwitchView) (done : Bool) (lat : Bool) (n : ℕ) (body : Option (List ℕ)) → (done ≡ true → (slot_at w i).valid ≡ false) → Emptied w s.controller (RemoveAns i tag done lat n body)
    emptied_now w done lat n body f = λ d k g. f d

    remove_evictions : EvictionsFly (removed (pass s.switch (Remove epoch i tag latest num)))
    remove_evictions = remove_cases (λ r. EvictionsFly (removed r)) s.switch epoch i tag latest num
        (λ e b u. changes_cases (λ r. EvictionsFly (removed r)) s.switch s.switch i empty_slot (Some (to_party Controller (answer true)))
        (λ t. let g = gone_at (with_slot s.switch i empty_slot) b u refl in
        eviction_answered plan s h running rest removal takes (with_slot s.switch i empty_slot) (answer true) None (inl refl) refl (λ x own due. due.0) (λ j n k st off. gone_off (with_slot s.switch i empty_slot) (inr g) j off) (λ d k x. g.off))
        (λ t. let g = gone_at (with_taken (with_slot s.switch i empty_slot) i (held_record (slot_at s.switch i))) b u refl in
        eviction_answered plan s h running rest removal takes (with_taken (with_slot s.switch i empty_slot) i (held_record (slot_at s.switch i))) (answer true) (Some (to_party Controller (part_packet s.switch i))) (inr (to_party Controller (part_packet s.switch i), refl, part_plain of_eviction (λ n. refl))) refl (λ x own due. due.0) (λ j n k st off. gone_off (with_taken (with_slot s.switch i empty_slot) i (held_record (slot_at s.switch i))) (inr g) j off) (λ d k x. g.off)))
        (λ e b u. let g = gone_at (with_slot s.switch i empty_slot) b u refl in
        eviction_answered plan s h running rest removal takes (with_slot s.switch i empty_slot) (answer true) None (inl refl) refl (λ x own due. due.0) (λ j n k st off. gone_off (with_slot s.switch i empty_slot) (inr g) j off) (λ d k x. g.off))
        (λ e b. eviction_answered plan s h running rest removal takes s.switch (answer false) None (inl refl) refl (λ x own due. due.0) (λ j n k st off. off) (λ d k x. absurd (true≢false (sym d))))
        (λ e b. eviction_answered plan s h running rest removal takes s.switch (RemoveAns i tag false false 0 None) None (inl refl) refl (λ x own due. due.0) (λ j n k st off. off) (λ d k x. absurd (true≢false (sym d))))
        (λ none. evictions_drop s (removed (dropped s.switch)) rest removal h.evictions takes refl
        (λ e k. not_own_if e (OfEviction i tag) (λ own. own_there e i tag epoch k own (((subst (OwnFlies s.controller s.bag) k h.evictions.flies).2 removal takes.there own).1) none)) (λ e. e) (owners_refl s.switch))

    pub remove_keeps : Inv plan (removed (pass s.switch (Remove epoch i tag latest num)))
    remove_keeps = record {
      sized = sized plan s h running config rest removal takes refl;
      epochs = epochs plan s h running config rest removal takes refl;
      admissions = remove_admissions;
      evictions = remove_evictions;
      snapshots = snapshots plan s h running config rest removal takes refl ((is plan s h running config rest removal takes refl).parts refl);
      rounds = rounds plan s h running config rest removal takes refl refl;
    }

  -- a start, by difference or not
  module _ (from to : Party) (p : Packet) (epoch id base : ℕ) (of : subject p ≡ OfSnapshot id) (goes : IsFor plan.config p Switch) (takes : Takes s.bag rest (record { from = from; to = to; packet = p })) where
    abbrev start : Message
    start = record { from = from; to = to; packet = p }

    abbrev begun : Message
    begun = record { from = Switch; to = Controller; packet = SnapBegun id s.switch.counter }

    start_taken : SnapshotsFly plan (switch_turn s rest p (record { view = record s.switch { snap = id; base = base }; first = Some (to_party Controller (SnapBegun id s.switch.counter)); second = None }))
    start_taken = record {
      ids = λ x n a k. ids x n k (among_append x rest (begun ∷ []) a);
      snap = h.snapshots.ids start id takes.there of;
      taken = h.snapshots.taken;
    }
      where
        ids : (x : Message) (n : ℕ) → subject x.packet ≡ OfSnapshot n → Among x rest ⊎ Among x (record { from = Switch; to = Controller; packet = SnapBegun id s.switch.counter } ∷ []) → n < s.controller.next_id
        ids x n k (inl a) = h.snapshots.ids x n (takes.members x a) k
        ids x n k (inr (inl same)) = h.snapshots.ids start n takes.there (of ∙ ap (λ (y : Message). subject y.packet) (sym same) ∙ k)
        ids x n k (inr (inr a)) = absurd a

    start_dropped : SnapshotsFly plan (switch_turn s rest p (dropped s.switch))
    start_dropped = record {
      ids = λ x n a k. h.snapshots.ids x n (takes.members x (by x (among_append x rest [] a))) k;
      snap = h.snapshots.snap;
      taken = h.snapshots.taken;
    }
      where
        by : (x : Message) → Among x rest ⊎ Among x [] → Among x rest
        by x (inl a) = a
        by x (inr a) = absurd a

  start_keeps : (from to : Party) (epoch id : ℕ) → Takes s.bag rest (record { from = from; to = to; packet = SnapStart epoch id }) → Inv plan (switch_turn s rest (SnapStart epoch id) (pass s.switch (SnapStart epoch id)))
  start_keeps from to epoch id takes = record {
    sized = sized plan s h running config rest _ takes refl;
    epochs = epochs plan s h running config rest _ takes refl;
    admissions = admissions plan s h running config rest _ takes refl refl refl;
    evictions = evictions plan s h running config rest _ takes refl refl refl;
    snapshots = start_cases (λ r. SnapshotsFly plan (switch_turn s rest (SnapStart epoch id) r)) s.switch epoch id (λ e. start_taken from to (SnapStart epoch id) epoch id 0 refl refl takes) (λ e. start_dropped from to (SnapStart epoch id) epoch id 0 refl refl takes);
    rounds = rounds plan s h running config rest _ takes refl refl;
  }

  from_keeps : (from to : Party) (epoch id base : ℕ) → Takes s.bag rest (record { from = from; to = to; packet = SnapFrom epoch id base }) → Inv plan (switch_turn s rest (SnapFrom epoch id base) (pass s.switch (SnapFrom epoch id base)))
  from_keeps from to epoch id base takes = record {
    sized = sized plan s h running config rest _ takes refl;
    epochs = epochs plan s h running config rest _ takes refl;
    admissions = admissions plan s h running config rest _ takes refl refl refl;
    evictions = evictions plan s h running config rest _ takes refl refl refl;
    snapshots = from_cases (λ r. SnapshotsFly plan (switch_turn s rest (SnapFrom epoch id base) r)) s.switch epoch id base (λ e. start_taken from to (SnapFrom epoch id base) epoch id base refl refl takes) (λ e. start_dropped from to (SnapFrom epoch id base) epoch id base refl refl takes);
    rounds = rounds plan s h running config rest _ takes refl refl;
  }

  -- every packet to the switch
  pub switch_keeps : (from to : Party) (q : Packet) → Takes s.bag rest (record { from = from; to = to; packet = q }) → IsFor plan.config q Switch → Inv plan (switch_turn s rest q (pass s.switch q))
  switch_keeps from to (GetReq caller op key) takes goes = plain plan s h running config rest _ takes goes refl refl refl refl refl
  switch_keeps from to (WriteReq caller op key body) takes goes = plain plan s h running config rest _ takes goes refl refl refl refl refl
  switch_keeps from to (GetRep caller op key tag num body) takes goes = plain plan s h running config rest _ takes goes refl refl refl refl refl
  switch_keeps from to (WriteRep caller op key num body) takes goes = plain plan s h running config rest _ takes goes refl refl refl refl refl
  switch_keeps from to (Admit epoch i key tag) takes goes = admit_keeps plan s h running config rest from to epoch i key tag takes
  switch_keeps from to (Peek epoch i tag) takes goes = peek_keeps from to epoch i tag takes
  switch_keeps from to (Remove epoch i tag latest num) takes goes = remove_keeps from to epoch i tag latest num takes
  switch_keeps from to (SnapStart epoch id) takes goes = start_keeps from to epoch id takes
  switch_keeps from to (SnapFrom epoch id base) takes goes = from_keeps from to epoch id base takes
  switch_keeps from to (SnapRead epoch id i) takes goes = plain plan s h running config rest _ takes goes refl refl refl refl refl
  switch_keeps from to (Release point) takes goes = absurd (let e = goes.is in cc)
  switch_keeps from to (Ask round) takes goes = absurd (let e = goes.is in cc)
  switch_keeps from to (TopAsk round) takes goes = absurd (let e = goes.is in cc)
  switch_keeps from to _ takes goes = absurd cc

-- Snapshots at the controller: they start, begin, gather parts and are whole.
use Rattle.std.proofs.Common.{◌≡◌, ℕ, zero, suc, ◌+◌, ◌≤◌, ◌<◌, ◌⊎◌, inl, inr, Bool, true, false, cond, not, ◌&&◌, nat_eq, nat_lt, List, [], ◌∷◌, length, length-set, refl, sym, ap, ◌∙◌, subst, arith, le_trans}
use Rattle.std.specs.Prelude.{Option, None, Some, slice_index_or, slice_get, is_some}
use Rattle.std.proofs.lemmas.List.{length-replicate, length-map}
use Rattle.far_base.specs.PlanView.{PlanView}
use Rattle.far_base.specs.declared.packet.Message.{Message}
use Rattle.far_base.specs.declared.packet.Out.{Out}
use Rattle.far_base.specs.declared.packet.Packet.{Packet}
use Rattle.far_base.specs.declared.packet.Packet.TheVariants.{Admit, Peek, Remove, SnapStart, SnapBegun, SnapRead, SnapPart, Release, SnapFrom, SnapSame}
use Rattle.far_base.specs.declared.party.Party.TheVariants.{Switch, Controller}
use Rattle.far_base.specs.declared.record.Record.{Record}
use Rattle.far_model.specs.Controller.{ControllerState, completes, job_turn, part_came, snapshot_begun, start_snapshot, to_clients, same_came, same_part, is_last_present, start_packet}
use Rattle.far_model.specs.Events.{controller_turn}
use Rattle.far_invariants.specs.Flights.{Subject, OfSnapshot, OfNone, subject}
use Rattle.far_model.specs.Members.{Among}
use Rattle.far_model.specs.Parties.{Turn, idle, messages_from, to_party}
use Rattle.far_model.specs.Snapshots.{Job, completed, has_begun, has_part, is_whole, part_reads, view_in, with_same, with_part}
use Rattle.far_model.specs.State.{State}
use Rattle.far_model.proofs.Members.{among_append}
use Rattle.far_invariants.specs.InFlight.{RoundsFly, epoch_in}
use Rattle.far_invariants.specs.Sizes.{PartsFit}
use Rattle.flight_laws.proofs.ControlKeeps.{control_admissions, control_epochs, control_evictions, control_no_round, control_rounds, control_sized, job_no_round}
use Rattle.flight_laws.proofs.Moves.{Takes, moves_sent, moves_taken, of_admission, of_eviction, of_round, sent_is}
use Rattle.flight_laws.proofs.SwitchKeeps.{Inv}
use Rattle.flight_laws.proofs.Lists.{by_test}

-- ---- what is sent

-- a packet that is of a release
released_is : (point n more : ℕ) (o : Out) → Among o (to_clients n more (Release point)) → o.packet ≡ Release point
released_is point n zero o a = absurd a
released_is point n (suc more) o (inl e) = ap (λ (w : Out). w.packet) e
released_is point n (suc more) o (inr a) = released_is point (suc n) more o a

-- a reading of the snapshot
reads_are : (epoch id i : ℕ) (parts : List (Option (Option Record))) (o : Out) → Among o (part_reads epoch id i parts) → (j : ℕ) × (o.packet ≡ SnapRead epoch id j)
reads_are epoch id i [] o a = absurd a
reads_are epoch id i (part ∷ parts) o a = go (is_some part) (λ b. reads_are epoch id (suc i) parts o b) a
  where
    go : (b : Bool) → (Among o (part_reads epoch id (suc i) parts) → (j : ℕ) × (o.packet ≡ SnapRead epoch id j)) → Among o (cond b (part_reads epoch id (suc i) parts) (to_party Switch (SnapRead epoch id i) ∷ part_reads epoch id (suc i) parts)) → (j : ℕ) × (o.packet ≡ SnapRead epoch id j)
    go true f a = f a
    go false f (inl e) = (i, ap (λ (w : Out). w.packet) e)
    go false f (inr a) = f a

-- ---- a snapshot starts

module _ (plan : PlanView) (s : State) (h : Inv plan s) (running : s.running ≡ true) (no_round : s.controller.round ≡ None) (no_job : s.controller.job ≡ None) where
  abbrev begins : Turn ControllerState
  begins = start_snapshot s.controller

  abbrev start : Message
  start = record { from = Controller; to = Switch; packet = start_packet s.controller }

  start_of : subject (start_packet s.controller) ≡ OfSnapshot s.controller.next_id
  start_of = by_test (λ p. subject p ≡ OfSnapshot s.controller.next_id) (is_last_present s.controller) (SnapFrom s.controller.epoch s.controller.next_id s.controller.last.id) (SnapStart s.controller.epoch s.controller.next_id) refl refl

  start_epoch : epoch_in (start_packet s.controller) ≡ s.controller.epoch
  start_epoch = by_test (λ p. epoch_in p ≡ s.controller.epoch) (is_last_present s.controller) (SnapFrom s.controller.epoch s.controller.next_id s.controller.last.id) (SnapStart s.controller.epoch s.controller.next_id) refl refl

  only : (class : Subject → Bool) → class (OfSnapshot s.controller.next_id) ≡ false → (x : Message) → Among x (start ∷ []) → class (subject x.packet) ≡ false
  only class y x (inl k) = ap (λ (w : Message). class (subject w.packet)) k ∙ ap class start_of ∙ y
  only class y x (inr b) = absurd b

  pub snapshot_keeps : Inv plan (controller_turn s s.bag begins)
  snapshot_keeps = record {
    sized = control_sized plan s h s.bag (λ x a. a) begins refl (length-replicate (length s.controller.slots) None ∙ h.sized.states) h.sized.views;
    epochs = control_epochs plan s h s.bag (λ x a. a) begins refl (λ o a. sent o a);
    admissions = control_admissions plan s h s.bag (λ x a. a) begins (moves_sent of_admission s.bag (start ∷ []) (only of_admission refl)) refl (λ e. e) (omega arith) refl;
    evictions = control_evictions plan s h s.bag (λ x a. a) begins (moves_sent of_eviction s.bag (start ∷ []) (only of_eviction refl)) refl refl (omega arith) (omega arith) refl;
    snapshots = record {
      ids = λ x id a e. ids x id e (among_append x s.bag (start ∷ []) a);
      snap = le_trans h.snapshots.snap (omega arith);
      taken = λ i. le_trans (h.snapshots.taken i) (omega arith);
    };
    rounds = control_no_round plan s h s.bag (λ x a. a) begins no_round (omega arith) (λ o a. no_sent o a);
  }
    where
      sent : (o : Out) → Among o (to_party Switch (start_packet s.controller) ∷ []) → epoch_in o.packet ≤ s.controller.epoch
      sent o (inl e) = subst (λ (w : Out). epoch_in w.packet ≤ s.controller.epoch) (sym e) (let k = start_epoch in omega (arith, k))
      sent o (inr a) = absurd a

      no_sent : (o : Out) → Among o (to_party Switch (start_packet s.controller) ∷ []) → of_round (subject o.packet) ≡ false
      no_sent o (inl e) = ap (λ (w : Out). of_round (subject w.packet)) e ∙ ap of_round start_of
      no_sent o (inr a) = absurd a

      ids : (x : Message) (id : ℕ) → subject x.packet ≡ OfSnapshot id → Among x s.bag ⊎ Among x (record { from = Controller; to = Switch; packet = start_packet s.controller } ∷ []) → id < s.controller.next_id + 1
      ids x id e (inl a) = let b = h.snapshots.ids x id a e in omega (arith, b)
      ids x id e (inr (inl k)) = let z : OfSnapshot s.controller.next_id ≡ OfSnapshot id = sym start_of ∙ ap (λ (w : Message). subject w.packet) (sym k) ∙ e in let y : s.controller.next_id ≡ id = cc in omega (arith, y)
      ids x id e (inr (inr a)) = absurd a

-- ---- a packet of a snapshot comes to the controller

module _ (plan : PlanView) (s : State) (h : Inv plan s) (rest : List Message) (m : Message) (takes : Takes s.bag rest m) (snap_id : ℕ) (of : subject m.packet ≡ OfSnapshot snap_id) where
  module _ (turn : Turn ControllerState) (epoch : turn.state.epoch ≡ s.controller.epoch) (slots : turn.state.slots ≡ s.controller.slots) (tags : turn.state.next_tag ≡ s.controller.next_tag) (eviction : turn.state.eviction ≡ s.controller.eviction)
      (jobs : turn.state.next_job ≡ s.controller.next_job) (rounds : turn.state.round ≡ s.controller.round) (numbers : turn.state.next_round ≡ s.controller.next_round) (ids : turn.state.next_id ≡ s.controller.next_id)
      (outs : (o : Out) → Among o turn.out → ((subject o.packet ≡ OfNone) ⊎ ((id j : ℕ) × (o.packet ≡ SnapRead s.controller.epoch id j) × (id < s.controller.next_id)))) where
    abbrev t : State
    t = controller_turn s rest turn

    abbrev sent : List Message
    sent = messages_from Controller turn.out

    class_off : (class : Subject → Bool) → ((id : ℕ) → class (OfSnapshot id) ≡ false) → class OfNone ≡ false → (x : Message) → Among x sent → class (subject x.packet) ≡ false
    class_off class f none x a = let o = sent_is Controller turn.out x a in ap (λ (w : Message). class (subject w.packet)) o.2 ∙ by o.0 (outs o.0 o.1)
      where
        by : (o : Out) → (subject o.packet ≡ OfNone) ⊎ ((id j : ℕ) × (o.packet ≡ SnapRead s.controller.epoch id j) × (id < s.controller.next_id)) → class (subject o.packet) ≡ false
        by o (inl e) = ap class e ∙ none
        by o (inr e) = ap (λ p. class (subject p)) e.2 ∙ f e.0

    taken_off : (class : Subject → Bool) → ((id : ℕ) → class (OfSnapshot id) ≡ false) → class (subject m.packet) ≡ false
    taken_off class f = ap class of ∙ f snap_id

    epochs_out : (o : Out) → Among o turn.out → epoch_in o.packet ≤ s.controller.epoch
    epochs_out o a = by (outs o a)
      where
        none_epoch : (p : Packet) → subject p ≡ OfNone → epoch_in p ≡ 0
        none_epoch (Admit epoch i key tag) e = absurd cc
        none_epoch (Peek epoch i tag) e = absurd cc
        none_epoch (Remove epoch i tag latest num) e = absurd cc
        none_epoch (SnapStart epoch id) e = absurd cc
        none_epoch (SnapFrom epoch id base) e = absurd cc
        none_epoch (SnapRead epoch id i) e = absurd cc
        none_epoch _ e = refl

        by : (subject o.packet ≡ OfNone) ⊎ ((id j : ℕ) × (o.packet ≡ SnapRead s.controller.epoch id j) × (id < s.controller.next_id)) → epoch_in o.packet ≤ s.controller.epoch
        by (inl e) = let z = none_epoch o.packet e in omega (arith, z)
        by (inr e) = let z : epoch_in o.packet ≡ s.controller.epoch = ap epoch_in e.2 in omega (arith, z)

    -- starts and beginnings are those that were there
    old_packet : (x : Message) → Among x t.bag → Among x s.bag ⊎ ((subject x.packet ≡ OfNone) ⊎ ((id j : ℕ) × (x.packet ≡ SnapRead s.controller.epoch id j) × (id < s.controller.next_id)))
    old_packet x a = by (among_append x rest sent a)
      where
        by : Among x rest ⊎ Among x sent → Among x s.bag ⊎ ((subject x.packet ≡ OfNone) ⊎ ((id j : ℕ) × (x.packet ≡ SnapRead s.controller.epoch id j) × (id < s.controller.next_id)))
        by (inl b) = inl (takes.members x b)
        by (inr b) = let o = sent_is Controller turn.out x b in inr (subst (λ (w : Message). (subject w.packet ≡ OfNone) ⊎ ((id j : ℕ) × (w.packet ≡ SnapRead s.controller.epoch id j) × (id < s.controller.next_id))) (sym o.2) (outs o.0 o.1))

    pub snap_keeps : PartsFit plan.config.slots turn.state.job → length turn.state.last.views ≤ plan.config.slots → RoundsFly plan t → Inv plan t
    snap_keeps parts views rs = record {
      sized = control_sized plan s h rest takes.members turn (ap length slots) parts views;
      epochs = control_epochs plan s h rest takes.members turn epoch epochs_out;
      admissions = control_admissions plan s h rest takes.members turn (moves_taken of_admission s.bag rest sent m takes (taken_off of_admission (λ id. refl)) (class_off of_admission (λ id. refl) refl)) epoch (λ e. sym rounds ∙ e) (omega (arith, tags)) slots;
      evictions = control_evictions plan s h rest takes.members turn (moves_taken of_eviction s.bag rest sent m takes (taken_off of_eviction (λ id. refl)) (class_off of_eviction (λ id. refl) refl)) epoch eviction (omega (arith, tags)) (omega (arith, jobs)) slots;
      snapshots = record {
        ids = λ x id a e. subst (λ n. id < n) (sym ids) (ids' x id e (old_packet x a));
        snap = subst (λ n. s.switch.snap < n) (sym ids) h.snapshots.snap;
        taken = λ i. subst (λ n. slice_index_or s.switch.taken i 0 < n) (sym ids) (h.snapshots.taken i);
      };
      rounds = rs;
    }
      where
        ids' : (x : Message) (id : ℕ) → subject x.packet ≡ OfSnapshot id → Among x s.bag ⊎ ((subject x.packet ≡ OfNone) ⊎ ((id j : ℕ) × (x.packet ≡ SnapRead s.controller.epoch id j) × (id < s.controller.next_id))) → id < s.controller.next_id
        ids' x id e (inl a) = h.snapshots.ids x id a e
        ids' x id e (inr (inl n)) = let z : OfSnapshot id ≡ OfNone = sym e ∙ n in absurd cc
        ids' x id e (inr (inr n)) = let z : OfSnapshot n.0 ≡ OfSnapshot id = sym (ap subject n.2) ∙ e in let y : n.0 ≡ id = cc in subst (λ k. k < s.controller.next_id) y n.3

    -- outside a round, or where nothing changes
    pub snap_no_round : s.controller.round ≡ None → RoundsFly plan t
    snap_no_round none = control_no_round plan s h rest takes.members turn (rounds ∙ none) (omega (arith, numbers)) (λ o a. by o (outs o a))
      where
        by : (o : Out) → (subject o.packet ≡ OfNone) ⊎ ((id j : ℕ) × (o.packet ≡ SnapRead s.controller.epoch id j) × (id < s.controller.next_id)) → of_round (subject o.packet) ≡ false
        by o (inl e) = ap of_round e
        by o (inr e) = ap (λ p. of_round (subject p)) e.2

  -- ---- outcomes

  abbrev idle_turn : Turn ControllerState
  idle_turn = idle s.controller

  idle_snap : Inv plan (controller_turn s rest (idle s.controller))
  idle_snap = snap_keeps idle_turn refl refl refl refl refl refl refl refl (λ o a. absurd a) h.sized.parts h.sized.views
      (control_rounds plan s h rest takes.members idle_turn (moves_taken of_round s.bag rest [] m takes (ap of_round of) (λ x y. absurd y)) refl (omega arith) (omega arith) refl refl refl refl)

  -- a job goes on, or the snapshot is complete
  module _ (job next : Job) (is : s.controller.job ≡ Some job) (size : length next.parts ≡ plan.config.slots) (out : List Out) (outs : (o : Out) → Among o out → (j : ℕ) × (o.packet ≡ SnapRead s.controller.epoch snap_id j)) where
    no_round' : s.controller.round ≡ None
    no_round' = job_no_round plan s job h.rounds is

    abbrev more : Turn ControllerState
    more = record { state = record s.controller { job = Some next }; out = out; notes = [] }

    outs_more : (o : Out) → Among o out → ((subject o.packet ≡ OfNone) ⊎ ((id j : ℕ) × (o.packet ≡ SnapRead s.controller.epoch id j) × (id < s.controller.next_id)))
    outs_more o a = let e = outs o a in inr (snap_id, e.0, e.1, h.snapshots.ids m snap_id takes.there of)

    outs_done : (o : Out) → Among o (to_clients 0 plan.config.clients (Release (completed next).point)) → ((subject o.packet ≡ OfNone) ⊎ ((id j : ℕ) × (o.packet ≡ SnapRead s.controller.epoch id j) × (id < s.controller.next_id)))
    outs_done o a = inl (ap subject (released_is (completed next).point 0 plan.config.clients o a))

    pub job_keeps : Inv plan (controller_turn s rest (job_turn plan.config s.controller next out))
    job_keeps = by_test (λ (t : Turn ControllerState). Inv plan (controller_turn s rest t)) (is_whole next) (completes plan.config s.controller (completed next) next.sames) more
        (snap_keeps (completes plan.config s.controller (completed next) next.sames) refl refl refl refl refl refl refl refl outs_done tt (let l = length-map next.parts view_in in omega (arith, l, size))
        (snap_no_round (completes plan.config s.controller (completed next) next.sames) refl refl refl refl refl refl refl refl outs_done no_round'))
        (snap_keeps more refl refl refl refl refl refl refl refl outs_more size h.sized.views (snap_no_round more refl refl refl refl refl refl refl refl outs_more no_round'))

-- ---- the three packets

module _ (plan : PlanView) (s : State) (h : Inv plan s) (rest : List Message) (m : Message) (takes : Takes s.bag rest m) where
  pub begun_keeps : (id point : ℕ) → m.packet ≡ SnapBegun id point → Inv plan (controller_turn s rest (snapshot_begun plan.config s.controller id point s.controller.job))
  begun_keeps id point k = go s.controller.job refl h.sized.parts
    where
      of : subject m.packet ≡ OfSnapshot id
      of = ap subject k

      go : (o : Option Job) → s.controller.job ≡ o → PartsFit plan.config.slots o → Inv plan (controller_turn s rest (snapshot_begun plan.config s.controller id point o))
      go None none f = idle_snap plan s h rest m takes id of
      go (Some job) is size = by_test (λ (t : Turn ControllerState). Inv plan (controller_turn s rest t)) (nat_eq job.id id && not (has_begun job)) (job_turn plan.config s.controller (record job { begun = Some point }) (part_reads s.controller.epoch id 0 job.parts)) (idle s.controller)
          (job_keeps plan s h rest m takes id of job (record job { begun = Some point }) is size (part_reads s.controller.epoch id 0 job.parts) (λ o a. reads_are s.controller.epoch id 0 job.parts o a))
          (idle_snap plan s h rest m takes id of)

  pub part_keeps : (id i : ℕ) (view : Option Record) → m.packet ≡ SnapPart id i view → Inv plan (controller_turn s rest (part_came plan.config s.controller id i view s.controller.job))
  part_keeps id i view k = go s.controller.job refl h.sized.parts
    where
      of : subject m.packet ≡ OfSnapshot id
      of = ap subject k

      go : (o : Option Job) → s.controller.job ≡ o → PartsFit plan.config.slots o → Inv plan (controller_turn s rest (part_came plan.config s.controller id i view o))
      go None none f = idle_snap plan s h rest m takes id of
      go (Some job) is size = by_test (λ (t : Turn ControllerState). Inv plan (controller_turn s rest t)) (nat_eq job.id id && (nat_lt i (length job.parts) && not (has_part job i))) (job_turn plan.config s.controller (with_part job i view) []) (idle s.controller)
          (job_keeps plan s h rest m takes id of job (with_part job i view) is (length-set job.parts i (Some view) ∙ size) [] (λ o a. absurd a))
          (idle_snap plan s h rest m takes id of)

  pub same_keeps : (id i : ℕ) → m.packet ≡ SnapSame id i → Inv plan (controller_turn s rest (same_came plan.config s.controller id i s.controller.job))
  same_keeps id i k = go s.controller.job refl h.sized.parts
    where
      of : subject m.packet ≡ OfSnapshot id
      of = ap subject k

      view_of : (job : Job) → s.controller.job ≡ Some job → length job.parts ≡ plan.config.slots → (v : Option (Option Record)) → Inv plan (controller_turn s rest (same_part plan.config s.controller id i job v))
      view_of job is size None = idle_snap plan s h rest m takes id of
      view_of job is size (Some view) = by_test (λ (t : Turn ControllerState). Inv plan (controller_turn s rest t)) (nat_eq job.id id && (nat_lt i (length job.parts) && not (has_part job i))) (job_turn plan.config s.controller (with_same job i view) []) (idle s.controller)
          (job_keeps plan s h rest m takes id of job (with_same job i view) is (length-set job.parts i (Some view) ∙ size) [] (λ o a. absurd a))
          (idle_snap plan s h rest m takes id of)

      go : (o : Option Job) → s.controller.job ≡ o → PartsFit plan.config.slots o → Inv plan (controller_turn s rest (same_came plan.config s.controller id i o))
      go None none f = idle_snap plan s h rest m takes id of
      go (Some job) is size = view_of job is size (slice_get s.controller.last.views i)

-- Packets of the controller show only what is known.
use Rattle.far_invariants.specs.Covers.{IsKnown}
use Rattle.std.proofs.Common.{◌≡◌, ◌≢◌, ℕ, zero, suc, ◌+◌, ◌⊎◌, inl, inr, Bool, true, false, not, List, [], ◌∷◌, ◌++◌, length, map, refl, sym, ap, ◌∙◌, subst, arith}
use Rattle.std.specs.Prelude.{Option, Some, None, if◌then◌else◌, ◌&&◌, nat_eq, nat_le, nat_lt, ◌-◌, is_some, slice_get, slice_set, replicate, set}
use Rattle.std.specs.List.{remove, filter}
use Rattle.std.proofs.lemmas.Option.{same_Some}
use Rattle.std.proofs.lemmas.List.{get_or-set_other}
use Rattle.far_base.specs.PlanView.{PlanView}
use Rattle.far_base.specs.declared.log.LogEntry.{LogEntry}
use Rattle.far_base.specs.declared.log.LogEntry.TheVariants.{Admitted, Kept as KeptNote}
use Rattle.far_base.specs.declared.packet.Message.{Message}
use Rattle.far_base.specs.declared.packet.Out.{Out}
use Rattle.far_base.specs.declared.packet.Packet.{Packet}
use Rattle.far_base.specs.declared.packet.Packet.TheVariants.{Hot, Admit, AdmitAck, Peek, PeekAns, Remove, RemoveAns, SnapStart, SnapBegun, SnapRead, SnapPart, Store, Stored, Release, Ask, Told, TopAsk, TopIs, SnapSame, SnapFrom}
use Rattle.far_base.specs.declared.party.Party.TheVariants.{Switch, Controller}
use Rattle.far_base.specs.declared.record.Record.{Record}
use Rattle.far_base.specs.declared.slot_state.Due.TheVariants.{Peeked, Removed}
use Rattle.far_base.specs.declared.slot_state.SlotState.TheVariants.{Held}
use Rattle.far_model.specs.Clients.{ClientState, released_to, tells, tells_each}
use Rattle.far_model.specs.Controller.{ControllerState, with_state, to_clients, to_servers, stores_of, store_outs, snapshot_stores, numbered_records, start_recovery, round_turn, told_round, client_told, top_told, wanted, first_want_dropped, admits_want, evicts, acknowledged, acked_state, evicts_on, peek_answered, removal_answered, store_answered, round_stored, start_snapshot, snapshot_begun, part_came, job_turn, completes, same_came, same_part, is_last_present}
use Rattle.far_model.specs.Events.{controller_turn, switch_turn, client_turn}
use Rattle.far_model.specs.Evictions.{Eviction, Next, Send, Store as StoreNext, Done, Kept, TRIES, state_at, key_in, is_admitting, shown_item, after_peek, after_store, after_removal, waits_for, waits_job, storing, removing}
use Rattle.far_model.specs.Members.{Among, Each}
use Rattle.far_model.specs.Parties.{Turn, idle, to_party}
use Rattle.far_model.specs.Pass.{Passed, pass, sent_to, admits, admitted, peeks, removes, removed_answer, may_go, is_under, changes, dropped, starts_snapshot, reads_part, is_slot_there, with_slot, with_taken, part_of, pass_notes, is_as_before, part_packet}
use Rattle.far_model.specs.Rounds.{Round, asks_tops, has_told, telling_at}
use Rattle.far_model.specs.Snapshots.{Job, has_begun, has_part, is_whole, completed, part_reads, view_items, view_in, view_records, new_job, with_same}
use Rattle.far_model.specs.State.{State, client_at}
use Rattle.far_model.specs.View.{SlotView, SwitchView, slot_at, shown_body, empty_slot, is_taken, held_record}
use Rattle.flight_laws.proofs.Lists.{by_test}
use Rattle.record_laws.proofs.Admissions.{nat_cases}
use Rattle.record_laws.proofs.Controls.{IsControlNote}
use Rattle.record_laws.proofs.Step.{passed_state}
use Rattle.far_invariants.specs.Evictions.{is_eviction_of, EvictionsAreSound}
use Rattle.far_invariants.specs.Known.{RecordIsKnown, ViewIsKnown, PacketIsKnown, ShownIsKnown}
use Rattle.eviction_laws.proofs.Known.{held_known}
use Rattle.eviction_laws.proofs.Knowing.{known_onward, view_onward, OutIsKnown, EachIsKnown, pass_onward, pass_knows, slots_same, ruled_onward, turn_knows, olds_known, parts_stay, last_stays, item_stays, evicts_on as evicts_stay, client_knows, served_onward, part_known, among_views}
use Rattle.eviction_laws.proofs.Onward.{none_at_all}
use Rattle.far_invariants.specs.Evictions.{Onward}

-- ---- lists

among_same : {A : Type 0} (n : ℕ) (x y : A) → Among x (replicate n y) → x ≡ y
among_same zero x y a = absurd a
among_same (suc n) x y (inl e) = e
among_same (suc n) x y (inr a) = among_same n x y a

among_set : {A : Type 0} (xs : List A) (i : ℕ) (new x : A) → Among x (set xs i new) → (x ≡ new) ⊎ Among x xs
among_set [] zero new x a = inr a
among_set [] (suc i) new x a = inr a
among_set (y ∷ ys) zero new x (inl e) = inl e
among_set (y ∷ ys) zero new x (inr a) = inr (inr a)
among_set (y ∷ ys) (suc i) new x (inl e) = inr (inl e)
among_set (y ∷ ys) (suc i) new x (inr a) = go (among_set ys i new x a)
  where
    go : (x ≡ new) ⊎ Among x ys → (x ≡ new) ⊎ Among x (y ∷ ys)
    go (inl e) = inl e
    go (inr b) = inr (inr b)

views_known : (plan : PlanView) (t : State) (parts : List (Option (Option Record))) → ((part : Option (Option Record)) → Among part parts → ViewIsKnown plan t (view_in part)) → (r : Record) → Among r (view_records (map view_in parts)) → RecordIsKnown plan t r
views_known plan t [] h r a = absurd a
views_known plan t (part ∷ parts) h r a = go (view_in part) (h part (inl refl)) (λ b. views_known plan t parts (λ q c. h q (inr c)) r b) a
  where
    go : (view : Option Record) → ViewIsKnown plan t view → (Among r (view_records (map view_in parts)) → RecordIsKnown plan t r) → Among r (view_records (view ∷ map view_in parts)) → RecordIsKnown plan t r
    go None k f b = f b
    go (Some item) k f (inl e) = subst (RecordIsKnown plan t) (sym e) k
    go (Some item) k f (inr b) = f b

-- ---- the controller

module _ (plan : PlanView) (s : State) (h : ShownIsKnown plan s) (rest : List Message) (rests : (m : Message) → Among m rest → Among m s.bag) (done : ℕ) where
  abbrev ruled : Turn ControllerState → State
  ruled turn = record (controller_turn s rest turn) { done = done }

  -- a turn that changes neither the eviction nor snapshots
  pub same_knows : (turn : Turn ControllerState) → turn.state.eviction ≡ s.controller.eviction → turn.state.job ≡ s.controller.job → turn.state.last ≡ s.controller.last → Each IsControlNote turn.notes → EachIsKnown plan (ruled turn) turn.out → ShownIsKnown plan (ruled turn)
  same_knows turn eviction job last notes outs = turn_knows plan s h rest turn done (olds_known plan s h rest turn done rests (evicts_stay plan s h rest turn done eviction)) notes outs
      (parts_stay plan s h rest turn done job) (last_stays plan s h rest turn done last) (item_stays plan s h rest turn done eviction)

  pub idle_knows : ShownIsKnown plan (ruled (idle s.controller))
  idle_knows = same_knows (idle s.controller) refl refl refl tt tt

  pub wanted_knows : (key : List ℕ) → ShownIsKnown plan (ruled (idle (wanted key s.controller)))
  wanted_knows key = by_test (λ (c : ControllerState). ShownIsKnown plan (ruled (idle c))) (is_some s.controller.round) s.controller (record s.controller { wants = s.controller.wants ++ key ∷ [] })
      idle_knows (same_knows (idle (record s.controller { wants = s.controller.wants ++ key ∷ [] })) refl refl refl tt tt)

  pub want_dropped_knows : ShownIsKnown plan (ruled (idle (first_want_dropped s.controller)))
  want_dropped_knows = same_knows (idle (first_want_dropped s.controller)) refl refl refl tt tt

  pub want_knows : (key : List ℕ) (i : ℕ) → ShownIsKnown plan (ruled (admits_want s.controller key i))
  want_knows key i = same_knows (admits_want s.controller key i) refl refl refl tt (tt, tt)

  pub ack_knows : (i tag : ℕ) → ShownIsKnown plan (ruled (acknowledged s.controller i tag))
  ack_knows i tag = by_test (λ t. ShownIsKnown plan (ruled t)) (is_admitting tag (state_at s.controller.slots i)) acked (idle s.controller) (same_knows acked refl refl refl (tt, tt) tt) idle_knows
    where
      acked : Turn ControllerState
      acked = record { state = with_state s.controller i (acked_state (state_at s.controller.slots i)); out = []; notes = Admitted i (key_in (state_at s.controller.slots i)) tag ∷ [] }

  -- ---- snapshots

  pub start_knows : ShownIsKnown plan (ruled (start_snapshot s.controller))
  start_knows =
      let turn : Turn ControllerState = start_snapshot s.controller in
      turn_knows plan s h rest turn done (olds_known plan s h rest turn done rests (evicts_stay plan s h rest turn done refl)) tt (by_test (PacketIsKnown plan (ruled turn)) (is_last_present s.controller) (SnapFrom s.controller.epoch s.controller.next_id s.controller.last.id) (SnapStart s.controller.epoch s.controller.next_id) tt tt, tt)
      (λ job is part a. new job part (same_Some (new_job s.controller.next_id (length s.controller.slots)) job is) a) (last_stays plan s h rest turn done refl) (item_stays plan s h rest turn done refl)
    where
      new : (job : Job) (part : Option (Option Record)) → new_job s.controller.next_id (length s.controller.slots) ≡ job → Among part job.parts → ViewIsKnown plan (ruled (start_snapshot s.controller)) (view_in part)
      new job part e a =
          let none : part ≡ None = among_same (length s.controller.slots) part None (subst (λ (j : Job). Among part j.parts) (sym e) a) in
          subst (λ q. ViewIsKnown plan (ruled (start_snapshot s.controller)) (view_in q)) (sym none) tt

  released_known : (t : State) (n more point : ℕ) → EachIsKnown plan t (to_clients n more (Release point))
  released_known t n zero point = tt
  released_known t n (suc more) point = (tt, released_known t (suc n) more point)

  reads_known : (t : State) (epoch id i : ℕ) (parts : List (Option (Option Record))) → EachIsKnown plan t (part_reads epoch id i parts)
  reads_known t epoch id i [] = tt
  reads_known t epoch id i (part ∷ parts) = by_test (EachIsKnown plan t) (is_some part) (part_reads epoch id (suc i) parts) (to_party Switch (SnapRead epoch id i) ∷ part_reads epoch id (suc i) parts)
      (reads_known t epoch id (suc i) parts) (tt, reads_known t epoch id (suc i) parts)

  items_control : (i : ℕ) (views : List (Option Record)) → Each IsControlNote (view_items i views)
  items_control i [] = tt
  items_control i (None ∷ views) = items_control (suc i) views
  items_control i (Some item ∷ views) = (tt, items_control (suc i) views)

  job_knows : (job : Job) (out : List Out) → ((part : Option (Option Record)) → Among part job.parts → ViewIsKnown plan s (view_in part)) → ((t : State) → EachIsKnown plan t out) → ShownIsKnown plan (ruled (job_turn plan.config s.controller job out))
  job_knows job out parts outs = by_test (λ t. ShownIsKnown plan (ruled t)) (is_whole job) (completes plan.config s.controller (completed job) job.sames) (record { state = record s.controller { job = Some job }; out = out; notes = [] }) whole more
    where
      whole : ShownIsKnown plan (ruled (completes plan.config s.controller (completed job) job.sames))
      whole =
          let turn : Turn ControllerState = completes plan.config s.controller (completed job) job.sames in
          turn_knows plan s h rest turn done (olds_known plan s h rest turn done rests (evicts_stay plan s h rest turn done refl)) (tt, items_control 0 (completed job).views) (released_known (ruled turn) 0 plan.config.clients (completed job).point)
          (λ j is part a. absurd cc) (λ r a. known_onward plan s (ruled turn) (ruled_onward plan s h rest turn done) r.key r.num (views_known plan s job.parts parts r a)) (item_stays plan s h rest turn done refl)

      more : ShownIsKnown plan (ruled (record { state = record s.controller { job = Some job }; out = out; notes = [] }))
      more =
          let turn : Turn ControllerState = record { state = record s.controller { job = Some job }; out = out; notes = [] } in
          turn_knows plan s h rest turn done (olds_known plan s h rest turn done rests (evicts_stay plan s h rest turn done refl)) tt (outs (ruled turn))
          (λ j is part a. view_onward plan s (ruled turn) (ruled_onward plan s h rest turn done) (view_in part) (parts part (subst (λ (w : Job). Among part w.parts) (sym (same_Some job j is)) a))) (last_stays plan s h rest turn done refl) (item_stays plan s h rest turn done refl)

  pub begun_knows : (id point : ℕ) (o : Option Job) → s.controller.job ≡ o → ShownIsKnown plan (ruled (snapshot_begun plan.config s.controller id point o))
  begun_knows id point None is = idle_knows
  begun_knows id point (Some job) is = by_test (λ t. ShownIsKnown plan (ruled t)) (nat_eq job.id id && not (has_begun job)) (job_turn plan.config s.controller (record job { begun = Some point }) (part_reads s.controller.epoch id 0 job.parts)) (idle s.controller)
      (job_knows (record job { begun = Some point }) (part_reads s.controller.epoch id 0 job.parts) (λ part a. h.parts job is part a) (λ t. reads_known t s.controller.epoch id 0 job.parts)) idle_knows

  pub part_knows : (id i : ℕ) (view : Option Record) → ViewIsKnown plan s view → (o : Option Job) → s.controller.job ≡ o → ShownIsKnown plan (ruled (part_came plan.config s.controller id i view o))
  part_knows id i view known None is = idle_knows
  part_knows id i view known (Some job) is = by_test (λ t. ShownIsKnown plan (ruled t)) (nat_eq job.id id && (nat_lt i (length job.parts) && not (has_part job i))) (job_turn plan.config s.controller (record job { parts = slice_set job.parts i (Some view) }) []) (idle s.controller)
      (job_knows (record job { parts = slice_set job.parts i (Some view) }) [] (λ part a. go part (among_set job.parts i (Some view) part a)) (λ t. tt)) idle_knows
    where
      go : (part : Option (Option Record)) → (part ≡ Some view) ⊎ Among part job.parts → ViewIsKnown plan s (view_in part)
      go part (inl e) = subst (λ q. ViewIsKnown plan s (view_in q)) (sym e) known
      go part (inr a) = h.parts job is part a

  pub same_knows_job : (id i : ℕ) (o : Option Job) → s.controller.job ≡ o → ShownIsKnown plan (ruled (same_came plan.config s.controller id i o))
  same_knows_job id i None is = idle_knows
  same_knows_job id i (Some job) is = view (slice_get s.controller.last.views i) refl
    where
      known : (v : Option Record) → slice_get s.controller.last.views i ≡ Some v → ViewIsKnown plan s v
      known None e = tt
      known (Some r) e = h.last r (among_views r s.controller.last.views i e)

      view : (o : Option (Option Record)) → slice_get s.controller.last.views i ≡ o → ShownIsKnown plan (ruled (same_part plan.config s.controller id i job o))
      view None e = idle_knows
      view (Some v) e = by_test (λ t. ShownIsKnown plan (ruled t)) (nat_eq job.id id && (nat_lt i (length job.parts) && not (has_part job i))) (job_turn plan.config s.controller (with_same job i v) []) (idle s.controller)
          (job_knows (with_same job i v) [] (λ part a. go part (among_set job.parts i (Some v) part a)) (λ t. tt)) idle_knows
        where
          go : (part : Option (Option Record)) → (part ≡ Some v) ⊎ Among part job.parts → ViewIsKnown plan s (view_in part)
          go part (inl q) = subst (λ q. ViewIsKnown plan s (view_in q)) (sym q) (known v e)
          go part (inr a) = h.parts job is part a

  -- ---- evictions

  pub evicting_knows : (e : Eviction) → s.controller.eviction ≡ Some e → (next : Next) → ((item : Record) → next ≡ StoreNext item → (item.key ≡ e.key) × IsKnown plan s e.key item.num) → ((packet : Packet) → next ≡ Send packet → (t : State) → PacketIsKnown plan t packet)
      → ShownIsKnown plan (ruled (evicts_on plan.config s.controller e next))
  evicting_knows e is (Send packet) stored sent =
      let turn : Turn ControllerState = evicts_on plan.config s.controller e (Send packet) in
      turn_knows plan s h rest turn done
      (olds_known plan s h rest turn done rests (λ e' q. record { before = e; is = is; same = ap (λ (w : Eviction). w.key) (same_Some (removing e) e' q) })) tt (sent packet refl (ruled turn), tt)
      (parts_stay plan s h rest turn done refl) (last_stays plan s h rest turn done refl)
      (λ e' q. subst (λ (w : Eviction). IsKnown plan (ruled turn) w.key w.item.num) (same_Some (removing e) e' q) (known_onward plan s (ruled turn) (ruled_onward plan s h rest turn done) e.key e.item.num (h.item e is)))
  evicting_knows e is (StoreNext item) stored sent =
      let turn : Turn ControllerState = evicts_on plan.config s.controller e (StoreNext item) in
      let p = stored item refl in
      let known : IsKnown plan (ruled turn) e.key item.num = known_onward plan s (ruled turn) (ruled_onward plan s h rest turn done) e.key item.num p.1 in
      turn_knows plan s h rest turn done
      (olds_known plan s h rest turn done rests (λ e' q. record { before = e; is = is; same = ap (λ (w : Eviction). w.key) (same_Some (storing s.controller.next_job item e) e' q) })) tt (subst (λ key. IsKnown plan (ruled turn) key item.num) (sym p.0) known, tt)
      (parts_stay plan s h rest turn done refl) (last_stays plan s h rest turn done refl)
      (λ e' q. subst (λ (w : Eviction). IsKnown plan (ruled turn) w.key w.item.num) (same_Some (storing s.controller.next_job item e) e' q) known)
  evicting_knows e is (Done tries) stored sent =
      let turn : Turn ControllerState = evicts_on plan.config s.controller e (Done tries) in
      turn_knows plan s h rest turn done (olds_known plan s h rest turn done rests (λ e' q. absurd cc)) (tt, tt) tt (parts_stay plan s h rest turn done refl) (last_stays plan s h rest turn done refl) (λ e' q. absurd cc)
  evicting_knows e is (Kept tries last) stored sent = by_test (λ (c : ControllerState). ShownIsKnown plan (ruled (record { state = c; out = []; notes = KeptNote e.slot e.key last.num ∷ [] }))) e.for_want (first_want_dropped back) back
      (ends (record { state = first_want_dropped back; out = []; notes = KeptNote e.slot e.key last.num ∷ [] }) refl refl refl (tt, tt) tt) (ends (record { state = back; out = []; notes = KeptNote e.slot e.key last.num ∷ [] }) refl refl refl (tt, tt) tt)
    where
      back : ControllerState
      back = record (with_state s.controller e.slot (Held e.key e.tag)) { eviction = None }

      ends : (turn : Turn ControllerState) → turn.state.eviction ≡ None → turn.state.job ≡ s.controller.job → turn.state.last ≡ s.controller.last → Each IsControlNote turn.notes → EachIsKnown plan (ruled turn) turn.out → ShownIsKnown plan (ruled turn)
      ends turn gone job last notes outs = turn_knows plan s h rest turn done (olds_known plan s h rest turn done rests (λ e' q. absurd (let clash = sym gone ∙ q in cc))) notes outs
          (parts_stay plan s h rest turn done job) (last_stays plan s h rest turn done last) (λ e' q. absurd (let clash = sym gone ∙ q in cc))

  pub peek_answer_knows : (i tag : ℕ) (latest : Bool) (num : ℕ) (body : Option (List ℕ)) → PacketIsKnown plan s (PeekAns i tag latest num body) → (o : Option Eviction) → s.controller.eviction ≡ o → ShownIsKnown plan (ruled (peek_answered plan.config s.controller i tag latest num body o))
  peek_answer_knows i tag latest num body p None is = idle_knows
  peek_answer_knows i tag latest num body p (Some e) is = by_test (λ t. ShownIsKnown plan (ruled t)) (waits_for Peeked i tag e) (evicts_on plan.config s.controller e (after_peek e latest num body)) (idle s.controller)
      (by_test (λ n. ShownIsKnown plan (ruled (evicts_on plan.config s.controller e n))) latest (StoreNext (shown_item e num body)) (Send (Remove e.epoch e.slot e.tag false 0))
      (evicting_knows e is (StoreNext (shown_item e num body)) (λ item q. stored e is item q) (λ packet q. absurd (other q)))
      (evicting_knows e is (Send (Remove e.epoch e.slot e.tag false 0)) (λ item q. absurd (another q)) (λ packet q t. sent packet q t))) idle_knows
    where
      stored : (e : Eviction) → s.controller.eviction ≡ Some e → (item : Record) → StoreNext (shown_item e num body) ≡ StoreNext item → (item.key ≡ e.key) × IsKnown plan s e.key item.num
      stored e is item q = let same : shown_item e num body ≡ item = cc in (ap (λ (r : Record). r.key) (sym same), subst (λ (r : Record). IsKnown plan s e.key r.num) same (p e is))

      other : {item : Record} {packet : Packet} → StoreNext item ≡ Send packet → ⊥
      other q = cc

      another : {item : Record} {packet : Packet} → Send packet ≡ StoreNext item → ⊥
      another q = cc

      sent : (packet : Packet) → Send (Remove e.epoch e.slot e.tag false 0) ≡ Send packet → (t : State) → PacketIsKnown plan t packet
      sent packet q t = let same : Remove e.epoch e.slot e.tag false 0 ≡ packet = cc in subst (λ w. PacketIsKnown plan t w) same tt

  pub remove_answer_knows : (i tag : ℕ) (gone latest : Bool) (num : ℕ) (body : Option (List ℕ)) → PacketIsKnown plan s (RemoveAns i tag gone latest num body) → (o : Option Eviction) → s.controller.eviction ≡ o → ShownIsKnown plan (ruled (removal_answered plan.config s.controller i tag gone num body o))
  remove_answer_knows i tag gone latest num body p None is = idle_knows
  remove_answer_knows i tag gone latest num body p (Some e) is = by_test (λ t. ShownIsKnown plan (ruled t)) (waits_for Removed i tag e) (evicts_on plan.config s.controller e (after_removal e gone num body)) (idle s.controller)
      (by_test (λ n. ShownIsKnown plan (ruled (evicts_on plan.config s.controller e n))) gone (Done e.tries) (if nat_eq e.tries TRIES then Kept TRIES (shown_item e num body) else StoreNext (shown_item e num body))
      (evicting_knows e is (Done e.tries) (λ item q. absurd cc) (λ packet q. absurd cc))
      (by_test (λ n. ShownIsKnown plan (ruled (evicts_on plan.config s.controller e n))) (nat_eq e.tries TRIES) (Kept TRIES (shown_item e num body)) (StoreNext (shown_item e num body))
      (evicting_knows e is (Kept TRIES (shown_item e num body)) (λ item q. absurd cc) (λ packet q. absurd cc))
      (evicting_knows e is (StoreNext (shown_item e num body)) (λ item q. stored item q) (λ packet q. absurd cc)))) idle_knows
    where
      stored : (item : Record) → StoreNext (shown_item e num body) ≡ StoreNext item → (item.key ≡ e.key) × IsKnown plan s e.key item.num
      stored item q = let same : shown_item e num body ≡ item = cc in (ap (λ (r : Record). r.key) (sym same), subst (λ (r : Record). IsKnown plan s e.key r.num) same (p e is))

  -- ---- rounds

  tops_known : (t : State) (n more number : ℕ) → EachIsKnown plan t (to_servers n more (TopAsk number))
  tops_known t n zero number = tt
  tops_known t n (suc more) number = (tt, tops_known t (suc n) more number)

  each_append : {A : Type 0} (P : A → Type 0) (xs ys : List A) → Each P xs → Each P ys → Each P (xs ++ ys)
  each_append P [] ys a b = b
  each_append P (x ∷ xs) ys a b = (a.0, each_append P xs ys a.1 b)

  round_turn_knows : (c : ControllerState) (r : Round) (out : List Out) → c.eviction ≡ s.controller.eviction → c.job ≡ s.controller.job → c.last ≡ s.controller.last → ((t : State) → Onward plan s t → EachIsKnown plan t out) → ShownIsKnown plan (ruled (round_turn plan.config c r out))
  round_turn_knows c r out eviction job last outs = by_test (λ t. ShownIsKnown plan (ruled t)) (asks_tops r) asked more
      (same_knows asked eviction job last tt (each_append (λ (o : Out). PacketIsKnown plan (ruled asked) o.packet) out (to_servers 0 plan.config.servers (TopAsk r.number)) (outs (ruled asked) (ruled_onward plan s h rest asked done)) (tops_known (ruled asked) 0 plan.config.servers r.number)))
      (same_knows more eviction job last tt (outs (ruled more) (ruled_onward plan s h rest more done)))
    where
      asked : Turn ControllerState
      asked = record { state = record c { round = Some (record r { asked = true }) }; out = out ++ to_servers 0 plan.config.servers (TopAsk r.number); notes = [] }

      more : Turn ControllerState
      more = record { state = record c { round = Some r }; out = out; notes = [] }

  round_stored_knows : (job : ℕ) (o : Option Round) → ShownIsKnown plan (ruled (round_stored plan.config s.controller job o))
  round_stored_knows job None = idle_knows
  round_stored_knows job (Some r) = by_test (λ t. ShownIsKnown plan (ruled t)) (nat_le r.first_job job && (nat_lt job s.controller.next_job && not (nat_eq r.stores 0))) (round_turn plan.config s.controller (record r { stores = r.stores - 1 }) []) (idle s.controller)
      (round_turn_knows s.controller (record r { stores = r.stores - 1 }) [] refl refl refl (λ t o. tt)) idle_knows

  pub told_knows : (number caller total : ℕ) (item : Option Record) → ViewIsKnown plan s item → (o : Option Round) → ShownIsKnown plan (ruled (client_told plan.config s.controller number caller total item o))
  told_knows number caller total item known None = idle_knows
  told_knows number caller total item known (Some r) = by_test (λ t. ShownIsKnown plan (ruled t)) (nat_eq r.number number && (nat_lt caller (length r.told) && not (has_told (telling_at r caller))))
      (round_turn plan.config (record s.controller { next_job = s.controller.next_job + length (store_outs plan.config s.controller.next_job item) }) (told_round r caller total (length (store_outs plan.config s.controller.next_job item))) (store_outs plan.config s.controller.next_job item)) (idle s.controller)
      (round_turn_knows (record s.controller { next_job = s.controller.next_job + length (store_outs plan.config s.controller.next_job item) }) (told_round r caller total (length (store_outs plan.config s.controller.next_job item))) (store_outs plan.config s.controller.next_job item) refl refl refl
      (λ t o. stored t o item known)) idle_knows
    where
      stored : (t : State) → Onward plan s t → (i : Option Record) → ViewIsKnown plan s i → EachIsKnown plan t (store_outs plan.config s.controller.next_job i)
      stored t o None k = tt
      stored t o (Some x) k = (known_onward plan s t o x.key x.num k, tt)

  pub top_knows : (number server top : ℕ) (o : Option Round) → ShownIsKnown plan (ruled (top_told plan.config s.controller number server top o))
  top_knows number server top None = idle_knows
  top_knows number server top (Some r) = by_test (λ t. ShownIsKnown plan (ruled t)) (nat_eq r.number number && (r.asked && (nat_lt server (length r.tops) && not (is_some (Rattle.std.specs.Prelude.slice_index_or r.tops server None)))))
      topped (idle s.controller) (same_knows topped refl refl refl tt tt) idle_knows
    where
      topped : Turn ControllerState
      topped = record { state = record s.controller { round = Some (record r { tops = slice_set r.tops server (Some top) }) }; out = []; notes = [] }

  pub stored_knows : (job : ℕ) (o : Option Eviction) → s.controller.eviction ≡ o → ShownIsKnown plan (ruled (store_answered plan.config s.controller job o))
  stored_knows job None is = round_stored_knows job s.controller.round
  stored_knows job (Some e) is = by_test (λ t. ShownIsKnown plan (ruled t)) (waits_job job e) turn (round_stored plan.config s.controller job s.controller.round)
      (turn_knows plan s h rest turn done (olds_known plan s h rest turn done rests (λ e' q. record { before = e; is = is; same = ap (λ (w : Eviction). w.key) (same_Some (removing e) e' q) })) tt (tt, tt)
      (parts_stay plan s h rest turn done refl) (last_stays plan s h rest turn done refl)
      (λ e' q. subst (λ (w : Eviction). IsKnown plan (ruled turn) w.key w.item.num) (same_Some (removing e) e' q) (known_onward plan s (ruled turn) (ruled_onward plan s h rest turn done) e.key e.item.num (h.item e is))))
      (round_stored_knows job s.controller.round)
    where
      turn : Turn ControllerState
      turn = record { state = record s.controller { eviction = Some (removing e) }; out = to_party Switch (after_store e) ∷ []; notes = [] }

  -- ---- a recovery

  numbered_in : (rs : List Record) (r : Record) → Among r (numbered_records rs) → Among r rs
  numbered_in [] r a = absurd a
  numbered_in (x ∷ xs) r a = go (nat_eq x.num 0) (λ b. numbered_in xs r b) a
    where
      go : (b : Bool) → (Among r (numbered_records xs) → Among r xs) → Among r (if b then numbered_records xs else x ∷ numbered_records xs) → Among r (x ∷ xs)
      go true f b = inr (f b)
      go false f (inl e) = inl e
      go false f (inr b) = inr (f b)

  stores_known : (t : State) (job : ℕ) (rs : List Record) → ((r : Record) → Among r rs → RecordIsKnown plan t r) → EachIsKnown plan t (stores_of plan.config job rs)
  stores_known t job [] k = tt
  stores_known t job (r ∷ rs) k = (k r (inl refl), stores_known t (suc job) rs (λ x a. k x (inr a)))

  asks_known : (t : State) (n more number : ℕ) → EachIsKnown plan t (to_clients n more (Ask number))
  asks_known t n zero number = tt
  asks_known t n (suc more) number = (tt, asks_known t (suc n) more number)

  pub recovery_knows : ShownIsKnown plan (ruled (start_recovery plan.config s.controller))
  recovery_knows =
      let turn : Turn ControllerState = start_recovery plan.config s.controller in
      turn_knows plan s h rest turn done (olds_known plan s h rest turn done rests (λ e' q. absurd cc)) tt
      (each_append (λ (o : Out). PacketIsKnown plan (ruled turn) o.packet) (to_clients 0 plan.config.clients (Ask s.controller.next_round)) (stores_of plan.config s.controller.next_job (snapshot_stores s.controller)) (asks_known (ruled turn) 0 plan.config.clients s.controller.next_round)
      (stores_known (ruled turn) s.controller.next_job (snapshot_stores s.controller) (λ r a. known_onward plan s (ruled turn) (ruled_onward plan s h rest turn done) r.key r.num (h.last r (numbered_in (view_records s.controller.last.views) r a)))))
      (λ j q part a. absurd cc) (last_stays plan s h rest turn done refl) (λ e' q. absurd cc)

-- an eviction begins: no answer to one is on its way
pub evict_knows : (plan : PlanView) (s : State) → ShownIsKnown plan s → EvictionsAreSound plan s → s.controller.round ≡ None → s.controller.eviction ≡ None → (hand : ℕ) (for_want : Bool) (i done : ℕ)
    → ShownIsKnown plan (record (controller_turn s s.bag (evicts (record s.controller { hand = hand }) for_want i)) { done = done })
evict_knows plan s h v outside none hand for_want i done = turn_knows plan s h s.bag turn done (λ m a. olds m.packet (h.packets m a) (none_at_all plan s v outside none m a).1) tt (tt, tt)
    (parts_stay plan s h s.bag turn done refl) (last_stays plan s h s.bag turn done refl) (λ e is. subst (λ (w : Eviction). IsKnown plan t w.key w.item.num) (same_Some _ e is) (inr (omega arith)))
  where
    turn : Turn ControllerState
    turn = evicts (record s.controller { hand = hand }) for_want i

    t : State
    t = record (controller_turn s s.bag (evicts (record s.controller { hand = hand }) for_want i)) { done = done }

    o : Onward plan s (record (controller_turn s s.bag (evicts (record s.controller { hand = hand }) for_want i)) { done = done })
    o = ruled_onward plan s h s.bag (evicts (record s.controller { hand = hand }) for_want i) done

    olds : (p : Packet) → PacketIsKnown plan s p → is_eviction_of s.controller.epoch s.controller.eviction p ≡ false → PacketIsKnown plan (record (controller_turn s s.bag (evicts (record s.controller { hand = hand }) for_want i)) { done = done }) p
    olds (PeekAns j tag latest num body) k off = absurd cc
    olds (RemoveAns j tag gone latest num body) k off = absurd cc
    olds (Rattle.far_base.specs.declared.packet.Packet.TheVariants.GetRep caller op key tag num body) k off = k
    olds (Rattle.far_base.specs.declared.packet.Packet.TheVariants.WriteRep caller op key num body) k off = k
    olds (Rattle.far_base.specs.declared.packet.Packet.TheVariants.GetAns caller op key num body near) k off = known_onward plan s _ o _ num k
    olds (Rattle.far_base.specs.declared.packet.Packet.TheVariants.WriteAns caller op key num kept) k off = known_onward plan s _ o _ num k
    olds (SnapPart id j view) k off = view_onward plan s _ o view k
    olds (Store job item) k off = known_onward plan s _ o item.key item.num k
    olds (Told round caller total item) k off = view_onward plan s _ o item k
    olds _ k off = tt

-- ---- the switch

module _ (plan : PlanView) (s : State) (h : ShownIsKnown plan s) (rest : List Message) (rests : (m : Message) → Among m rest → Among m s.bag) where
  pub drop_knows : (packet : Packet) → ShownIsKnown plan (passed_state s rest packet (dropped s.switch) [])
  drop_knows packet = pass_knows plan s h rest rests packet (dropped s.switch) [] tt (slots_same plan s h rest rests packet (dropped s.switch) [] refl) tt tt

  abbrev IsKnownPass : Packet → Passed → Type 0
  IsKnownPass packet p = ShownIsKnown plan (switch_turn s rest packet p)

  pub snap_start_knows : (epoch id : ℕ) → IsKnownPass (SnapStart epoch id) (pass s.switch (SnapStart epoch id))
  snap_start_knows epoch id = by_test (IsKnownPass (SnapStart epoch id)) (nat_eq epoch s.switch.epoch) (starts_snapshot s.switch id 0) (dropped s.switch)
      (pass_knows plan s h rest rests (SnapStart epoch id) (starts_snapshot s.switch id 0) [] tt (slots_same plan s h rest rests (SnapStart epoch id) (starts_snapshot s.switch id 0) [] refl) tt tt) (drop_knows (SnapStart epoch id))

  pub snap_from_knows : (epoch id base : ℕ) → IsKnownPass (SnapFrom epoch id base) (pass s.switch (SnapFrom epoch id base))
  snap_from_knows epoch id base = by_test (IsKnownPass (SnapFrom epoch id base)) (nat_eq epoch s.switch.epoch) (starts_snapshot s.switch id base) (dropped s.switch)
      (pass_knows plan s h rest rests (SnapFrom epoch id base) (starts_snapshot s.switch id base) [] tt (slots_same plan s h rest rests (SnapFrom epoch id base) (starts_snapshot s.switch id base) [] refl) tt tt) (drop_knows (SnapFrom epoch id base))

  pub snap_read_knows : (epoch id i : ℕ) → IsKnownPass (SnapRead epoch id i) (pass s.switch (SnapRead epoch id i))
  snap_read_knows epoch id i = by_test (IsKnownPass (SnapRead epoch id i)) (is_slot_there s.switch epoch i) (reads_part s.switch id i) (dropped s.switch)
      (by_test (IsKnownPass (SnapRead epoch id i)) (nat_eq id s.switch.snap && not (is_taken s.switch i)) (p (part_packet s.switch i)) (dropped s.switch)
      (by_test (λ q. IsKnownPass (SnapRead epoch id i) (p q)) (is_as_before s.switch i) (SnapSame s.switch.snap i) (SnapPart s.switch.snap i (held_record (slot_at s.switch i)))
      (pass_knows plan s h rest rests (SnapRead epoch id i) (p (SnapSame s.switch.snap i)) [] tt (slots_same plan s h rest rests (SnapRead epoch id i) (p (SnapSame s.switch.snap i)) [] refl) tt tt)
      (pass_knows plan s h rest rests (SnapRead epoch id i) (p (SnapPart s.switch.snap i (held_record (slot_at s.switch i)))) [] tt (slots_same plan s h rest rests (SnapRead epoch id i) (p (SnapPart s.switch.snap i (held_record (slot_at s.switch i)))) [] refl)
      (view_onward plan s (passed_state s rest (SnapRead epoch id i) (p (SnapPart s.switch.snap i (held_record (slot_at s.switch i)))) []) (pass_onward plan s h rest rests (SnapRead epoch id i) (p (SnapPart s.switch.snap i (held_record (slot_at s.switch i)))) []) (held_record (slot_at s.switch i)) (held_known plan s h i)) tt)) (drop_knows (SnapRead epoch id i))) (drop_knows (SnapRead epoch id i))
    where
      p : Packet → Passed
      p q = record { view = with_taken s.switch i (held_record (slot_at s.switch i)); first = sent_to Controller q; second = None }

  slots_cases : (slots : List SlotView) (i : ℕ) (slot : SlotView) → (Rattle.std.specs.Prelude.slice_index_or (set slots i slot) i empty_slot ≡ slot) ⊎ (Rattle.std.specs.Prelude.slice_index_or (set slots i slot) i empty_slot ≡ Rattle.std.specs.Prelude.slice_index_or slots i empty_slot)
  slots_cases [] zero slot = inr refl
  slots_cases [] (suc i) slot = inr refl
  slots_cases (x ∷ xs) zero slot = inl refl
  slots_cases (x ∷ xs) (suc i) slot = slots_cases xs i slot

  -- one slot is set, be it there or not
  pub slots_put : (packet : Packet) (p : Passed) (notes : List LogEntry) (i : ℕ) (slot : SlotView) → p.view.slots ≡ set s.switch.slots i slot → ((key : List ℕ) → slot.key ≡ Some key → IsKnown plan (passed_state s rest packet p notes) key slot.num)
      → (j : ℕ) (key : List ℕ) → (slot_at p.view j).key ≡ Some key → IsKnown plan (passed_state s rest packet p notes) key (slot_at p.view j).num
  slots_put packet p notes i slot e new j key is = go (nat_cases j i)
    where
      view : slot_at p.view j ≡ Rattle.std.specs.Prelude.slice_index_or (set s.switch.slots i slot) j empty_slot
      view = ap (λ l. Rattle.std.specs.Prelude.slice_index_or l j empty_slot) e

      old : slot_at p.view j ≡ slot_at s.switch j → IsKnown plan (passed_state s rest packet p notes) key (slot_at p.view j).num
      old q = subst (λ (w : SlotView). IsKnown plan (passed_state s rest packet p notes) key w.num) (sym q)
          (known_onward plan s (passed_state s rest packet p notes) (pass_onward plan s h rest rests packet p notes) key _ (h.slots j key (sym (ap (λ (w : SlotView). w.key) q) ∙ is)))

      own : j ≡ i → (Rattle.std.specs.Prelude.slice_index_or (set s.switch.slots i slot) i empty_slot ≡ slot) ⊎ (Rattle.std.specs.Prelude.slice_index_or (set s.switch.slots i slot) i empty_slot ≡ slot_at s.switch i) → IsKnown plan (passed_state s rest packet p notes) key (slot_at p.view j).num
      own same (inl q) =
          let r : slot_at p.view j ≡ slot = view ∙ ap (λ n. Rattle.std.specs.Prelude.slice_index_or (set s.switch.slots i slot) n empty_slot) same ∙ q in
          subst (λ (w : SlotView). IsKnown plan (passed_state s rest packet p notes) key w.num) (sym r) (new key (sym (ap (λ (w : SlotView). w.key) r) ∙ is))
      own same (inr q) = old (view ∙ ap (λ n. Rattle.std.specs.Prelude.slice_index_or (set s.switch.slots i slot) n empty_slot) same ∙ q ∙ ap (slot_at s.switch) (sym same))

      go : (j ≡ i) ⊎ (j ≢ i) → IsKnown plan (passed_state s rest packet p notes) key (slot_at p.view j).num
      go (inl same) = own same (slots_cases s.switch.slots i slot)
      go (inr ne) = old (view ∙ get_or-set_other s.switch.slots i j slot empty_slot ne)

  pub admit_knows : (epoch i : ℕ) (key : List ℕ) (tag : ℕ) → IsKnownPass (Admit epoch i key tag) (pass s.switch (Admit epoch i key tag))
  admit_knows epoch i key tag = by_test (IsKnownPass (Admit epoch i key tag)) (is_slot_there s.switch epoch i) (admits s.switch i key tag) (dropped s.switch) (answered (slot_at s.switch i).valid) (drop_knows (Admit epoch i key tag))
    where
      slot_known : (t : State) → Onward plan s t → (k : List ℕ) → (admitted key tag (slot_at s.switch i)).key ≡ Some k → IsKnown plan t k (admitted key tag (slot_at s.switch i)).num
      slot_known t o k is = by_test (λ (w : SlotView). w.key ≡ Some k → IsKnown plan t k w.num) (slot_at s.switch i).valid (slot_at s.switch i) (record { key = Some key; tag = tag; valid = true; latest = false; num = 0; body = None })
          (λ q. known_onward plan s t o k (slot_at s.switch i).num (h.slots i k q)) (λ q. inr (omega arith)) is

      answered : (b : Bool) → IsKnownPass (Admit epoch i key tag) (record { view = (admits s.switch i key tag).view; first = if b then None else sent_to Controller (AdmitAck i tag); second = None })
      answered true =
          let p : Passed = record { view = (admits s.switch i key tag).view; first = None; second = None } in
          pass_knows plan s h rest rests (Admit epoch i key tag) p [] tt (slots_put (Admit epoch i key tag) p [] i (admitted key tag (slot_at s.switch i)) refl (λ k is. slot_known (passed_state s rest (Admit epoch i key tag) p []) (pass_onward plan s h rest rests (Admit epoch i key tag) p []) k is)) tt tt
      answered false =
          let p : Passed = record { view = (admits s.switch i key tag).view; first = sent_to Controller (AdmitAck i tag); second = None } in
          pass_knows plan s h rest rests (Admit epoch i key tag) p [] tt (slots_put (Admit epoch i key tag) p [] i (admitted key tag (slot_at s.switch i)) refl (λ k is. slot_known (passed_state s rest (Admit epoch i key tag) p []) (pass_onward plan s h rest rests (Admit epoch i key tag) p []) k is)) tt tt

  -- a slot that is shown is of the key that is evicted
  module _ (i tag : ℕ) (key_is : is_under tag (slot_at s.switch i) ≡ true → (e : Eviction) → s.controller.eviction ≡ Some e → (slot_at s.switch i).key ≡ Some e.key) where
    shown_known : (t : State) → Onward plan s t → is_under tag (slot_at s.switch i) ≡ true → (e : Eviction) → s.controller.eviction ≡ Some e → IsKnown plan t e.key (slot_at s.switch i).num
    shown_known t o on e is = known_onward plan s t o e.key (slot_at s.switch i).num (h.slots i e.key (key_is on e is))

    pub peek_pass_knows : (own : ℕ) → IsKnownPass (Peek own i tag) (peeks s.switch i tag (slot_at s.switch i))
    peek_pass_knows own = go (is_under tag (slot_at s.switch i)) refl
      where
        go : (b : Bool) → is_under tag (slot_at s.switch i) ≡ b → IsKnownPass (Peek own i tag) (record { view = s.switch; first = if b then sent_to Controller (PeekAns i tag (slot_at s.switch i).latest (slot_at s.switch i).num (shown_body (slot_at s.switch i))) else sent_to Controller (PeekAns i tag false 0 None); second = None })
        go true on =
            let p : Passed = record { view = s.switch; first = sent_to Controller (PeekAns i tag (slot_at s.switch i).latest (slot_at s.switch i).num (shown_body (slot_at s.switch i))); second = None } in
            pass_knows plan s h rest rests (Peek own i tag) p [] tt (slots_same plan s h rest rests (Peek own i tag) p [] refl) (λ e is. shown_known (passed_state s rest (Peek own i tag) p []) (pass_onward plan s h rest rests (Peek own i tag) p []) on e is) tt
        go false off =
            let p : Passed = record { view = s.switch; first = sent_to Controller (PeekAns i tag false 0 None); second = None } in
            pass_knows plan s h rest rests (Peek own i tag) p [] tt (slots_same plan s h rest rests (Peek own i tag) p [] refl) (λ e is. inr (omega arith)) tt

    answer_known : (t : State) → Onward plan s t → t.controller.eviction ≡ s.controller.eviction → (gone : Bool) → OutIsKnown plan t (removed_answer i tag gone (slot_at s.switch i))
    answer_known t o same gone = go (is_under tag (slot_at s.switch i)) refl
      where
        go : (b : Bool) → is_under tag (slot_at s.switch i) ≡ b → OutIsKnown plan t (if b
            then sent_to Controller (RemoveAns i tag gone (slot_at s.switch i).latest (slot_at s.switch i).num (shown_body (slot_at s.switch i)))
            else sent_to Controller (RemoveAns i tag false false 0 None))
        go true on = λ e is. shown_known t o on e (sym same ∙ is)
        go false off = λ e is. inr (omega arith)

    no_notes : (own num : ℕ) (latest gone : Bool) (w : SwitchView) (second : Option Out) → pass_notes (Remove own i tag latest num) (record { view = w; first = removed_answer i tag gone (slot_at s.switch i); second = second }) ≡ []
    no_notes own num latest gone w second = go (is_under tag (slot_at s.switch i))
      where
        go : (b : Bool) → pass_notes (Remove own i tag latest num) (record { view = w; first = if b then sent_to Controller (RemoveAns i tag gone (slot_at s.switch i).latest (slot_at s.switch i).num (shown_body (slot_at s.switch i))) else sent_to Controller (RemoveAns i tag false false 0 None); second = second }) ≡ []
        go true = refl
        go false = refl

    removal_knows : (own num : ℕ) (latest gone : Bool) (w : SwitchView) (second : Option Out)
        → ((j : ℕ) (key : List ℕ) → (slot_at w j).key ≡ Some key → IsKnown plan (passed_state s rest (Remove own i tag latest num) (record { view = w; first = removed_answer i tag gone (slot_at s.switch i); second = second }) []) key (slot_at w j).num)
        → ((t : State) → Onward plan s t → OutIsKnown plan t second)
        → IsKnownPass (Remove own i tag latest num) (record { view = w; first = removed_answer i tag gone (slot_at s.switch i); second = second })
    removal_knows own num latest gone w second slots part =
        let p : Passed = record { view = w; first = removed_answer i tag gone (slot_at s.switch i); second = second } in
        let t : State = passed_state s rest (Remove own i tag latest num) p [] in
        let o : Onward plan s t = pass_onward plan s h rest rests (Remove own i tag latest num) p [] in
        subst (λ notes. ShownIsKnown plan (passed_state s rest (Remove own i tag latest num) p notes)) (sym (no_notes own num latest gone w second))
        (pass_knows plan s h rest rests (Remove own i tag latest num) p [] tt slots (answer_known t o refl gone) (part t o))

    emptied : (packet : Packet) (p : Passed) → p.view.slots ≡ set s.switch.slots i empty_slot → (j : ℕ) (key : List ℕ) → (slot_at p.view j).key ≡ Some key → IsKnown plan (passed_state s rest packet p []) key (slot_at p.view j).num
    emptied packet p e = slots_put packet p [] i empty_slot e (λ key is. absurd cc)

    pub remove_pass_knows : (own num : ℕ) (latest : Bool) → IsKnownPass (Remove own i tag latest num) (removes s.switch i tag latest num (slot_at s.switch i))
    remove_pass_knows own num latest = by_test (IsKnownPass (Remove own i tag latest num)) (may_go tag latest num (slot_at s.switch i))
        (if (slot_at s.switch i).latest
        then changes s.switch i empty_slot (removed_answer i tag true (slot_at s.switch i))
        else record { view = with_slot s.switch i empty_slot; first = removed_answer i tag true (slot_at s.switch i); second = None })
        (record { view = s.switch; first = removed_answer i tag false (slot_at s.switch i); second = None })
        (by_test (IsKnownPass (Remove own i tag latest num)) (slot_at s.switch i).latest (changes s.switch i empty_slot (removed_answer i tag true (slot_at s.switch i))) outdated (changed (is_taken s.switch i))
        (removal_knows own num latest true (with_slot s.switch i empty_slot) None (emptied (Remove own i tag latest num) outdated refl) (λ t o. tt)))
        (removal_knows own num latest false s.switch None (slots_same plan s h rest rests (Remove own i tag latest num) (record { view = s.switch; first = removed_answer i tag false (slot_at s.switch i); second = None }) [] refl) (λ t o. tt))
      where
        outdated : Passed
        outdated = record { view = with_slot s.switch i empty_slot; first = removed_answer i tag true (slot_at s.switch i); second = None }

        changed : (b : Bool) → IsKnownPass (Remove own i tag latest num) (record {
          view = if b then with_slot s.switch i empty_slot else with_taken (with_slot s.switch i empty_slot) i (held_record (slot_at s.switch i));
          first = removed_answer i tag true (slot_at s.switch i);
          second = if b then None else part_of s.switch i;
        })
        changed true = removal_knows own num latest true (with_slot s.switch i empty_slot) None (emptied (Remove own i tag latest num) (record { view = with_slot s.switch i empty_slot; first = removed_answer i tag true (slot_at s.switch i); second = None }) refl) (λ t o. tt)
        changed false = removal_knows own num latest true (with_taken (with_slot s.switch i empty_slot) i (held_record (slot_at s.switch i))) (part_of s.switch i) (emptied (Remove own i tag latest num) (record { view = with_taken (with_slot s.switch i empty_slot) i (held_record (slot_at s.switch i)); first = removed_answer i tag true (slot_at s.switch i); second = part_of s.switch i }) refl)
            (λ t o. part_known plan t s.switch i (view_onward plan s t o (held_record (slot_at s.switch i)) (held_known plan s h i)))

-- ---- clients

among_filter : {A : Type 0} (p : A → Bool) (x : A) (xs : List A) → Among x (filter p xs) → Among x xs
among_filter p x [] a = absurd a
among_filter p x (y ∷ ys) a = go (p y) (λ b. among_filter p x ys b) a
  where
    go : (b : Bool) → (Among x (filter p ys) → Among x ys) → Among x (if b then y ∷ filter p ys else filter p ys) → Among x (y ∷ ys)
    go true f (inl e) = inl e
    go true f (inr c) = inr (f c)
    go false f c = inr (f c)

module _ (plan : PlanView) (s : State) (h : ShownIsKnown plan s) (rest : List Message) (rests : (m : Message) → Among m rest → Among m s.bag) (c : ℕ) where
  pub release_knows : (point : ℕ) → ShownIsKnown plan (client_turn s c rest (record { state = released_to point (client_at s c); out = []; notes = [] }))
  release_knows point =
      let turn : Turn ClientState = record { state = released_to point (client_at s c); out = []; notes = [] } in
      client_knows plan s h rest rests c turn tt tt (λ r a. known_onward plan s (client_turn s c rest turn) (served_onward plan s h rest rests c turn) r.key r.num (h.preserved c r (among_filter _ r (client_at s c).preserved a)))

  told_known : (t : State) (round total : ℕ) (rs : List Record) → ((r : Record) → Among r rs → RecordIsKnown plan t r) → EachIsKnown plan t (tells_each round c total rs)
  told_known t round total [] k = tt
  told_known t round total (r ∷ rs) k = (k r (inl refl), told_known t round total rs (λ q a. k q (inr a)))

  tells_known : (t : State) (round : ℕ) (rs : List Record) → ((r : Record) → Among r rs → RecordIsKnown plan t r) → EachIsKnown plan t (tells round c rs)
  tells_known t round [] k = (tt, tt)
  tells_known t round (r ∷ rs) k = told_known t round (length (r ∷ rs)) (r ∷ rs) k

  pub ask_knows : (round : ℕ) → ShownIsKnown plan (client_turn s c rest (record { state = client_at s c; out = tells round c (client_at s c).preserved; notes = [] }))
  ask_knows round =
      let turn : Turn ClientState = record { state = client_at s c; out = tells round c (client_at s c).preserved; notes = [] } in
      let t : State = client_turn s c rest turn in
      let known : (r : Record) → Among r (client_at s c).preserved → RecordIsKnown plan t r = (λ r a. known_onward plan s t (served_onward plan s h rest rests c turn) r.key r.num (h.preserved c r a)) in
      client_knows plan s h rest rests c turn tt (tells_known t round (client_at s c).preserved known) known

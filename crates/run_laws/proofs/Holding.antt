-- All invariants, and how what each subject needs follows from the others.
use Rattle.far_invariants.specs.Numbers.{slot_if, IsWritten}
use Rattle.far_invariants.specs.Holds.{Numbers, Holds}
use Rattle.far_invariants.specs.Operations.{Relies}
use Rattle.run_laws.proofs.Needing.{evictions_need as needed_of_slots}
use Rattle.run_laws.proofs.Meeting.{numbers_need}
use Rattle.far_invariants.specs.SeatNeeds.{Needs as SeatNeeds}
use Rattle.std.proofs.Common.{◌≡◌, ℕ, zero, suc, ◌≤◌, ◌⊎◌, inl, inr, Bool, true, false, not, List, [], length, refl, sym, ap, ◌∙◌, subst, arith, le_trans}
use Rattle.std.specs.Prelude.{Option, Some, None, if◌then◌else◌, ◌&&◌, ◌||◌, is_some, slice_get, nat_eq, nat_lt}
use Rattle.std.proofs.lemmas.Option.{same_Some}
use Rattle.far_base.specs.Limits.{IsPlan}
use Rattle.far_base.specs.PlanView.{PlanView}
use Rattle.far_base.specs.declared.event.Event.TheVariants.{Deliver, Restart}
use Rattle.far_base.specs.declared.log.LogEntry.TheVariants.{Numbered}
use Rattle.far_base.specs.declared.packet.Message.{Message}
use Rattle.far_base.specs.declared.packet.Out.{Out}
use Rattle.far_base.specs.declared.packet.Packet.{Packet}
use Rattle.far_base.specs.declared.packet.Packet.TheVariants.{GetReq, WriteReq, WriteFwd, WriteAns, PeekAns, RemoveAns, SnapBegun, SnapPart, Release, Told, SnapSame}
use Rattle.far_base.specs.declared.party.Party.TheVariants.{Controller}
use Rattle.far_base.specs.declared.record.Record.{Record}
use Rattle.far_model.specs.Clients.{line_of}
use Rattle.far_model.specs.Controller.{ControllerState, ready, completes, job_turn, snapshot_begun, part_came, same_part, same_came, controller_takes}
use Rattle.far_model.specs.Events.{happens, is_enabled, keeping_of, restarts, controller_turn, handled, is_switch, all_listed, reply_at, delivers, can_deliver_some, reply_to}
use Rattle.far_model.specs.Evictions.{Eviction}
use Rattle.far_invariants.specs.Flights.{subject}
use Rattle.far_base.specs.declared.record.Versioned.{Versioned}
use Rattle.far_model.specs.KeyedRecords.{found}
use Rattle.far_invariants.specs.Covers.{IsAtServer, IsInSlot, IsInSnapshot, Covers, IsAbsorbed, look}
use Rattle.far_model.specs.Log.{is_read}
use Rattle.far_model.specs.Members.{Among}
use Rattle.far_model.specs.Parties.{Turn, idle}
use Rattle.far_invariants.specs.Past.{Past}
use Rattle.far_model.specs.Rounds.{Round}
use Rattle.far_model.specs.Snapshots.{Job, SnapshotView, no_snapshot, has_begun, has_part, is_whole, completed, view_records, with_part, with_same, part_reads}
use Rattle.far_model.specs.State.{State, records_at, line_at}
use Rattle.far_model.specs.View.{SlotView, slot_at, held_record, empty_slot, keyed_record}
use Rattle.far_model.proofs.Members.{place_of}
use Rattle.flight_laws.proofs.Lists.{get_or-replicate_default}
use Rattle.far_invariants.specs.Evictions.{EvictionPacketIs, written_in}
use Rattle.far_invariants.specs.EvictionNeeds.{Needs as EvictionNeeds, RoundNeeds, PacketsAreOnKey, ToldIsWritten, ItemIsWritten}
use Rattle.far_invariants.specs.Known.{PacketIsKnown}
use Rattle.eviction_laws.proofs.Meaning.{absorbed_is_cached}
use Rattle.eviction_laws.proofs.Needing.{keys_met}
use Rattle.far_invariants.specs.StopNeeds.{IsSafe, IsAskedWell, IsGenuine, ShowsGenuine, IsReleasedSafely, begun_job, part_job, same_view_job, same_job, next_job, CompletesSafely, Owed, Needs as StopNeeds}
use Rattle.far_invariants.specs.Recoveries.{recovered_last}
use Rattle.far_invariants.specs.Stops.{Carried}
use Rattle.recovery_laws.proofs.Laws.{restart_restores}
use Rattle.far_invariants.proofs.Records.{found_member}
use Rattle.far_invariants.specs.SnapshotNeeds.{Needs as SnapshotNeeds, IsUnnumberedRead}
use Rattle.far_invariants.specs.Snapshots.{IsInViews, IsLast, PacketStands}
use Rattle.flight_laws.proofs.SnapCompleting.{event_covers}
use Rattle.flight_laws.proofs.SnapMeanings.{in_records, views_cover}
use Rattle.flight_laws.proofs.SnapOwing.{written_agree}

some_round : (o : Option Round) → is_some o ≡ true → (r : Round) × (o ≡ Some r)
some_round None e = absurd cc
some_round (Some r) e = (r, refl)

pub record IsHeld (slot : SlotView) (r : Record) : Type 0 where
  pub latest : slot.latest ≡ true
  pub key : slot.key ≡ Some r.key
  pub num : slot.num ≡ r.num
  pub body : slot.body ≡ r.body

pub held_is : (slot : SlotView) (r : Record) → held_record slot ≡ Some r → IsHeld slot r
held_is slot r e = go slot.latest refl e
  where
    on : (k : Option (List ℕ)) → slot.key ≡ k → slot.latest ≡ true → keyed_record k slot.num slot.body ≡ Some r → IsHeld slot r
    on None k l q = absurd cc
    on (Some key) k l q =
        let same = same_Some (record { key = key; num = slot.num; body = slot.body }) r q in
        record { latest = l; key = k ∙ ap (λ (x : Record). Some x.key) same; num = ap (λ (x : Record). x.num) same; body = ap (λ (x : Record). x.body) same }

    go : (b : Bool) → slot.latest ≡ b → (if b then keyed_record slot.key slot.num slot.body else None) ≡ Some r → IsHeld slot r
    go true l q = on slot.key refl l q
    go false l q = absurd cc

module _ (plan : PlanView) (past : Past) (s : State) (valid : IsPlan plan) (h : Holds plan past s) where
  -- ---- what is outside a round, and of an empty switch

  pub outside : s.running ≡ true → s.controller.round ≡ None
  outside runs = go s.controller.round refl
    where
      go : (o : Option Round) → s.controller.round ≡ o → o ≡ None
      go None e = refl
      go (Some r) e = absurd (let off = (h.stops.round r e).goes.stopped in let clash : true ≡ false = sym runs ∙ off in cc)

  pub empty_slots : s.running ≡ false → (i : ℕ) → slot_at s.switch i ≡ empty_slot
  empty_slots off i = ap (λ v. slot_at v i) (h.empty off) ∙ get_or-replicate_default plan.config.slots i empty_slot

  by_running : (b : Bool) → s.running ≡ b → (P : Type 0) → (s.running ≡ true → P) → (s.running ≡ false → P) → P
  by_running true e P a b = a e
  by_running false e P a b = b e

  -- the records of the last snapshot were written
  pub last_written : (r : Record) → Among r (view_records s.controller.last.views) → IsWritten plan s.log s.steps r.key r.num r.body
  last_written r a = go h.snapshots.gathered.last
    where
      go : (s.controller.last ≡ no_snapshot) ⊎ IsLast true past.starts s.controller.last → IsWritten plan s.log s.steps r.key r.num r.body
      go (inl e) = absurd (subst (λ (v : SnapshotView). Among r (view_records v.views)) e a)
      go (inr l) = h.starts l.start l.of.there r (subst (λ views. Among r (view_records views)) (l.views refl) a)

  pub round_need : RoundNeeds plan (written_in plan) s
  round_need = record { last = last_written; told = λ m a. told m.packet (h.stops.carries m a) }
    where
      item_is : (round caller total : ℕ) (item : Option Record) → Carried (IsGenuine plan s) (Told round caller total item) → ItemIsWritten plan (written_in plan) s item
      item_is round caller total None c = tt
      item_is round caller total (Some r) c = c.1

      told : (p : Packet) → Carried (IsGenuine plan s) p → ToldIsWritten plan (written_in plan) s p
      told (Told round caller total item) c = item_is round caller total item c
      told _ c = tt

  pub keys_need : PacketsAreOnKey plan s
  keys_need = keys_met plan s h.keeps

  -- ---- records

  pub slot_written : (i : ℕ) (r : Record) → held_record (slot_at s.switch i) ≡ Some r → IsWritten plan s.log s.steps r.key r.num r.body
  slot_written i r e = by_running s.running refl (IsWritten plan s.log s.steps r.key r.num r.body) runs off
    where
      its : IsHeld (slot_at s.switch i) r
      its = held_is (slot_at s.switch i) r e

      is_valid : (b : Bool) → (slot_at s.switch i).valid ≡ b → (slot_at s.switch i).valid ≡ true
      is_valid true q = q
      is_valid false q = absurd (let off = h.snapshots.switch.bare i q in let l = its.latest in let clash : true ≡ false = sym l ∙ off in cc)

      runs : s.running ≡ true → IsWritten plan s.log s.steps r.key r.num r.body
      runs on =
          let place = h.seated.slots.owned i r.key (is_valid (slot_at s.switch i).valid refl) its.key in
          let w = (h.keeps.slots r.key (slot_at s.switch i) (ap (slot_if s.switch) place)).written its.latest in
          subst (λ n. IsWritten plan s.log s.steps r.key n r.body) its.num (subst (λ b. IsWritten plan s.log s.steps r.key (slot_at s.switch i).num b) its.body w)

      off : s.running ≡ false → IsWritten plan s.log s.steps r.key r.num r.body
      off e' = absurd (let l = ap (λ (w : SlotView). w.latest) (empty_slots e' i) in let k = its.latest in let clash : true ≡ false = sym k ∙ l in cc)

  pub written_counted : s.running ≡ true → (key : List ℕ) (num : ℕ) (body : Option (List ℕ)) → IsWritten plan s.log s.steps key num body → num ≤ s.switch.counter
  written_counted runs key zero body w = omega arith
  written_counted runs key (suc n) body w = let k = w.some (omega arith) in h.stops.differ.counted runs k.own.numbered_at k.op (suc n) k.own.numbered

  pub servers_written : (n : ℕ) (r : Record) → Among r (records_at s n) → IsWritten plan s.log s.steps r.key r.num r.body
  servers_written n r a =
      let is = h.stops.servers n in
      let here : found (records_at s n) r.key ≡ look plan s r.key = ap (λ m. found (records_at s m) r.key) (sym (is.own r a)) in
      let same = sym here ∙ found_member r (records_at s n) is.apart a in
      subst (λ (w : Versioned). IsWritten plan s.log s.steps r.key w.num w.body) same (h.keeps.records r.key)

  -- ---- what packets of operations rely on

  read_unnumbered : (op : ℕ) → is_read (line_of plan.ops op).op ≡ true → (at num : ℕ) → Among (line_at at (Numbered op num)) s.log → ⊥
  read_unnumbered op read at num a = let w = (h.keeps.lines _ a).stands.write in let clash : true ≡ false = sym read ∙ w in cc

  asked : (p : Packet) → Relies plan s p → IsAskedWell plan s p
  asked (GetReq caller op key) r = read_unnumbered op r.read
  asked (WriteReq caller op key body) r = (r.serves.on_key, λ at num a. r.unnumbered _ a refl, λ at num shown near a. r.unemitted _ a refl)
  asked (WriteFwd caller op key num body) r = r.serves.on_key
  asked (WriteAns caller op key num flag) r = r.serves.on_key
  asked _ r = tt

  unnumbered_read : (p : Packet) → Relies plan s p → IsUnnumberedRead s p
  unnumbered_read (GetReq caller op key) r = read_unnumbered op r.read
  unnumbered_read _ r = tt

  shown : (p : Packet) → EvictionPacketIs plan (written_in plan) s p → PacketIsKnown plan s p → ShowsGenuine plan s p
  shown (PeekAns i tag latest num body) v k = λ e is w l. ((k e is), subst (λ (x : Eviction). IsWritten plan s.log s.steps x.key num body) (same_Some _ e (sym v.awaits.is ∙ is)) (v.written l))
  shown (RemoveAns i tag done latest num body) v k = λ e is w d. ((k e is), subst (λ (x : Eviction). IsWritten plan s.log s.steps x.key num body) (same_Some _ e (sym v.awaits.is ∙ is)) (v.written d))
  shown _ v k = tt

  -- ---- snapshots

  safe : (key : List ℕ) (num : ℕ) → IsAbsorbed plan s.log key num → num ≤ s.controller.last.point → IsSafe plan s key num
  safe key num a b = go ((h.snapshots.covers refl).last key num a b)
    where
      go : IsAtServer plan s key num ⊎ IsInViews s.controller.last.views key num → IsSafe plan s key num
      go (inl x) = inl x
      go (inr x) = inr (views_cover s.controller.last.views key num x)

  releases : (p : Packet) → PacketStands true s.running (Rattle.far_invariants.specs.Snapshots.gathering s.controller) past.starts p → IsReleasedSafely plan s p
  releases (Release point) k = λ key num a b. safe key num a (le_trans b (k refl))
  releases _ k = tt

  owed_with : ((m : Message) → Among m s.bag → CompletesSafely plan s m.packet) → Owed plan s
  owed_with completes = record {
    asked = λ m a. asked m.packet (h.keeps.relies m a);
    written_at_servers = servers_written;
    shown = λ m a. shown m.packet (h.evictions.packets m a) (h.known.packets m a);
    known_answers = λ at op num body near a. h.known.lines at op num body near a;
    snapshot = λ r a. ((h.known.last r a), last_written r a);
    released = λ c key num a b. safe key num a (le_trans b ((h.snapshots.clients c).released refl));
    releases = λ m a. releases m.packet (h.snapshots.packets m a);
    completes = completes;
  }

  stops_need_with : ((m : Message) → Among m s.bag → CompletesSafely plan s m.packet) → StopNeeds plan s
  stops_need_with completes = record {
    some_client = valid.config.clients.0;
    some_server = h.keeps.some_server;
    routed = h.flight.routed;
    one = h.flight.one;
    owed = owed_with completes;
  }

  -- without a job none is completed
  none_completes : s.controller.job ≡ None → (p : Packet) → CompletesSafely plan s p
  none_completes none (SnapBegun id point) = λ job e. absurd (let clash : None ≡ Some job = sym (ap (begun_job id point) none) ∙ e in cc)
  none_completes none (SnapPart id i view) = λ job e. absurd (let clash : None ≡ Some job = sym (ap (part_job id i view) none) ∙ e in cc)
  none_completes none (SnapSame id i) = λ job e. absurd (let clash : None ≡ Some job = sym (ap (same_job s.controller.last id i) none) ∙ e in cc)
  none_completes none _ = λ job e. absurd cc

  pub own_counted : (counter : ℕ) → ready s.controller ≡ Some counter → (at op num : ℕ) → Among (line_at at (Numbered op num)) s.log → num ≤ counter
  own_counted counter e at op num a = go s.controller.round refl
    where
      able : is_enabled plan s Restart ≡ true
      able = ap is_some e

      go : (o : Option Round) → s.controller.round ≡ o → num ≤ counter
      go None is = absurd (let clash : None ≡ Some counter = sym (ap Rattle.far_model.specs.Controller.ready_in is) ∙ e in cc)
      go (Some r) is =
          let none = (h.stops.round r is).goes.no_job in
          let restored = restart_restores plan (recovered_last past) s h.stops (stops_need_with (λ m a. none_completes none m.packet)) able in
          subst (λ (t : State). num ≤ t.switch.counter) (ap (restarts plan (keeping_of s Restart) s) e) (restored.own at op num a)

  snapshots_need : SnapshotNeeds true plan s
  snapshots_need = record {
    agree = λ t i j r q a b same num. written_agree plan s s.steps s.steps r q h.stops.differ (slot_written i r a) (last_written q (in_records s.controller.last.views j q b)) num;
    within = λ t runs i r a. written_counted runs r.key r.num r.body (slot_written i r a);
    drawn = λ t runs. h.counters.counter runs;
    reads = λ t m a. unnumbered_read m.packet (h.keeps.relies m a);
    cached = λ t runs key num a. swap key num (absorbed_is_cached plan s h.keeps runs key num a);
    slots = h.sound.sized.states;
    rounds = λ busy. let r = some_round s.controller.round busy in (h.stops.round r.0 r.1).goes.no_job;
    tops = λ t counter e at op num a. own_counted counter e at op num a;
  }
    where
      swap : (key : List ℕ) (num : ℕ) → IsInSlot s key num ⊎ IsAtServer plan s key num → IsAtServer plan s key num ⊎ IsInSlot s key num
      swap key num (inl a) = inr a
      swap key num (inr b) = inl b

  -- ---- a snapshot that is completed covers what the last one did

  whole_last : (c : ControllerState) (b : Bool) (x job : Job) (out : List Out) → (if b then Some x else None) ≡ Some job → is_whole job ≡ true → (if b then job_turn plan.config c x out else idle c).state.last ≡ completed job
  whole_last c false x job out e w = absurd cc
  whole_last c true x job out e w =
      let same = same_Some x job e in
      ap (λ (t : Turn ControllerState). t.state.last) (ap (λ k. if k then completes plan.config c (completed x) x.sames else record { state = record c { job = Some x }; out = out; notes = [] }) (ap is_whole same ∙ w)) ∙ ap completed same

  begun_last : (c : ControllerState) (id point : ℕ) (o : Option Job) (job : Job) → begun_job id point o ≡ Some job → is_whole job ≡ true → (snapshot_begun plan.config c id point o).state.last ≡ completed job
  begun_last c id point None job e w = absurd cc
  begun_last c id point (Some x) job e w = whole_last c (nat_eq x.id id && not (has_begun x)) (record x { begun = Some point }) job (part_reads c.epoch id 0 x.parts) e w

  part_last : (c : ControllerState) (id i : ℕ) (view : Option Record) (o : Option Job) (job : Job) → part_job id i view o ≡ Some job → is_whole job ≡ true → (part_came plan.config c id i view o).state.last ≡ completed job
  part_last c id i view None job e w = absurd cc
  part_last c id i view (Some x) job e w = whole_last c (nat_eq x.id id && (nat_lt i (length x.parts) && not (has_part x i))) (with_part x i view) job [] e w

  same_view_last : (c : ControllerState) (id i : ℕ) (x : Job) (o : Option (Option Record)) (job : Job) → same_view_job id i x o ≡ Some job → is_whole job ≡ true → (same_part plan.config c id i x o).state.last ≡ completed job
  same_view_last c id i x None job e w = absurd cc
  same_view_last c id i x (Some view) job e w = whole_last c (nat_eq x.id id && (nat_lt i (length x.parts) && not (has_part x i))) (with_same x i view) job [] e w

  same_last : (c : ControllerState) (id i : ℕ) (o : Option Job) (job : Job) → same_job c.last id i o ≡ Some job → is_whole job ≡ true → (same_came plan.config c id i o).state.last ≡ completed job
  same_last c id i None job e w = absurd cc
  same_last c id i (Some x) job e w = same_view_last c id i x (slice_get c.last.views i) job e w

  next_last : (c : ControllerState) (p : Packet) (job : Job) → next_job c p ≡ Some job → is_whole job ≡ true → (controller_takes plan.config c p).state.last ≡ completed job
  next_last c (SnapBegun id point) job e w = begun_last c id point c.job job e w
  next_last c (SnapPart id i view) job e w = part_last c id i view c.job job e w
  next_last c (SnapSame id i) job e w = same_last c id i c.job job e w
  next_last c _ job e w = absurd cc

  -- such a packet goes to the controller
  is_for_controller : (p : Packet) (job : Job) → next_job s.controller p ≡ Some job → (to : Rattle.far_base.specs.declared.party.Party.Party) → Rattle.far_invariants.specs.Flights.IsFor plan.config p to → to ≡ Controller
  is_for_controller (SnapBegun id point) job e to goes = goes
  is_for_controller (SnapPart id i view) job e to goes = goes
  is_for_controller (SnapSame id i) job e to goes = goes
  is_for_controller _ job e to goes = absurd cc

  completes_safely : (m : Message) → Among m s.bag → CompletesSafely plan s m.packet
  completes_safely m a job e w key num absorbed there =
      let place = place_of m s.bag a in
      let goes = is_for_controller m.packet job e m.to (h.flight.routed.messages m a).target in
      at place.0 place.1 goes
    where
      at : (i : ℕ) → slice_get s.bag i ≡ Some m → m.to ≡ Controller → IsAtServer plan s key num ⊎ Covers (view_records (completed job).views) key num
      at i is goes = out (subst (λ (t : State). IsAtServer plan t key num ⊎ IsInSnapshot t key num) happened (event_covers plan s past (Deliver i) h.snapshots snapshots_need able key num absorbed there))
        where
          any : (b : Bool) → (b || true) ≡ true
          any true = refl
          any false = refl

          able : is_enabled plan s (Deliver i) ≡ true
          able = ap (can_deliver_some s.running) is ∙ ap (λ to. s.running || not (is_switch to)) goes ∙ any s.running

          happened : happens plan s (Deliver i) ≡ controller_turn s (Rattle.std.specs.List.remove s.bag i) (controller_takes plan.config s.controller m.packet)
          happened = ap (λ o. delivers plan (record { reply = reply_to s o; records = all_listed s.servers }) s i o) is
              ∙ ap (λ to. handled plan (record { reply = reply_at s to m.packet; records = all_listed s.servers }) s (Rattle.std.specs.List.remove s.bag i) to m.packet) goes

          out : IsAtServer plan (controller_turn s (Rattle.std.specs.List.remove s.bag i) (controller_takes plan.config s.controller m.packet)) key num ⊎ IsInSnapshot (controller_turn s (Rattle.std.specs.List.remove s.bag i) (controller_takes plan.config s.controller m.packet)) key num → IsAtServer plan s key num ⊎ Covers (view_records (completed job).views) key num
          out (inl x) = inl x
          out (inr x) = inr (subst (λ (v : SnapshotView). Covers (view_records v.views) key num) (next_last s.controller m.packet job e w) x)

  pub stops_need : StopNeeds plan s
  stops_need = stops_need_with completes_safely

  pub snapshots_needed : SnapshotNeeds true plan s
  snapshots_needed = snapshots_need

  -- ---- numbers, slots and evictions

  pub numbers : Numbers plan s
  numbers = record { keeps = h.keeps; seated = h.seated }

  pub seats_need : SeatNeeds plan s
  seats_need = numbers_need plan (recovered_last past) s h.stops stops_need h.evictions

  pub evictions_need : EvictionNeeds plan (written_in plan) s
  evictions_need = needed_of_slots plan s numbers seats_need

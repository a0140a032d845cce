-- Records everywhere were written: what follows from numbers, stops, evictions and snapshots together.
use Rattle.far_invariants.specs.Numbers.{slot_if, IsWritten, CarriesWritten}
use Rattle.far_invariants.specs.Covers.{look}
use Rattle.far_invariants.specs.Holds.{Numbers}
use Rattle.far_base.specs.declared.record.Versioned.{Versioned}
use Rattle.std.proofs.Common.{◌≡◌, ℕ, ◌⊎◌, inl, inr, Bool, true, false, List, refl, sym, ap, ◌∙◌, subst, arith}
use Rattle.std.specs.Prelude.{Option, Some, None, if◌then◌else◌}
use Rattle.std.proofs.lemmas.Option.{same_Some}
use Rattle.far_base.specs.PlanView.{PlanView}
use Rattle.far_base.specs.declared.packet.Packet.{Packet}
use Rattle.far_base.specs.declared.packet.Packet.TheVariants.{WriteFwd, GetRep, WriteRep, GetAns, WriteAns, PeekAns, RemoveAns, SnapPart, Store, Told}
use Rattle.far_base.specs.declared.record.Record.{Record}
use Rattle.far_model.specs.Clients.{answered_record}
use Rattle.far_model.specs.Evictions.{Eviction}
use Rattle.far_invariants.specs.Flights.{OneFlightPerOperation}
use Rattle.far_model.specs.KeyedRecords.{found}
use Rattle.far_model.specs.Members.{Among}
use Rattle.far_invariants.specs.Past.{SnapshotStart}
use Rattle.far_model.specs.Snapshots.{SnapshotView, no_snapshot, view_records}
use Rattle.far_model.specs.State.{State, records_at}
use Rattle.far_model.specs.View.{SlotView, held_record, slot_at, keyed_record}
use Rattle.record_laws.proofs.Meanings.{numbers_sound}
use Rattle.far_invariants.specs.Evictions.{EvictionPacketIs, EvictionsAreSound, written_in}
use Rattle.far_invariants.specs.StopNeeds.{IsGenuine}
use Rattle.far_invariants.specs.Stops.{Carried, IsKeptAnswer, IsTakenUp, Stops}
use Rattle.far_invariants.proofs.Records.{found_member}
use Rattle.recovery_laws.proofs.Steps.{client_genuine}
use Rattle.far_invariants.specs.Snapshots.{HadView, IsLast, PacketStands, SnapshotsStand, gathering}
use Rattle.flight_laws.proofs.SnapMeanings.{in_records}
use Rattle.far_invariants.specs.Records.{AnswerIsWritten, IsRecord, ItemIs, PacketIsWritten, RecordsEverywhere, Shown, StartsAreWritten, ViewIsRecord}

-- ---- what a slot holds

record IsHeld (slot : SlotView) (r : Record) : Type 0 where
  latest : slot.latest ≡ true
  key : slot.key ≡ Some r.key
  num : slot.num ≡ r.num
  body : slot.body ≡ r.body

held_is : (slot : SlotView) (r : Record) → held_record slot ≡ Some r → IsHeld slot r
held_is slot r h = go slot.latest refl h
  where
    on : (k : Option (List ℕ)) → slot.key ≡ k → slot.latest ≡ true → keyed_record k slot.num slot.body ≡ Some r → IsHeld slot r
    on None k l q = absurd cc
    on (Some key) k l q =
        let same = same_Some (record { key = key; num = slot.num; body = slot.body }) r q in
        record { latest = l; key = k ∙ ap (λ (x : Record). Some x.key) same; num = ap (λ (x : Record). x.num) same; body = ap (λ (x : Record). x.body) same }

    go : (b : Bool) → slot.latest ≡ b → (if b then keyed_record slot.key slot.num slot.body else None) ≡ Some r → IsHeld slot r
    go true l q = on slot.key refl l q
    go false l q = absurd cc

module _ (plan : PlanView) (kept : List Record) (starts : List SnapshotStart) (s : State) (n : Numbers plan s) (shown : Shown plan s) (one : OneFlightPerOperation s)
    (stops : Stops plan kept s) (evictions : EvictionsAreSound plan s) (snapshots : SnapshotsStand true plan s starts) (begun : StartsAreWritten plan s starts) where
  pub slot_written : (i : ℕ) (r : Record) → held_record (slot_at s.switch i) ≡ Some r → IsRecord plan s r
  slot_written i r e =
      let its = held_is (slot_at s.switch i) r e in
      let place = n.seated.slots.owned i r.key (is_valid (slot_at s.switch i).valid refl its.latest) its.key in
      let w = (n.keeps.slots r.key (slot_at s.switch i) (ap (slot_if s.switch) place)).written its.latest in
      subst (λ m. IsWritten plan s.log s.steps r.key m r.body) its.num (subst (λ b. IsWritten plan s.log s.steps r.key (slot_at s.switch i).num b) its.body w)
    where
      is_valid : (b : Bool) → (slot_at s.switch i).valid ≡ b → (slot_at s.switch i).latest ≡ true → (slot_at s.switch i).valid ≡ true
      is_valid true q l = q
      is_valid false q l = absurd (let off = snapshots.switch.bare i q in let clash : true ≡ false = sym l ∙ off in cc)

  server_written : (m : ℕ) (r : Record) → Among r (records_at s m) → IsRecord plan s r
  server_written m r a =
      let is = stops.servers m in
      let here : found (records_at s m) r.key ≡ look plan s r.key = ap (λ j. found (records_at s j) r.key) (sym (is.own r a)) in
      let same = sym here ∙ found_member r (records_at s m) is.apart a in
      subst (λ (w : Versioned). IsWritten plan s.log s.steps r.key w.num w.body) same (n.keeps.records r.key)

  had_written : (id i : ℕ) (view : Option Record) → HadView true starts id i view → ViewIsRecord plan s view
  had_written id i None h = tt
  had_written id i (Some r) h = begun h.start h.of.there r (in_records h.start.views i r (h.view_is refl))

  last_written : (r : Record) → Among r (view_records s.controller.last.views) → IsRecord plan s r
  last_written r a = go snapshots.gathered.last
    where
      go : (s.controller.last ≡ no_snapshot) ⊎ IsLast true starts s.controller.last → IsRecord plan s r
      go (inl e) = absurd (subst (λ (v : SnapshotView). Among r (view_records v.views)) e a)
      go (inr l) = begun l.start l.of.there r (subst (λ views. Among r (view_records views)) (l.views refl) a)

  taken_written : (op num : ℕ) → IsTakenUp s op num → IsRecord plan s (answered_record plan.ops op num)
  taken_written op num t = record {
    none = λ z. absurd (let b = (n.keeps.lines _ t.numbered).stands.above in omega (arith, b, z));
    some = λ above. record { op = op; own = record { numbered_at = t.numbered_at; numbered = t.numbered; before = (n.keeps.lines _ t.numbered).passed }; on_key = refl; same_body = refl };
  }

  told_written : (round caller total : ℕ) (item : Option Record) → Carried (IsGenuine plan s) (Told round caller total item) → ViewIsRecord plan s item
  told_written round caller total None c = tt
  told_written round caller total (Some r) c = c.1

  packet_written : (p : Packet) → CarriesWritten plan s p → AnswerIsWritten plan s p → IsKeptAnswer s p → EvictionPacketIs plan (written_in plan) s p → Carried (IsGenuine plan s) p → PacketStands true s.running (gathering s.controller) starts p → PacketIsWritten plan s p
  packet_written (WriteFwd caller op key num body) c a w e g q = c
  packet_written (GetRep caller op key tag num body) c a w e g q = c
  packet_written (WriteRep caller op key num body) c a w e g q = c
  packet_written (GetAns caller op key num body near) c a w e g q = a
  packet_written (WriteAns caller op key num kept) c a w e g q = λ k. taken_written op num (w k)
  packet_written (PeekAns i tag latest num body) c a w e g q = λ x is l. subst (λ (y : Eviction). IsWritten plan s.log s.steps y.key num body) (same_Some e.awaits.eviction x (sym e.awaits.is ∙ is)) (e.written l)
  packet_written (RemoveAns i tag done latest num body) c a w e g q = λ x is d. subst (λ (y : Eviction). IsWritten plan s.log s.steps y.key num body) (same_Some e.awaits.eviction x (sym e.awaits.is ∙ is)) (either d)
    where
      either : (done ≡ false) ⊎ (latest ≡ true) → IsWritten plan s.log s.steps e.awaits.eviction.key num body
      either (inl off) = e.written off
      either (inr on) = e.shown on
  packet_written (SnapPart id i view) c a w e g q = had_written id i view q
  packet_written (Store job item) c a w e g q = e.written
  packet_written (Told round caller total item) c a w e g q = told_written round caller total item g
  packet_written _ c a w e g q = tt

  pub records_everywhere : RecordsEverywhere plan s
  records_everywhere = record {
    servers = server_written;
    slots = slot_written;
    packets = λ m a. packet_written m.packet ((numbers_sound plan s n.keeps one).written.packets m a) (shown.answers m a) (stops.answers m a) (evictions.packets m a) (stops.carries m a) (snapshots.packets m a);
    preserved = λ c r a. (client_genuine plan kept s stops c r a).1;
    last = last_written;
    parts = λ job is i view at. had_written job.id i view ((snapshots.gathered.job job is).parts i view at);
    item = λ e is. subst (ItemIs (IsRecord plan s)) is shown.item;
  }

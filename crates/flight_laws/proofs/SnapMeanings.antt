-- What the invariants say of parts, marks, covers and completed snapshots.
use Rattle.std.proofs.Common.{◌≡◌, ℕ, zero, suc, ◌<◌, ◌≤◌, ◌⊎◌, inl, inr, true, false, List, [], ◌∷◌, refl, sym, ap, ◌∙◌, subst, arith, eqb-true}
use Rattle.std.specs.Prelude.{Option, Some, None}
use Rattle.far_base.specs.PlanView.{PlanView}
use Rattle.far_base.specs.declared.packet.Message.{Message}
use Rattle.far_base.specs.declared.packet.Packet.{Packet}
use Rattle.far_base.specs.declared.packet.Packet.TheVariants.{SnapPart, Release, SnapSame}
use Rattle.far_base.specs.declared.record.Record.{Record}
use Rattle.far_invariants.specs.Covers.{IsAtServer, Covers, IsAbsorbed}
use Rattle.far_model.specs.Members.{Among}
use Rattle.far_invariants.specs.Past.{SnapshotStart}
use Rattle.far_model.specs.Snapshots.{SnapshotView, no_snapshot, view_records}
use Rattle.far_model.specs.State.{State}
use Rattle.far_model.specs.View.{mark_of, taken_at, shown_at}
use Rattle.far_invariants.specs.SnapshotLaws.{PartsAreStarts, MarksMatch, StartCoversPoint, ReleasedIsCovered, PreservedIsAbove, CompletionIsSafe}
use Rattle.far_invariants.specs.Snapshots.{view_at, IsInViews, IsStartOf, HadView, gathering, part_at, IsLast, BaseIs, PacketStands, PartIsTaken, SnapshotsStand}
use Rattle.flight_laws.proofs.SnapFrame.{one_start, points_rise}

-- ---- views as records

pub in_records : (views : List (Option Record)) (i : ℕ) (r : Record) → view_at views i ≡ Some r → Among r (view_records views)
in_records [] i r h = absurd cc
in_records (None ∷ views) zero r h = absurd cc
in_records (None ∷ views) (suc i) r h = in_records views i r h
in_records (Some item ∷ views) zero r h = inl (sym (Rattle.std.proofs.lemmas.Option.same_Some item r h))
in_records (Some item ∷ views) (suc i) r h = inr (in_records views i r h)

pub record_at : (views : List (Option Record)) (r : Record) → Among r (view_records views) → (i : ℕ) × (view_at views i ≡ Some r)
record_at [] r a = absurd a
record_at (None ∷ views) r a = let p = record_at views r a in (suc p.0, p.1)
record_at (Some item ∷ views) r (inl e) = (0, ap Some (sym e))
record_at (Some item ∷ views) r (inr a) = let p = record_at views r a in (suc p.0, p.1)

pub views_cover : (views : List (Option Record)) (key : List ℕ) (num : ℕ) → IsInViews views key num → Covers (view_records views) key num
views_cover views key num c = record { item = c.item; there = in_records views c.slot c.item c.holds; on_key = c.on_key; above = c.above }

either_cover : (plan : PlanView) (s : State) (views : List (Option Record)) (key : List ℕ) (num : ℕ) → IsAtServer plan s key num ⊎ IsInViews views key num → IsAtServer plan s key num ⊎ Covers (view_records views) key num
either_cover plan s views key num (inl c) = inl c
either_cover plan s views key num (inr c) = inr (views_cover views key num c)

-- ---- parts and marks

module _ (plan : PlanView) (s : State) (starts : List SnapshotStart) (h : SnapshotsStand true plan s starts) where
  had_is : (id i : ℕ) (view : Option Record) (start : SnapshotStart) → HadView true starts id i view → IsStartOf starts id start → view ≡ view_at start.views i
  had_is id i view start had of = sym (had.view_is refl) ∙ ap (λ (x : SnapshotStart). view_at x.views i) (one_start true starts id had.start start h.rise.order had.of of)

  packet_of : (m : Message) (p : Packet) → Among m s.bag → m.packet ≡ p → PacketStands true s.running (gathering s.controller) starts p
  packet_of m p a e = subst (PacketStands true s.running (gathering s.controller) starts) e (h.packets m a)

  pub parts_are_starts : PartsAreStarts plan s starts
  parts_are_starts = record {
    slots = λ up j start is of i. let r = (h.in_step up).runs j is start of in record {
      kept = λ u. h.switch.left start (record { there = of.there; is = of.is ∙ sym r.snap }) i u;
      no_part = λ u. none (part_at j i) (λ view has. let yes = r.parts i view has in let clash : true ≡ false = sym yes ∙ u in absurd cc);
      none_flies = λ u m view a e. let yes : PartIsTaken s.switch (SnapPart j.id i view) = subst (PartIsTaken s.switch) e (h.parts up m a) in let clash : true ≡ false = sym (yes (sym r.snap)) ∙ u in absurd cc;
      no_same_flies = λ u m a e. let yes : PartIsTaken s.switch (SnapSame j.id i) = subst (PartIsTaken s.switch) e (h.parts up m a) in let clash : true ≡ false = sym (yes (sym r.snap)) ∙ u in absurd cc;
      marked = λ t. h.switch.marks start i (record { there = of.there; is = of.is ∙ sym r.snap ∙ sym (eqb-true _ _ t) });
    };
    held = λ j start i view is of has. had_is j.id i view start ((h.gathered.job j is).parts i view has) of;
    flying = λ m id i view start a e of. had_is id i view start (packet_of m (SnapPart id i view) a e) of;
    same = λ m i j start a is e of. let k : PacketStands true s.running (gathering s.controller) starts (SnapSame j.id i) = packet_of m (SnapSame j.id i) a e in had_is j.id i (view_at s.controller.last.views i) start (k.1 j is refl).1 of;
  }
    where
      none : (o : Option (Option Record)) → ((view : Option Record) → o ≡ Some view → ⊥) → o ≡ None
      none None no_view = refl
      none (Some view) no_view = absurd (no_view view refl)

  pub marks_match : MarksMatch plan s starts
  marks_match = record {
    marks = λ some i e. last some i e h.gathered.last;
    base = λ up j start is of by. let d = subst (BaseIs plan s.switch (gathering s.controller)) by ((h.in_step up).runs j is start of).base in
        record { some = d.some; last = d.base; present = d.present; untaken = λ i within u. d.untaken i within u ∙ sym d.base };
    no_base = λ up j start is of by. subst (BaseIs plan s.switch (gathering s.controller)) by ((h.in_step up).runs j is start of).base;
    settled = λ up some present settled. ((h.in_step up).settled some present settled).taken;
  }
    where
      last : 0 < s.controller.last.id → (i : ℕ) → taken_at s.switch i ≡ s.controller.last.id → (s.controller.last ≡ no_snapshot) ⊎ IsLast true starts s.controller.last → shown_at s.switch i ≡ mark_of (view_at s.controller.last.views i)
      last some i e (inl none) = absurd (let z : s.controller.last.id ≡ 0 = ap (λ (w : SnapshotView). w.id) none in omega (arith, z, some))
      last some i e (inr l) = h.switch.marks l.start i (record { there = l.of.there; is = l.of.is ∙ sym e }) ∙ ap (λ views. mark_of (view_at views i)) (sym (l.views refl))

  pub start_covers : StartCoversPoint plan s starts
  start_covers j start is of key num a le = either_cover plan s start.views key num ((h.covers refl).job j is start of key num a le)

  pub released_covered : ReleasedIsCovered plan s starts
  released_covered = record {
    clients = λ c. (h.clients c).released refl;
    flying = λ m point a e. packet_of m (Release point) a e refl;
    covered = λ key num a le. either_cover plan s s.controller.last.views key num ((h.covers refl).last key num a le);
    rise = λ id other x y of by less. points_rise refl starts id other x y h.rise.order of by less;
    numbers = λ r a. let p = record_at s.controller.last.views r a in below p.0 r p.1 h.gathered.last;
  }
    where
      below : (i : ℕ) (r : Record) → view_at s.controller.last.views i ≡ Some r → (s.controller.last ≡ no_snapshot) ⊎ IsLast true starts s.controller.last → r.num ≤ s.controller.last.point
      below i r e (inl none) = absurd (let clash : None ≡ Some r = ap (λ (w : SnapshotView). view_at w.views i) (sym none) ∙ e in cc)
      below i r e (inr l) = let n = h.rise.numbers refl l.start l.of.there i r (ap (λ views. view_at views i) (sym (l.views refl)) ∙ e) in let p = l.point in omega (arith, n, p)

  pub preserved_above : PreservedIsAbove s
  preserved_above c = (h.clients c).preserved

-- a snapshot that is completed covers what the one before covered
pub completion_safe : (plan : PlanView) (s t : State) (starts more : List SnapshotStart) → SnapshotsStand true plan s starts → SnapshotsStand true plan t more
    → ((key : List ℕ) (num : ℕ) → IsAbsorbed plan s.log key num → IsAbsorbed plan t.log key num) → s.controller.last.point ≤ t.controller.last.point → CompletionIsSafe plan s t
completion_safe plan s t starts more h k grow rises key num a c =
    let below = (released_covered plan s starts h).numbers c.item c.there in
    (released_covered plan t more k).covered key num (grow key num a) (let above = c.above in omega (arith, below, above, rises))

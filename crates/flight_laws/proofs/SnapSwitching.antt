-- Passes of the switch but those that start a snapshot.
use Rattle.std.proofs.Common.{◌≡◌, ◌≢◌, ℕ, ◌<◌, ◌≤◌, ◌⊎◌, inl, inr, Bool, true, false, List, [], ◌∷◌, ◌++◌, refl, sym, ap, ◌∙◌, subst, arith, le_trans, ltb-true, eqb-true, eq-eqb}
use Rattle.std.specs.Prelude.{Option, Some, None, if◌then◌else◌, ◌&&◌, not, nat_eq, nat_lt}
use Rattle.std.proofs.lemmas.List.{length-set, get_or-set_same, get_or-set_other}
use Rattle.std.proofs.lemmas.Bool.Decides.{eqb_tells}
use Rattle.far_base.specs.PlanView.{PlanView}
use Rattle.far_base.specs.declared.packet.Message.{Message}
use Rattle.far_base.specs.declared.packet.Out.{Out}
use Rattle.far_base.specs.declared.packet.Packet.{Packet}
use Rattle.far_base.specs.declared.packet.Packet.TheVariants.{SnapPart, SnapSame}
use Rattle.far_base.specs.declared.party.Party.TheVariants.{Switch, Controller}
use Rattle.far_base.specs.declared.record.Record.{Record}
use Rattle.far_model.specs.Events.{switch_turn}
use Rattle.far_model.specs.Members.{Among, Each}
use Rattle.far_model.specs.Parties.{messages_from, to_party}
use Rattle.far_model.specs.Pass.{Passed, passed_out, pass_notes, part_packet, is_as_before}
use Rattle.far_invariants.specs.Past.{SnapshotStart}
use Rattle.far_model.specs.Snapshots.{Job, SnapshotView, no_snapshot}
use Rattle.far_model.specs.State.{State}
use Rattle.far_model.specs.View.{SlotView, SwitchView, HotCell, slot_at, held_record, mark_of, same_mark, taken_at, shown_at, is_taken}
use Rattle.far_model.proofs.Members.{among_append}
use Rattle.far_invariants.specs.SnapshotNeeds.{Needs}
use Rattle.far_invariants.specs.Snapshots.{view_at, IsStartOf, WasStarted, HadView, Gathering, gathering, IsLast, GatheringStands, SwitchStands, BaseIs, InStep, IsSameView, PacketStands, PartIsTaken, is_start_in, SnapshotsStand}
use Rattle.flight_laws.proofs.SnapBasics.{both, by_test, by_case, same_place, set_cases, same_records}
use Rattle.flight_laws.proofs.SnapFrame.{is_foreign, IsForeignOut, foreign_stands, foreign_part, foreign_start, IsRest, sent_is, news_in, count_in, foreign_count, IsFreshNote, absorbs_fresh, noted_more, covers_last}
use Rattle.flight_laws.proofs.SnapPasses.{moved, parted, IsStill, PartLeaves, PassIs, Stays, Parts, each_append}

-- ---- a pass in which no part leaves

stay_switch : (plan : PlanView) (v : SwitchView) (starts : List SnapshotStart) (bound : List (Option (List ℕ))) (slots : List SlotView) (hot : List HotCell) (n : ℕ)
    → IsStill v slots n → SwitchStands plan v starts → SwitchStands plan (moved v bound slots hot n) starts
stay_switch plan v starts bound slots hot n st k = record {
  config = k.config;
  slots = st.same ∙ k.slots;
  taken = k.taken;
  shown = k.shown;
  bare = st.bare;
  within = k.within;
  started = k.started;
  left = λ start of i u. st.left i u ∙ k.left start of i u;
  marks = k.marks;
}

module _ {tells : Bool} where
  stay_step : (plan : PlanView) (v : SwitchView) (g : Gathering) (starts : List SnapshotStart) (bound : List (Option (List ℕ))) (slots : List SlotView) (hot : List HotCell) (n : ℕ)
      → v.counter ≤ n → InStep tells plan v g starts → InStep tells plan (moved v bound slots hot n) g starts
  stay_step plan v g starts bound slots hot n more k = record {
    epoch = k.epoch;
    counted = λ told start a. le_trans (k.counted told start a) more;
    runs = λ j is start of. let r = k.runs j is start of in record { snap = r.snap; base = base start.by_difference r.base; parts = r.parts };
    settled = λ some present settled. let r = k.settled some present settled in record { snap = r.snap; taken = r.taken };
  }
    where
      base : (b : Bool) → BaseIs plan v g b → BaseIs plan (moved v bound slots hot n) g b
      base false e = e
      base true d = record { some = d.some; base = d.base; present = d.present; untaken = d.untaken }

-- ---- a pass in which a part leaves

module _ (plan : PlanView) (v : SwitchView) (starts : List SnapshotStart) (k : SwitchStands plan v starts) (i : ℕ) (bound : List (Option (List ℕ))) (slots : List SlotView) (hot : List HotCell) (n : ℕ) (l : PartLeaves v i slots n) where
  its_taken : taken_at (parted v i bound slots hot n) i ≡ v.snap
  its_taken = get_or-set_same v.taken i v.snap 0 (let w = l.within in let a = k.slots in let b = k.taken in omega (arith, w, a, b))

  other_taken : (j : ℕ) → j ≢ i → taken_at (parted v i bound slots hot n) j ≡ taken_at v j
  other_taken j ne = get_or-set_other v.taken i j v.snap 0 ne

  its_shown : shown_at (parted v i bound slots hot n) i ≡ mark_of (held_record (slot_at v i))
  its_shown = get_or-set_same v.shown i (mark_of (held_record (slot_at v i))) None (let w = l.within in let a = k.slots in let b = k.shown in omega (arith, w, a, b))

  other_shown : (j : ℕ) → j ≢ i → shown_at (parted v i bound slots hot n) j ≡ shown_at v j
  other_shown j ne = get_or-set_other v.shown i j (mark_of (held_record (slot_at v i))) None ne

  pub now_taken : is_taken (parted v i bound slots hot n) i ≡ true
  now_taken = eq-eqb _ _ its_taken

  pub taken_grows : (j : ℕ) → is_taken v j ≡ true → is_taken (parted v i bound slots hot n) j ≡ true
  taken_grows j h = go (same_place j i)
    where
      go : (j ≡ i) ⊎ (j ≢ i) → is_taken (parted v i bound slots hot n) j ≡ true
      go (inl e) = subst (λ w. is_taken (parted v i bound slots hot n) w ≡ true) (sym e) now_taken
      go (inr ne) = eq-eqb _ _ (other_taken j ne ∙ eqb-true _ _ h)

  -- another slot whose part is still not taken
  still_untaken : (j : ℕ) → is_taken (parted v i bound slots hot n) j ≡ false → (j ≢ i) × (is_taken v j ≡ false)
  still_untaken j u = (ne, old)
    where
      ne : j ≢ i
      ne e = absurd (let clash : true ≡ false = sym now_taken ∙ ap (is_taken (parted v i bound slots hot n)) (sym e) ∙ u in cc)

      old : is_taken v j ≡ false
      old = ap (λ w. nat_eq w v.snap) (sym (other_taken j ne)) ∙ u

  part_switch : SwitchStands plan (parted v i bound slots hot n) starts
  part_switch = record {
    config = k.config;
    slots = l.same ∙ k.slots;
    taken = length-set v.taken i v.snap ∙ k.taken;
    shown = length-set v.shown i (mark_of (held_record (slot_at v i))) ∙ k.shown;
    bare = l.bare;
    within = λ j. set_cases (λ w. w ≤ v.snap) v.taken i j v.snap 0 (λ e. omega arith) (λ ne. k.within j) (λ past. k.within j);
    started = k.started;
    left = λ start of j u. let p = still_untaken j u in l.others j p.0 ∙ k.left start of j p.1;
    marks = λ start j of. marks start j of (same_place j i);
  }
    where
      marks : (start : SnapshotStart) (j : ℕ) → IsStartOf starts (taken_at (parted v i bound slots hot n) j) start → (j ≡ i) ⊎ (j ≢ i) → shown_at (parted v i bound slots hot n) j ≡ mark_of (view_at start.views j)
      marks start j of (inl e) =
          let of' : IsStartOf starts v.snap start = record { there = of.there; is = of.is ∙ ap (taken_at (parted v i bound slots hot n)) e ∙ its_taken } in
          subst (λ w. shown_at (parted v i bound slots hot n) w ≡ mark_of (view_at start.views w)) (sym e) (its_shown ∙ ap mark_of (k.left start of' i l.untaken))
      marks start j of (inr ne) = other_shown j ne ∙ k.marks start j (record { there = of.there; is = of.is ∙ other_taken j ne })

  part_step : {tells : Bool} (g : Gathering) → InStep tells plan v g starts → InStep tells plan (parted v i bound slots hot n) g starts
  part_step {tells} g q = record {
    epoch = q.epoch;
    counted = λ told start a. le_trans (q.counted told start a) l.counter;
    runs = λ j is start of. let r = q.runs j is start of in record { snap = r.snap; base = base start.by_difference r.base; parts = λ p view has. taken_grows p (r.parts p view has) };
    settled = λ some present settled. let r = q.settled some present settled in
        let taken = r.taken i (let w = l.within in let a = k.slots in omega (arith, w, a)) in
        let yes : is_taken v i ≡ true = eq-eqb _ _ (taken ∙ sym r.snap) in
        absurd (let untaken = l.untaken in let clash : true ≡ false = sym yes ∙ untaken in cc);
  }
    where
      base : (b : Bool) → BaseIs plan v g b → BaseIs plan (parted v i bound slots hot n) g b
      base false e = e
      base true d = record { some = d.some; base = d.base; present = d.present; untaken = λ j within u. let p = still_untaken j u in other_taken j p.0 ∙ d.untaken j within p.1 }

  -- the snapshot has begun
  pub its_start : WasStarted starts v.snap
  its_start = k.started (above (eqb_tells (taken_at v i) v.snap))
    where
      above : ((Rattle.std.specs.Prelude.eqb (taken_at v i) v.snap ≡ true) × (taken_at v i ≡ v.snap)) ⊎ ((Rattle.std.specs.Prelude.eqb (taken_at v i) v.snap ≡ false) × (taken_at v i ≢ v.snap)) → 0 < v.snap
      above (inl p) = absurd (let untaken : is_taken v i ≡ false = l.untaken in let e = p.0 in let clash : true ≡ false = sym e ∙ untaken in cc)
      above (inr p) = let w = k.within i in let ne = p.1 in omega (arith, w, ne)

  -- what leaves is the starting view, or says that it is the one of the last completed snapshot
  part_stands : (tells running : Bool) (g : Gathering) → GatheringStands tells plan g starts → InStep tells plan v g starts
      → (tells ≡ true → (r q : Record) → held_record (slot_at v i) ≡ Some r → view_at g.last.views i ≡ Some q → r.key ≡ q.key → r.num ≡ q.num → r.body ≡ q.body)
      → PacketStands tells running g starts (part_packet v i)
  part_stands tells running g h q agree = by_case (PacketStands tells running g starts) (is_as_before v i) (SnapSame v.snap i) (SnapPart v.snap i (held_record (slot_at v i))) same differs
    where
      view : (start : SnapshotStart) → IsStartOf starts v.snap start → view_at start.views i ≡ held_record (slot_at v i)
      view start of = sym (k.left start of i l.untaken)

      differs : is_as_before v i ≡ false → HadView tells starts v.snap i (held_record (slot_at v i))
      differs e = record { start = its_start.start; of = its_start.of; view_is = λ told. view its_start.start its_start.of }

      same : is_as_before v i ≡ true → WasStarted starts v.snap × IsSameView tells g starts v.snap i
      same e = (its_start, λ j is id. (some j is id, record { start = its_start.start; of = its_start.of; view_is = λ told. view its_start.start its_start.of ∙ held told j is id }))
        where
          tests : (nat_lt 0 v.base ≡ true) × ((nat_eq (taken_at v i) v.base && same_mark (shown_at v i) (mark_of (held_record (slot_at v i)))) ≡ true)
          tests = both (nat_lt 0 v.base) _ e

          marked : (nat_eq (taken_at v i) v.base ≡ true) × (same_mark (shown_at v i) (mark_of (held_record (slot_at v i))) ≡ true)
          marked = both (nat_eq (taken_at v i) v.base) _ tests.1

          some_base : 0 < v.base
          some_base = ltb-true 0 v.base tests.0

          some : (j : Job) → g.job ≡ Some j → j.id ≡ v.snap → 0 < g.last.id
          some j is id = based its_start.start.by_difference (q.runs j is its_start.start (record { there = its_start.of.there; is = its_start.of.is ∙ sym id })).base
            where
              based : (b : Bool) → BaseIs plan v g b → 0 < g.last.id
              based false zero = absurd (omega (arith, zero, some_base))
              based true d = let b = d.base in omega (arith, b, some_base)

          held : tells ≡ true → (j : Job) → g.job ≡ Some j → j.id ≡ v.snap → held_record (slot_at v i) ≡ view_at g.last.views i
          held told j is id = based its_start.start.by_difference (q.runs j is its_start.start (record { there = its_start.of.there; is = its_start.of.is ∙ sym id })).base h.last
            where
              based : (b : Bool) → BaseIs plan v g b → (g.last ≡ no_snapshot) ⊎ IsLast tells starts g.last → held_record (slot_at v i) ≡ view_at g.last.views i
              based false zero last = absurd (omega (arith, zero, some_base))
              based true d (inl none) = absurd (let z : g.last.id ≡ 0 = ap (λ (w : SnapshotView). w.id) none in let b = d.base in omega (arith, z, b, some_base))
              based true d (inr last) =
                  let of : IsStartOf starts (taken_at v i) last.start = record { there = last.of.there; is = last.of.is ∙ sym d.base ∙ sym (eqb-true _ _ marked.0) } in
                  let shown : shown_at v i ≡ mark_of (view_at g.last.views i) = k.marks last.start i of ∙ ap (λ views. mark_of (view_at views i)) (sym (last.views told)) in
                  let test : same_mark (mark_of (view_at g.last.views i)) (mark_of (held_record (slot_at v i))) ≡ true = subst (λ w. same_mark w (mark_of (held_record (slot_at v i))) ≡ true) shown marked.1 in
                  sym (same_records (view_at g.last.views i) (held_record (slot_at v i)) test (λ r q a b key num. sym (agree told q r b a (sym key) (sym num))))

  part_is_taken : PartIsTaken (parted v i bound slots hot n) (part_packet v i)
  part_is_taken = by_test (PartIsTaken (parted v i bound slots hot n)) (is_as_before v i) (SnapSame v.snap i) (SnapPart v.snap i (held_record (slot_at v i))) (λ e. now_taken) (λ e. now_taken)

  part_no_start : (epoch : ℕ) → is_start_in epoch (part_packet v i) ≡ false
  part_no_start epoch = by_test (λ p. is_start_in epoch p ≡ false) (is_as_before v i) (SnapSame v.snap i) (SnapPart v.snap i (held_record (slot_at v i))) refl refl

pub part_grows : (v w : SwitchView) → w.snap ≡ v.snap → ((i : ℕ) → is_taken v i ≡ true → is_taken w i ≡ true) → (p : Packet) → PartIsTaken v p → PartIsTaken w p
part_grows v w same grow (SnapPart id i view) h = λ e. grow i (h (e ∙ same))
part_grows v w same grow (SnapSame id i) h = λ e. grow i (h (e ∙ same))
part_grows v w same grow _ h = tt

-- ---- the whole

each_weaken : {A : Type 0} (P Q : A → Type 0) → ((x : A) → P x → Q x) → (xs : List A) → Each P xs → Each Q xs
each_weaken P Q f [] h = tt
each_weaken P Q f (x ∷ xs) h = (f x h.0, each_weaken P Q f xs h.1)

module _ {tells : Bool} (plan : PlanView) (s : State) (starts : List SnapshotStart) (h : SnapshotsStand tells plan s starts) (owed : Needs tells plan s) (runs : s.running ≡ true) (rest : List Message) (r : IsRest s.bag rest) where
  pub pass_stands : (packet : Packet) (p : Passed) → PassIs s.switch p → (tells ≡ true → Each (IsFreshNote s) (pass_notes packet p)) → SnapshotsStand tells plan (switch_turn s rest packet p) starts
  pass_stands packet p (Stays bound slots hot n e still foreign) notes = record {
    rise = h.rise;
    gathered = h.gathered;
    switch = subst (λ v. SwitchStands plan v starts) (sym e) (stay_switch plan s.switch starts bound slots hot n still h.switch);
    in_step = λ up. subst (λ v. InStep tells plan v (gathering s.controller) starts) (sym e) (stay_step plan s.switch (gathering s.controller) starts bound slots hot n still.counter (h.in_step up));
    packets = λ m a. packet_of m (news m a);
    parts = λ up m a. subst (λ v. PartIsTaken v m.packet) (sym e) (part_of m up (news m a));
    once = λ up. let c = count_in s.bag rest Switch (passed_out p) s.controller.epoch r (foreign_count s.controller.epoch (passed_out p) foreign) in let o = h.once up in omega (arith, c, o);
    drawn = λ told start a. noted_more s (pass_notes packet p) start.counter (h.drawn told start a);
    covers = λ told. covers_last plan s (switch_turn s rest packet p) starts h (absorbs_fresh plan s (pass_notes packet p) runs (notes told)) (λ key num a. a) refl told;
    clients = λ c. record { released = (h.clients c).released; preserved = (h.clients c).preserved };
  }
    where
      news : (m : Message) → Among m (rest ++ messages_from Switch (passed_out p)) → Among m s.bag ⊎ (is_foreign m.packet ≡ true)
      news = news_in s.bag rest Switch (passed_out p) r foreign

      packet_of : (m : Message) → Among m s.bag ⊎ (is_foreign m.packet ≡ true) → PacketStands tells s.running (gathering s.controller) starts m.packet
      packet_of m (inl a) = h.packets m a
      packet_of m (inr f) = foreign_stands tells s.running (gathering s.controller) starts m.packet f

      part_of : (m : Message) → s.running ≡ true → Among m s.bag ⊎ (is_foreign m.packet ≡ true) → PartIsTaken (moved s.switch bound slots hot n) m.packet
      part_of m up (inl a) = part_grows s.switch (moved s.switch bound slots hot n) refl (λ i t. t) m.packet (h.parts up m a)
      part_of m up (inr f) = foreign_part (moved s.switch bound slots hot n) m.packet f
  pass_stands packet p (Parts i bound slots hot n before e leaves foreign outs) notes = record {
    rise = h.rise;
    gathered = h.gathered;
    switch = subst (λ v. SwitchStands plan v starts) (sym e) (part_switch plan s.switch starts h.switch i bound slots hot n leaves);
    in_step = λ up. subst (λ v. InStep tells plan v (gathering s.controller) starts) (sym e) (part_step plan s.switch starts h.switch i bound slots hot n leaves (gathering s.controller) (h.in_step up));
    packets = λ m a. packet_of m (among_append m rest (messages_from Switch (passed_out p)) a);
    parts = λ up m a. subst (λ v. PartIsTaken v m.packet) (sym e) (part_of m up (among_append m rest (messages_from Switch (passed_out p)) a));
    once = λ up. let c = count_in s.bag rest Switch (passed_out p) s.controller.epoch r
        (each_weaken (λ (o : Out). IsNew o.packet) (λ (o : Out). is_start_in s.controller.epoch o.packet ≡ false) (λ o n. no_start o.packet n) (passed_out p) sent) in
        let o = h.once up in omega (arith, c, o);
    drawn = λ told start a. noted_more s (pass_notes packet p) start.counter (h.drawn told start a);
    covers = λ told. covers_last plan s (switch_turn s rest packet p) starts h (absorbs_fresh plan s (pass_notes packet p) runs (notes told)) (λ key num a. a) refl told;
    clients = λ c. record { released = (h.clients c).released; preserved = (h.clients c).preserved };
  }
    where
      IsNew : Packet → Type 0
      IsNew q = (is_foreign q ≡ true) ⊎ (q ≡ part_packet s.switch i)

      sent : Each (λ (o : Out). (is_foreign o.packet ≡ true) ⊎ (o.packet ≡ part_packet s.switch i)) (passed_out p)
      sent = subst (λ l. Each (λ (o : Out). (is_foreign o.packet ≡ true) ⊎ (o.packet ≡ part_packet s.switch i)) l) (sym outs)
          (each_append (λ (o : Out). (is_foreign o.packet ≡ true) ⊎ (o.packet ≡ part_packet s.switch i)) before (to_party Controller (part_packet s.switch i) ∷ [])
          (each_weaken IsForeignOut (λ (o : Out). (is_foreign o.packet ≡ true) ⊎ (o.packet ≡ part_packet s.switch i)) (λ o f. inl f) before foreign)
          (inr refl, tt))

      no_start : (q : Packet) → (is_foreign q ≡ true) ⊎ (q ≡ part_packet s.switch i) → is_start_in s.controller.epoch q ≡ false
      no_start q (inl f) = foreign_start s.controller.epoch q f
      no_start q (inr w) = subst (λ z. is_start_in s.controller.epoch z ≡ false) (sym w) (part_no_start plan s.switch starts h.switch i bound slots hot n leaves s.controller.epoch)

      packet_of : (m : Message) → Among m rest ⊎ Among m (messages_from Switch (passed_out p)) → PacketStands tells s.running (gathering s.controller) starts m.packet
      packet_of m (inl a) = h.packets m (r.among m a)
      packet_of m (inr a) = go (sent_is (λ q. (is_foreign q ≡ true) ⊎ (q ≡ part_packet s.switch i)) Switch (passed_out p) sent m a)
        where
          go : (is_foreign m.packet ≡ true) ⊎ (m.packet ≡ part_packet s.switch i) → PacketStands tells s.running (gathering s.controller) starts m.packet
          go (inl f) = foreign_stands tells s.running (gathering s.controller) starts m.packet f
          go (inr w) = subst (PacketStands tells s.running (gathering s.controller) starts) (sym w)
              (part_stands plan s.switch starts h.switch i bound slots hot n leaves tells s.running (gathering s.controller) h.gathered (h.in_step runs) (λ told a b. owed.agree told i i a b))

      part_of : (m : Message) → s.running ≡ true → Among m rest ⊎ Among m (messages_from Switch (passed_out p)) → PartIsTaken (parted s.switch i bound slots hot n) m.packet
      part_of m up (inl a) = part_grows s.switch (parted s.switch i bound slots hot n) refl (taken_grows plan s.switch starts h.switch i bound slots hot n leaves) m.packet (h.parts up m (r.among m a))
      part_of m up (inr a) = go (sent_is (λ q. (is_foreign q ≡ true) ⊎ (q ≡ part_packet s.switch i)) Switch (passed_out p) sent m a)
        where
          go : (is_foreign m.packet ≡ true) ⊎ (m.packet ≡ part_packet s.switch i) → PartIsTaken (parted s.switch i bound slots hot n) m.packet
          go (inl f) = foreign_part (parted s.switch i bound slots hot n) m.packet f
          go (inr w) = subst (PartIsTaken (parted s.switch i bound slots hot n)) (sym w) (part_is_taken plan s.switch starts h.switch i bound slots hot n leaves)

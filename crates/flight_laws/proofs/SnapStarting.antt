-- The switch takes the start of a snapshot; what the log keeps of a pass.
use Rattle.std.proofs.Common.{◌≡◌, ◌≢◌, ℕ, ◌+◌, ◌<◌, ◌≤◌, ◌⊎◌, inl, inr, Bool, true, false, List, [], ◌∷◌, ◌++◌, length, refl, sym, ap, ◌∙◌, subst, arith, eq-eqb}
use Rattle.std.specs.Prelude.{Option, Some, None, ◌&&◌, not, nat_eq}
use Rattle.std.proofs.lemmas.List.{length-map}
use Rattle.std.proofs.lemmas.Option.{same_Some}
use Rattle.far_base.specs.PlanView.{PlanView}
use Rattle.far_base.specs.declared.log.LogEntry.TheVariants.{Numbered}
use Rattle.far_base.specs.declared.packet.Message.{Message}
use Rattle.far_base.specs.declared.packet.Out.{Out}
use Rattle.far_base.specs.declared.packet.Packet.{Packet}
use Rattle.far_base.specs.declared.packet.Packet.TheVariants.{GetReq, WriteReq, GetFwd, GetRep, WriteRep, GetAns, WriteAns, Admit, AdmitAck, Peek, Remove, SnapStart, SnapBegun, SnapRead, SnapPart, Release, SnapSame, SnapFrom}
use Rattle.far_base.specs.declared.party.Party.TheVariants.{Client, Server, Switch, Controller}
use Rattle.far_base.specs.declared.record.Record.{Record}
use Rattle.far_model.specs.Events.{switch_turn}
use Rattle.far_invariants.specs.Covers.{IsAtServer, IsInSlot, IsAbsorbed}
use Rattle.far_model.specs.Members.{Among, Each}
use Rattle.far_model.specs.Parties.{messages_from, to_party}
use Rattle.far_model.specs.Pass.{Passed, pass, pass_notes, emitted_notes, dropped, changes, changed_view, with_slot, with_taken, numbered, absorbing, read_passes, write_passes, reply_passes, takes_reply, raised, is_slot_there, admits, peeks, removes, removed_answer, may_go, is_under, reads_part, is_as_before, starts_snapshot, sent_to}
use Rattle.far_invariants.specs.Past.{SnapshotStart, start_of}
use Rattle.far_model.specs.Snapshots.{Job, no_snapshot}
use Rattle.far_model.specs.State.{State, line_at}
use Rattle.far_model.specs.View.{SlotView, SwitchView, slot_at, held_record, mark_of, taken_at, shown_at, is_taken, empty_slot, entry_place, server_of}
use Rattle.far_model.proofs.Members.{among_append, among_append_right, pairs_append}
use Rattle.far_invariants.specs.SnapshotNeeds.{Needs, IsUnnumberedRead}
use Rattle.far_invariants.specs.Snapshots.{view_at, IsInViews, IsStartOf, IsEarlier, StartsStand, Gathering, gathering, IsLast, JobStands, GatheringStands, SwitchStands, BaseIs, IsSettled, InStep, JobWaits, PacketStands, PartIsTaken, is_start_in, WasDrawn, SnapshotsStand}
use Rattle.flight_laws.proofs.SnapBasics.{by_test, map_at}
use Rattle.flight_laws.proofs.SnapFrame.{IsRest, count_in, start_more, view_more, IsPlainNote, IsFreshNote, AbsorbsFresh, absorbs_plain, noted_more, cover_lasts, last_counted}

-- ---- what the log keeps of a pass

module _ (s : State) where
  read_fresh : (caller op : ℕ) (key : List ℕ) (o : Option ℕ) → ((at num : ℕ) → Among (line_at at (Numbered op num)) s.log → ⊥) → Each (IsFreshNote s) (emitted_notes (read_passes s.switch caller op key o).first)
  read_fresh caller op key None none = tt
  read_fresh caller op key (Some i) none = by_test (λ o. Each (IsFreshNote s) (emitted_notes o)) (slot_at s.switch i).latest
      (sent_to (Client caller) (GetAns caller op key (slot_at s.switch i).num (slot_at s.switch i).body true)) (sent_to (Server (server_of s.switch.config key)) (GetFwd caller op key (slot_at s.switch i).tag))
      ((λ near. inr none), tt) tt

  write_fresh : (caller op : ℕ) (key : List ℕ) (body : Option (List ℕ)) (o : Option ℕ) → Each (IsFreshNote s) (pass_notes (WriteReq caller op key body) (write_passes (numbered s.switch) caller op key body o))
  write_fresh caller op key body None = (omega arith, tt)
  write_fresh caller op key body (Some i) = (counter, ((λ near. inl (omega arith)), tt))
    where
      counter : s.switch.counter < (changed_view (numbered s.switch) i (absorbing (s.switch.counter + 1) body (slot_at s.switch i))).counter
      counter = by_test (λ (v : SwitchView). s.switch.counter < v.counter) (is_taken (numbered s.switch) i) (with_slot (numbered s.switch) i (absorbing (s.switch.counter + 1) body (slot_at s.switch i)))
          (with_taken (with_slot (numbered s.switch) i (absorbing (s.switch.counter + 1) body (slot_at s.switch i))) i (held_record (slot_at s.switch i))) (omega arith) (omega arith)

  reply_first : (tag : Option ℕ) (num : ℕ) (body : Option (List ℕ)) (out : Option Out) (o : Option ℕ) → (reply_passes s.switch tag num body out o).first ≡ out
  reply_first tag num body out None = refl
  reply_first tag num body out (Some i) = by_test (λ (p : Passed). p.first ≡ out) (takes_reply tag num (slot_at s.switch i)) (changes s.switch i (absorbing num body (slot_at s.switch i)) out) (record { view = with_slot s.switch i (raised num (slot_at s.switch i)); first = out; second = None }) refl refl

  reply_fresh : (tag : Option ℕ) (num : ℕ) (body : Option (List ℕ)) (out : Option Out) (o : Option ℕ) → Each (IsFreshNote s) (emitted_notes out) → Each (IsFreshNote s) (emitted_notes (reply_passes s.switch tag num body out o).first)
  reply_fresh tag num body out o h = subst (λ w. Each (IsFreshNote s) (emitted_notes w)) (sym (reply_first tag num body out o)) h

  admit_silent : (i : ℕ) (key : List ℕ) (tag : ℕ) → Each (IsFreshNote s) (emitted_notes (admits s.switch i key tag).first)
  admit_silent i key tag = by_test (λ o. Each (IsFreshNote s) (emitted_notes o)) (slot_at s.switch i).valid None (sent_to Controller (AdmitAck i tag)) tt tt

  peek_silent : (i tag : ℕ) (slot : SlotView) → Each (IsFreshNote s) (emitted_notes (peeks s.switch i tag slot).first)
  peek_silent i tag slot = by_test (λ o. Each (IsFreshNote s) (emitted_notes o)) (is_under tag slot) _ _ tt tt

  removed_silent : (i tag : ℕ) (done : Bool) (slot : SlotView) → Each (IsFreshNote s) (emitted_notes (removed_answer i tag done slot))
  removed_silent i tag done slot = by_test (λ o. Each (IsFreshNote s) (emitted_notes o)) (is_under tag slot) _ _ tt tt

  remove_silent : (i tag : ℕ) (latest : Bool) (num : ℕ) (slot : SlotView) → Each (IsFreshNote s) (emitted_notes (removes s.switch i tag latest num slot).first)
  remove_silent i tag latest num slot = by_test (λ (p : Passed). Each (IsFreshNote s) (emitted_notes p.first)) (may_go tag latest num slot) _ _
      (by_test (λ (p : Passed). Each (IsFreshNote s) (emitted_notes p.first)) slot.latest (changes s.switch i empty_slot (removed_answer i tag true slot)) (record { view = with_slot s.switch i empty_slot; first = removed_answer i tag true slot; second = None })
      (removed_silent i tag true slot) (removed_silent i tag true slot))
      (removed_silent i tag false slot)

  part_silent : (id i : ℕ) → Each (IsFreshNote s) (emitted_notes (reads_part s.switch id i).first)
  part_silent id i = by_test (λ (p : Passed). Each (IsFreshNote s) (emitted_notes p.first)) (nat_eq id s.switch.snap && not (is_taken s.switch i)) _ (dropped s.switch)
      (by_test (λ q. Each (IsFreshNote s) (emitted_notes (sent_to Controller q))) (is_as_before s.switch i) (SnapSame s.switch.snap i) (SnapPart s.switch.snap i (held_record (slot_at s.switch i))) tt tt) tt

  pub pass_fresh : (p : Packet) → IsUnnumberedRead s p → Each (IsFreshNote s) (pass_notes p (pass s.switch p))
  pass_fresh (GetReq caller op key) none = read_fresh caller op key (entry_place key s.switch) none
  pass_fresh (WriteReq caller op key body) none = write_fresh caller op key body (entry_place key s.switch)
  pass_fresh (GetRep caller op key tag num body) none = reply_fresh (Some tag) num body (sent_to (Client caller) (GetAns caller op key num body false)) (entry_place key s.switch) ((λ near. absurd cc), tt)
  pass_fresh (WriteRep caller op key num body) none = reply_fresh None num body (sent_to (Client caller) (WriteAns caller op key num false)) (entry_place key s.switch) ((λ near. absurd cc), tt)
  pass_fresh (Admit epoch i key tag) none = by_test (λ (p : Passed). Each (IsFreshNote s) (emitted_notes p.first)) (is_slot_there s.switch epoch i) (admits s.switch i key tag) (dropped s.switch) (admit_silent i key tag) tt
  pass_fresh (Peek epoch i tag) none = by_test (λ (p : Passed). Each (IsFreshNote s) (emitted_notes p.first)) (is_slot_there s.switch epoch i) (peeks s.switch i tag (slot_at s.switch i)) (dropped s.switch) (peek_silent i tag (slot_at s.switch i)) tt
  pass_fresh (Remove epoch i tag latest num) none = by_test (λ (p : Passed). Each (IsFreshNote s) (emitted_notes p.first)) (is_slot_there s.switch epoch i) (removes s.switch i tag latest num (slot_at s.switch i)) (dropped s.switch) (remove_silent i tag latest num (slot_at s.switch i)) tt
  pass_fresh (SnapRead epoch id i) none = by_test (λ (p : Passed). Each (IsFreshNote s) (emitted_notes p.first)) (is_slot_there s.switch epoch i) (reads_part s.switch id i) (dropped s.switch) (part_silent id i) tt
  pass_fresh (SnapStart epoch id) none = by_test (λ (p : Passed). Each (IsFreshNote s) (emitted_notes p.first)) (nat_eq epoch s.switch.epoch) (starts_snapshot s.switch id 0) (dropped s.switch) tt tt
  pass_fresh (SnapFrom epoch id base) none = by_test (λ (p : Passed). Each (IsFreshNote s) (emitted_notes p.first)) (nat_eq epoch s.switch.epoch) (starts_snapshot s.switch id base) (dropped s.switch) tt tt
  pass_fresh _ none = tt

-- ---- packets, once another snapshot has begun

module _ (tells : Bool) where
  started_more : (g : Gathering) (starts more : List SnapshotStart) (p : Packet) → is_start_in g.epoch p ≡ false → PacketStands tells true g starts p → PacketStands tells true g (starts ++ more) p
  started_more g starts more (SnapStart epoch id) off h = record { epoch_within = h.epoch_within; waits = λ runs e. absurd (let yes : nat_eq epoch g.epoch ≡ true = eq-eqb _ _ e in let clash : true ≡ false = sym yes ∙ off in cc) }
  started_more g starts more (SnapFrom epoch id base) off h = (record { epoch_within = h.0.epoch_within; waits = λ runs e. absurd (let yes : nat_eq epoch g.epoch ≡ true = eq-eqb _ _ e in let clash : true ≡ false = sym yes ∙ off in cc) }, h.1)
  started_more g starts more (SnapBegun id point) off h = (h.0, start_more starts more id h.0 h.1, h.2)
  started_more g starts more (SnapPart id i view) off h = view_more starts more id i view h
  started_more g starts more (SnapSame id i) off h = (record { start = h.0.start; of = start_more starts more id h.0.start h.0.of }, λ j is same. ((h.1 j is same).0, view_more starts more id i (view_at g.last.views i) (h.1 j is same).1))
  started_more g starts more (Release point) off h = h
  started_more g starts more _ off h = tt

-- no part of it is on its way
module _ (tells : Bool) where
  no_part_yet : (v : SwitchView) (g : Gathering) (starts : List SnapshotStart) (p : Packet) → ((start : SnapshotStart) → Among start starts → start.id < v.snap) → PacketStands tells true g starts p → PartIsTaken v p
  no_part_yet v g starts (SnapPart id i view) newest h = λ e. absurd (let l = newest h.start h.of.there in let is = h.of.is in omega (arith, l, is, e))
  no_part_yet v g starts (SnapSame id i) newest h = λ e. absurd (let l = newest h.0.start h.0.of.there in let is = h.0.of.is in omega (arith, l, is, e))
  no_part_yet v g starts _ newest h = tt

-- ---- the start

-- the base that a start brings, by its kind
abbrev pub BaseComes : Gathering → ℕ → Bool → Type 0
BaseComes g base true = (base ≡ g.last.id) × (g.last_epoch ≡ g.epoch) × (0 < base)
BaseComes g base false = base ≡ 0

module _ {tells : Bool} (plan : PlanView) (s : State) (starts : List SnapshotStart) (h : SnapshotsStand tells plan s starts) (owed : Needs tells plan s) (runs : s.running ≡ true) (rest : List Message) (r : IsRest s.bag rest)
    (id base : ℕ) (difference : Bool) (w : JobWaits (gathering s.controller) starts id) (by : BaseComes (gathering s.controller) base difference)
    (none : (m : Message) → Among m rest → is_start_in s.controller.epoch m.packet ≡ false) where
  abbrev more : List SnapshotStart
  more = starts ++ start_of s.switch id difference ∷ []

  step : InStep tells plan s.switch (gathering s.controller) starts
  step = h.in_step runs

  its_job : JobStands tells plan (gathering s.controller) starts w.job
  its_job = h.gathered.job w.job w.under_way

  -- each start is an earlier one, or this
  cases : (start : SnapshotStart) → Among start (starts ++ start_of s.switch id difference ∷ []) → Among start starts ⊎ (start ≡ start_of s.switch id difference)
  cases start a = go (among_append start starts (start_of s.switch id difference ∷ []) a)
    where
      go : Among start starts ⊎ Among start (start_of s.switch id difference ∷ []) → Among start starts ⊎ (start ≡ start_of s.switch id difference)
      go (inl b) = inl b
      go (inr (inl e)) = inr e
      go (inr (inr b)) = absurd b

  all_more : (P : SnapshotStart → Type 0) → ((start : SnapshotStart) → Among start starts → P start) → P (start_of s.switch id difference) → (start : SnapshotStart) → Among start (starts ++ start_of s.switch id difference ∷ []) → P start
  all_more P old its start a = go (cases start a)
    where
      go : Among start starts ⊎ (start ≡ start_of s.switch id difference) → P start
      go (inl b) = old start b
      go (inr e) = subst P (sym e) its

  -- the start of this id is this
  only : (start : SnapshotStart) → IsStartOf (starts ++ start_of s.switch id difference ∷ []) id start → start ≡ start_of s.switch id difference
  only start of = go (cases start of.there)
    where
      go : Among start starts ⊎ (start ≡ start_of s.switch id difference) → start ≡ start_of s.switch id difference
      go (inl b) = absurd (let l = w.newest start b in let is = of.is in omega (arith, l, is))
      go (inr e) = e

  above : s.switch.snap < id
  above = go (Rattle.flight_laws.proofs.SnapBasics.same_place s.switch.snap 0)
    where
      go : (s.switch.snap ≡ 0) ⊎ (s.switch.snap ≢ 0) → s.switch.snap < id
      go (inl z) = let newer = its_job.newer in let is = w.is in omega (arith, z, newer, is)
      go (inr ne) = let st = h.switch.started (omega (arith, ne)) in let l = w.newest st.start st.of.there in let is = st.of.is in omega (arith, l, is)

  view_is : (i : ℕ) → view_at (start_of s.switch id difference).views i ≡ held_record (slot_at s.switch i)
  view_is i = map_at held_record s.switch.slots i empty_slot

  same_job : (j : Job) → s.controller.job ≡ Some j → w.job ≡ j
  same_job j is = same_Some w.job j (sym w.under_way ∙ is)

  rise_more : StartsStand tells plan (starts ++ start_of s.switch id difference ∷ []) s.controller.next_id
  rise_more = record {
    order = pairs_append (IsEarlier tells) starts (start_of s.switch id difference ∷ []) h.rise.order (tt, tt) (λ x y a b. later x y a b);
    above = all_more (λ start. 0 < start.id) h.rise.above (let l = above in omega (arith, l));
    below = all_more (λ start. start.id < s.controller.next_id) h.rise.below (let b = its_job.below in let is = w.is in omega (arith, b, is));
    views = all_more (λ start. length start.views ≡ plan.config.slots) h.rise.views (length-map s.switch.slots held_record ∙ h.switch.slots);
    numbers = λ told. all_more (λ start. (i : ℕ) (r : Record) → view_at start.views i ≡ Some r → r.num ≤ start.counter) (h.rise.numbers told) (λ i r is. owed.within told runs i r (sym (view_is i) ∙ is));
  }
    where
      later : (x y : SnapshotStart) → Among x starts → Among y (start_of s.switch id difference ∷ []) → IsEarlier tells x y
      later x y a (inl e) = subst (IsEarlier tells x) (sym e) (w.newest x a, λ told. step.counted told x a)
      later x y a (inr b) = absurd b

  gathered_more : GatheringStands tells plan (gathering s.controller) (starts ++ start_of s.switch id difference ∷ [])
  gathered_more = record {
    next = h.gathered.next;
    present = h.gathered.present;
    last = last h.gathered.last;
    job = λ j is. let k = h.gathered.job j is in record {
      below = k.below;
      newer = k.newer;
      slots = k.slots;
      begun = λ point b. let p = k.begun point b in (p.0, start_more starts (start_of s.switch id difference ∷ []) j.id p.0 p.1, p.2);
      parts = λ i view has. view_more starts (start_of s.switch id difference ∷ []) j.id i view (k.parts i view has);
    };
  }
    where
      last : (s.controller.last ≡ no_snapshot) ⊎ IsLast tells starts s.controller.last → (s.controller.last ≡ no_snapshot) ⊎ IsLast tells (starts ++ start_of s.switch id difference ∷ []) s.controller.last
      last (inl e) = inl e
      last (inr l) = inr (record { start = l.start; of = start_more starts (start_of s.switch id difference ∷ []) s.controller.last.id l.start l.of; point = l.point; same = l.same; views = l.views })

  abbrev view : SwitchView
  view = record s.switch { snap = id; base = base }

  switch_more : SwitchStands plan (record s.switch { snap = id; base = base }) (starts ++ start_of s.switch id difference ∷ [])
  switch_more = record {
    config = h.switch.config;
    slots = h.switch.slots;
    taken = h.switch.taken;
    shown = h.switch.shown;
    bare = h.switch.bare;
    within = λ i. let a = h.switch.within i in let b = above in omega (arith, a, b);
    started = λ some. record { start = start_of s.switch id difference; of = record { there = among_append_right (start_of s.switch id difference) starts (start_of s.switch id difference ∷ []) (inl refl); is = refl } };
    left = λ start of i u. sym (view_is i) ∙ ap (λ (x : SnapshotStart). view_at x.views i) (sym (only start of));
    marks = λ start i of. marks start i of (cases start of.there);
  }
    where
      marks : (start : SnapshotStart) (i : ℕ) → IsStartOf (starts ++ start_of s.switch id difference ∷ []) (taken_at s.switch i) start → Among start starts ⊎ (start ≡ start_of s.switch id difference) → shown_at s.switch i ≡ mark_of (view_at start.views i)
      marks start i of (inl b) = h.switch.marks start i (record { there = b; is = of.is })
      marks start i of (inr e) = absurd (let is = of.is in let own : start.id ≡ id = ap (λ (x : SnapshotStart). x.id) e in let a = h.switch.within i in let b = above in omega (arith, is, own, a, b))

  step_more : InStep tells plan (record s.switch { snap = id; base = base }) (gathering s.controller) (starts ++ start_of s.switch id difference ∷ [])
  step_more = record {
    epoch = step.epoch;
    counted = λ told. all_more (λ start. start.counter ≤ s.switch.counter) (step.counted told) (omega arith);
    runs = λ j is start of. record {
      snap = sym w.is ∙ ap (λ (x : Job). x.id) (same_job j is);
      base = subst (λ (x : SnapshotStart). BaseIs plan view (gathering s.controller) x.by_difference) (sym (only start (record { there = of.there; is = of.is ∙ sym (ap (λ (x : Job). x.id) (same_job j is)) ∙ w.is }))) (based difference by);
      parts = λ i view has. let had = (h.gathered.job j is).parts i view has in
          absurd (let l = w.newest had.start had.of.there in let a = had.of.is in let b = w.is in let c = ap (λ (x : Job). x.id) (same_job j is) in omega (arith, l, a, b, c));
    };
    settled = λ some present settled. absurd (let l = settled w.job w.under_way (start_of s.switch id difference) (among_append_right (start_of s.switch id difference) starts (start_of s.switch id difference ∷ []) (inl refl)) in let is = w.is in omega (arith, l, is));
  }
    where
      based : (b : Bool) → BaseComes (gathering s.controller) base b → BaseIs plan view (gathering s.controller) b
      based false e = e
      based true d =
          let settled : IsSettled (gathering s.controller) starts = (λ j is start a. let l = w.newest start a in let b = w.is in let c = ap (λ (x : Job). x.id) (same_job j is) in omega (arith, l, b, c)) in
          let all = step.settled (let a = d.0 in let b = d.2 in omega (arith, a, b)) d.1 settled in
          record { some = d.2; base = d.0; present = d.1; untaken = λ i within u. all.taken i within }

  pub start_stands : (packet : Packet) → Each IsPlainNote (pass_notes packet (starts_snapshot s.switch id base)) → SnapshotsStand tells plan (switch_turn s rest packet (starts_snapshot s.switch id base)) (starts ++ start_of s.switch id difference ∷ [])
  start_stands packet plain = record {
    rise = rise_more;
    gathered = gathered_more;
    switch = switch_more;
    in_step = λ up. step_more;
    packets = λ m a. packet_of m (among_append m rest _ a);
    parts = λ up m a. part_of m (among_append m rest _ a);
    once = λ up. let c = count_in s.bag rest Switch (to_party Controller (SnapBegun id s.switch.counter) ∷ []) s.controller.epoch r (refl, tt) in let o = h.once up in omega (arith, c, o);
    drawn = λ told. all_more (λ start. (start.counter ≡ 0) ⊎ WasDrawn t.log start.counter) (λ start a. noted_more s (pass_notes packet (starts_snapshot s.switch id base)) start.counter (h.drawn told start a)) (noted_more s (pass_notes packet (starts_snapshot s.switch id base)) s.switch.counter (owed.drawn told runs));
    covers = λ told. record {
      last = cover_lasts plan s t starts h fresh (λ key num a. a) s.controller.last.views s.controller.last.point (last_counted plan s starts h told) (h.covers told).last;
      job = λ j is start of key num a le. cover told key num a start (only start (record { there = of.there; is = of.is ∙ sym (ap (λ (x : Job). x.id) (same_job j is)) ∙ w.is })) le;
    };
    clients = λ c. record { released = (h.clients c).released; preserved = (h.clients c).preserved };
  }
    where
      t : State
      t = switch_turn s rest packet (starts_snapshot s.switch id base)

      fresh : AbsorbsFresh plan s (switch_turn s rest packet (starts_snapshot s.switch id base)).log
      fresh = absorbs_plain plan s (pass_notes packet (starts_snapshot s.switch id base)) plain

      old : (m : Message) → Among m rest → PacketStands tells true (gathering s.controller) starts m.packet
      old m a = subst (λ b. PacketStands tells b (gathering s.controller) starts m.packet) runs (h.packets m (r.among m a))

      packet_of : (m : Message) → Among m rest ⊎ Among m (messages_from Switch (to_party Controller (SnapBegun id s.switch.counter) ∷ [])) → PacketStands tells s.running (gathering s.controller) (starts ++ start_of s.switch id difference ∷ []) m.packet
      packet_of m (inl a) = subst (λ b. PacketStands tells b (gathering s.controller) (starts ++ start_of s.switch id difference ∷ []) m.packet) (sym runs) (started_more tells (gathering s.controller) starts (start_of s.switch id difference ∷ []) m.packet (none m a) (old m a))
      packet_of m (inr (inl e)) = subst (λ (x : Message). PacketStands tells s.running (gathering s.controller) (starts ++ start_of s.switch id difference ∷ []) x.packet) (sym e)
          (start_of s.switch id difference, record { there = among_append_right (start_of s.switch id difference) starts (start_of s.switch id difference ∷ []) (inl refl); is = refl }, refl)
      packet_of m (inr (inr a)) = absurd a

      part_of : (m : Message) → Among m rest ⊎ Among m (messages_from Switch (to_party Controller (SnapBegun id s.switch.counter) ∷ [])) → PartIsTaken (record s.switch { snap = id; base = base }) m.packet
      part_of m (inl a) = no_part_yet tells (record s.switch { snap = id; base = base }) (gathering s.controller) starts m.packet w.newest (old m a)
      part_of m (inr (inl e)) = subst (λ (x : Message). PartIsTaken (record s.switch { snap = id; base = base }) x.packet) (sym e) tt
      part_of m (inr (inr a)) = absurd a

      cover : tells ≡ true → (key : List ℕ) (num : ℕ) → IsAbsorbed plan (switch_turn s rest packet (starts_snapshot s.switch id base)).log key num → (start : SnapshotStart) → start ≡ start_of s.switch id difference → num ≤ start.counter → IsAtServer plan s key num ⊎ IsInViews start.views key num
      cover told key num a start e le = subst (λ (x : SnapshotStart). IsAtServer plan s key num ⊎ IsInViews x.views key num) (sym e) (go (fresh key num a))
        where
          covered : IsAtServer plan s key num ⊎ IsInSlot s key num → IsAtServer plan s key num ⊎ IsInViews (start_of s.switch id difference).views key num
          covered (inl c) = inl c
          covered (inr c) = inr (record { slot = c.slot; item = c.item; holds = view_is c.slot ∙ c.holds; on_key = c.on_key; above = c.above })

          go : IsAbsorbed plan s.log key num ⊎ ((s.running ≡ true) × (s.switch.counter < num)) → IsAtServer plan s key num ⊎ IsInViews (start_of s.switch id difference).views key num
          go (inl b) = covered (owed.cached told runs key num b)
          go (inr b) = absurd (let c : start.counter ≡ s.switch.counter = ap (λ (x : SnapshotStart). x.counter) e in let l = b.1 in omega (arith, c, l, le))

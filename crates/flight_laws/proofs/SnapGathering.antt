-- The controller gathers the parts of a snapshot, and completes it.
use Rattle.std.proofs.Common.{◌≡◌, ℕ, zero, suc, ◌+◌, ◌<◌, ◌≤◌, ◌⊎◌, inl, inr, Bool, true, false, List, [], ◌∷◌, length, map, get_or, refl, sym, ap, ◌∙◌, subst, arith, le_trans, eqb-true}
use Rattle.std.specs.Prelude.{Option, Some, None, ◌&&◌, not, nat_eq, nat_lt, is_some, slice_get}
use Rattle.std.specs.List.{list_all}
use Rattle.std.proofs.lemmas.List.{length-set, length-map}
use Rattle.std.proofs.lemmas.Option.{same_Some, get_or_from_slice_get}
use Rattle.far_base.specs.PlanView.{PlanView}
use Rattle.far_base.specs.declared.packet.Message.{Message}
use Rattle.far_base.specs.declared.packet.Out.{Out}
use Rattle.far_base.specs.declared.packet.Packet.{Packet}
use Rattle.far_base.specs.declared.packet.Packet.TheVariants.{SnapStart, SnapBegun, SnapRead, SnapPart, SnapSame, SnapFrom, Release}
use Rattle.far_base.specs.declared.party.Party.TheVariants.{Controller}
use Rattle.far_base.specs.declared.record.Record.{Record}
use Rattle.far_model.specs.Controller.{ControllerState, to_clients, completes, job_turn, snapshot_begun, part_came, same_part, same_came}
use Rattle.far_model.specs.Events.{controller_turn}
use Rattle.far_invariants.specs.Covers.{IsAtServer}
use Rattle.far_model.specs.Members.{Among, Each}
use Rattle.far_model.specs.Parties.{Turn, idle, messages_from, to_party}
use Rattle.far_invariants.specs.Past.{SnapshotStart}
use Rattle.far_model.specs.Snapshots.{Job, SnapshotView, no_snapshot, has_begun, has_part, is_whole, completed, view_in, number_or_none, part_reads, view_items, with_part, with_same}
use Rattle.far_model.specs.State.{State}
use Rattle.far_model.specs.View.{is_taken}
use Rattle.far_model.proofs.Members.{among_append, among_append_left}
use Rattle.far_invariants.specs.Notes.{IsSlotNote}
use Rattle.far_invariants.specs.Snapshots.{view_at, IsInViews, IsStartOf, WasStarted, HadView, Gathering, gathering, IsLast, JobStands, BaseIs, JobRuns, JobWaits, PacketStands, PartIsTaken, is_start_in, SnapshotsStand}
use Rattle.flight_laws.proofs.SnapBasics.{both, by_test, by_case, set_cases, list_all_at}
use Rattle.flight_laws.proofs.SnapFrame.{is_foreign, IsForeignOut, foreign_stands, foreign_part, IsRest, sent_is, news_in, count_in, foreign_count, one_start, points_rise, IsPlainNote, AbsorbsFresh, absorbs_plain, noted_more, cover_lasts, last_counted, quiet_stands}

-- ---- turns that have nothing to do with snapshots

pub record IsAside (c : ControllerState) (t : Turn ControllerState) : Type 0 where
  pub same : gathering t.state ≡ gathering c
  pub out : Each IsForeignOut t.out
  pub notes : Each IsPlainNote t.notes
  pub silent : Each IsSlotNote t.notes

module _ {tells : Bool} where
  pub aside_stands : (plan : PlanView) (s : State) (starts : List SnapshotStart) (rest : List Message) (t : Turn ControllerState) (done : ℕ) → IsRest s.bag rest → IsAside s.controller t → SnapshotsStand tells plan s starts
      → SnapshotsStand tells plan (record (controller_turn s rest t) { done = done }) starts
  aside_stands plan s starts rest t done r a h = quiet_stands plan s (record (controller_turn s rest t) { done = done }) starts (record {
    running = refl;
    gathered = a.same;
    switch = refl;
    bag = news_in s.bag rest Controller t.out r a.out;
    count = λ epoch. count_in s.bag rest Controller t.out epoch r (foreign_count epoch t.out a.out);
    log = λ l b. among_append_left l s.log _ b;
    absorbed = absorbs_plain plan s t.notes a.notes;
    servers = λ key num at. at;
    clients = λ c. record { released = (h.clients c).released; preserved = (h.clients c).preserved };
  }) h

-- ---- a job goes on

-- a job with another part or with its point stands for the same snapshot
module _ (tells : Bool) where
  same_job_packet : (running : Bool) (g : Gathering) (starts : List SnapshotStart) (job new : Job) → g.job ≡ Some job → new.id ≡ job.id → (p : Packet) → PacketStands tells running g starts p → PacketStands tells running (record g { job = Some new }) starts p
  same_job_packet running g starts job new is id p h = go p h
    where
      waits : (own : ℕ) → JobWaits g starts own → JobWaits (record g { job = Some new }) starts own
      waits own w = record { job = new; under_way = refl; is = id ∙ ap (λ (j : Job). j.id) (same_Some job w.job (sym is ∙ w.under_way)) ∙ w.is; newest = w.newest }

      go : (p : Packet) → PacketStands tells running g starts p → PacketStands tells running (record g { job = Some new }) starts p
      go (SnapStart epoch own) h = record { epoch_within = h.epoch_within; waits = λ runs e. waits own (h.waits runs e) }
      go (SnapFrom epoch own base) h = (record { epoch_within = h.0.epoch_within; waits = λ runs e. waits own (h.0.waits runs e) }, h.1)
      go (SnapBegun own point) h = h
      go (SnapPart own i view) h = h
      go (SnapSame own i) h = (h.0, λ j k e. h.1 job is (sym id ∙ ap (λ (x : Job). x.id) (same_Some new j k) ∙ e))
      go (Release point) h = h
      go _ h = tt

-- once it is completed, no start of it is on its way
module _ (tells : Bool) where
  done_packet : (running : Bool) (g : Gathering) (starts : List SnapshotStart) (job : Job) (last : SnapshotView) → g.job ≡ Some job → WasStarted starts job.id → (tells ≡ true → g.last.point ≤ last.point)
      → (p : Packet) → PacketStands tells running g starts p → PacketStands tells running (record g { job = None; last = last; last_epoch = g.epoch }) starts p
  done_packet running g starts job last is begun more p h = go p h
    where
      late : {P : Type 0} (own : ℕ) → JobWaits g starts own → P
      late own w = absurd (let l = w.newest begun.start begun.of.there in let a = begun.of.is in let b = w.is in let c = ap (λ (j : Job). j.id) (same_Some job w.job (sym is ∙ w.under_way)) in omega (arith, l, a, b, c))

      go : (p : Packet) → PacketStands tells running g starts p → PacketStands tells running (record g { job = None; last = last; last_epoch = g.epoch }) starts p
      go (SnapStart epoch own) h = record { epoch_within = h.epoch_within; waits = λ runs e. late own (h.waits runs e) }
      go (SnapFrom epoch own base) h = (record { epoch_within = h.0.epoch_within; waits = λ runs e. late own (h.0.waits runs e) }, λ runs e. late own (h.0.waits runs e))
      go (SnapBegun own point) h = h
      go (SnapPart own i view) h = h
      go (SnapSame own i) h = (h.0, λ j k e. absurd cc)
      go (Release point) h = λ told. le_trans (h told) (more told)
      go _ h = tt

-- the parts that have come are the starting views
whole_views : (parts : List (Option (Option Record))) (views : List (Option Record)) → list_all is_some parts ≡ true → length parts ≡ length views
    → ((i : ℕ) (view : Option Record) → get_or parts i None ≡ Some view → get_or views i None ≡ view) → map view_in parts ≡ views
whole_views [] [] whole same h = refl
whole_views [] (w ∷ ws) whole same h = absurd (omega (arith, same))
whole_views (p ∷ ps) [] whole same h = absurd (omega (arith, same))
whole_views (None ∷ ps) (w ∷ ws) whole same h = absurd cc
whole_views (Some view ∷ ps) (w ∷ ws) whole same h =
    let head : w ≡ view = h 0 view refl in
    let tail = whole_views ps ws whole (omega (arith, same)) (λ i v e. h (suc i) v e) in
    λ k. (sym head) k ∷ tail k

released_out : (P : Out → Type 0) (n more : ℕ) (packet : Packet) → ((c : ℕ) → P (to_party (Rattle.far_base.specs.declared.party.Party.TheVariants.Client c) packet)) → Each P (to_clients n more packet)
released_out P n zero packet h = tt
released_out P n (suc more) packet h = (h n, released_out P (suc n) more packet h)

items_plain : (i : ℕ) (views : List (Option Record)) → Each IsPlainNote (view_items i views)
items_plain i [] = tt
items_plain i (None ∷ views) = items_plain (suc i) views
items_plain i (Some item ∷ views) = (tt, items_plain (suc i) views)

module _ {tells : Bool} (plan : PlanView) (s : State) (starts : List SnapshotStart) (h : SnapshotsStand tells plan s starts) (rest : List Message) (r : IsRest s.bag rest) (job : Job) (is : s.controller.job ≡ Some job)
    (new : Job) (id : new.id ≡ job.id) (stands : JobStands tells plan (gathering s.controller) starts new)
    (keeps : s.running ≡ true → (start : SnapshotStart) → IsStartOf starts new.id start → JobRuns plan s.switch (gathering s.controller) new start) where
  old_start : (start : SnapshotStart) → IsStartOf starts new.id start → IsStartOf starts job.id start
  old_start start of = record { there = of.there; is = of.is ∙ id }

  -- it is not whole yet
  goes_on : (out : List Out) → Each IsForeignOut out → SnapshotsStand tells plan (controller_turn s rest (record { state = record s.controller { job = Some new }; out = out; notes = [] })) starts
  goes_on out foreign = record {
    rise = h.rise;
    gathered = record { next = h.gathered.next; present = h.gathered.present; last = h.gathered.last; job = λ j k. subst (JobStands tells plan (gathering t.controller) starts) (same_Some new j k) its };
    switch = h.switch;
    in_step = λ up. record {
      epoch = (h.in_step up).epoch;
      counted = (h.in_step up).counted;
      runs = λ j k start of. subst (λ (x : Job). JobRuns plan s.switch (gathering t.controller) x start) (same_Some new j k) (runs up start (record { there = of.there; is = of.is ∙ sym (ap (λ (x : Job). x.id) (same_Some new j k)) }));
      settled = λ some present settled.
          let all = (h.in_step up).settled some present (λ j k start a. let l = settled new refl start a in let e = ap (λ (x : Job). x.id) (same_Some job j (sym is ∙ k)) in omega (arith, l, e, id)) in
          record { snap = all.snap; taken = all.taken };
    };
    packets = λ m a. packet_of m (news_in s.bag rest Controller out r foreign m a);
    parts = λ up m a. part_of up m (news_in s.bag rest Controller out r foreign m a);
    once = λ up. let c = count_in s.bag rest Controller out s.controller.epoch r (foreign_count s.controller.epoch out foreign) in let o = h.once up in omega (arith, c, o);
    drawn = λ told start a. noted_more s [] start.counter (h.drawn told start a);
    covers = λ told. record {
      last = cover_lasts plan s t starts h fresh (λ key num a. a) s.controller.last.views s.controller.last.point (last_counted plan s starts h told) (h.covers told).last;
      job = λ j k start of.
          let of' = old_start start (record { there = of.there; is = of.is ∙ sym (ap (λ (x : Job). x.id) (same_Some new j k)) }) in
          cover_lasts plan s t starts h fresh (λ key num a. a) start.views start.counter (λ up. (h.in_step up).counted told start of.there) ((h.covers told).job job is start of');
    };
    clients = λ c. record { released = (h.clients c).released; preserved = (h.clients c).preserved };
  }
    where
      t : State
      t = controller_turn s rest (record { state = record s.controller { job = Some new }; out = out; notes = [] })

      fresh : AbsorbsFresh plan s (controller_turn s rest (record { state = record s.controller { job = Some new }; out = out; notes = [] })).log
      fresh = absorbs_plain plan s [] tt

      its : JobStands tells plan (record (gathering s.controller) { job = Some new }) starts new
      its = record { below = stands.below; newer = stands.newer; slots = stands.slots; begun = stands.begun; parts = stands.parts }

      runs : s.running ≡ true → (start : SnapshotStart) → IsStartOf starts new.id start → JobRuns plan s.switch (record (gathering s.controller) { job = Some new }) new start
      runs up start of = let k = keeps up start of in record { snap = k.snap; base = base start.by_difference k.base; parts = k.parts }
        where
          base : (b : Bool) → BaseIs plan s.switch (gathering s.controller) b → BaseIs plan s.switch (record (gathering s.controller) { job = Some new }) b
          base false e = e
          base true d = record { some = d.some; base = d.base; present = d.present; untaken = d.untaken }

      packet_of : (m : Message) → Among m s.bag ⊎ (is_foreign m.packet ≡ true) → PacketStands tells s.running (record (gathering s.controller) { job = Some new }) starts m.packet
      packet_of m (inl a) = same_job_packet tells s.running (gathering s.controller) starts job new is id m.packet (h.packets m a)
      packet_of m (inr f) = foreign_stands tells s.running (record (gathering s.controller) { job = Some new }) starts m.packet f

      part_of : s.running ≡ true → (m : Message) → Among m s.bag ⊎ (is_foreign m.packet ≡ true) → PartIsTaken s.switch m.packet
      part_of up m (inl a) = h.parts up m a
      part_of up m (inr f) = foreign_part s.switch m.packet f

  -- it is whole
  is_done : (sames : ℕ) → is_whole new ≡ true → SnapshotsStand tells plan (controller_turn s rest (completes plan.config s.controller (completed new) sames)) starts
  is_done sames whole = begun new.begun refl (both (has_begun new) (list_all is_some new.parts) whole)
    where
      begun : (o : Option ℕ) → new.begun ≡ o → (is_some new.begun ≡ true) × (list_all is_some new.parts ≡ true) → SnapshotsStand tells plan (controller_turn s rest (completes plan.config s.controller (completed new) sames)) starts
      begun None e w = absurd (let clash : false ≡ true = ap (λ (o : Option ℕ). is_some o) (sym e) ∙ w.0 in cc)
      begun (Some n) e w = record {
        rise = h.rise;
        gathered = record { next = h.gathered.next; present = omega arith; last = inr (record { start = start; of = of; point = point; same = length-map new.parts view_in ∙ stands.slots ∙ sym (h.rise.views (stands.begun n e).0 of.there); views = views }); job = λ j k. absurd cc };
        switch = h.switch;
        in_step = λ up. record {
          epoch = (h.in_step up).epoch;
          counted = (h.in_step up).counted;
          runs = λ j k. absurd cc;
          settled = λ some present settled. record {
            snap = (keeps up start of).snap;
            taken = λ i within. eqb-true _ _ (taken up i within (get_or new.parts i None) refl (list_all_at is_some new.parts i None w.1 (let l = stands.slots in omega (arith, within, l)))) ∙ (keeps up start of).snap;
          };
        };
        packets = λ m a. packet_of m (among_append m rest (messages_from Controller releases) a);
        parts = λ up m a. part_of up m (among_append m rest (messages_from Controller releases) a);
        once = λ up. let c = count_in s.bag rest Controller releases s.controller.epoch r (released_out (λ (o : Out). is_start_in s.controller.epoch o.packet ≡ false) 0 plan.config.clients (Release (completed new).point) (λ c. refl)) in let o = h.once up in omega (arith, c, o);
        drawn = λ told other a. noted_more s (completes plan.config s.controller (completed new) sames).notes other.counter (h.drawn told other a);
        covers = λ told. record {
          last = λ key num a le. subst (λ views. IsAtServer plan s key num ⊎ IsInViews views key num) (sym (views told))
              (cover_lasts plan s t starts h fresh (λ key num a. a) start.views start.counter (λ up. (h.in_step up).counted told start of.there) ((h.covers told).job job is start (old_start start of)) key num a (let p = point in omega (arith, p, le)));
          job = λ j k. absurd cc;
        };
        clients = λ c. record { released = λ told. le_trans ((h.clients c).released told) (more told); preserved = (h.clients c).preserved };
      }
        where
          releases : List Out
          releases = to_clients 0 plan.config.clients (Release (completed new).point)

          t : State
          t = controller_turn s rest (completes plan.config s.controller (completed new) sames)

          begins : (start : SnapshotStart) × IsStartOf starts new.id start × (start.counter ≡ n)
          begins = stands.begun n e

          start : SnapshotStart
          start = (stands.begun n e).0

          of : IsStartOf starts new.id (stands.begun n e).0
          of = (stands.begun n e).1

          point : number_or_none new.begun ≡ (stands.begun n e).0.counter
          point = ap number_or_none e ∙ sym (stands.begun n e).2

          views : tells ≡ true → map view_in new.parts ≡ (stands.begun n e).0.views
          views told = whole_views new.parts (stands.begun n e).0.views w.1 (stands.slots ∙ sym (h.rise.views (stands.begun n e).0 of.there)) (λ i view has.
              let had = stands.parts i view has in
              ap (λ (x : SnapshotStart). view_at x.views i) (one_start tells starts new.id (stands.begun n e).0 had.start h.rise.order of had.of) ∙ had.view_is told)

          more : tells ≡ true → s.controller.last.point ≤ number_or_none new.begun
          more told = go h.gathered.last
            where
              go : (s.controller.last ≡ no_snapshot) ⊎ IsLast tells starts s.controller.last → s.controller.last.point ≤ number_or_none new.begun
              go (inl z) = let p : s.controller.last.point ≡ 0 = ap (λ (x : SnapshotView). x.point) z in omega (arith, p)
              go (inr l) = let rises = points_rise told starts s.controller.last.id new.id l.start (stands.begun n e).0 h.rise.order l.of of stands.newer in let p = l.point in omega (arith, rises, p, point)

          fresh : AbsorbsFresh plan s (controller_turn s rest (completes plan.config s.controller (completed new) sames)).log
          fresh = absorbs_plain plan s (completes plan.config s.controller (completed new) sames).notes (tt, items_plain 0 (completed new).views)

          taken : s.running ≡ true → (i : ℕ) → i < plan.config.slots → (o : Option (Option Record)) → get_or new.parts i None ≡ o → is_some (get_or new.parts i None) ≡ true → is_taken s.switch i ≡ true
          taken up i within None same has = absurd (let clash : false ≡ true = ap (λ (o : Option (Option Record)). is_some o) (sym same) ∙ has in cc)
          taken up i within (Some view) same has = (keeps up start of).parts i view same

          packet_of : (m : Message) → Among m rest ⊎ Among m (messages_from Controller releases) → PacketStands tells s.running (record (gathering s.controller) { job = None; last = completed new; last_epoch = s.controller.epoch }) starts m.packet
          packet_of m (inl a) = done_packet tells s.running (gathering s.controller) starts job (completed new) is (record { start = (stands.begun n e).0; of = old_start (stands.begun n e).0 of }) more m.packet (h.packets m (r.among m a))
          packet_of m (inr a) = subst (PacketStands tells s.running (record (gathering s.controller) { job = None; last = completed new; last_epoch = s.controller.epoch }) starts)
              (sym (sent_is (λ p. p ≡ Release (completed new).point) Controller releases (released_out (λ (o : Out). o.packet ≡ Release (completed new).point) 0 plan.config.clients (Release (completed new).point) (λ c. refl)) m a)) (λ told. omega arith)

          part_of : s.running ≡ true → (m : Message) → Among m rest ⊎ Among m (messages_from Controller releases) → PartIsTaken s.switch m.packet
          part_of up m (inl a) = h.parts up m (r.among m a)
          part_of up m (inr a) = subst (PartIsTaken s.switch)
              (sym (sent_is (λ p. p ≡ Release (completed new).point) Controller releases (released_out (λ (o : Out). o.packet ≡ Release (completed new).point) 0 plan.config.clients (Release (completed new).point) (λ c. refl)) m a)) tt

  pub job_goes : (out : List Out) → Each IsForeignOut out → SnapshotsStand tells plan (controller_turn s rest (job_turn plan.config s.controller new out)) starts
  job_goes out foreign = by_case (λ (t : Turn ControllerState). SnapshotsStand tells plan (controller_turn s rest t) starts) (is_whole new) (completes plan.config s.controller (completed new) new.sames) (record { state = record s.controller { job = Some new }; out = out; notes = [] })
      (λ whole. is_done new.sames whole) (λ part. goes_on out foreign)

-- ---- what comes

reads_foreign : (epoch id i : ℕ) (parts : List (Option (Option Record))) → Each IsForeignOut (part_reads epoch id i parts)
reads_foreign epoch id i [] = tt
reads_foreign epoch id i (part ∷ parts) = by_test (Each IsForeignOut) (is_some part) (part_reads epoch id (suc i) parts) (to_party Rattle.far_base.specs.declared.party.Party.TheVariants.Switch (SnapRead epoch id i) ∷ part_reads epoch id (suc i) parts)
    (reads_foreign epoch id (suc i) parts) (refl, reads_foreign epoch id (suc i) parts)

module _ {tells : Bool} where
  idle_stands : (plan : PlanView) (s : State) (starts : List SnapshotStart) (rest : List Message) → IsRest s.bag rest → SnapshotsStand tells plan s starts → SnapshotsStand tells plan (controller_turn s rest (idle s.controller)) starts
  idle_stands plan s starts rest r h = aside_stands plan s starts rest (idle s.controller) s.done r (record { same = refl; out = tt; notes = tt; silent = tt }) h

module _ {tells : Bool} (plan : PlanView) (s : State) (starts : List SnapshotStart) (h : SnapshotsStand tells plan s starts) (rest : List Message) (r : IsRest s.bag rest) where
  -- the snapshot has begun
  pub begun_stands : (id point : ℕ) → PacketStands tells s.running (gathering s.controller) starts (SnapBegun id point) → (o : Option Job) → s.controller.job ≡ o
      → SnapshotsStand tells plan (controller_turn s rest (snapshot_begun plan.config s.controller id point o)) starts
  begun_stands id point begins None is = idle_stands plan s starts rest r h
  begun_stands id point begins (Some job) is = by_case (λ (t : Turn ControllerState). SnapshotsStand tells plan (controller_turn s rest t) starts) (nat_eq job.id id && not (has_begun job))
      (job_turn plan.config s.controller (record job { begun = Some point }) (part_reads s.controller.epoch id 0 job.parts)) (idle s.controller)
      (λ test. job_goes plan s starts h rest r job is (record job { begun = Some point }) refl (stands (eqb-true job.id id (both (nat_eq job.id id) _ test).0)) (λ up start of. let k = (h.in_step up).runs job is start of in record { snap = k.snap; base = k.base; parts = k.parts })
      (part_reads s.controller.epoch id 0 job.parts) (reads_foreign s.controller.epoch id 0 job.parts))
      (λ other. idle_stands plan s starts rest r h)
    where
      stands : job.id ≡ id → JobStands tells plan (gathering s.controller) starts (record job { begun = Some point })
      stands e = let k = h.gathered.job job is in record {
        below = k.below;
        newer = k.newer;
        slots = k.slots;
        begun = λ n same. (begins.0, record { there = begins.1.there; is = begins.1.is ∙ sym e }, begins.2 ∙ same_Some point n same);
        parts = k.parts;
      }

  -- a part comes, in whatever form
  part_added : (job : Job) → s.controller.job ≡ Some job → (i : ℕ) (view : Option Record) (sames : ℕ) → HadView tells starts job.id i view
      → (s.running ≡ true → job.id ≡ s.switch.snap → is_taken s.switch i ≡ true)
      → SnapshotsStand tells plan (controller_turn s rest (job_turn plan.config s.controller (record (with_part job i view) { sames = sames }) [])) starts
  part_added job is i view sames had taken = job_goes plan s starts h rest r job is (record (with_part job i view) { sames = sames }) refl stands keeps [] tt
    where
      stands : JobStands tells plan (gathering s.controller) starts (record (with_part job i view) { sames = sames })
      stands = let k = h.gathered.job job is in record {
        below = k.below;
        newer = k.newer;
        slots = length-set job.parts i (Some view) ∙ k.slots;
        begun = k.begun;
        parts = λ j v. set_cases (λ o. o ≡ Some v → HadView tells starts job.id j v) job.parts i j (Some view) None
            (λ e same. subst (λ w. HadView tells starts job.id w v) (sym e) (subst (HadView tells starts job.id i) (same_Some view v same) had)) (λ ne. k.parts j v) (λ past. k.parts j v);
      }

      keeps : s.running ≡ true → (start : SnapshotStart) → IsStartOf starts job.id start → JobRuns plan s.switch (gathering s.controller) (record (with_part job i view) { sames = sames }) start
      keeps up start of = let k = (h.in_step up).runs job is start of in record {
        snap = k.snap;
        base = k.base;
        parts = λ j v. set_cases (λ o. o ≡ Some v → is_taken s.switch j ≡ true) job.parts i j (Some view) None
            (λ e same. subst (λ w. is_taken s.switch w ≡ true) (sym e) (taken up (sym k.snap))) (λ ne. k.parts j v) (λ past. k.parts j v);
      }

  pub part_stands : (id i : ℕ) (view : Option Record) → HadView tells starts id i view → (s.running ≡ true → PartIsTaken s.switch (SnapPart id i view)) → (o : Option Job) → s.controller.job ≡ o
      → SnapshotsStand tells plan (controller_turn s rest (part_came plan.config s.controller id i view o)) starts
  part_stands id i view had taken None is = idle_stands plan s starts rest r h
  part_stands id i view had taken (Some job) is = by_case (λ (t : Turn ControllerState). SnapshotsStand tells plan (controller_turn s rest t) starts) (nat_eq job.id id && (nat_lt i (length job.parts) && not (has_part job i)))
      (job_turn plan.config s.controller (with_part job i view) []) (idle s.controller)
      (λ test. let e = eqb-true job.id id (both (nat_eq job.id id) _ test).0 in
      part_added job is i view job.sames (subst (λ w. HadView tells starts w i view) (sym e) had) (λ up same. taken up (sym e ∙ same)))
      (λ other. idle_stands plan s starts rest r h)

  pub same_stands : (id i : ℕ) → PacketStands tells s.running (gathering s.controller) starts (SnapSame id i) → (s.running ≡ true → PartIsTaken s.switch (SnapSame id i)) → (o : Option Job) → s.controller.job ≡ o
      → SnapshotsStand tells plan (controller_turn s rest (same_came plan.config s.controller id i o)) starts
  same_stands id i had taken None is = idle_stands plan s starts rest r h
  same_stands id i had taken (Some job) is = go (slice_get s.controller.last.views i) refl
    where
      go : (o : Option (Option Record)) → slice_get s.controller.last.views i ≡ o → SnapshotsStand tells plan (controller_turn s rest (same_part plan.config s.controller id i job o)) starts
      go None e = idle_stands plan s starts rest r h
      go (Some view) e = by_case (λ (t : Turn ControllerState). SnapshotsStand tells plan (controller_turn s rest t) starts) (nat_eq job.id id && (nat_lt i (length job.parts) && not (has_part job i)))
          (job_turn plan.config s.controller (with_same job i view) []) (idle s.controller)
          (λ test. let e' = eqb-true job.id id (both (nat_eq job.id id) _ test).0 in
          let view_is : view_at s.controller.last.views i ≡ view = get_or_from_slice_get s.controller.last.views i view None e in
          part_added job is i view (job.sames + 1) (subst (λ w. HadView tells starts w i view) (sym e') (subst (HadView tells starts id i) view_is (had.1 job is e').1)) (λ up same. taken up (sym e' ∙ same)))
          (λ other. idle_stands plan s starts rest r h)

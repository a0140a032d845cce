-- What is on its way for a snapshot, over the turns of the controller and every event.
use Rattle.std.proofs.Common.{◌≡◌, ◌≢◌, ℕ, zero, suc, ◌+◌, ◌<◌, ◌≤◌, ◌⊎◌, inl, inr, Bool, true, false, cond, List, [], ◌∷◌, ◌++◌, length, get_or, refl, sym, ap, ◌∙◌, subst, arith, eqb-true, eq-eqb, ltb-true, lt-ltb}
use Rattle.std.specs.Prelude.{Option, Some, None, if◌then◌else◌, ◌&&◌, not, nat_eq, nat_lt, is_some, slice_get}
use Rattle.std.specs.List.{remove}
use Rattle.std.proofs.lemmas.List.{get_or-set_same, get_or-set_other}
use Rattle.std.proofs.lemmas.Option.{same_Some, slice_get-get_or}
use Rattle.far_base.specs.PlanView.{PlanView}
use Rattle.far_base.specs.declared.packet.Message.{Message}
use Rattle.far_base.specs.declared.packet.Out.{Out}
use Rattle.far_base.specs.declared.packet.Packet.{Packet}
use Rattle.far_base.specs.declared.packet.Packet.TheVariants.{SnapStart, SnapBegun, SnapRead, SnapPart, SnapSame, SnapFrom}
use Rattle.far_base.specs.declared.party.Party.{Party}
use Rattle.far_base.specs.declared.party.Party.TheVariants.{Switch, Controller}
use Rattle.far_base.specs.declared.record.Record.{Record}
use Rattle.far_model.specs.Controller.{ControllerState, job_turn, completes, snapshot_begun, part_came, same_part, same_came, start_snapshot, start_packet, is_last_present}
use Rattle.far_model.specs.Events.{controller_turn}
use Rattle.far_model.specs.Members.{Among, Each}
use Rattle.far_model.specs.Parties.{Turn, idle, messages_from, to_party}
use Rattle.far_invariants.specs.Past.{SnapshotStart}
use Rattle.far_model.specs.Snapshots.{Job, SnapshotView, no_snapshot, has_begun, has_part, is_whole, completed, part_reads, with_part, new_job}
use Rattle.far_model.specs.State.{State}
use Rattle.far_model.specs.View.{is_taken}
use Rattle.far_model.proofs.Members.{among_append_right, among_at, among_map}
use Rattle.far_invariants.specs.SnapshotFlights.{Flies, IsStartIn, IsBegunOf, IsReadOf, is_part_of, parts_in, held_part, SnapshotsInFlight}
use Rattle.far_invariants.specs.Snapshots.{WasStarted, gathering, part_at, IsLast, PacketStands, SnapshotsStand}
use Rattle.flight_laws.proofs.SnapBasics.{both, not_true, by_test, by_case, same_place, counted, count_removed, count_append, count_none, get_or-replicate_default}
use Rattle.flight_laws.proofs.SnapFrame.{is_foreign, IsForeignOut, sent_is}
use Rattle.flight_laws.proofs.SnapGathering.{IsAside}
use Rattle.flight_laws.proofs.SnapServing.{foreign_no_part, flies_on, flies_with, serving_all, calm_flies}

-- ---- turns that serve no snapshot

pub no_parts : (from : Party) (outs : List Out) → Each IsForeignOut outs → (id k : ℕ) (m : Message) → Among m (messages_from from outs) → is_part_of id k m.packet ≡ false
no_parts from outs foreign id k m a = foreign_no_part id k m.packet (sent_is (λ p. is_foreign p ≡ true) from outs foreign m a)

pub aside_flies : (plan : PlanView) (s : State) (starts : List SnapshotStart) (t : Turn ControllerState) (done : ℕ) → IsAside s.controller t → SnapshotsInFlight plan s starts → SnapshotsInFlight plan (record (controller_turn s s.bag t) { done = done }) starts
aside_flies plan s starts t done a f = calm_flies plan s (record (controller_turn s s.bag t) { done = done }) starts refl a.same (λ i. refl) (serving_all s.bag (messages_from Controller t.out) (no_parts Controller t.out a.out)) f

-- a job is dropped, or completed
pub no_job_flies : (plan : PlanView) (t : State) (starts : List SnapshotStart) → t.controller.job ≡ None → SnapshotsInFlight plan t starts
no_job_flies plan t starts none = record {
  unfinished = λ j is. clash j is;
  once = λ j is. clash j is;
  one = λ up j is. clash j is;
  start = λ up j is. clash j is;
  begun = λ up j is. clash j is;
  reads = λ up j point is. clash j is;
}
  where
    clash : {P : Type 0} (j : Job) → t.controller.job ≡ Some j → P
    clash j is = absurd (let e : None ≡ Some j = sym none ∙ is in cc)

-- the reads of a job that has begun
reads_among : (epoch id n : ℕ) (parts : List (Option (Option Record))) (k : ℕ) → k < length parts → get_or parts k None ≡ None → Among (to_party Switch (SnapRead epoch id (n + k))) (part_reads epoch id n parts)
reads_among epoch id n [] k within none = absurd (omega (arith, within))
reads_among epoch id n (None ∷ parts) zero within none = inl (ap (λ w. to_party Switch (SnapRead epoch id w)) (omega arith))
reads_among epoch id n (Some p ∷ parts) zero within none = absurd cc
reads_among epoch id n (p ∷ parts) (suc k) within none = go (reads_among epoch id (suc n) parts k (omega (arith, within)) none)
  where
    go : Among (to_party Switch (SnapRead epoch id (suc n + k))) (part_reads epoch id (suc n) parts) → Among (to_party Switch (SnapRead epoch id (n + suc k))) (part_reads epoch id n (p ∷ parts))
    go a =
        let later : Among (to_party Switch (SnapRead epoch id (n + suc k))) (part_reads epoch id (suc n) parts) = subst (λ w. Among (to_party Switch (SnapRead epoch id w)) (part_reads epoch id (suc n) parts)) (omega arith) a in
        by_test (Among (to_party Switch (SnapRead epoch id (n + suc k)))) (is_some p) (part_reads epoch id (suc n) parts) (to_party Switch (SnapRead epoch id n) ∷ part_reads epoch id (suc n) parts) later (inr later)

reads_no_part : (epoch id n : ℕ) (parts : List (Option (Option Record))) → Each IsForeignOut (part_reads epoch id n parts)
reads_no_part epoch id n [] = tt
reads_no_part epoch id n (p ∷ parts) = by_test (Each IsForeignOut) (is_some p) (part_reads epoch id (suc n) parts) (to_party Switch (SnapRead epoch id n) ∷ part_reads epoch id (suc n) parts) (reads_no_part epoch id (suc n) parts) (refl, reads_no_part epoch id (suc n) parts)

-- ---- the controller gathers

module _ {tells : Bool} (plan : PlanView) (s : State) (starts : List SnapshotStart) (h : SnapshotsStand tells plan s starts) (f : SnapshotsInFlight plan s starts) (i : ℕ) (m : Message) (at : slice_get s.bag i ≡ Some m) where
  -- a job that goes on or is completed
  job_flies : (new : Job) (out : List Out) → (is_whole new ≡ false → SnapshotsInFlight plan (controller_turn s (remove s.bag i) (record { state = record s.controller { job = Some new }; out = out; notes = [] })) starts)
      → SnapshotsInFlight plan (controller_turn s (remove s.bag i) (job_turn plan.config s.controller new out)) starts
  job_flies new out goes = by_case (λ (t : Turn ControllerState). SnapshotsInFlight plan (controller_turn s (remove s.bag i) t) starts) (is_whole new) (completes plan.config s.controller (completed new) new.sames) (record { state = record s.controller { job = Some new }; out = out; notes = [] })
      (λ whole. no_job_flies plan (controller_turn s (remove s.bag i) (completes plan.config s.controller (completed new) new.sames)) starts refl) goes

  -- the message that comes is of no use
  idle_flies : ((j : Job) → s.controller.job ≡ Some j → (k : ℕ) → k < plan.config.slots → s.running ≡ true → WasStarted starts j.id → is_taken s.switch k ≡ true → is_part_of j.id k m.packet ≡ false)
      → ((j : Job) → s.controller.job ≡ Some j → j.begun ≡ None → IsBegunOf j.id m.packet → ⊥) → ((epoch id k : ℕ) → IsReadOf epoch id k m.packet → ⊥) → ((epoch id : ℕ) → IsStartIn epoch id m.packet → ⊥)
      → SnapshotsInFlight plan (controller_turn s (remove s.bag i) (idle s.controller)) starts
  idle_flies no_part no_begun no_read no_start = record {
    unfinished = f.unfinished;
    once = λ j is k. let o = f.once j is k in let a = rest j.id k in omega (arith, o, a);
    one = λ up j is st k within tk. let o = f.one up j is st k within tk in let a = same j.id k (no_part j is k within up st tk) in omega (arith, o, a);
    start = λ up j is. start j (f.start up j is);
    begun = λ up j is st none. flies_with (IsBegunOf j.id) (remove s.bag i) [] (flies_on (IsBegunOf j.id) s.bag i m at (no_begun j is none) (f.begun up j is st none));
    reads = λ up j point is has k within u. flies_with (IsReadOf s.controller.epoch j.id k) (remove s.bag i) [] (flies_on (IsReadOf s.controller.epoch j.id k) s.bag i m at (no_read s.controller.epoch j.id k) (f.reads up j point is has k within u));
  }
    where
      rest : (id k : ℕ) → parts_in id k (remove s.bag i ++ []) ≤ parts_in id k s.bag
      rest id k = let sum = count_append (λ (m : Message). is_part_of id k m.packet) (remove s.bag i) [] in let out = count_removed (λ (m : Message). is_part_of id k m.packet) s.bag i m at in omega (arith, sum, out)

      same : (id k : ℕ) → is_part_of id k m.packet ≡ false → parts_in id k (remove s.bag i ++ []) ≡ parts_in id k s.bag
      same id k off =
          let sum = count_append (λ (m : Message). is_part_of id k m.packet) (remove s.bag i) [] in
          let out = count_removed (λ (m : Message). is_part_of id k m.packet) s.bag i m at in
          let gone : counted (λ (m : Message). is_part_of id k m.packet) m ≡ 0 = ap (λ b. cond {A = ℕ} b 1 0) off in
          omega (arith, sum, out, gone)

      start : (j : Job) → WasStarted starts j.id ⊎ Flies (IsStartIn s.controller.epoch j.id) s.bag → WasStarted starts j.id ⊎ Flies (IsStartIn s.controller.epoch j.id) (remove s.bag i ++ [])
      start j (inl w) = inl w
      start j (inr x) = inr (flies_with (IsStartIn s.controller.epoch j.id) (remove s.bag i) [] (flies_on (IsStartIn s.controller.epoch j.id) s.bag i m at (no_start s.controller.epoch j.id) x))

  module _ (job : Job) (is : s.controller.job ≡ Some job) where
    its : (j : Job) → s.controller.job ≡ Some j → job ≡ j
    its j k = same_Some job j (sym is ∙ k)

    -- the snapshot has begun
    begun_goes : (point : ℕ) → m.packet ≡ SnapBegun job.id point → job.begun ≡ None → is_whole (record job { begun = Some point }) ≡ false
        → SnapshotsInFlight plan (controller_turn s (remove s.bag i) (record { state = record s.controller { job = Some (record job { begun = Some point }) }; out = part_reads s.controller.epoch job.id 0 job.parts; notes = [] })) starts
    begun_goes point packet none part = record {
      unfinished = λ j k. subst (λ (x : Job). is_whole x ≡ false) (same_Some _ j k) part;
      once = λ j k n. subst (λ (x : Job). parts_in x.id n bag + held_part x n ≤ 1) (same_Some _ j k) (let o = f.once job is n in let a = same job.id n in omega (arith, o, a));
      one = λ up j k st n within tk. subst (λ (x : Job). parts_in x.id n bag + held_part x n ≡ 1) (same_Some _ j k) (let o = f.one up job is (subst (λ w. WasStarted starts w) (sym (ap (λ (x : Job). x.id) (same_Some (record job { begun = Some point }) j k))) st) n within tk in let a = same job.id n in omega (arith, o, a));
      start = λ up j k. inl (subst (λ w. WasStarted starts w) (ap (λ (x : Job). x.id) (same_Some (record job { begun = Some point }) j k)) started);
      begun = λ up j k st off. absurd (let clash : Some point ≡ None = ap (λ (x : Job). x.begun) (same_Some (record job { begun = Some point }) j k) ∙ off in cc);
      reads = λ up j p k has n within u. subst (λ (x : Job). Flies (IsReadOf s.controller.epoch x.id n) bag) (same_Some (record job { begun = Some point }) j k) (read up n within u);
    }
      where
        bag : List Message
        bag = remove s.bag i ++ messages_from Controller (part_reads s.controller.epoch job.id 0 job.parts)

        started : WasStarted starts job.id
        started = let k : PacketStands tells s.running (gathering s.controller) starts (SnapBegun job.id point) = subst (PacketStands tells s.running (gathering s.controller) starts) packet (h.packets m (among_at m s.bag i at)) in record { start = k.0; of = k.1 }

        same : (id n : ℕ) → parts_in id n (remove s.bag i ++ messages_from Controller (part_reads s.controller.epoch job.id 0 job.parts)) ≡ parts_in id n s.bag
        same id n =
            let sum = count_append (λ (m : Message). is_part_of id n m.packet) (remove s.bag i) (messages_from Controller (part_reads s.controller.epoch job.id 0 job.parts)) in
            let zero = count_none (λ (m : Message). is_part_of id n m.packet) (messages_from Controller (part_reads s.controller.epoch job.id 0 job.parts)) (no_parts Controller (part_reads s.controller.epoch job.id 0 job.parts) (reads_no_part s.controller.epoch job.id 0 job.parts) id n) in
            let out = count_removed (λ (m : Message). is_part_of id n m.packet) s.bag i m at in
            let gone : counted (λ (m : Message). is_part_of id n m.packet) m ≡ 0 = ap (λ p. cond {A = ℕ} (is_part_of id n p) 1 0) packet in
            omega (arith, sum, zero, out, gone)

        read : s.running ≡ true → (n : ℕ) → n < plan.config.slots → is_taken s.switch n ≡ false → Flies (IsReadOf s.controller.epoch job.id n) (remove s.bag i ++ messages_from Controller (part_reads s.controller.epoch job.id 0 job.parts))
        read up n within u = record {
          message = record { from = Controller; to = Switch; packet = SnapRead s.controller.epoch job.id (0 + n) };
          there = among_append_right _ (remove s.bag i) (messages_from Controller (part_reads s.controller.epoch job.id 0 job.parts))
              (among_map (λ (out : Out). record { from = Controller; to = out.to; packet = out.packet }) (to_party Switch (SnapRead s.controller.epoch job.id (0 + n))) (part_reads s.controller.epoch job.id 0 job.parts)
              (reads_among s.controller.epoch job.id 0 job.parts n (let l = (h.gathered.job job is).slots in omega (arith, l, within)) (empty (get_or job.parts n None) refl)));
          is = (refl, refl, omega arith);
        }
          where
            empty : (o : Option (Option Record)) → get_or job.parts n None ≡ o → o ≡ None
            empty None e = refl
            empty (Some view) e = absurd (let yes = ((h.in_step up).runs job is started.start started.of).parts n view e in let clash : true ≡ false = sym yes ∙ u in cc)

    -- a part comes and is added
    part_goes : (k : ℕ) (view : Option Record) (sames : ℕ) → ((id n : ℕ) → is_part_of id n m.packet ≡ (nat_eq job.id id && nat_eq k n)) → k < length job.parts → part_at job k ≡ None
        → (job.begun ≡ None → IsBegunOf job.id m.packet → ⊥) → ((epoch id n : ℕ) → IsReadOf epoch id n m.packet → ⊥) → ((epoch id : ℕ) → IsStartIn epoch id m.packet → ⊥)
        → is_whole (record (with_part job k view) { sames = sames }) ≡ false
        → SnapshotsInFlight plan (controller_turn s (remove s.bag i) (record { state = record s.controller { job = Some (record (with_part job k view) { sames = sames }) }; out = []; notes = [] })) starts
    part_goes k view sames counts within none no_begun no_read no_start part = record {
      unfinished = λ j e. subst (λ (x : Job). is_whole x ≡ false) (same_Some _ j e) part;
      once = λ j e n. subst (λ (x : Job). parts_in x.id n (remove s.bag i ++ []) + held_part x n ≤ 1) (same_Some _ j e) (let o = f.once job is n in let a = moves n in omega (arith, o, a));
      one = λ up j e st n inside tk. subst (λ (x : Job). parts_in x.id n (remove s.bag i ++ []) + held_part x n ≡ 1) (same_Some _ j e)
          (let o = f.one up job is (subst (λ w. WasStarted starts w) (sym (ap (λ (x : Job). x.id) (same_Some (record (with_part job k view) { sames = sames }) j e))) st) n inside tk in let a = moves n in omega (arith, o, a));
      start = λ up j e. subst (λ (x : Job). WasStarted starts x.id ⊎ Flies (IsStartIn s.controller.epoch x.id) (remove s.bag i ++ [])) (same_Some (record (with_part job k view) { sames = sames }) j e) (start (f.start up job is));
      begun = λ up j e st off. subst (λ (x : Job). Flies (IsBegunOf x.id) (remove s.bag i ++ [])) (same_Some (record (with_part job k view) { sames = sames }) j e)
          (let off' : job.begun ≡ None = ap (λ (x : Job). x.begun) (same_Some (record (with_part job k view) { sames = sames }) j e) ∙ off in
          flies_with (IsBegunOf job.id) (remove s.bag i) [] (flies_on (IsBegunOf job.id) s.bag i m at (no_begun off') (f.begun up job is (subst (λ w. WasStarted starts w) (sym (ap (λ (x : Job). x.id) (same_Some (record (with_part job k view) { sames = sames }) j e))) st) off')));
      reads = λ up j p e has n inside u. subst (λ (x : Job). Flies (IsReadOf s.controller.epoch x.id n) (remove s.bag i ++ [])) (same_Some (record (with_part job k view) { sames = sames }) j e)
          (flies_with (IsReadOf s.controller.epoch job.id n) (remove s.bag i) [] (flies_on (IsReadOf s.controller.epoch job.id n) s.bag i m at (no_read s.controller.epoch job.id n) (f.reads up job p is (ap (λ (x : Job). x.begun) (same_Some (record (with_part job k view) { sames = sames }) j e) ∙ has) n inside u)));
    }
      where
        -- one part less is on its way, and one more is held
        moves : (n : ℕ) → parts_in job.id n (remove s.bag i ++ []) + held_part (with_part job k view) n ≡ parts_in job.id n s.bag + held_part job n
        moves n = go (same_place n k)
          where
            sum : parts_in job.id n (remove s.bag i ++ []) + cond {A = ℕ} (nat_eq job.id job.id && nat_eq k n) 1 0 ≡ parts_in job.id n s.bag
            sum =
                let a = count_append (λ (m : Message). is_part_of job.id n m.packet) (remove s.bag i) [] in
                let out = count_removed (λ (m : Message). is_part_of job.id n m.packet) s.bag i m at in
                let one : counted (λ (m : Message). is_part_of job.id n m.packet) m ≡ cond {A = ℕ} (nat_eq job.id job.id && nat_eq k n) 1 0 = ap (λ b. cond {A = ℕ} b 1 0) (counts job.id n) in
                omega (arith, a, out, one)

            self : nat_eq job.id job.id ≡ true
            self = eq-eqb job.id job.id refl

            go : (n ≡ k) ⊎ (n ≢ k) → parts_in job.id n (remove s.bag i ++ []) + held_part (with_part job k view) n ≡ parts_in job.id n s.bag + held_part job n
            go (inl e) =
                let one : cond {A = ℕ} (nat_eq job.id job.id && nat_eq k n) 1 0 ≡ 1 = ap (λ b. cond {A = ℕ} (b && nat_eq k n) 1 0) self ∙ ap (λ b. cond {A = ℕ} b 1 0) (eq-eqb k n (sym e)) in
                let before : held_part job n ≡ 0 = ap (λ w. held_part job w) e ∙ ap (λ o. cond {A = ℕ} (is_some o) 1 0) none in
                let after : held_part (with_part job k view) n ≡ 1 = ap (λ w. held_part (with_part job k view) w) e ∙ ap (λ o. cond {A = ℕ} (is_some o) 1 0) (get_or-set_same job.parts k (Some view) None within) in
                let s0 = sum in omega (arith, one, before, after, s0)
            go (inr ne) =
                let zero : cond {A = ℕ} (nat_eq job.id job.id && nat_eq k n) 1 0 ≡ 0 = ap (λ b. cond {A = ℕ} (b && nat_eq k n) 1 0) self ∙ ap (λ b. cond {A = ℕ} b 1 0) (differ (nat_eq k n) refl) in
                let after : held_part (with_part job k view) n ≡ held_part job n = ap (λ o. cond {A = ℕ} (is_some o) 1 0) (get_or-set_other job.parts k n (Some view) None ne) in
                let s0 = sum in omega (arith, zero, after, s0)
              where
                differ : (b : Bool) → nat_eq k n ≡ b → b ≡ false
                differ true e = absurd (ne (sym (eqb-true k n e)))
                differ false e = refl

        start : WasStarted starts job.id ⊎ Flies (IsStartIn s.controller.epoch job.id) s.bag → WasStarted starts job.id ⊎ Flies (IsStartIn s.controller.epoch job.id) (remove s.bag i ++ [])
        start (inl w) = inl w
        start (inr x) = inr (flies_with (IsStartIn s.controller.epoch job.id) (remove s.bag i) [] (flies_on (IsStartIn s.controller.epoch job.id) s.bag i m at (no_start s.controller.epoch job.id) x))

  pub begun_flies : (id point : ℕ) → m.packet ≡ SnapBegun id point → (o : Option Job) → s.controller.job ≡ o → SnapshotsInFlight plan (controller_turn s (remove s.bag i) (snapshot_begun plan.config s.controller id point o)) starts
  begun_flies id point packet None is = no_job_flies plan (controller_turn s (remove s.bag i) (idle s.controller)) starts is
  begun_flies id point packet (Some job) is = by_case (λ (t : Turn ControllerState). SnapshotsInFlight plan (controller_turn s (remove s.bag i) t) starts) (nat_eq job.id id && not (has_begun job))
      (job_turn plan.config s.controller (record job { begun = Some point }) (part_reads s.controller.epoch id 0 job.parts)) (idle s.controller)
      (λ test. let e = eqb-true job.id id (both (nat_eq job.id id) _ test).0 in
      job_flies (record job { begun = Some point }) (part_reads s.controller.epoch id 0 job.parts)
      (λ part. subst (λ w. SnapshotsInFlight plan (controller_turn s (remove s.bag i) (record { state = record s.controller { job = Some (record job { begun = Some point }) }; out = part_reads s.controller.epoch w 0 job.parts; notes = [] })) starts) e
      (begun_goes job is point (packet ∙ ap (λ w. SnapBegun w point) (sym e)) (fresh job.begun refl (not_true (has_begun job) (both (nat_eq job.id id) _ test).1)) part)))
      (λ other. idle_flies (λ j k n within up st tk. ap (is_part_of j.id n) packet)
      (λ j k none b. late j k none (subst (IsBegunOf j.id) packet b) other)
      (λ epoch own n r. subst (IsReadOf epoch own n) packet r) (λ epoch own x. subst (IsStartIn epoch own) packet x))
    where
      fresh : (o : Option ℕ) → job.begun ≡ o → is_some job.begun ≡ false → job.begun ≡ None
      fresh None e off = e
      fresh (Some n) e off = absurd (let clash : true ≡ false = ap (λ (o : Option ℕ). is_some o) (sym e) ∙ off in cc)

      late : (j : Job) → s.controller.job ≡ Some j → j.begun ≡ None → id ≡ j.id → (nat_eq job.id id && not (has_begun job)) ≡ false → ⊥
      late j k none e off =
          let same = same_Some job j (sym is ∙ k) in
          let a : nat_eq job.id id ≡ true = eq-eqb _ _ (ap (λ (x : Job). x.id) same ∙ sym e) in
          let b : not (has_begun job) ≡ true = ap (λ (o : Option ℕ). not (is_some o)) (ap (λ (x : Job). x.begun) same ∙ none) in
          let all : (nat_eq job.id id && not (has_begun job)) ≡ true = ap (λ x. x && not (has_begun job)) a ∙ b in
          let clash : true ≡ false = sym all ∙ off in absurd cc

  -- a part that is not added is of another job, or of no slot; a second part of a slot does not come
  part_idle : (job : Job) → s.controller.job ≡ Some job → (id k : ℕ) → ((own n : ℕ) → is_part_of own n m.packet ≡ (nat_eq id own && nat_eq k n)) → (nat_eq job.id id && (nat_lt k (length job.parts) && not (has_part job k))) ≡ false
      → (j : Job) → s.controller.job ≡ Some j → (n : ℕ) → n < plan.config.slots → is_part_of j.id n m.packet ≡ false
  part_idle job is id k counts off j e n within = go (is_part_of j.id n m.packet) refl
    where
      same : job ≡ j
      same = same_Some job j (sym is ∙ e)

      go : (b : Bool) → is_part_of j.id n m.packet ≡ b → b ≡ false
      go false q = refl
      go true q =
          let t = both (nat_eq id j.id) (nat_eq k n) (sym (counts j.id n) ∙ q) in
          let a : nat_eq job.id id ≡ true = eq-eqb _ _ (ap (λ (x : Job). x.id) same ∙ sym (eqb-true id j.id t.0)) in
          let kn = eqb-true k n t.1 in
          let b : nat_lt k (length job.parts) ≡ true = lt-ltb _ _ (let l = (h.gathered.job job is).slots in omega (arith, kn, within, l)) in
          let c : not (has_part job k) ≡ false = rest a b in
          absurd (let one = f.once j e n in
          let held : held_part j n ≡ 1 = ap (λ (x : Job). held_part x n) (sym same) ∙ ap (λ w. held_part job w) (sym kn) ∙ ap (λ x. cond {A = ℕ} x 1 0) (come (has_part job k) refl c) in
          let out = count_removed (λ (m : Message). is_part_of j.id n m.packet) s.bag i m at in
          let it : counted (λ (m : Message). is_part_of j.id n m.packet) m ≡ 1 = ap (λ x. cond {A = ℕ} x 1 0) q in
          omega (arith, one, held, out, it))
        where
          rest : nat_eq job.id id ≡ true → nat_lt k (length job.parts) ≡ true → not (has_part job k) ≡ false
          rest a b = sym (ap (λ x. x && (nat_lt k (length job.parts) && not (has_part job k))) a ∙ ap (λ x. x && not (has_part job k)) b) ∙ off

          come : (x : Bool) → has_part job k ≡ x → not (has_part job k) ≡ false → has_part job k ≡ true
          come true y z = y
          come false y z = absurd (let clash : true ≡ false = ap not (sym y) ∙ z in cc)

  -- a part comes, in whatever form
  added_flies : (job : Job) → s.controller.job ≡ Some job → (id k : ℕ) (view : Option Record) (sames : ℕ) → ((own n : ℕ) → is_part_of own n m.packet ≡ (nat_eq id own && nat_eq k n))
      → ((own : ℕ) → IsBegunOf own m.packet → ⊥) → ((epoch id n : ℕ) → IsReadOf epoch id n m.packet → ⊥) → ((epoch id : ℕ) → IsStartIn epoch id m.packet → ⊥)
      → SnapshotsInFlight plan (controller_turn s (remove s.bag i) (if nat_eq job.id id && (nat_lt k (length job.parts) && not (has_part job k)) then job_turn plan.config s.controller (record (with_part job k view) { sames = sames }) [] else idle s.controller)) starts
  added_flies job is id k view sames counts no_begun no_read no_start = by_case (λ (t : Turn ControllerState). SnapshotsInFlight plan (controller_turn s (remove s.bag i) t) starts) (nat_eq job.id id && (nat_lt k (length job.parts) && not (has_part job k)))
      (job_turn plan.config s.controller (record (with_part job k view) { sames = sames }) []) (idle s.controller)
      (λ test. let t = both (nat_eq job.id id) _ test in let u = both (nat_lt k (length job.parts)) _ t.1 in let e = eqb-true job.id id t.0 in
      job_flies (record (with_part job k view) { sames = sames }) [] (λ part. part_goes job is k view sames (λ own n. counts own n ∙ ap (λ w. nat_eq w own && nat_eq k n) (sym e)) (ltb-true k (length job.parts) u.0) (absent (part_at job k) refl (not_true (has_part job k) u.1)) (λ none. no_begun job.id) no_read no_start part))
      (λ off. idle_flies (λ j e n within up st tk. part_idle job is id k counts off j e n within) (λ j e none. no_begun j.id) no_read no_start)
    where
      absent : (o : Option (Option Record)) → part_at job k ≡ o → is_some (part_at job k) ≡ false → part_at job k ≡ None
      absent None e off = e
      absent (Some v) e off = absurd (let clash : true ≡ false = ap (λ (o : Option (Option Record)). is_some o) (sym e) ∙ off in cc)

  pub part_flies : (id k : ℕ) (view : Option Record) → m.packet ≡ SnapPart id k view → (o : Option Job) → s.controller.job ≡ o → SnapshotsInFlight plan (controller_turn s (remove s.bag i) (part_came plan.config s.controller id k view o)) starts
  part_flies id k view packet None is = no_job_flies plan (controller_turn s (remove s.bag i) (idle s.controller)) starts is
  part_flies id k view packet (Some job) is = added_flies job is id k view job.sames (λ own n. ap (is_part_of own n) packet) (λ own b. subst (IsBegunOf own) packet b) (λ epoch own n r. subst (IsReadOf epoch own n) packet r) (λ epoch own x. subst (IsStartIn epoch own) packet x)

  pub same_flies : (id k : ℕ) → m.packet ≡ SnapSame id k → (o : Option Job) → s.controller.job ≡ o → SnapshotsInFlight plan (controller_turn s (remove s.bag i) (same_came plan.config s.controller id k o)) starts
  same_flies id k packet None is = no_job_flies plan (controller_turn s (remove s.bag i) (idle s.controller)) starts is
  same_flies id k packet (Some job) is = go (slice_get s.controller.last.views k) refl
    where
      go : (o : Option (Option Record)) → slice_get s.controller.last.views k ≡ o → SnapshotsInFlight plan (controller_turn s (remove s.bag i) (same_part plan.config s.controller id k job o)) starts
      go (Some view) e = added_flies job is id k view (job.sames + 1) (λ own n. ap (is_part_of own n) packet) (λ own b. subst (IsBegunOf own) packet b) (λ epoch own n r. subst (IsReadOf epoch own n) packet r) (λ epoch own x. subst (IsStartIn epoch own) packet x)
      go None e = idle_flies (λ j k' n within up st tk. none j k' n within (is_part_of j.id n m.packet) refl)
          (λ j k' off b. subst (IsBegunOf j.id) packet b) (λ epoch own n r. subst (IsReadOf epoch own n) packet r) (λ epoch own x. subst (IsStartIn epoch own) packet x)
        where
          none : (j : Job) → s.controller.job ≡ Some j → (n : ℕ) → n < plan.config.slots → (b : Bool) → is_part_of j.id n m.packet ≡ b → b ≡ false
          none j k' n within false q = refl
          none j k' n within true q =
              let t = both (nat_eq id j.id) (nat_eq k n) (sym (ap (is_part_of j.id n) packet) ∙ q) in
              let stands : PacketStands tells s.running (gathering s.controller) starts (SnapSame id k) = subst (PacketStands tells s.running (gathering s.controller) starts) packet (h.packets m (among_at m s.bag i at)) in
              let some = (stands.1 j k' (sym (eqb-true id j.id t.0))).0 in
              let kn = eqb-true k n t.1 in
              absurd (last some (omega (arith, kn, within)) h.gathered.last)
            where
              last : 0 < s.controller.last.id → k < plan.config.slots → (s.controller.last ≡ no_snapshot) ⊎ IsLast tells starts s.controller.last → ⊥
              last some inside (inl z) = let e0 : s.controller.last.id ≡ 0 = ap (λ (x : SnapshotView). x.id) z in absurd (omega (arith, e0, some))
              last some inside (inr l) =
                  let long : k < length s.controller.last.views = (let a = l.same in let b = h.rise.views l.start l.of.there in omega (arith, a, b, inside)) in
                  let there = slice_get-get_or s.controller.last.views k None long in
                  let clash : None ≡ Some (get_or s.controller.last.views k None) = sym e ∙ there in absurd cc

-- ---- the other events

module _ {tells : Bool} where
  pub order_flies : (plan : PlanView) (s : State) (starts : List SnapshotStart) → SnapshotsStand tells plan s starts → (done : ℕ) → SnapshotsInFlight plan (record (controller_turn s s.bag (start_snapshot s.controller)) { done = done }) starts
  order_flies plan s starts h done = record {
    unfinished = λ j e. subst (λ (x : Job). is_whole x ≡ false) (same_Some new j e) refl;
    once = λ j e n. subst (λ (x : Job). parts_in x.id n bag + held_part x n ≤ 1) (same_Some new j e) (let a = none n in let b = empty n in omega (arith, a, b));
    one = λ up j e st. absurd (unstarted st (same_Some new j e));
    start = λ up j e. inr (subst (λ (x : Job). Flies (IsStartIn s.controller.epoch x.id) bag) (same_Some new j e) its);
    begun = λ up j e st. absurd (unstarted st (same_Some new j e));
    reads = λ up j p e has. absurd (let clash : None ≡ Some p = ap (λ (x : Job). x.begun) (same_Some new j e) ∙ has in cc);
  }
    where
      new : Job
      new = new_job s.controller.next_id (length s.controller.slots)

      bag : List Message
      bag = s.bag ++ messages_from Controller (to_party Switch (start_packet s.controller) ∷ [])

      unstarted : {j : Job} → WasStarted starts j.id → new_job s.controller.next_id (length s.controller.slots) ≡ j → ⊥
      unstarted st e = let b = h.rise.below st.start st.of.there in let a = st.of.is in let c = ap (λ (x : Job). x.id) e in absurd (omega (arith, a, b, c))

      empty : (n : ℕ) → held_part (new_job s.controller.next_id (length s.controller.slots)) n ≡ 0
      empty n = ap (λ o. cond {A = ℕ} (is_some o) 1 0) (get_or-replicate_default (length s.controller.slots) n None)

      old_part : (p : Packet) (n : ℕ) → PacketStands tells s.running (gathering s.controller) starts p → is_part_of s.controller.next_id n p ≡ false
      old_part (SnapPart own j view) n k = go (nat_eq own s.controller.next_id) refl
        where
          go : (b : Bool) → nat_eq own s.controller.next_id ≡ b → (b && nat_eq j n) ≡ false
          go false e = refl
          go true e = absurd (let b = h.rise.below k.start k.of.there in let a = k.of.is in let c = eqb-true _ _ e in omega (arith, a, b, c))
      old_part (SnapSame own j) n k = go (nat_eq own s.controller.next_id) refl
        where
          go : (b : Bool) → nat_eq own s.controller.next_id ≡ b → (b && nat_eq j n) ≡ false
          go false e = refl
          go true e = absurd (let b = h.rise.below k.0.start k.0.of.there in let a = k.0.of.is in let c = eqb-true _ _ e in omega (arith, a, b, c))
      old_part _ n k = refl

      none : (n : ℕ) → parts_in s.controller.next_id n (s.bag ++ messages_from Controller (to_party Switch (start_packet s.controller) ∷ [])) ≡ 0
      none n =
          let sum = count_append (λ (m : Message). is_part_of s.controller.next_id n m.packet) s.bag (messages_from Controller (to_party Switch (start_packet s.controller) ∷ [])) in
          let old = count_none (λ (m : Message). is_part_of s.controller.next_id n m.packet) s.bag (λ m a. old_part m.packet n (h.packets m a)) in
          let one : cond {A = ℕ} (is_part_of s.controller.next_id n (start_packet s.controller)) 1 0 ≡ 0 =
          by_test (λ p. cond {A = ℕ} (is_part_of s.controller.next_id n p) 1 0 ≡ 0) (is_last_present s.controller) (SnapFrom s.controller.epoch s.controller.next_id s.controller.last.id) (SnapStart s.controller.epoch s.controller.next_id) refl refl in
          omega (arith, sum, old, one)

      its : Flies (IsStartIn s.controller.epoch s.controller.next_id) (s.bag ++ messages_from Controller (to_party Switch (start_packet s.controller) ∷ []))
      its = record {
        message = record { from = Controller; to = Switch; packet = start_packet s.controller };
        there = among_append_right _ s.bag _ (inl refl);
        is = by_test (IsStartIn s.controller.epoch s.controller.next_id) (is_last_present s.controller) (SnapFrom s.controller.epoch s.controller.next_id s.controller.last.id) (SnapStart s.controller.epoch s.controller.next_id) (refl, refl) (refl, refl);
      }

-- a stopped switch: only that no slot has two parts
pub stopped_flies : (plan : PlanView) (s t : State) (starts : List SnapshotStart) → t.running ≡ false → t.controller ≡ s.controller → t.bag ≡ s.bag → SnapshotsInFlight plan s starts → SnapshotsInFlight plan t starts
stopped_flies plan s t starts down same bag f = record {
  unfinished = λ j is. f.unfinished j (ap (λ (c : ControllerState). c.job) (sym same) ∙ is);
  once = λ j is k. subst (λ l. parts_in j.id k l + held_part j k ≤ 1) (sym bag) (f.once j (ap (λ (c : ControllerState). c.job) (sym same) ∙ is) k);
  one = λ up. still up;
  start = λ up. still up;
  begun = λ up. still up;
  reads = λ up. still up;
}
  where
    still : {P : Type 0} → t.running ≡ true → P
    still up = absurd (let clash : true ≡ false = sym up ∙ down in cc)

-- A snapshot that is completed covers what the one before covered; a job has what it waits for on its way.
use Rattle.std.proofs.Common.{◌≡◌, ℕ, suc, ◌+◌, ◌<◌, ◌≤◌, ◌⊎◌, inl, inr, Bool, true, false, cond, List, [], ◌∷◌, length, get_or, refl, sym, ap, ◌∙◌, subst, arith}
use Rattle.std.specs.Prelude.{Option, Some, None, ◌&&◌, not, nat_eq, nat_lt, is_some, slice_get}
use Rattle.std.specs.List.{remove, list_all}
use Rattle.far_base.specs.PlanView.{PlanView}
use Rattle.far_base.specs.declared.event.Event.{Event}
use Rattle.far_base.specs.declared.event.Event.TheVariants.{Send, Deliver, Tick, Recover, Restart, Order as OrderOf}
use Rattle.far_base.specs.declared.log.LogLine.{LogLine}
use Rattle.far_base.specs.declared.packet.Message.{Message}
use Rattle.far_base.specs.declared.packet.Packet.{Packet}
use Rattle.far_base.specs.declared.packet.Packet.TheVariants.{SnapBegun, SnapPart, SnapSame}
use Rattle.far_base.specs.declared.packet.Out.{Out}
use Rattle.far_base.specs.declared.party.Party.{Party}
use Rattle.far_base.specs.declared.party.Party.TheVariants.{Client, Switch, Server, Controller}
use Rattle.far_base.specs.declared.plan.Config.{Config}
use Rattle.far_base.specs.declared.plan.Order.{Order}
use Rattle.far_base.specs.declared.plan.Order.TheVariants.{Admit as AdmitOrder, Evict as EvictOrder, Snap as SnapOrder, Stop as StopOrder, StopAt as StopAtOrder}
use Rattle.far_base.specs.declared.record.Record.{Record}
use Rattle.far_model.specs.Controller.{ControllerState, controller_takes, job_turn, completes, snapshot_begun, part_came, same_part, same_came, wanted, evict_key, tick, ready}
use Rattle.far_model.specs.Events.{Keeping, happens, keeping_of, handled, delivers, ticks, restarts, does_order, is_enabled, reply_to, all_listed}
use Rattle.far_model.specs.Members.{Among}
use Rattle.far_model.specs.Parties.{Turn, idle}
use Rattle.far_invariants.specs.Past.{SnapshotStart, Past, new_starts, remembers}
use Rattle.far_model.specs.Snapshots.{Job, SnapshotView, no_snapshot, has_begun, has_part, is_whole, completed, part_reads, with_part, with_same}
use Rattle.far_model.specs.State.{State}
use Rattle.far_model.specs.View.{is_taken}
use Rattle.far_model.proofs.Members.{among_append_left}
use Rattle.far_invariants.specs.SnapshotLaws.{CompletionIsSafe, JobIsServed}
use Rattle.far_invariants.specs.SnapshotNeeds.{Needs}
use Rattle.far_invariants.specs.SnapshotFlights.{Flies, IsStartIn, IsReadOf, is_part_of, parts_in, held_part, SnapshotsInFlight}
use Rattle.far_invariants.specs.Snapshots.{WasStarted, Gathering, part_at, IsLast, SnapshotsStand}
use Rattle.flight_laws.proofs.SnapBasics.{by_test, count_none}
use Rattle.flight_laws.proofs.SnapFrame.{start_more, points_rise}
use Rattle.flight_laws.proofs.SnapGathering.{IsAside}
use Rattle.flight_laws.proofs.SnapEvents.{event_stands}
use Rattle.flight_laws.proofs.SnapMeanings.{completion_safe}
use Rattle.flight_laws.proofs.SnapServing.{part_says}
use Rattle.flight_laws.proofs.SnapTurning.{wanted_aside, takes_aside, evict_aside, tick_aside}

-- ---- the last completed snapshot stays, or is a newer one

abbrev pub LastGoesOn : ControllerState → ControllerState → Type 0
LastGoesOn c d = (d.last ≡ c.last) ⊎ (c.last.id < d.last.id)

aside_goes : (c : ControllerState) (t : Turn ControllerState) → IsAside c t → LastGoesOn c t.state
aside_goes c t a = inl (ap (λ (g : Gathering). g.last) a.same)

job_goes_on : (config : Config) (c : ControllerState) (j : Job) (out : List Out) → c.last.id < j.id → LastGoesOn c (job_turn config c j out).state
job_goes_on config c j out newer = by_test (λ (t : Turn ControllerState). LastGoesOn c t.state) (is_whole j) (completes config c (completed j) j.sames) (record { state = record c { job = Some j }; out = out; notes = [] }) (inr newer) (inl refl)

module _ (config : Config) (c : ControllerState) (newer : (j : Job) → c.job ≡ Some j → c.last.id < j.id) where
  begun_goes_on : (id point : ℕ) (o : Option Job) → c.job ≡ o → LastGoesOn c (snapshot_begun config c id point o).state
  begun_goes_on id point None is = inl refl
  begun_goes_on id point (Some j) is = by_test (λ (t : Turn ControllerState). LastGoesOn c t.state) (nat_eq j.id id && not (has_begun j)) (job_turn config c (record j { begun = Some point }) (part_reads c.epoch id 0 j.parts)) (idle c) (job_goes_on config c (record j { begun = Some point }) (part_reads c.epoch id 0 j.parts) (newer j is)) (inl refl)

  part_goes_on : (id i : ℕ) (view : Option Record) (o : Option Job) → c.job ≡ o → LastGoesOn c (part_came config c id i view o).state
  part_goes_on id i view None is = inl refl
  part_goes_on id i view (Some j) is = by_test (λ (t : Turn ControllerState). LastGoesOn c t.state) (nat_eq j.id id && (nat_lt i (length j.parts) && not (has_part j i))) (job_turn config c (with_part j i view) []) (idle c) (job_goes_on config c (with_part j i view) [] (newer j is)) (inl refl)

  same_goes_on : (id i : ℕ) (o : Option Job) → c.job ≡ o → LastGoesOn c (same_came config c id i o).state
  same_goes_on id i None is = inl refl
  same_goes_on id i (Some j) is = go (slice_get c.last.views i)
    where
      go : (o : Option (Option Record)) → LastGoesOn c (same_part config c id i j o).state
      go None = inl refl
      go (Some view) = by_test (λ (t : Turn ControllerState). LastGoesOn c t.state) (nat_eq j.id id && (nat_lt i (length j.parts) && not (has_part j i))) (job_turn config c (with_same j i view) []) (idle c) (job_goes_on config c (with_same j i view) [] (newer j is)) (inl refl)

  takes_goes_on : (p : Packet) → LastGoesOn c (controller_takes config c p).state
  takes_goes_on (SnapBegun id point) = begun_goes_on id point c.job refl
  takes_goes_on (SnapPart id i view) = part_goes_on id i view c.job refl
  takes_goes_on (SnapSame id i) = same_goes_on id i c.job refl
  takes_goes_on p = aside_goes c (controller_takes config c p) (takes_aside config c p refl)

-- ---- over every event

pub record GoesOn (s t : State) : Type 0 where
  pub last : LastGoesOn s.controller t.controller
  pub log : (l : LogLine) → Among l s.log → Among l t.log

module _ (plan : PlanView) (s : State) (newer : (j : Job) → s.controller.job ≡ Some j → s.controller.last.id < j.id) where
  handled_goes : (k : Keeping) (rest : List Message) (to : Party) (p : Packet) → GoesOn s (handled plan k s rest to p)
  handled_goes k rest (Client c) p = record { last = inl refl; log = λ l a. among_append_left l s.log _ a }
  handled_goes k rest Switch p = record { last = inl refl; log = λ l a. among_append_left l s.log _ a }
  handled_goes k rest (Server n) p = record { last = inl refl; log = λ l a. among_append_left l s.log _ a }
  handled_goes k rest Controller p = record { last = takes_goes_on plan.config s.controller newer p; log = λ l a. among_append_left l s.log _ a }

  delivered_goes : (k : Keeping) (i : ℕ) (o : Option Message) → GoesOn s (delivers plan k s i o)
  delivered_goes k i None = record { last = inl refl; log = λ l a. a }
  delivered_goes k i (Some m) = handled_goes k (remove s.bag i) m.to m.packet

  ticked_goes : (o : Option (Turn ControllerState)) → tick s.controller ≡ o → GoesOn s (ticks s o)
  ticked_goes None e = record { last = inl refl; log = λ l a. a }
  ticked_goes (Some t) e = record { last = aside_goes s.controller t (tick_aside s.controller t e); log = λ l a. among_append_left l s.log _ a }

  restarted_goes : (k : Keeping) (o : Option ℕ) → GoesOn s (restarts plan k s o)
  restarted_goes k None = record { last = inl refl; log = λ l a. a }
  restarted_goes k (Some n) = record { last = inl refl; log = λ l a. among_append_left l s.log _ a }

  ordered_goes : (o : Option Order) (done : ℕ) → GoesOn s (record (does_order plan s o) { done = done })
  ordered_goes None done = record { last = inl refl; log = λ l a. a }
  ordered_goes (Some (AdmitOrder step key)) done = record { last = aside_goes s.controller (idle (wanted key s.controller)) (wanted_aside s.controller key); log = λ l a. among_append_left l s.log _ a }
  ordered_goes (Some (EvictOrder step key)) done = record { last = aside_goes s.controller (evict_key key s.controller) (evict_aside s.controller key); log = λ l a. among_append_left l s.log _ a }
  ordered_goes (Some (SnapOrder step)) done = record { last = inl refl; log = λ l a. among_append_left l s.log _ a }
  ordered_goes (Some (StopOrder step)) done = record { last = inl refl; log = λ l a. among_append_left l s.log _ a }
  ordered_goes (Some (StopAtOrder kind times)) done = record { last = inl refl; log = λ l a. among_append_left l s.log _ a }

  event_goes : (e : Event) → GoesOn s (happens plan s e)
  event_goes (Send c) = record { last = inl refl; log = λ l a. among_append_left l s.log _ a }
  event_goes (Deliver i) = delivered_goes (record { reply = reply_to s (slice_get s.bag i); records = all_listed s.servers }) i (slice_get s.bag i)
  event_goes Tick = ticked_goes (tick s.controller) refl
  event_goes Recover = record { last = inl refl; log = λ l a. among_append_left l s.log _ a }
  event_goes Restart = restarted_goes (keeping_of s Restart) (ready s.controller)
  event_goes (OrderOf j) = ordered_goes (slice_get plan.orders j) (s.done + 1)

-- what the last completed snapshot covered before an event is covered after it
pub event_covers : (plan : PlanView) (s : State) (p : Past) (e : Event) → SnapshotsStand true plan s p.starts → Needs true plan s → is_enabled plan s e ≡ true → CompletionIsSafe plan s (happens plan s e)
event_covers plan s p e h owed can = completion_safe plan s (happens plan s e) p.starts (remembers s p e).starts h k
    (λ key num a. record { op = a.op; on_key = a.on_key; numbered_at = a.numbered_at; numbered = g.log _ a.numbered; absorbed = record { emitted_at = a.absorbed.emitted_at; body = a.absorbed.body; emitted = g.log _ a.absorbed.emitted } })
    (rises g.last h.gathered.last k.gathered.last)
  where
    k : SnapshotsStand true plan (happens plan s e) (remembers s p e).starts
    k = event_stands plan s p e h owed can

    g : GoesOn s (happens plan s e)
    g = event_goes plan s (λ j is. (h.gathered.job j is).newer) e

    rises : LastGoesOn s.controller (happens plan s e).controller → (s.controller.last ≡ no_snapshot) ⊎ IsLast true p.starts s.controller.last → ((happens plan s e).controller.last ≡ no_snapshot) ⊎ IsLast true (remembers s p e).starts (happens plan s e).controller.last
        → s.controller.last.point ≤ (happens plan s e).controller.last.point
    rises (inl same) old new = let e0 = ap (λ (x : SnapshotView). x.point) same in omega (arith, e0)
    rises (inr more) (inl none) new = let z : s.controller.last.point ≡ 0 = ap (λ (x : SnapshotView). x.point) none in omega (arith, z)
    rises (inr more) (inr l) (inl none) = absurd (let z : (happens plan s e).controller.last.id ≡ 0 = ap (λ (x : SnapshotView). x.id) none in omega (arith, z, more))
    rises (inr more) (inr l) (inr n) =
        let r = points_rise refl (remembers s p e).starts s.controller.last.id (happens plan s e).controller.last.id l.start n.start k.rise.order (start_more p.starts (new_starts s e) s.controller.last.id l.start l.of) n.of more in
        let a = l.point in let b = n.point in omega (arith, r, a, b)

-- ---- what a job waits for

module _ {tells : Bool} (plan : PlanView) (s : State) (starts : List SnapshotStart) (h : SnapshotsStand tells plan s starts) (f : SnapshotsInFlight plan s starts) (runs : s.running ≡ true) where
  pub job_is_served : (j : Job) → s.controller.job ≡ Some j → JobIsServed plan s starts j
  job_is_served j is = record {
    start = f.start runs j is;
    begun = λ w none. f.begun runs j is w none;
    slots = λ point has i within none. slot point has i within none (is_taken s.switch i) refl;
    taken = λ w i within t. f.one runs j is w i within t;
    untaken = λ w i u. nothing w i u;
  }
    where
      slot : (point : ℕ) → j.begun ≡ Some point → (i : ℕ) → i < plan.config.slots → part_at j i ≡ None → (b : Bool) → is_taken s.switch i ≡ b → Flies (IsReadOf s.controller.epoch j.id i) s.bag ⊎ (parts_in j.id i s.bag ≡ 1)
      slot point has i within none false t = inl (f.reads runs j point is has i within t)
      slot point has i within none true t =
          let b = (h.gathered.job j is).begun point has in
          let one = f.one runs j is (record { start = b.0; of = b.1 }) i within t in
          let zero : held_part j i ≡ 0 = ap (λ o. cond {A = ℕ} (is_some o) 1 0) none in
          inr (omega (arith, one, zero))

      nothing : WasStarted starts j.id → (i : ℕ) → is_taken s.switch i ≡ false → parts_in j.id i s.bag + held_part j i ≡ 0
      nothing w i u =
          let r = (h.in_step runs).runs j is w.start w.of in
          let a = count_none (λ (m : Message). is_part_of j.id i m.packet) s.bag (λ x b. none x b (is_part_of j.id i x.packet) refl) in
          let c = held (part_at j i) refl in
          omega (arith, a, c)
        where
          none : (x : Message) → Among x s.bag → (b : Bool) → is_part_of j.id i x.packet ≡ b → b ≡ false
          none x a true e = absurd (let yes = part_says s.switch j.id i x.packet e (sym ((h.in_step runs).runs j is w.start w.of).snap) (h.parts runs x a) in let clash : true ≡ false = sym yes ∙ u in cc)
          none x a false e = refl

          held : (o : Option (Option Record)) → part_at j i ≡ o → held_part j i ≡ 0
          held None e = ap (λ o. cond {A = ℕ} (is_some o) 1 0) e
          held (Some view) e = absurd (let yes = ((h.in_step runs).runs j is w.start w.of).parts i view e in let clash : true ≡ false = sym yes ∙ u in cc)

  -- nothing is on its way: then the job, if there were one, would be whole
  pub no_job : s.bag ≡ [] → s.controller.job ≡ None
  no_job empty = go s.controller.job refl
    where
      nothing : {P : Packet → Type 0} → Flies P s.bag → ⊥
      nothing x = subst (λ l. Among x.message l) empty x.there

      all_come : (parts : List (Option (Option Record))) → ((i : ℕ) → i < length parts → is_some (get_or parts i None) ≡ true) → list_all is_some parts ≡ true
      all_come [] each = refl
      all_come (p ∷ ps) each = let first : is_some p ≡ true = each 0 (omega arith) in let rest = all_come ps (λ i l. each (suc i) (omega (arith, l))) in ap (λ b. b && list_all is_some ps) first ∙ rest

      go : (o : Option Job) → s.controller.job ≡ o → s.controller.job ≡ None
      go None e = e
      go (Some j) e = absurd (started (f.start runs j e))
        where
          come : WasStarted starts j.id → (point : ℕ) → j.begun ≡ Some point → (i : ℕ) → i < length j.parts → is_some (get_or j.parts i None) ≡ true
          come w point has i l = taken (is_taken s.switch i) refl (is_some (get_or j.parts i None)) refl
            where
              within : i < plan.config.slots
              within = let a = (h.gathered.job j e).slots in omega (arith, a, l)

              taken : (b : Bool) → is_taken s.switch i ≡ b → (c : Bool) → is_some (get_or j.parts i None) ≡ c → c ≡ true
              taken false t c q = absurd (nothing (f.reads runs j point e has i within t))
              taken true t true q = refl
              taken true t false q =
                  let one = f.one runs j e w i within t in
                  let none : parts_in j.id i s.bag ≡ 0 = ap (λ l. parts_in j.id i l) empty in
                  let held : held_part j i ≡ 0 = ap (λ b. cond {A = ℕ} b 1 0) q in
                  absurd (omega (arith, one, none, held))

          begun : WasStarted starts j.id → (o : Option ℕ) → j.begun ≡ o → ⊥
          begun w None off = nothing (f.begun runs j e w off)
          begun w (Some point) has =
              let whole : is_whole j ≡ true = ap (λ (o : Option ℕ). is_some o && list_all is_some j.parts) has ∙ all_come j.parts (come w point has) in
              let clash : true ≡ false = sym whole ∙ f.unfinished j e in absurd cc

          started : WasStarted starts j.id ⊎ Flies (IsStartIn s.controller.epoch j.id) s.bag → ⊥
          started (inl w) = begun w j.begun refl
          started (inr x) = nothing x

-- The order to take a snapshot, a stop, a recovery and a restart.
use Rattle.std.proofs.Common.{◌≡◌, ℕ, zero, suc, ◌+◌, ◌<◌, ◌≤◌, ◌⊎◌, inl, inr, Bool, true, false, cond, List, [], ◌∷◌, ◌++◌, length, refl, sym, ap, ◌∙◌, subst, arith, ltb-true, eqb-true}
use Rattle.std.specs.Prelude.{Option, Some, None, nat_eq, nat_lt, is_some}
use Rattle.std.proofs.lemmas.List.{length-replicate}
use Rattle.std.proofs.lemmas.Option.{same_Some}
use Rattle.far_base.specs.PlanView.{PlanView}
use Rattle.far_base.specs.declared.log.LogEntry.TheVariants.{Stopped, Recovered}
use Rattle.far_base.specs.declared.packet.Message.{Message}
use Rattle.far_base.specs.declared.packet.Out.{Out}
use Rattle.far_base.specs.declared.packet.Packet.{Packet}
use Rattle.far_base.specs.declared.packet.Packet.TheVariants.{SnapStart, SnapBegun, SnapPart, SnapSame, SnapFrom, Release, Ask}
use Rattle.far_base.specs.declared.party.Party.TheVariants.{Switch, Controller}
use Rattle.far_base.specs.declared.plan.Config.{Config}
use Rattle.far_base.specs.declared.record.Record.{Record}
use Rattle.far_model.specs.Controller.{to_clients, stores_of, snapshot_stores, start_snapshot, start_packet, is_last_present, ready, ready_in}
use Rattle.far_model.specs.Events.{Keeping, controller_turn, stops, recovers, restarts, recovery_items}
use Rattle.far_model.specs.Members.{Among, Each}
use Rattle.far_model.specs.Parties.{messages_from, to_party}
use Rattle.far_invariants.specs.Past.{SnapshotStart}
use Rattle.far_model.specs.Rounds.{Round}
use Rattle.far_model.specs.Snapshots.{Job, SnapshotView, no_snapshot, new_job}
use Rattle.far_model.specs.State.{State}
use Rattle.far_model.specs.View.{SlotView, opening_view, empty_slot}
use Rattle.far_model.proofs.Members.{among_append}
use Rattle.far_invariants.specs.SnapshotNeeds.{Needs}
use Rattle.far_invariants.specs.Snapshots.{Gathering, gathering, IsLast, JobStands, SwitchStands, JobWaits, StartWaits, PacketStands, PartIsTaken, is_start_in, WasDrawn, SnapshotsStand}
use Rattle.flight_laws.proofs.SnapBasics.{both, by_test, by_case, get_or-replicate_default, count_append, count_none}
use Rattle.flight_laws.proofs.SnapFrame.{is_foreign, IsForeignOut, foreign_stands, rest_all, news_in, IsPlainNote, AbsorbsFresh, absorbs_plain, noted_more, cover_lasts, last_counted}
use Rattle.flight_laws.proofs.SnapPasses.{each_append}

-- where the job does not wait for its start, no start of the epoch is on its way
module _ (tells : Bool) where
  no_start_waits : (g : Gathering) (starts : List SnapshotStart) (p : Packet) → ((id : ℕ) → JobWaits g starts id → ⊥) → PacketStands tells true g starts p → is_start_in g.epoch p ≡ false
  no_start_waits g starts (SnapStart epoch id) none h = go (nat_eq epoch g.epoch) refl
    where
      go : (b : Bool) → nat_eq epoch g.epoch ≡ b → b ≡ false
      go true e = absurd (none id (h.waits refl (eqb-true _ _ e)))
      go false e = refl
  no_start_waits g starts (SnapFrom epoch id base) none h = go (nat_eq epoch g.epoch) refl
    where
      go : (b : Bool) → nat_eq epoch g.epoch ≡ b → b ≡ false
      go true e = absurd (none id (h.0.waits refl (eqb-true _ _ e)))
      go false e = refl
  no_start_waits g starts _ none h = refl

-- ---- the order to take a snapshot

-- a new job stands for none of the packets on their way
module _ (tells : Bool) where
  ordered_packet : (g : Gathering) (starts : List SnapshotStart) (new : Job) → g.job ≡ None → ((start : SnapshotStart) → Among start starts → start.id < new.id)
      → (p : Packet) → PacketStands tells true g starts p → PacketStands tells true (record g { job = Some new; next_id = g.next_id + 1 }) starts p
  ordered_packet g starts new none newest p h = go p h
    where
      nobody_waits : {P : Type 0} (id : ℕ) → JobWaits g starts id → P
      nobody_waits id w = absurd (let clash : None ≡ Some w.job = sym none ∙ w.under_way in cc)

      go : (p : Packet) → PacketStands tells true g starts p → PacketStands tells true (record g { job = Some new; next_id = g.next_id + 1 }) starts p
      go (SnapStart epoch id) h = record { epoch_within = h.epoch_within; waits = λ runs e. nobody_waits id (h.waits runs e) }
      go (SnapFrom epoch id base) h = (record { epoch_within = h.0.epoch_within; waits = λ runs e. nobody_waits id (h.0.waits runs e) }, λ runs e. nobody_waits id (h.0.waits runs e))
      go (SnapBegun id point) h = h
      go (SnapPart id i view) h = h
      go (SnapSame id i) h = (h.0, λ j k e. absurd (let l = newest h.0.start h.0.of.there in let a = h.0.of.is in let b = ap (λ (x : Job). x.id) (same_Some new j k) in omega (arith, l, a, b, e)))
      go (Release point) h = h
      go _ h = tt

module _ {tells : Bool} (plan : PlanView) (s : State) (starts : List SnapshotStart) (h : SnapshotsStand tells plan s starts) (owed : Needs tells plan s) where
  pub order_stands : s.running ≡ true → s.controller.job ≡ None → (done : ℕ) → SnapshotsStand tells plan (record (controller_turn s s.bag (start_snapshot s.controller)) { done = done }) starts
  order_stands runs none done = record {
    rise = record { order = h.rise.order; above = h.rise.above; below = λ start a. let b = h.rise.below start a in omega (arith, b); views = h.rise.views; numbers = h.rise.numbers };
    gathered = record { next = omega arith; present = h.gathered.present; last = h.gathered.last; job = λ j k. subst (JobStands tells plan g starts) (same_Some _ j k) its };
    switch = h.switch;
    in_step = λ up. record {
      epoch = (h.in_step up).epoch;
      counted = (h.in_step up).counted;
      runs = λ j k start of. absurd (let b = h.rise.below start of.there in let a = of.is in let c = ap (λ (x : Job). x.id) (same_Some _ j k) in omega (arith, a, b, c));
      settled = λ some present settled. let all = (h.in_step up).settled some present (λ j k. absurd (let clash : None ≡ Some j = sym none ∙ k in cc)) in record { snap = all.snap; taken = all.taken };
    };
    packets = λ m a. packet_of m (among_append m s.bag (messages_from Controller (to_party Switch (start_packet s.controller) ∷ [])) a);
    parts = λ up m a. part_of up m (among_append m s.bag (messages_from Controller (to_party Switch (start_packet s.controller) ∷ [])) a);
    once = λ up.
        let sum = count_append (λ (m : Message). is_start_in s.controller.epoch m.packet) s.bag (messages_from Controller (to_party Switch (start_packet s.controller) ∷ [])) in
        let zero = count_none (λ (m : Message). is_start_in s.controller.epoch m.packet) s.bag (λ m a. no_start_waits tells (gathering s.controller) starts m.packet (λ id w. let clash : None ≡ Some w.job = sym none ∙ w.under_way in absurd cc) (old m a)) in
        let one = one_at_most (is_start_in s.controller.epoch (start_packet s.controller)) in
        omega (arith, sum, zero, one);
    drawn = λ told start a. noted_more s [] start.counter (h.drawn told start a);
    covers = λ told. record {
      last = cover_lasts plan s t starts h fresh (λ key num a. a) s.controller.last.views s.controller.last.point (last_counted plan s starts h told) (h.covers told).last;
      job = λ j k start of. absurd (let b = h.rise.below start of.there in let a = of.is in let c = ap (λ (x : Job). x.id) (same_Some _ j k) in omega (arith, a, b, c));
    };
    clients = λ c. record { released = (h.clients c).released; preserved = (h.clients c).preserved };
  }
    where
      new : Job
      new = new_job s.controller.next_id (length s.controller.slots)

      g : Gathering
      g = record (gathering s.controller) { job = Some (new_job s.controller.next_id (length s.controller.slots)); next_id = s.controller.next_id + 1 }

      t : State
      t = record (controller_turn s s.bag (start_snapshot s.controller)) { done = done }

      fresh : AbsorbsFresh plan s (controller_turn s s.bag (start_snapshot s.controller)).log
      fresh = absorbs_plain plan s [] tt

      old : (m : Message) → Among m s.bag → PacketStands tells true (gathering s.controller) starts m.packet
      old m a = subst (λ b. PacketStands tells b (gathering s.controller) starts m.packet) runs (h.packets m a)

      newer : s.controller.last.id < s.controller.next_id
      newer = go h.gathered.last
        where
          go : (s.controller.last ≡ no_snapshot) ⊎ IsLast tells starts s.controller.last → s.controller.last.id < s.controller.next_id
          go (inl e) = let z : s.controller.last.id ≡ 0 = ap (λ (w : SnapshotView). w.id) e in let n = h.gathered.next in omega (arith, z, n)
          go (inr l) = let b = h.rise.below l.start l.of.there in let a = l.of.is in omega (arith, a, b)

      its : JobStands tells plan (record (gathering s.controller) { job = Some (new_job s.controller.next_id (length s.controller.slots)); next_id = s.controller.next_id + 1 }) starts (new_job s.controller.next_id (length s.controller.slots))
      its = record {
        below = omega arith;
        newer = newer;
        slots = length-replicate (length s.controller.slots) None ∙ owed.slots;
        begun = λ point e. absurd cc;
        parts = λ i view has. absurd (let clash : None ≡ Some view = sym (get_or-replicate_default (length s.controller.slots) i None) ∙ has in cc);
      }

      waits : StartWaits true (record (gathering s.controller) { job = Some (new_job s.controller.next_id (length s.controller.slots)); next_id = s.controller.next_id + 1 }) starts s.controller.epoch s.controller.next_id
      waits = record { epoch_within = omega arith; waits = λ up e. record { job = new_job s.controller.next_id (length s.controller.slots); under_way = refl; is = refl; newest = h.rise.below } }

      sent : PacketStands tells true (record (gathering s.controller) { job = Some (new_job s.controller.next_id (length s.controller.slots)); next_id = s.controller.next_id + 1 }) starts (start_packet s.controller)
      sent = by_case (PacketStands tells true (record (gathering s.controller) { job = Some (new_job s.controller.next_id (length s.controller.slots)); next_id = s.controller.next_id + 1 }) starts) (is_last_present s.controller)
          (SnapFrom s.controller.epoch s.controller.next_id s.controller.last.id) (SnapStart s.controller.epoch s.controller.next_id)
          (λ present. let tests = both (nat_eq s.controller.last_epoch s.controller.epoch) (nat_lt 0 s.controller.last.id) present in (waits, λ up e. (refl, eqb-true _ _ tests.0, ltb-true 0 s.controller.last.id tests.1)))
          (λ other. waits)

      packet_of : (m : Message) → Among m s.bag ⊎ Among m (messages_from Controller (to_party Switch (start_packet s.controller) ∷ [])) → PacketStands tells s.running (record (gathering s.controller) { job = Some (new_job s.controller.next_id (length s.controller.slots)); next_id = s.controller.next_id + 1 }) starts m.packet
      packet_of m (inl a) = subst (λ b. PacketStands tells b g starts m.packet) (sym runs) (ordered_packet tells (gathering s.controller) starts (new_job s.controller.next_id (length s.controller.slots)) none h.rise.below m.packet (old m a))
      packet_of m (inr (inl e)) = subst (λ (x : Message). PacketStands tells s.running g starts x.packet) (sym e) (subst (λ b. PacketStands tells b g starts (start_packet s.controller)) (sym runs) sent)
      packet_of m (inr (inr a)) = absurd a

      part_of : s.running ≡ true → (m : Message) → Among m s.bag ⊎ Among m (messages_from Controller (to_party Switch (start_packet s.controller) ∷ [])) → PartIsTaken s.switch m.packet
      part_of up m (inl a) = h.parts up m a
      part_of up m (inr (inl e)) = subst (λ (x : Message). PartIsTaken s.switch x.packet) (sym e) (by_test (PartIsTaken s.switch) (is_last_present s.controller) (SnapFrom s.controller.epoch s.controller.next_id s.controller.last.id) (SnapStart s.controller.epoch s.controller.next_id) tt tt)
      part_of up m (inr (inr a)) = absurd a

      one_at_most : (b : Bool) → cond {A = ℕ} b 1 0 ≤ 1
      one_at_most true = omega arith
      one_at_most false = omega arith

-- ---- a switch with no memory

pub empty_stands : (plan : PlanView) (starts : List SnapshotStart) (epoch counter : ℕ) → ((start : SnapshotStart) → Among start starts → 0 < start.id) → SwitchStands plan (opening_view plan.config epoch counter) starts
empty_stands plan starts epoch counter above = record {
  config = refl;
  slots = length-replicate plan.config.slots empty_slot;
  taken = length-replicate plan.config.slots 0;
  shown = length-replicate plan.config.slots None;
  bare = λ i off. ap (λ (w : SlotView). w.latest) (get_or-replicate_default plan.config.slots i empty_slot);
  within = λ i. let e = get_or-replicate_default {A = ℕ} plan.config.slots i 0 in omega (arith, e);
  started = λ some. absurd (omega (arith, some));
  left = λ start of. absurd (let a = above start of.there in let b = of.is in omega (arith, a, b));
  marks = λ start i of. absurd (let a = above start of.there in let b = of.is in let e = get_or-replicate_default {A = ℕ} plan.config.slots i 0 in omega (arith, a, b, e));
}

module _ (tells : Bool) where
  stopped_packet : (running : Bool) (g : Gathering) (starts : List SnapshotStart) (p : Packet) → PacketStands tells running g starts p → PacketStands tells false g starts p
  stopped_packet running g starts (SnapStart epoch id) h = record { epoch_within = h.epoch_within; waits = λ up e. absurd cc }
  stopped_packet running g starts (SnapFrom epoch id base) h = (record { epoch_within = h.0.epoch_within; waits = λ up e. absurd cc }, λ up e. absurd cc)
  stopped_packet running g starts (SnapBegun id point) h = h
  stopped_packet running g starts (SnapPart id i view) h = h
  stopped_packet running g starts (SnapSame id i) h = h
  stopped_packet running g starts (Release point) h = h
  stopped_packet running g starts _ h = tt

module _ {tells : Bool} where
  pub stop_stands : (plan : PlanView) (s : State) (starts : List SnapshotStart) → SnapshotsStand tells plan s starts → (done : ℕ) → SnapshotsStand tells plan (record (stops plan s) { done = done }) starts
  stop_stands plan s starts h done = record {
    rise = h.rise;
    gathered = h.gathered;
    switch = empty_stands plan starts 0 0 h.rise.above;
    in_step = λ up. absurd cc;
    packets = λ m a. stopped_packet tells s.running (gathering s.controller) starts m.packet (h.packets m a);
    parts = λ up. absurd cc;
    once = λ up. absurd cc;
    drawn = λ told start a. noted_more s (Stopped ∷ []) start.counter (h.drawn told start a);
    covers = λ told. record {
      last = cover_lasts plan s t starts h fresh (λ key num a. a) s.controller.last.views s.controller.last.point (last_counted plan s starts h told) (h.covers told).last;
      job = λ j k start of. cover_lasts plan s t starts h fresh (λ key num a. a) start.views start.counter (λ up. (h.in_step up).counted told start of.there) ((h.covers told).job j k start of);
    };
    clients = λ c. record { released = (h.clients c).released; preserved = (h.clients c).preserved };
  }
    where
      t : State
      t = record (stops plan s) { done = done }

      fresh : AbsorbsFresh plan s (stops plan s).log
      fresh = absorbs_plain plan s (Stopped ∷ []) (tt, tt)

-- ---- recovery begins

module _ (tells : Bool) where
  dropped_packet : (g : Gathering) (starts : List SnapshotStart) (p : Packet) → PacketStands tells false g starts p → PacketStands tells false (record g { job = None }) starts p
  dropped_packet g starts (SnapStart epoch id) h = record { epoch_within = h.epoch_within; waits = λ up e. absurd cc }
  dropped_packet g starts (SnapFrom epoch id base) h = (record { epoch_within = h.0.epoch_within; waits = λ up e. absurd cc }, λ up e. absurd cc)
  dropped_packet g starts (SnapBegun id point) h = h
  dropped_packet g starts (SnapPart id i view) h = h
  dropped_packet g starts (SnapSame id i) h = (h.0, λ j k e. absurd cc)
  dropped_packet g starts (Release point) h = h
  dropped_packet g starts _ h = tt

asks_foreign : (n more round : ℕ) → Each IsForeignOut (to_clients n more (Ask round))
asks_foreign n zero round = tt
asks_foreign n (suc more) round = (refl, asks_foreign (suc n) more round)

stores_foreign : (config : Config) (job : ℕ) (items : List Record) → Each IsForeignOut (stores_of config job items)
stores_foreign config job [] = tt
stores_foreign config job (r ∷ rs) = (refl, stores_foreign config (suc job) rs)

module _ {tells : Bool} where
  pub recover_stands : (plan : PlanView) (s : State) (starts : List SnapshotStart) → SnapshotsStand tells plan s starts → s.running ≡ false → SnapshotsStand tells plan (recovers plan s) starts
  recover_stands plan s starts h down = record {
    rise = h.rise;
    gathered = record { next = h.gathered.next; present = h.gathered.present; last = h.gathered.last; job = λ j k. absurd cc };
    switch = h.switch;
    in_step = λ up. still up;
    packets = λ m a. packet_of m (news_in s.bag s.bag Controller outs (rest_all s.bag) foreign m a);
    parts = λ up. still up;
    once = λ up. still up;
    drawn = λ told start a. noted_more s [] start.counter (h.drawn told start a);
    covers = λ told. record {
      last = cover_lasts plan s (recovers plan s) starts h (absorbs_plain plan s [] tt) (λ key num a. a) s.controller.last.views s.controller.last.point (last_counted plan s starts h told) (h.covers told).last;
      job = λ j k. absurd cc;
    };
    clients = λ c. record { released = (h.clients c).released; preserved = (h.clients c).preserved };
  }
    where
      outs : List Out
      outs = to_clients 0 plan.config.clients (Ask s.controller.next_round) ++ stores_of plan.config s.controller.next_job (snapshot_stores s.controller)

      foreign : Each IsForeignOut (to_clients 0 plan.config.clients (Ask s.controller.next_round) ++ stores_of plan.config s.controller.next_job (snapshot_stores s.controller))
      foreign = each_append IsForeignOut (to_clients 0 plan.config.clients (Ask s.controller.next_round)) (stores_of plan.config s.controller.next_job (snapshot_stores s.controller))
          (asks_foreign 0 plan.config.clients s.controller.next_round) (stores_foreign plan.config s.controller.next_job (snapshot_stores s.controller))

      still : {P : Type 0} → s.running ≡ true → P
      still up = absurd (let clash : true ≡ false = sym up ∙ down in cc)

      packet_of : (m : Message) → Among m s.bag ⊎ (is_foreign m.packet ≡ true) → PacketStands tells s.running (record (gathering s.controller) { job = None }) starts m.packet
      packet_of m (inl a) = subst (λ b. PacketStands tells b (record (gathering s.controller) { job = None }) starts m.packet) (sym down)
          (dropped_packet tells (gathering s.controller) starts m.packet (stopped_packet tells s.running (gathering s.controller) starts m.packet (h.packets m a)))
      packet_of m (inr f) = foreign_stands tells s.running (record (gathering s.controller) { job = None }) starts m.packet f

-- ---- a restart

-- all starts that are on their way are of an earlier epoch
module _ (tells : Bool) where
  restarted_packet : (running : Bool) (g : Gathering) (starts : List SnapshotStart) (p : Packet) → PacketStands tells running g starts p → PacketStands tells true (record g { epoch = g.epoch + 1 }) starts p
  restarted_packet running g starts (SnapStart epoch id) h = record { epoch_within = let l = h.epoch_within in omega (arith, l); waits = λ up e. absurd (let l = h.epoch_within in omega (arith, l, e)) }
  restarted_packet running g starts (SnapFrom epoch id base) h = (record { epoch_within = let l = h.0.epoch_within in omega (arith, l); waits = λ up e. absurd (let l = h.0.epoch_within in omega (arith, l, e)) }, λ up e. absurd (let l = h.0.epoch_within in omega (arith, l, e)))
  restarted_packet running g starts (SnapBegun id point) h = h
  restarted_packet running g starts (SnapPart id i view) h = h
  restarted_packet running g starts (SnapSame id i) h = h
  restarted_packet running g starts (Release point) h = h
  restarted_packet running g starts _ h = tt

module _ (tells : Bool) where
  restarted_part : (plan : PlanView) (running : Bool) (g : Gathering) (starts : List SnapshotStart) (epoch counter : ℕ) → ((start : SnapshotStart) → Among start starts → 0 < start.id) → (p : Packet) → PacketStands tells running g starts p → PartIsTaken (opening_view plan.config epoch counter) p
  restarted_part plan running g starts epoch counter above (SnapPart id i view) h = λ e. absurd (let a = above h.start h.of.there in let b = h.of.is in omega (arith, a, b, e))
  restarted_part plan running g starts epoch counter above (SnapSame id i) h = λ e. absurd (let a = above h.0.start h.0.of.there in let b = h.0.of.is in omega (arith, a, b, e))
  restarted_part plan running g starts epoch counter above _ h = tt

module _ (tells : Bool) where
  restarted_start : (running : Bool) (g : Gathering) (starts : List SnapshotStart) (p : Packet) → PacketStands tells running g starts p → is_start_in (g.epoch + 1) p ≡ false
  restarted_start running g starts (SnapStart epoch id) h = go (nat_eq epoch (g.epoch + 1)) refl
    where
      go : (b : Bool) → nat_eq epoch (g.epoch + 1) ≡ b → b ≡ false
      go true e = absurd (let l = h.epoch_within in let q = eqb-true _ _ e in omega (arith, l, q))
      go false e = refl
  restarted_start running g starts (SnapFrom epoch id base) h = go (nat_eq epoch (g.epoch + 1)) refl
    where
      go : (b : Bool) → nat_eq epoch (g.epoch + 1) ≡ b → b ≡ false
      go true e = absurd (let l = h.0.epoch_within in let q = eqb-true _ _ e in omega (arith, l, q))
      go false e = refl
  restarted_start running g starts _ h = refl

recovery_plain : (records : List Record) → Each IsPlainNote (recovery_items records)
recovery_plain [] = tt
recovery_plain (r ∷ rs) = (tt, recovery_plain rs)

pub in_round : (o : Option Round) (n : ℕ) → ready_in o ≡ Some n → is_some o ≡ true
in_round None n e = absurd cc
in_round (Some r) n e = refl

module _ {tells : Bool} where
  pub restart_stands : (plan : PlanView) (k : Keeping) (s : State) (starts : List SnapshotStart) → SnapshotsStand tells plan s starts → Needs tells plan s → (n : ℕ) → ready s.controller ≡ Some n → SnapshotsStand tells plan (restarts plan k s (Some n)) starts
  restart_stands plan k s starts h owed n is = record {
    rise = h.rise;
    gathered = record { next = h.gathered.next; present = let p = h.gathered.present in omega (arith, p); last = h.gathered.last; job = λ j e. none j e };
    switch = empty_stands plan starts (s.controller.epoch + 1) n h.rise.above;
    in_step = λ up. record {
      epoch = refl;
      counted = counted;
      runs = λ j e. none j e;
      settled = λ some present settled. absurd (let p = h.gathered.present in omega (arith, p, present));
    };
    packets = λ m a. restarted_packet tells s.running (gathering s.controller) starts m.packet (h.packets m a);
    parts = λ up m a. restarted_part tells plan s.running (gathering s.controller) starts (s.controller.epoch + 1) n h.rise.above m.packet (h.packets m a);
    once = λ up. let zero = count_none (λ (m : Message). is_start_in (s.controller.epoch + 1) m.packet) s.bag (λ m a. restarted_start tells s.running (gathering s.controller) starts m.packet (h.packets m a)) in omega (arith, zero);
    drawn = λ told start a. noted_more s (Recovered n (length k.records) ∷ recovery_items k.records) start.counter (h.drawn told start a);
    covers = λ told. record {
      last = cover_lasts plan s (restarts plan k s (Some n)) starts h (absorbs_plain plan s (Recovered n (length k.records) ∷ recovery_items k.records) (tt, recovery_plain k.records)) (λ key num a. a) s.controller.last.views s.controller.last.point (last_counted plan s starts h told) (h.covers told).last;
      job = λ j e. none j e;
    };
    clients = λ c. record { released = (h.clients c).released; preserved = (h.clients c).preserved };
  }
    where
      counted : tells ≡ true → (start : SnapshotStart) → Among start starts → start.counter ≤ n
      counted told start a = go (h.drawn told start a)
        where
          go : (start.counter ≡ 0) ⊎ WasDrawn s.log start.counter → start.counter ≤ n
          go (inl e) = omega (arith, e)
          go (inr d) = let above = d.above in let top = owed.tops told n is d.at d.op d.own d.numbered in omega (arith, above, top)

      none : {P : Type 0} (j : Job) → s.controller.job ≡ Some j → P
      none j e = absurd (let clash : None ≡ Some j = sym (owed.rounds (in_round s.controller.round n is)) ∙ e in cc)

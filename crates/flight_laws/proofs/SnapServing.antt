-- What is on its way for a snapshot, event by event.
use Rattle.std.proofs.Common.{◌≡◌, ℕ, ◌+◌, ◌<◌, ◌≤◌, ◌⊎◌, inl, inr, Bool, true, false, cond, List, ◌++◌, refl, sym, ap, ◌∙◌, subst, arith, eqb-true}
use Rattle.std.specs.Prelude.{Option, Some, None, ◌&&◌, nat_eq, slice_get, is_some}
use Rattle.std.specs.List.{remove}
use Rattle.far_base.specs.PlanView.{PlanView}
use Rattle.far_base.specs.declared.packet.Message.{Message}
use Rattle.far_base.specs.declared.packet.Packet.{Packet}
use Rattle.far_base.specs.declared.packet.Packet.TheVariants.{SnapStart, SnapBegun, SnapRead, SnapPart, SnapSame, SnapFrom}
use Rattle.far_base.specs.declared.record.Record.{Record}
use Rattle.far_model.specs.Members.{Among}
use Rattle.far_model.specs.Pass.{part_packet, is_as_before}
use Rattle.far_invariants.specs.Past.{SnapshotStart}
use Rattle.far_model.specs.Snapshots.{Job}
use Rattle.far_model.specs.State.{State}
use Rattle.far_model.specs.View.{SwitchView, slot_at, held_record, is_taken}
use Rattle.far_model.proofs.Members.{among_append_left, among_out}
use Rattle.far_invariants.specs.SnapshotFlights.{Flies, IsStartIn, IsBegunOf, IsReadOf, is_part_of, parts_in, held_part, SnapshotsInFlight}
use Rattle.far_invariants.specs.Snapshots.{IsStartOf, WasStarted, Gathering, gathering, part_at, JobRuns, PartIsTaken, SnapshotsStand}
use Rattle.flight_laws.proofs.SnapBasics.{both, by_test, counted, count_removed, count_append, count_none}
use Rattle.flight_laws.proofs.SnapFrame.{is_foreign}

-- ---- bags

-- a packet that serves a snapshot
abbrev pub is_serving : Packet → Bool
is_serving (SnapStart epoch id) = true
is_serving (SnapFrom epoch id base) = true
is_serving (SnapBegun id point) = true
is_serving (SnapRead epoch id i) = true
is_serving (SnapPart id i view) = true
is_serving (SnapSame id i) = true
is_serving _ = false

pub start_serves : (epoch id : ℕ) (p : Packet) → IsStartIn epoch id p → is_serving p ≡ true
start_serves epoch id (SnapStart own other) h = refl
start_serves epoch id (SnapFrom own other base) h = refl
start_serves epoch id _ h = absurd h

pub begun_serves : (id : ℕ) (p : Packet) → IsBegunOf id p → is_serving p ≡ true
begun_serves id (SnapBegun other point) h = refl
begun_serves id _ h = absurd h

pub read_serves : (epoch id i : ℕ) (p : Packet) → IsReadOf epoch id i p → is_serving p ≡ true
read_serves epoch id i (SnapRead own other j) h = refl
read_serves epoch id i _ h = absurd h

pub idle_part : (id i : ℕ) (p : Packet) → is_serving p ≡ false → is_part_of id i p ≡ false
idle_part id i (SnapPart own j view) h = absurd cc
idle_part id i (SnapSame own j) h = absurd cc
idle_part id i _ h = refl

pub foreign_no_part : (id i : ℕ) (p : Packet) → is_foreign p ≡ true → is_part_of id i p ≡ false
foreign_no_part id i (SnapPart own j view) h = absurd cc
foreign_no_part id i (SnapSame own j) h = absurd cc
foreign_no_part id i _ h = refl

-- it stays in the bag, where it is not the one that is taken
pub flies_on : (P : Packet → Type 0) (bag : List Message) (i : ℕ) (m : Message) → slice_get bag i ≡ Some m → (P m.packet → ⊥) → Flies P bag → Flies P (remove bag i)
flies_on P bag i m at other f = go (among_out f.message m bag i at f.there)
  where
    go : (f.message ≡ m) ⊎ Among f.message (remove bag i) → Flies P (remove bag i)
    go (inl e) = absurd (other (subst (λ (x : Message). P x.packet) e f.is))
    go (inr a) = record { message = f.message; there = a; is = f.is }

pub flies_with : (P : Packet → Type 0) (rest new : List Message) → Flies P rest → Flies P (rest ++ new)
flies_with P rest new f = record { message = f.message; there = among_append_left f.message rest new f.there; is = f.is }

-- a bag in which all that serves a snapshot stays, and no part is new
pub record KeepsServing (bag new : List Message) : Type 1 where
  pub parts : (id i : ℕ) → parts_in id i new ≡ parts_in id i bag
  pub flies : (P : Packet → Type 0) → ((p : Packet) → P p → is_serving p ≡ true) → Flies P bag → Flies P new

pub serving_all : (bag new : List Message) → ((id i : ℕ) (m : Message) → Among m new → is_part_of id i m.packet ≡ false) → KeepsServing bag (bag ++ new)
serving_all bag new none = record {
  parts = λ id i. let sum = count_append (λ (m : Message). is_part_of id i m.packet) bag new in let zero = count_none (λ (m : Message). is_part_of id i m.packet) new (none id i) in omega (arith, sum, zero);
  flies = λ P serves f. flies_with P bag new f;
}

pub serving_rest : (bag new : List Message) (i : ℕ) (m : Message) → slice_get bag i ≡ Some m → is_serving m.packet ≡ false → ((id i : ℕ) (m : Message) → Among m new → is_part_of id i m.packet ≡ false) → KeepsServing bag (remove bag i ++ new)
serving_rest bag new i m at idle none = record {
  parts = λ id k.
      let sum = count_append (λ (m : Message). is_part_of id k m.packet) (remove bag i) new in
      let zero = count_none (λ (m : Message). is_part_of id k m.packet) new (none id k) in
      let out = count_removed (λ (m : Message). is_part_of id k m.packet) bag i m at in
      let gone : counted (λ (m : Message). is_part_of id k m.packet) m ≡ 0 = ap (λ b. cond {A = ℕ} b 1 0) (idle_part id k m.packet idle) in
      omega (arith, sum, zero, out, gone);
  flies = λ P serves f. flies_with P (remove bag i) new (flies_on P bag i m at (λ p. let yes = serves m.packet p in let clash : true ≡ false = sym yes ∙ idle in absurd cc) f);
}

-- ---- steps that serve no snapshot

pub calm_flies : (plan : PlanView) (s t : State) (starts : List SnapshotStart) → t.running ≡ s.running → gathering t.controller ≡ gathering s.controller → ((i : ℕ) → is_taken t.switch i ≡ is_taken s.switch i) → KeepsServing s.bag t.bag
    → SnapshotsInFlight plan s starts → SnapshotsInFlight plan t starts
calm_flies plan s t starts run same taken bag h = record {
  unfinished = λ j is. h.unfinished j (job j is);
  once = λ j is i. let o = h.once j (job j is) i in let p = bag.parts j.id i in omega (arith, o, p);
  one = λ up j is st i within tk. let o = h.one (sym run ∙ up) j (job j is) st i within (sym (taken i) ∙ tk) in let p = bag.parts j.id i in omega (arith, o, p);
  start = λ up j is. start j (h.start (sym run ∙ up) j (job j is));
  begun = λ up j is st none. bag.flies (IsBegunOf j.id) (begun_serves j.id) (h.begun (sym run ∙ up) j (job j is) st none);
  reads = λ up j point is has i within u. subst (λ e. Flies (IsReadOf e j.id i) t.bag) (sym epoch) (bag.flies (IsReadOf s.controller.epoch j.id i) (read_serves s.controller.epoch j.id i) (h.reads (sym run ∙ up) j point (job j is) has i within (sym (taken i) ∙ u)));
}
  where
    job : (j : Job) → t.controller.job ≡ Some j → s.controller.job ≡ Some j
    job j is = subst (λ (g : Gathering). g.job ≡ Some j) same is

    epoch : t.controller.epoch ≡ s.controller.epoch
    epoch = ap (λ (g : Gathering). g.epoch) same

    start : (j : Job) → WasStarted starts j.id ⊎ Flies (IsStartIn s.controller.epoch j.id) s.bag → WasStarted starts j.id ⊎ Flies (IsStartIn t.controller.epoch j.id) t.bag
    start j (inl w) = inl w
    start j (inr f) = inr (subst (λ e. Flies (IsStartIn e j.id) t.bag) (sym epoch) (bag.flies (IsStartIn s.controller.epoch j.id) (start_serves s.controller.epoch j.id) f))

-- ---- passes but the start

-- the slot's part leaves
pub part_counts : (v : SwitchView) (i id k : ℕ) → is_part_of id k (part_packet v i) ≡ (nat_eq v.snap id && nat_eq i k)
part_counts v i id k = by_test (λ p. is_part_of id k p ≡ (nat_eq v.snap id && nat_eq i k)) (is_as_before v i) (SnapSame v.snap i) (SnapPart v.snap i (held_record (slot_at v i))) refl refl

-- a part of the slot that is on its way says that its part was taken
pub part_says : (v : SwitchView) (id k : ℕ) (p : Packet) → is_part_of id k p ≡ true → id ≡ v.snap → PartIsTaken v p → is_taken v k ≡ true
part_says v id k (SnapPart own j view) is e h = let t = both (nat_eq own id) (nat_eq j k) is in subst (λ w. is_taken v w ≡ true) (eqb-true j k t.1) (h (eqb-true own id t.0 ∙ e))
part_says v id k (SnapSame own j) is e h = let t = both (nat_eq own id) (nat_eq j k) is in subst (λ w. is_taken v w ≡ true) (eqb-true j k t.1) (h (eqb-true own id t.0 ∙ e))
part_says v id k _ is e h = absurd cc

module _ {tells : Bool} (plan : PlanView) (s : State) (starts : List SnapshotStart) (h : SnapshotsStand tells plan s starts) (f : SnapshotsInFlight plan s starts) (runs : s.running ≡ true) (i : ℕ) (m : Message) (at : slice_get s.bag i ≡ Some m)
    (no_begun : (id : ℕ) → IsBegunOf id m.packet → ⊥) (no_start : (id : ℕ) → IsStartIn s.controller.epoch id m.packet → ⊥) (no_part : (id k : ℕ) → is_part_of id k m.packet ≡ false) where
  rest_parts : (id k : ℕ) → parts_in id k (remove s.bag i) ≡ parts_in id k s.bag
  rest_parts id k =
      let out = count_removed (λ (m : Message). is_part_of id k m.packet) s.bag i m at in
      let gone : counted (λ (m : Message). is_part_of id k m.packet) m ≡ 0 = ap (λ b. cond {A = ℕ} b 1 0) (no_part id k) in
      omega (arith, out, gone)

  -- of a slot whose part was not taken there is none
  none_yet : (j : Job) → s.controller.job ≡ Some j → (start : SnapshotStart) → IsStartOf starts j.id start → (k : ℕ) → is_taken s.switch k ≡ false → (parts_in j.id k s.bag ≡ 0) × (held_part j k ≡ 0)
  none_yet j is start of k u = (count_none (λ (m : Message). is_part_of j.id k m.packet) s.bag (λ x a. none x a (is_part_of j.id k x.packet) refl), held (part_at j k) refl)
    where
      r : JobRuns plan s.switch (gathering s.controller) j start
      r = (h.in_step runs).runs j is start of

      none : (x : Message) → Among x s.bag → (b : Bool) → is_part_of j.id k x.packet ≡ b → b ≡ false
      none x a true e = absurd (let yes = part_says s.switch j.id k x.packet e (sym r.snap) (h.parts runs x a) in let clash : true ≡ false = sym yes ∙ u in cc)
      none x a false e = refl

      held : (o : Option (Option Record)) → part_at j k ≡ o → held_part j k ≡ 0
      held None e = ap (λ o. cond {A = ℕ} (is_some o) 1 0) e
      held (Some view) e = absurd (let yes = r.parts k view e in let clash : true ≡ false = sym yes ∙ u in cc)

  module _ (t : State) (new : List Message) (bag : t.bag ≡ remove s.bag i ++ new) (run : t.running ≡ s.running) (same : t.controller ≡ s.controller)
      (grows : (k : ℕ) → is_taken s.switch k ≡ true → is_taken t.switch k ≡ true)
      (takes : (j : Job) (k : ℕ) → s.controller.job ≡ Some j → WasStarted starts j.id → k < plan.config.slots → is_taken t.switch k ≡ false → IsReadOf s.controller.epoch j.id k m.packet → ⊥)
      (count : (j : Job) → s.controller.job ≡ Some j → (k : ℕ) → (parts_in j.id k new ≡ 0) ⊎ ((is_taken s.switch k ≡ false) × ((WasStarted starts j.id) × (parts_in j.id k new ≡ 1))))
      (counts : (j : Job) → s.controller.job ≡ Some j → WasStarted starts j.id → (k : ℕ) → is_taken s.switch k ≡ false → is_taken t.switch k ≡ true → parts_in j.id k new ≡ 1) where
    job : (j : Job) → t.controller.job ≡ Some j → s.controller.job ≡ Some j
    job j is = ap (λ (c : Rattle.far_model.specs.Controller.ControllerState). c.job) (sym same) ∙ is

    total : (id k : ℕ) → parts_in id k t.bag ≡ parts_in id k s.bag + parts_in id k new
    total id k = ap (λ l. parts_in id k l) bag ∙ (let sum = count_append (λ (m : Message). is_part_of id k m.packet) (remove s.bag i) new in let r = rest_parts id k in omega (arith, sum, r))

    untaken_before : (k : ℕ) → is_taken t.switch k ≡ false → is_taken s.switch k ≡ false
    untaken_before k u = go (is_taken s.switch k) refl
      where
        go : (b : Bool) → is_taken s.switch k ≡ b → b ≡ false
        go true e = let yes = grows k e in let clash : true ≡ false = sym yes ∙ u in absurd cc
        go false e = refl

    flies : (P : Packet → Type 0) → (P m.packet → ⊥) → Flies P s.bag → Flies P t.bag
    flies P other x = subst (Flies P) (sym bag) (flies_with P (remove s.bag i) new (flies_on P s.bag i m at other x))

    pub passed_flies : SnapshotsInFlight plan t starts
    passed_flies = record {
      unfinished = λ j is. f.unfinished j (job j is);
      once = λ j is k. once j (job j is) k (count j (job j is) k);
      one = λ up j is st k within tk. one j (job j is) st k within tk (is_taken s.switch k) refl (count j (job j is) k);
      start = λ up j is. start j (f.start runs j (job j is));
      begun = λ up j is st none. flies (IsBegunOf j.id) (no_begun j.id) (f.begun runs j (job j is) st none);
      reads = λ up j point is has k within u. subst (λ (c : Rattle.far_model.specs.Controller.ControllerState). Flies (IsReadOf c.epoch j.id k) t.bag) (sym same)
          (flies (IsReadOf s.controller.epoch j.id k) (takes j k (job j is) (started j (job j is) point has) within u) (f.reads runs j point (job j is) has k within (untaken_before k u)));
    }
      where
        started : (j : Job) → s.controller.job ≡ Some j → (point : ℕ) → j.begun ≡ Some point → WasStarted starts j.id
        started j is point has = let b = (h.gathered.job j is).begun point has in record { start = b.0; of = b.1 }

        once : (j : Job) → s.controller.job ≡ Some j → (k : ℕ) → (parts_in j.id k new ≡ 0) ⊎ ((is_taken s.switch k ≡ false) × ((WasStarted starts j.id) × (parts_in j.id k new ≡ 1))) → parts_in j.id k t.bag + held_part j k ≤ 1
        once j is k (inl z) = let o = f.once j is k in let a = total j.id k in omega (arith, o, a, z)
        once j is k (inr p) = let n = none_yet j is p.1.0.start p.1.0.of k p.0 in let a = total j.id k in let x = n.0 in let y = n.1 in let z = p.1.1 in omega (arith, a, x, y, z)

        one : (j : Job) → s.controller.job ≡ Some j → (w : WasStarted starts j.id) → (k : ℕ) → k < plan.config.slots → is_taken t.switch k ≡ true → (b : Bool) → is_taken s.switch k ≡ b
            → (parts_in j.id k new ≡ 0) ⊎ ((is_taken s.switch k ≡ false) × ((WasStarted starts j.id) × (parts_in j.id k new ≡ 1))) → parts_in j.id k t.bag + held_part j k ≡ 1
        one j is w k within tk true e (inl z) = let o = f.one runs j is w k within e in let a = total j.id k in omega (arith, o, a, z)
        one j is w k within tk true e (inr p) = let u = p.0 in let clash : true ≡ false = sym e ∙ u in absurd cc
        one j is w k within tk false e c = let n = none_yet j is w.start w.of k e in let a = total j.id k in let x = n.0 in let y = n.1 in let z = counts j is w k e tk in omega (arith, a, x, y, z)

        start : (j : Job) → WasStarted starts j.id ⊎ Flies (IsStartIn s.controller.epoch j.id) s.bag → WasStarted starts j.id ⊎ Flies (IsStartIn t.controller.epoch j.id) t.bag
        start j (inl w) = inl w
        start j (inr x) = inr (subst (λ (c : Rattle.far_model.specs.Controller.ControllerState). Flies (IsStartIn c.epoch j.id) t.bag) (sym same) (flies (IsStartIn s.controller.epoch j.id) (no_start j.id) x))

-- What is on its way for a snapshot, over the passes of the switch.
use Rattle.std.proofs.Common.{◌≡◌, ◌≢◌, ℕ, ◌<◌, ◌⊎◌, inl, inr, Bool, true, false, cond, List, [], ◌∷◌, ◌++◌, refl, sym, ap, ◌∙◌, subst, arith, eqb-true, eq-eqb, lt-ltb}
use Rattle.std.specs.Prelude.{Some, None, if◌then◌else◌, ◌&&◌, not, nat_eq, nat_lt, slice_get}
use Rattle.std.specs.List.{remove, count_by}
use Rattle.std.proofs.lemmas.List.{append-nil, get_or-set_same, get_or-set_other}
use Rattle.std.proofs.lemmas.Option.{same_Some}
use Rattle.std.proofs.lemmas.List.Sums.{sum_by-cons}
use Rattle.far_base.specs.PlanView.{PlanView}
use Rattle.far_base.specs.declared.packet.Message.{Message}
use Rattle.far_base.specs.declared.packet.Out.{Out}
use Rattle.far_base.specs.declared.packet.Packet.{Packet}
use Rattle.far_base.specs.declared.packet.Packet.TheVariants.{SnapStart, SnapBegun, SnapRead, SnapPart, SnapSame, SnapFrom}
use Rattle.far_base.specs.declared.party.Party.{Party}
use Rattle.far_base.specs.declared.party.Party.TheVariants.{Switch, Controller}
use Rattle.far_base.specs.declared.plan.Config.{Config}
use Rattle.far_model.specs.Events.{switch_turn}
use Rattle.far_invariants.specs.Flights.{IsFor}
use Rattle.far_model.specs.Members.{Each}
use Rattle.far_model.specs.Parties.{messages_from, to_party}
use Rattle.far_model.specs.Pass.{Passed, pass, passed_out, part_packet, with_taken, reads_part, is_slot_there, dropped, part_of, starts_snapshot}
use Rattle.far_invariants.specs.Past.{SnapshotStart, start_of, starts_by}
use Rattle.far_model.specs.Snapshots.{Job}
use Rattle.far_model.specs.State.{State}
use Rattle.far_model.specs.View.{SwitchView, slot_at, held_record, is_taken}
use Rattle.far_model.proofs.Members.{among_append_right}
use Rattle.far_invariants.specs.SnapshotFlights.{IsStartIn, IsBegunOf, IsReadOf, is_part_of, parts_in, SnapshotsInFlight}
use Rattle.far_invariants.specs.Snapshots.{WasStarted, gathering, JobWaits, PacketStands, SnapshotsStand}
use Rattle.flight_laws.proofs.SnapBasics.{both, by_case, same_place, counted, count_removed, count_append}
use Rattle.flight_laws.proofs.SnapFrame.{IsForeignOut}
use Rattle.flight_laws.proofs.SnapPasses.{parted, PassIs, Stays, Parts, pass_is, dropped_is, is_start}
use Rattle.flight_laws.proofs.SnapSwitching.{taken_grows, its_start}
use Rattle.flight_laws.proofs.SnapServing.{foreign_no_part, part_counts, passed_flies}

parts_out : (id k : ℕ) (from : Party) (outs : List Out) → parts_in id k (messages_from from outs) ≡ count_by (λ (o : Out). is_part_of id k o.packet) outs
parts_out id k from [] = refl
parts_out id k from (o ∷ os) =
    let rest = parts_out id k from os in
    let a = sum_by-cons (λ (m : Message). cond {A = ℕ} (is_part_of id k m.packet) 1 0) (record { from = from; to = o.to; packet = o.packet }) (messages_from from os) in
    let b = sum_by-cons (λ (o : Out). cond {A = ℕ} (is_part_of id k o.packet) 1 0) o os in
    omega (arith, rest, a, b)

foreign_parts : (id k : ℕ) (outs : List Out) → Each IsForeignOut outs → count_by (λ (o : Out). is_part_of id k o.packet) outs ≡ 0
foreign_parts id k [] h = refl
foreign_parts id k (o ∷ os) h =
    let rest = foreign_parts id k os h.1 in
    let b = sum_by-cons (λ (o : Out). cond {A = ℕ} (is_part_of id k o.packet) 1 0) o os in
    let z : cond {A = ℕ} (is_part_of id k o.packet) 1 0 ≡ 0 = ap (λ b. cond {A = ℕ} b 1 0) (foreign_no_part id k o.packet h.0) in
    omega (arith, rest, b, z)

module _ {tells : Bool} (plan : PlanView) (s : State) (starts : List SnapshotStart) (h : SnapshotsStand tells plan s starts) (f : SnapshotsInFlight plan s starts) (runs : s.running ≡ true) (i : ℕ) (m : Message) (at : slice_get s.bag i ≡ Some m) where
  -- a pass in which a snapshot does not start
  pass_flies : (no_begun : (id : ℕ) → IsBegunOf id m.packet → ⊥) → (no_start : (id : ℕ) → IsStartIn s.controller.epoch id m.packet → ⊥) → (no_part : (id k : ℕ) → is_part_of id k m.packet ≡ false)
      → (packet : Packet) (p : Passed)
      → (takes : (j : Job) (k : ℕ) → s.controller.job ≡ Some j → WasStarted starts j.id → k < plan.config.slots → is_taken p.view k ≡ false → IsReadOf s.controller.epoch j.id k m.packet → ⊥)
      → PassIs s.switch p → SnapshotsInFlight plan (switch_turn s (remove s.bag i) packet p) starts
  pass_flies no_begun no_start no_part packet p takes (Stays bound slots hot n e still foreign) =
      passed_flies plan s starts h f runs i m at no_begun no_start no_part (switch_turn s (remove s.bag i) packet p) (messages_from Switch (passed_out p)) refl refl refl
      (λ k t. same k ∙ t) takes
      (λ j is k. inl (parts_out j.id k Switch (passed_out p) ∙ foreign_parts j.id k (passed_out p) foreign))
      (λ j is w k u t. absurd (let clash : true ≡ false = sym t ∙ same k ∙ u in cc))
    where
      same : (k : ℕ) → is_taken p.view k ≡ is_taken s.switch k
      same k = ap (λ (v : SwitchView). is_taken v k) e
  pass_flies no_begun no_start no_part packet p takes (Parts i0 bound slots hot n before e leaves foreign outs) =
      passed_flies plan s starts h f runs i m at no_begun no_start no_part (switch_turn s (remove s.bag i) packet p) (messages_from Switch (passed_out p)) refl refl refl
      (λ k t. same k ∙ taken_grows plan s.switch starts h.switch i0 bound slots hot n leaves k t) takes
      (λ j is k. count j k (nat_eq s.switch.snap j.id && nat_eq i0 k) refl)
      (λ j is w k u t. counts j is w k u t (same_place k i0))
    where
      same : (k : ℕ) → is_taken p.view k ≡ is_taken (parted s.switch i0 bound slots hot n) k
      same k = ap (λ (v : SwitchView). is_taken v k) e

      new : (id k : ℕ) → parts_in id k (messages_from Switch (passed_out p)) ≡ cond {A = ℕ} (nat_eq s.switch.snap id && nat_eq i0 k) 1 0
      new id k =
          let a = parts_out id k Switch (passed_out p) in
          let b = ap (λ l. count_by (λ (o : Out). is_part_of id k o.packet) l) outs in
          let c = count_append (λ (o : Out). is_part_of id k o.packet) before (to_party Controller (part_packet s.switch i0) ∷ []) in
          let d = foreign_parts id k before foreign in
          let g : cond {A = ℕ} (is_part_of id k (part_packet s.switch i0)) 1 0 ≡ cond {A = ℕ} (nat_eq s.switch.snap id && nat_eq i0 k) 1 0 = ap (λ b. cond {A = ℕ} b 1 0) (part_counts s.switch i0 id k) in
          a ∙ b ∙ c ∙ omega (arith, d, g)

      count : (j : Job) (k : ℕ) (b : Bool) → (nat_eq s.switch.snap j.id && nat_eq i0 k) ≡ b
          → (parts_in j.id k (messages_from Switch (passed_out p)) ≡ 0) ⊎ ((is_taken s.switch k ≡ false) × ((WasStarted starts j.id) × (parts_in j.id k (messages_from Switch (passed_out p)) ≡ 1)))
      count j k false q = inl (new j.id k ∙ ap (λ b. cond {A = ℕ} b 1 0) q)
      count j k true q =
          let t = both (nat_eq s.switch.snap j.id) (nat_eq i0 k) q in
          inr (subst (λ w. is_taken s.switch w ≡ false) (eqb-true i0 k t.1) leaves.untaken, (subst (WasStarted starts) (eqb-true s.switch.snap j.id t.0) (its_start plan s.switch starts h.switch i0 bound slots hot n leaves), new j.id k ∙ ap (λ b. cond {A = ℕ} b 1 0) q))

      counts : (j : Job) → s.controller.job ≡ Some j → WasStarted starts j.id → (k : ℕ) → is_taken s.switch k ≡ false → is_taken p.view k ≡ true → (k ≡ i0) ⊎ (k ≢ i0) → parts_in j.id k (messages_from Switch (passed_out p)) ≡ 1
      counts j is w k u t (inl q) =
          let snap = ((h.in_step runs).runs j is w.start w.of).snap in
          let a : nat_eq s.switch.snap j.id ≡ true = eq-eqb _ _ snap in
          let b : nat_eq i0 k ≡ true = eq-eqb _ _ (sym q) in
          new j.id k ∙ ap (λ x. cond {A = ℕ} (x && nat_eq i0 k) 1 0) a ∙ ap (λ x. cond {A = ℕ} x 1 0) b
      counts j is w k u t (inr ne) =
          absurd (let other : is_taken (parted s.switch i0 bound slots hot n) k ≡ is_taken s.switch k = ap (λ x. nat_eq x s.switch.snap) (get_or-set_other s.switch.taken i0 k s.switch.snap 0 ne) in let clash : true ≡ false = sym t ∙ same k ∙ other ∙ u in cc)

  -- a read of a slot takes its part
  read_takes : (epoch id k : ℕ) → epoch ≡ s.switch.epoch → id ≡ s.switch.snap → k < plan.config.slots → is_taken (pass s.switch (SnapRead epoch id k)).view k ≡ true
  read_takes epoch id k e q within = by_case (λ (p : Passed). is_taken p.view k ≡ true) (is_slot_there s.switch epoch k) (reads_part s.switch id k) (dropped s.switch) (λ there. read) (λ off. absurd (let clash : true ≡ false = sym there ∙ off in cc))
    where
      there : is_slot_there s.switch epoch k ≡ true
      there =
          let slots = ap (λ (c : Config). c.slots) h.switch.config in
          let a : nat_eq epoch s.switch.epoch ≡ true = eq-eqb _ _ e in
          let b : nat_lt k s.switch.config.slots ≡ true = lt-ltb _ _ (omega (arith, within, slots)) in
          ap (λ x. x && nat_lt k s.switch.config.slots) a ∙ b

      read : is_taken (reads_part s.switch id k).view k ≡ true
      read = by_case (λ (p : Passed). is_taken p.view k ≡ true) (nat_eq id s.switch.snap && not (is_taken s.switch k)) (record { view = with_taken s.switch k (held_record (slot_at s.switch k)); first = part_of s.switch k; second = None }) (dropped s.switch)
          (λ yes. eq-eqb _ _ (get_or-set_same s.switch.taken k s.switch.snap 0 (let l = h.switch.taken in omega (arith, within, l))))
          (λ off. go (is_taken s.switch k) refl off)
        where
          go : (b : Bool) → is_taken s.switch k ≡ b → (nat_eq id s.switch.snap && not (is_taken s.switch k)) ≡ false → is_taken s.switch k ≡ true
          go true t off = t
          go false t off = absurd (let a : nat_eq id s.switch.snap ≡ true = eq-eqb _ _ q in let all : (nat_eq id s.switch.snap && not (is_taken s.switch k)) ≡ true = ap (λ x. x && not (is_taken s.switch k)) a ∙ ap not t in let clash : true ≡ false = sym all ∙ off in cc)

  -- the start of a snapshot
  start_flies : (id base : ℕ) (difference : Bool) → JobWaits (gathering s.controller) starts id → (no_part : (id k : ℕ) → is_part_of id k m.packet ≡ false) → (packet : Packet)
      → SnapshotsInFlight plan (switch_turn s (remove s.bag i) packet (starts_snapshot s.switch id base)) (starts ++ start_of s.switch id difference ∷ [])
  start_flies id base difference w no_part packet = record {
    unfinished = f.unfinished;
    once = λ j is k. let o = f.once j is k in let t = total j.id k in omega (arith, o, t);
    one = λ up j is st k within tk. absurd (let a = h.switch.within k in let b = above in let c = eqb-true _ _ tk in omega (arith, a, b, c));
    start = λ up j is. inl (started j is);
    begun = λ up j is st none. record { message = _; there = among_append_right _ (remove s.bag i) _ (inl refl); is = sym w.is ∙ ap (λ (x : Job). x.id) (same_job j is) };
    reads = λ up j point is has k within u. absurd (let b = (h.gathered.job j is).begun point has in let l = w.newest b.0 b.1.there in let x = b.1.is in let y = w.is in let z = ap (λ (x : Job). x.id) (same_job j is) in omega (arith, l, x, y, z));
  }
    where
      same_job : (j : Job) → s.controller.job ≡ Some j → w.job ≡ j
      same_job j is = same_Some w.job j (sym w.under_way ∙ is)

      started : (j : Job) → s.controller.job ≡ Some j → WasStarted (starts ++ start_of s.switch id difference ∷ []) j.id
      started j is = record { start = start_of s.switch id difference; of = record { there = among_append_right (start_of s.switch id difference) starts (start_of s.switch id difference ∷ []) (inl refl); is = sym w.is ∙ ap (λ (x : Job). x.id) (same_job j is) } }

      total : (own k : ℕ) → parts_in own k (remove s.bag i ++ messages_from Switch (to_party Controller (SnapBegun id s.switch.counter) ∷ [])) ≡ parts_in own k s.bag
      total own k =
          let sum = count_append (λ (m : Message). is_part_of own k m.packet) (remove s.bag i) (messages_from Switch (to_party Controller (SnapBegun id s.switch.counter) ∷ [])) in
          let out = count_removed (λ (m : Message). is_part_of own k m.packet) s.bag i m at in
          let gone : counted (λ (m : Message). is_part_of own k m.packet) m ≡ 0 = ap (λ b. cond {A = ℕ} b 1 0) (no_part own k) in
          omega (arith, sum, out, gone)

      above : s.switch.snap < id
      above = go (same_place s.switch.snap 0)
        where
          go : (s.switch.snap ≡ 0) ⊎ (s.switch.snap ≢ 0) → s.switch.snap < id
          go (inl z) = let newer = (h.gathered.job w.job w.under_way).newer in let is = w.is in omega (arith, z, newer, is)
          go (inr ne) = let st = h.switch.started (omega (arith, ne)) in let l = w.newest st.start st.of.there in let is = st.of.is in omega (arith, l, is)

  -- what comes to the switch is no part, and says of no snapshot that it has begun
  to_switch_begun : (p : Packet) (to : Party) → to ≡ Switch → IsFor plan.config p to → (id : ℕ) → IsBegunOf id p → ⊥
  to_switch_begun (SnapBegun own point) to e route id b = let clash : Switch ≡ Controller = sym e ∙ route in absurd cc
  to_switch_begun _ to e route id b = absurd b

  to_switch_part : (p : Packet) (to : Party) → to ≡ Switch → IsFor plan.config p to → (id k : ℕ) → is_part_of id k p ≡ false
  to_switch_part (SnapPart own j view) to e route id k = let clash : Switch ≡ Controller = sym e ∙ route in absurd cc
  to_switch_part (SnapSame own j) to e route id k = let clash : Switch ≡ Controller = sym e ∙ route in absurd cc
  to_switch_part _ to e route id k = refl

  -- a start comes, of the present epoch or of an earlier one
  started_flies : (packet : Packet) → m.packet ≡ packet → m.to ≡ Switch → IsFor plan.config m.packet m.to → (epoch id base : ℕ) (difference : Bool) → ((own : ℕ) → IsStartIn s.controller.epoch own packet → epoch ≡ s.controller.epoch)
      → (s.running ≡ true → epoch ≡ s.controller.epoch → JobWaits (gathering s.controller) starts id) → ((j k : ℕ) → IsReadOf s.controller.epoch j k packet → ⊥)
      → (b : Bool) → nat_eq epoch s.switch.epoch ≡ b
      → SnapshotsInFlight plan (switch_turn s (remove s.bag i) packet (if b then starts_snapshot s.switch id base else dropped s.switch)) (starts ++ (if b then start_of s.switch id difference ∷ [] else []))
  started_flies packet is to route epoch id base difference own waits no_read true e = start_flies id base difference (waits runs (eqb-true _ _ e ∙ (h.in_step runs).epoch)) (to_switch_part m.packet m.to to route) packet
  started_flies packet is to route epoch id base difference own waits no_read false e = subst (SnapshotsInFlight plan (switch_turn s (remove s.bag i) packet (dropped s.switch))) (sym (append-nil starts))
      (pass_flies (to_switch_begun m.packet m.to to route) (λ other st. let present = own other (subst (IsStartIn s.controller.epoch other) is st) in absurd (let yes : nat_eq epoch s.switch.epoch ≡ true = eq-eqb _ _ (present ∙ sym (h.in_step runs).epoch) in let clash : true ≡ false = sym yes ∙ e in cc))
      (to_switch_part m.packet m.to to route) packet (dropped s.switch) (λ j k job w within u r. no_read j.id k (subst (IsReadOf s.controller.epoch j.id k) is r)) (dropped_is s.switch h.switch.bare))

  other_flies : (p : Packet) → m.packet ≡ p → m.to ≡ Switch → IsFor plan.config m.packet m.to → is_start p ≡ false → ((id : ℕ) → IsStartIn s.controller.epoch id p → ⊥)
      → ((j k : ℕ) → k < plan.config.slots → j ≡ s.switch.snap → IsReadOf s.controller.epoch j k p → is_taken (pass s.switch p).view k ≡ true)
      → SnapshotsInFlight plan (switch_turn s (remove s.bag i) p (pass s.switch p)) starts
  other_flies p is to route off no_start reads = pass_flies (to_switch_begun m.packet m.to to route) (λ id st. no_start id (subst (IsStartIn s.controller.epoch id) is st)) (to_switch_part m.packet m.to to route) p (pass s.switch p)
      (λ j k job w within u r. let yes = reads j.id k within (sym ((h.in_step runs).runs j job w.start w.of).snap) (subst (IsReadOf s.controller.epoch j.id k) is r) in let clash : true ≡ false = sym yes ∙ u in absurd cc)
      (pass_is s.switch h.switch.bare (h.switch.slots ∙ sym (ap (λ (c : Config). c.slots) h.switch.config)) p off)

  pub switch_flies : (p : Packet) → m.packet ≡ p → m.to ≡ Switch → IsFor plan.config m.packet m.to → PacketStands tells s.running (gathering s.controller) starts p
      → SnapshotsInFlight plan (switch_turn s (remove s.bag i) p (pass s.switch p)) (starts ++ starts_by s.switch Switch p)
  switch_flies (SnapStart epoch id) is to route k = started_flies (SnapStart epoch id) is to route epoch id 0 false (λ own st. st.0) k.waits (λ j n r. r) (nat_eq epoch s.switch.epoch) refl
  switch_flies (SnapFrom epoch id base) is to route k = started_flies (SnapFrom epoch id base) is to route epoch id base true (λ own st. st.0) k.0.waits (λ j n r. r) (nat_eq epoch s.switch.epoch) refl
  switch_flies (SnapRead epoch id n) is to route k = subst (SnapshotsInFlight plan (switch_turn s (remove s.bag i) (SnapRead epoch id n) (pass s.switch (SnapRead epoch id n)))) (sym (append-nil starts))
      (other_flies (SnapRead epoch id n) is to route refl (λ own st. st) (λ j c within snap r. subst (λ x. is_taken (pass s.switch (SnapRead epoch id n)).view x ≡ true) r.2
      (read_takes epoch id n (r.0 ∙ sym (h.in_step runs).epoch) (r.1 ∙ snap) (let e = r.2 in omega (arith, e, within)))))
  switch_flies p is to route k = subst (SnapshotsInFlight plan (switch_turn s (remove s.bag i) p (pass s.switch p))) (sym (append-nil starts))
      (other_flies p is to route refl (λ own st. st) (λ j c within snap r. absurd r))

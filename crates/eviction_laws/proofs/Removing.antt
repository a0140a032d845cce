-- A removal reaches the switch: the slot goes where it holds no more than was stored.
use Rattle.far_invariants.specs.Slots.{IsSlotOf, FitsState, admission_count}
use Rattle.far_invariants.specs.Numbers.{slot_if, entry, reach_by, reach}
use Rattle.far_invariants.specs.Covers.{look}
use Rattle.far_invariants.specs.Operations.{OperationsStand}
use Rattle.far_invariants.proofs.Noted.{member}
use Rattle.far_invariants.proofs.Keys.{key_cases}
use Rattle.std.proofs.Common.{◌≡◌, ◌≢◌, ℕ, ◌+◌, ◌<◌, ◌≤◌, ◌⊎◌, inl, inr, Bool, true, false, cond, List, [], ◌∷◌, ◌++◌, length, refl, sym, ap, ◌∙◌, subst, arith, eq-eqb, ne_eqb, eqb-true}
use Rattle.std.specs.Prelude.{Some, None, if◌then◌else◌, ◌&&◌, nat_eq, slice_get}
use Rattle.std.specs.List.{remove, count_by}
use Rattle.std.proofs.lemmas.List.{length-set}
use Rattle.std.proofs.lemmas.List.Sums.{sum_by-cons}
use Rattle.far_base.specs.PlanView.{PlanView}
use Rattle.far_base.specs.declared.packet.Message.{Message}
use Rattle.far_base.specs.declared.packet.Packet.TheVariants.{Remove, RemoveAns, SnapPart, SnapSame}
use Rattle.far_base.specs.declared.party.Party.{Party}
use Rattle.far_base.specs.declared.party.Party.TheVariants.{Switch, Controller}
use Rattle.far_base.specs.declared.slot_state.SlotState.TheVariants.{Evicting}
use Rattle.far_model.specs.Events.{switch_turn}
use Rattle.far_model.specs.Evictions.{Eviction, state_at}
use Rattle.far_model.specs.Members.{Among}
use Rattle.far_model.specs.Pass.{removes, removed_answer, may_go, changes, dropped, is_slot_there, is_under, sent_to, with_slot, with_taken, part_of, is_as_before, part_packet}
use Rattle.far_model.specs.Passes.{with_pass}
use Rattle.far_model.specs.State.{State}
use Rattle.far_model.specs.View.{SlotView, SwitchView, slot_at, entry_if, bound_place, is_slot_of, shown_body, empty_slot, is_taken, held_record}
use Rattle.far_model.proofs.Members.{among_at, among_remove}
use Rattle.record_laws.proofs.Requests.{reach_latest, reach_outdated}
use Rattle.record_laws.proofs.Seats.{counted, count_one, count_none, Seats, bag_taken, same_seats, seats_last, unchanged_slots}
use Rattle.record_laws.proofs.Slots.{both, IsEntry, SetsSlot, entry_is, entry_kept, with_slot_sets, taken_sets}
use Rattle.far_invariants.specs.EvictionNeeds.{Needs}
use Rattle.far_invariants.specs.Evictions.{Content, is_eviction_packet, is_eviction_of, eviction_count, RemoveIs, EvictionPacketIs, EvictionIs, StageIs, EvictionsAre}
use Rattle.eviction_laws.proofs.Looking.{evictions_on, found_slot, onward_on, passed_on, quiet_pass_keeps, slot_entry, slot_written, there_same, under}
use Rattle.eviction_laws.proofs.Onward.{eviction_any, no_eviction_of, turned, none_but_one}
use Rattle.far_invariants.specs.Evictions.{Onward}
use Rattle.eviction_laws.proofs.Rules.{SlotGoes, slot_rests, rules_keep}
use Rattle.eviction_laws.proofs.Seating.{seats_move}
use Rattle.eviction_laws.proofs.Steady.{is_steady, AreSteady, one_steady, no_steady, steady_bag, steady_none}
use Rattle.flight_laws.proofs.Lists.{by_test}

-- a slot under its tag stays only where it is latest
stays_latest : (tag : ℕ) (latest : Bool) (num : ℕ) (slot : SlotView) → is_under tag slot ≡ true → may_go tag latest num slot ≡ false → slot.latest ≡ true
stays_latest tag latest num slot on off = go slot.latest refl
  where
    go : (b : Bool) → slot.latest ≡ b → slot.latest ≡ true
    go true l = l
    go false l = absurd (
        let fits : may_go tag latest num slot ≡ true = ap (λ b. b && (if slot.latest then latest && nat_eq slot.num num else true)) on ∙ ap (λ b. if b then latest && nat_eq slot.num num else true) l in
        let clash : true ≡ false = sym fits ∙ off in cc)

-- a latest slot goes only at the number that was asked for
goes_at : (tag : ℕ) (latest : Bool) (num : ℕ) (slot : SlotView) → may_go tag latest num slot ≡ true → slot.latest ≡ true → (latest ≡ true) × (slot.num ≡ num)
goes_at tag latest num slot h l =
    let second : (if slot.latest then latest && nat_eq slot.num num else true) ≡ true = (both (is_under tag slot) _ h).1 in
    let parts = both latest (nat_eq slot.num num) (ap (λ b. if b then latest && nat_eq slot.num num else true) (sym l) ∙ second) in
    (parts.0, eqb-true slot.num num parts.1)

module _ (plan : PlanView) {c : Content} (s : State) (need : Needs plan c s) (v : EvictionsAre plan c s) (runs : s.running ≡ true) (n : ℕ) (from to : Party) (own i tag : ℕ) (latest : Bool) (num : ℕ)
    (at : slice_get s.bag n ≡ Some (record { from = from; to = to; packet = Remove own i tag latest num })) where
  abbrev asked : Message
  asked = record { from = from; to = to; packet = Remove own i tag latest num }

  abbrev rest : List Message
  rest = remove s.bag n

  abbrev slot : SlotView
  slot = slot_at s.switch i

  its : EvictionPacketIs plan c s (Remove own i tag latest num)
  its = v.packets asked (among_at _ s.bag n at)

  rests : (m : Message) → Among m rest → Among m s.bag
  rests m a = among_remove m s.bag n a

  -- ---- nothing goes

  abbrev after : List Message → State
  after new = passed_on s n (with_pass s.passes (Remove own i tag latest num)) new

  onward_after : (new : List Message) → Onward plan s (after new)
  onward_after new = onward_on plan s n (with_pass s.passes (Remove own i tag latest num)) new

  stays_sound : (new : List Message) → ((m : Message) → Among m new → EvictionPacketIs plan c (after new) m.packet)
      → count_by (λ (m : Message). is_eviction_of s.controller.epoch s.controller.eviction m.packet) new ≡ counted (λ (m : Message). is_eviction_of s.controller.epoch s.controller.eviction m.packet) asked
      → EvictionsAre plan c (after new)
  stays_sound new news count = evictions_on plan s v n asked (with_pass s.passes (Remove own i tag latest num)) new at news count

  abbrev kept_answer : Message
  kept_answer = record { from = Switch; to = Controller; packet = RemoveAns i tag false slot.latest slot.num (shown_body slot) }

  abbrev gone_answer : Message
  gone_answer = record { from = Switch; to = Controller; packet = RemoveAns i tag true slot.latest slot.num (shown_body slot) }

  abbrev emptied : SwitchView → List Message → State
  emptied w more = record s { switch = w; bag = rest ++ gone_answer ∷ more; passes = with_pass s.passes (Remove own i tag latest num); steps = s.steps + 1; log = s.log ++ [] }

  -- what is said of the view in which the slot is gone, and of what leaves beside the answer
  pub record Empties (w : SwitchView) (more : List Message) : Type 0 where
    pub sets : SetsSlot s.switch w i empty_slot
    pub epoch : w.epoch ≡ s.switch.epoch
    pub size : length w.slots ≡ length s.switch.slots
    pub plain : (m : Message) → Among m more → (is_steady m.packet ≡ true) × (is_eviction_packet m.packet ≡ false)

  -- ---- of the switch's epoch

  module _ (same : own ≡ s.controller.epoch) where
    remove_is : RemoveIs s i tag latest num
    remove_is = its.1 same (need.outside runs)

    abbrev e : Eviction
    e = remove_is.awaits.eviction

    eviction_is : EvictionIs plan s e
    eviction_is = v.some e remove_is.awaits.is

    slot_of : IsSlotOf e.key e.tag slot
    slot_of = subst (λ w. IsSlotOf e.key e.tag (slot_at s.switch w)) remove_is.awaits.slot_is (remove_is.there runs)

    state : state_at s.controller.slots i ≡ Evicting e.key e.tag
    state = ap (state_at s.controller.slots) (sym remove_is.awaits.slot_is) ∙ eviction_is.state

    is_own : is_under tag slot ≡ true
    is_own = under e.key e.tag tag slot slot_of remove_is.awaits.tag_is

    hit : is_eviction_of s.controller.epoch s.controller.eviction asked.packet ≡ true
    hit = eq-eqb own s.controller.epoch same

    is_there : entry e.key s.switch ≡ Some slot
    is_there = slot_entry plan s need i e.key e.tag slot_of

    body_shown : slot.latest ≡ true → c s e.key slot.num (shown_body slot)
    body_shown l = subst (λ b. c s e.key slot.num (if b then slot.body else None)) (sym l) (slot_written plan s need i e.key e.tag slot_of l)

    -- the slot stays
    kept_sound : may_go tag latest num slot ≡ false → EvictionsAre plan c (after (kept_answer ∷ []))
    kept_sound off = stays_sound (kept_answer ∷ []) packets
        (count_one (λ (m : Message). is_eviction_of s.controller.epoch s.controller.eviction m.packet) kept_answer ∙ sym (ap (λ b. cond {A = ℕ} b 1 0) hit))
      where
        answer_is : EvictionPacketIs plan c (after (kept_answer ∷ [])) kept_answer.packet
        answer_is = record {
          awaits = record { eviction = e; is = remove_is.awaits.is; due_is = remove_is.awaits.due_is; slot_is = remove_is.awaits.slot_is; tag_is = remove_is.awaits.tag_is };
          gone = λ x. absurd cc;
          there = λ x. remove_is.there;
          written = λ x. v.lasts s (after (kept_answer ∷ [])) (onward_after (kept_answer ∷ [])) e.key slot.num (shown_body slot) (body_shown (stays_latest tag latest num slot is_own off));
          shown = λ l. v.lasts s (after (kept_answer ∷ [])) (onward_after (kept_answer ∷ [])) e.key slot.num (shown_body slot) (body_shown l);
        }

        packets : (m : Message) → Among m (kept_answer ∷ []) → EvictionPacketIs plan c (after (kept_answer ∷ [])) m.packet
        packets m (inl q) = subst (λ (w : Message). EvictionPacketIs plan c (after (kept_answer ∷ [])) w.packet) (sym q) answer_is
        packets m (inr a) = absurd a

    -- the slot goes
    emptied_sound : (w : SwitchView) (more : List Message) → Empties w more → EvictionsAre plan c (emptied w more)
    emptied_sound w more g = turned plan s (emptied w more) v rest (record {
      onward = record { still = member s (emptied w more) [] refl; past = omega arith; more = λ key. omega arith };
      epoch = refl;
      jobs = omega arith;
      again = λ job b x. x;
      rests = none_but_one plan s v (need.outside runs) n asked at hit;
    }) (gone_answer ∷ more) refl packets count some (λ is. v.none is)
      where
        some : (e' : Eviction) → s.controller.eviction ≡ Some e' → EvictionIs plan (emptied w more) e'
        some e' is = let q = v.some e' is in record { epoch = q.epoch; outside = q.outside; state = q.state; alone = q.alone; stage = q.stage }

        packets : (m : Message) → Among m (gone_answer ∷ more) → EvictionPacketIs plan c (emptied w more) m.packet
        packets m (inl q) =
            let new : EvictionPacketIs plan c (emptied w more) gone_answer.packet = record {
              awaits = record { eviction = e; is = remove_is.awaits.is; due_is = remove_is.awaits.due_is; slot_is = remove_is.awaits.slot_is; tag_is = remove_is.awaits.tag_is };
              gone = λ x. ap (λ j. (slot_at w j).valid) remove_is.awaits.slot_is ∙ ap (λ (y : SlotView). y.valid) g.sets.here;
              there = λ x. absurd cc;
              written = λ x. absurd cc;
              shown = λ l. v.lasts s (emptied w more) (record { still = member s (emptied w more) [] refl; past = omega arith; more = λ key. omega arith }) e.key slot.num (shown_body slot) (body_shown l);
            } in
            subst (λ (x : Message). EvictionPacketIs plan c (emptied w more) x.packet) (sym q) new
        packets m (inr a) = eviction_any plan c (emptied w more) m.packet (g.plain m a).1

        count : count_by (λ (m : Message). is_eviction_of s.controller.epoch s.controller.eviction m.packet) (gone_answer ∷ more) ≡ eviction_count s.controller.eviction
        count =
            let first = sum_by-cons (λ (m : Message). cond {A = ℕ} (is_eviction_of s.controller.epoch s.controller.eviction m.packet) 1 0) gone_answer more in
            let none = count_none (λ (m : Message). is_eviction_of s.controller.epoch s.controller.eviction m.packet) more (λ m a. no_eviction_of s.controller.epoch s.controller.eviction m.packet (g.plain m a).1) in
            let one : eviction_count s.controller.eviction ≡ 1 = ap eviction_count remove_is.awaits.is in
            omega (arith, first, none, one)

    -- the server has what the slot had, where the slot may go
    covered : may_go tag latest num slot ≡ true → reach plan s e.key ≤ (look plan s e.key).num
    covered goes = go slot.latest refl
      where
        go : (b : Bool) → slot.latest ≡ b → reach plan s e.key ≤ (look plan s e.key).num
        go true l =
            let reached = reach_latest (look plan s e.key).num (entry e.key s.switch) slot is_there l in
            let at_number = goes_at tag latest num slot goes l in
            let last = remove_is.stored at_number.0 in
            let stage : e.item.num ≤ (look plan s e.key).num = subst (StageIs plan s e) remove_is.awaits.due_is eviction_is.stage in
            let exact = at_number.1 in
            omega (arith, reached, exact, last, stage)
        go false l =
            let reached = reach_outdated (look plan s e.key).num (entry e.key s.switch) slot is_there l in
            omega (arith, reached)

    -- ---- the cases

    abbrev part_message : Message
    part_message = record { from = Switch; to = Controller; packet = part_packet s.switch i }

    part_plain : (m : Message) → Among m (part_message ∷ []) → (is_steady m.packet ≡ true) × (is_eviction_packet m.packet ≡ false)
    part_plain m (inl q) = (
      ap (λ (x : Message). is_steady x.packet) q ∙ by_test (λ p. is_steady p ≡ true) (is_as_before s.switch i) (SnapSame s.switch.snap i) (SnapPart s.switch.snap i (held_record (slot_at s.switch i))) refl refl,
      ap (λ (x : Message). is_eviction_packet x.packet) q ∙ by_test (λ p. is_eviction_packet p ≡ false) (is_as_before s.switch i) (SnapSame s.switch.snap i) (SnapPart s.switch.snap i (held_record (slot_at s.switch i))) refl refl,
    )
    part_plain m (inr a) = absurd a

    within : i < length s.switch.slots
    within = (entry_is e.key s.switch i (need.owned i e.key e.tag slot_of)).within

    module _ (Goal : State → Type 0) (kept : may_go tag latest num slot ≡ false → Goal (after (kept_answer ∷ []))) (gone : may_go tag latest num slot ≡ true → (w : SwitchView) (more : List Message) → Empties w more → Goal (emptied w more)) where
      slot_goes : may_go tag latest num slot ≡ true → (u : Bool) → u ≡ true → (l t : Bool) → Goal (switch_turn s rest (Remove own i tag latest num) (if l
          then record {
            view = if t then with_slot s.switch i empty_slot else with_taken (with_slot s.switch i empty_slot) i (held_record (slot_at s.switch i));
            first = if u then sent_to Controller (RemoveAns i tag true slot.latest slot.num (shown_body slot)) else sent_to Controller (RemoveAns i tag false false 0 None);
            second = if t then None else part_of s.switch i;
          }
          else record { view = with_slot s.switch i empty_slot; first = if u then sent_to Controller (RemoveAns i tag true slot.latest slot.num (shown_body slot)) else sent_to Controller (RemoveAns i tag false false 0 None); second = None }))
      slot_goes goes false x l t = absurd cc
      slot_goes goes true x true true = gone goes (with_slot s.switch i empty_slot) [] (record { sets = with_slot_sets s.switch i empty_slot within; epoch = refl; size = length-set s.switch.slots i empty_slot; plain = λ m a. absurd a })
      slot_goes goes true x true false = gone goes (with_taken (with_slot s.switch i empty_slot) i (held_record (slot_at s.switch i))) (part_message ∷ []) (record { sets = taken_sets s.switch i empty_slot within; epoch = refl; size = length-set s.switch.slots i empty_slot; plain = part_plain })
      slot_goes goes true x false t = gone goes (with_slot s.switch i empty_slot) [] (record { sets = with_slot_sets s.switch i empty_slot within; epoch = refl; size = length-set s.switch.slots i empty_slot; plain = λ m a. absurd a })

      slot_stays : may_go tag latest num slot ≡ false → (u : Bool) → u ≡ true → Goal (switch_turn s rest (Remove own i tag latest num)
          (record { view = s.switch; first = if u then sent_to Controller (RemoveAns i tag false slot.latest slot.num (shown_body slot)) else sent_to Controller (RemoveAns i tag false false 0 None); second = None }))
      slot_stays off false x = absurd cc
      slot_stays off true x = kept off

      removed : (b : Bool) → may_go tag latest num slot ≡ b → Goal (switch_turn s rest (Remove own i tag latest num) (if b
          then (if slot.latest
          then changes s.switch i empty_slot (removed_answer i tag true slot)
          else record { view = with_slot s.switch i empty_slot; first = removed_answer i tag true slot; second = None })
          else record { view = s.switch; first = removed_answer i tag false slot; second = None }))
      removed true goes = slot_goes goes (is_under tag slot) is_own slot.latest (is_taken s.switch i)
      removed false off = slot_stays off (is_under tag slot) is_own

  abbrev removal : Bool → State
  removal b = switch_turn s rest (Remove own i tag latest num) (if b then removes s.switch i tag latest num (slot_at s.switch i) else dropped s.switch)

  -- a removal that finds no slot is of an older epoch
  other_epoch : is_slot_there s.switch own i ≡ false → own ≢ s.controller.epoch
  other_epoch off same = let on = found_slot plan s need runs own i (e same).key (e same).tag same (state same) in let clash : true ≡ false = sym on ∙ off in cc

  pub remove_sound : EvictionsAre plan c (removal (is_slot_there s.switch own i))
  remove_sound = go (is_slot_there s.switch own i) refl
    where
      go : (b : Bool) → is_slot_there s.switch own i ≡ b → EvictionsAre plan c (removal b)
      go true on = let same = there_same plan s need runs own i on in removed same (EvictionsAre plan c) (kept_sound same) (λ goes. emptied_sound same) (may_go tag latest num slot) refl
      go false off = stays_sound [] (λ m a. absurd a) (sym (ap (λ b. cond {A = ℕ} b 1 0) (ne_eqb own s.controller.epoch (other_epoch off))))

  -- ---- operations and owners

  module _ (k : OperationsStand plan s) (h : Seats plan s) where
    stays : (new : List Message) → AreSteady new → OperationsStand plan (after new) × Seats plan (after new)
    stays new steady = (
      quiet_pass_keeps plan s (after new) rest new k refl rests steady,
      seats_last plan s (after new) h (same_seats s (after new) refl (unchanged_slots s.switch s.switch refl refl refl) refl refl (omega arith)
          (bag_taken s (after new) n asked new at refl refl (λ m a. steady_none m.packet (steady m a)))),
    )

    emptied_keeps : (same : own ≡ s.controller.epoch) → may_go tag latest num slot ≡ true → (w : SwitchView) (more : List Message) → Empties w more → OperationsStand plan (emptied w more) × Seats plan (emptied w more)
    emptied_keeps same goes w more g = (
      rules_keep plan [] s (emptied w more) k (record {
        log = refl;
        notes_are = tt;
        steps = refl;
        running = λ x. x;
        config = g.sets.config;
        counter = let c = g.sets.counter in omega (arith, c);
        servers = refl;
        more = λ key. omega arith;
        written = k.records;
        waits = λ c. refl;
        left = λ c. refl;
        tags = omega arith;
        bag = steady_bag plan s (emptied w more) rest (gone_answer ∷ more) refl rests steady;
      }) (λ key. settles key (key_cases key (e same).key)),
      seats_move plan s (emptied w more) i h (record {
        running = refl;
        bound = g.sets.bound;
        switch_epoch = g.epoch;
        size = g.size;
        states_size = refl;
        epoch = refl;
        tags = omega arith;
        owners = λ j ne. let q = g.sets.there j ne in record { valid = ap (λ (x : SlotView). x.valid) q; key = ap (λ (x : SlotView). x.key) q; tag = ap (λ (x : SlotView). x.tag) q };
        states = λ j ne. refl;
        own = inr (ap (λ (x : SlotView). x.valid) g.sets.here);
        given = λ key t x. x;
        fits = subst (FitsState (slot_at w i)) (sym (state same)) (inl (ap (λ (x : SlotView). x.valid) g.sets.here));
        quiet = ap admission_count (state same);
        stays_quiet = ap admission_count (state same);
        bag = bag_taken s (emptied w more) n asked (gone_answer ∷ more) at refl refl (λ m a. steady_none m.packet (steady m a));
      }),
    )
      where
        steady : AreSteady (gone_answer ∷ more)
        steady m (inl q) = ap (λ (x : Message). is_steady x.packet) q
        steady m (inr a) = (g.plain m a).0

        its_entry : IsEntry (e same).key s.switch i
        its_entry = entry_is (e same).key s.switch i (need.owned i (e same).key (e same).tag (slot_of same))

        -- the key has no slot any more
        entry_gone : entry (e same).key w ≡ None
        entry_gone =
            let bound : bound_place (e same).key w.bound ≡ Some i = ap (bound_place (e same).key) g.sets.bound ∙ its_entry.bound in
            let off : is_slot_of (e same).key (slot_at w i) ≡ false = ap (is_slot_of (e same).key) g.sets.here in
            ap (λ o. slot_if w (entry_if (e same).key w o)) bound ∙ ap (λ b. slot_if w (if b then Some i else None)) off

        settles : (other : List ℕ) → (other ≡ (e same).key) ⊎ (other ≢ (e same).key) → SlotGoes plan s (emptied w more) other
        settles other (inr ne) = slot_rests plan s (emptied w more) other (omega arith) (entry_kept other (e same).key s.switch w i empty_slot g.sets its_entry ne)
        settles other (inl eq) = subst (λ q. SlotGoes plan s (emptied w more) q) (sym eq) (record {
          reach = λ r. let reached : reach plan (emptied w more) (e same).key ≡ (look plan s (e same).key).num = ap (reach_by (look plan s (e same).key).num) entry_gone in let c = covered same goes in omega (arith, reached, c);
          before = λ x is. absurd (let clash = sym entry_gone ∙ is in cc);
        })

    pub remove_keeps : OperationsStand plan (removal (is_slot_there s.switch own i)) × Seats plan (removal (is_slot_there s.switch own i))
    remove_keeps = go (is_slot_there s.switch own i) refl
      where
        go : (b : Bool) → is_slot_there s.switch own i ≡ b → OperationsStand plan (removal b) × Seats plan (removal b)
        go true on = let same = there_same plan s need runs own i on in removed same (λ t. OperationsStand plan t × Seats plan t) (λ off. stays (kept_answer ∷ []) (one_steady kept_answer refl)) (emptied_keeps same) (may_go tag latest num slot) refl
        go false off = stays [] no_steady

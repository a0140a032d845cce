-- The switch shows what the slot of an eviction holds.
use Rattle.far_invariants.specs.Slots.{IsSlotOf, IsGiven}
use Rattle.far_invariants.specs.Numbers.{slot_if, entry}
use Rattle.far_invariants.specs.Operations.{OperationsStand}
use Rattle.std.proofs.Common.{◌≡◌, ℕ, ◌+◌, ◌⊎◌, inl, inr, Bool, true, false, cond, List, [], ◌∷◌, ◌++◌, refl, sym, ap, ◌∙◌, subst, arith, eq-eqb, ne_eqb, eqb-true, lt-ltb}
use Rattle.std.specs.Prelude.{Some, None, if◌then◌else◌, ◌&&◌, nat_eq, nat_lt, slice_get}
use Rattle.std.specs.List.{remove, count_by}
use Rattle.far_base.specs.PlanView.{PlanView}
use Rattle.far_base.specs.declared.packet.Message.{Message}
use Rattle.far_base.specs.declared.packet.Packet.TheVariants.{Peek, PeekAns}
use Rattle.far_base.specs.declared.party.Party.{Party}
use Rattle.far_base.specs.declared.party.Party.TheVariants.{Switch, Controller}
use Rattle.far_base.specs.declared.plan.Config.{Config}
use Rattle.far_base.specs.declared.slot_state.SlotState.TheVariants.{Evicting}
use Rattle.far_model.specs.Events.{switch_turn}
use Rattle.far_model.specs.Evictions.{Eviction, state_at}
use Rattle.far_model.specs.Members.{Among}
use Rattle.far_model.specs.Pass.{Passed, peeks, dropped, is_slot_there, is_under, sent_to}
use Rattle.far_model.specs.Passes.{with_pass}
use Rattle.far_model.specs.State.{State}
use Rattle.far_model.specs.View.{SlotView, slot_at, shown_body}
use Rattle.far_model.proofs.Members.{among_append, among_at, among_remove}
use Rattle.record_laws.proofs.Seats.{counted, count_removed, count_append, count_one, Seats, bag_taken, same_seats, seats_last, unchanged_slots}
use Rattle.far_invariants.specs.EvictionNeeds.{Needs}
use Rattle.flight_laws.proofs.Lists.{by_test}
use Rattle.far_invariants.proofs.Noted.{member}
use Rattle.far_invariants.specs.Evictions.{Content, Onward, is_eviction_of, PeekIs, EvictionPacketIs, EvictionsAre}
use Rattle.eviction_laws.proofs.Onward.{evictions_last}
use Rattle.eviction_laws.proofs.Rules.{Rules, slot_rests, rules_keep}
use Rattle.eviction_laws.proofs.Seating.{given_within}
use Rattle.eviction_laws.proofs.Steady.{AreSteady, one_steady, no_steady, steady_bag, steady_none}

-- a control packet of the controller's epoch for a slot that is evicted finds it, while the switch runs
pub found_slot : (plan : PlanView) {c : Content} (s : State) → Needs plan c s → s.running ≡ true → (own i : ℕ) (key : List ℕ) (tag : ℕ) → own ≡ s.controller.epoch → state_at s.controller.slots i ≡ Evicting key tag → is_slot_there s.switch own i ≡ true
found_slot plan s need runs own i key tag same at =
    let within = given_within s.controller.slots i key tag (subst (IsGiven key tag) (sym at) (refl, refl)) in
    let states = need.states in
    let config : s.switch.config.slots ≡ plan.config.slots = ap (λ (w : Config). w.slots) need.routed.switch in
    ap (λ b. b && nat_lt i s.switch.config.slots) (eq-eqb own s.switch.epoch (same ∙ sym (need.epoch runs))) ∙ lt-ltb i s.switch.config.slots (omega (arith, within, states, config))

pub there_same : (plan : PlanView) {c : Content} (s : State) → Needs plan c s → s.running ≡ true → (own i : ℕ) → is_slot_there s.switch own i ≡ true → own ≡ s.controller.epoch
there_same plan s need runs own i on = go (nat_eq own s.switch.epoch) refl on
  where
    go : (b : Bool) → nat_eq own s.switch.epoch ≡ b → (b && nat_lt i s.switch.config.slots) ≡ true → own ≡ s.controller.epoch
    go true e k = eqb-true own s.switch.epoch e ∙ need.epoch runs
    go false e k = absurd cc

-- a slot under its tag
pub under : (key : List ℕ) (tag own : ℕ) (slot : SlotView) → IsSlotOf key tag slot → tag ≡ own → is_under own slot ≡ true
under key tag own slot is same = ap (λ b. b && nat_eq slot.tag own) is.0 ∙ eq-eqb slot.tag own (is.2 ∙ same)

-- the slot of a key that is valid is its entry
pub slot_entry : (plan : PlanView) {c : Content} (s : State) → Needs plan c s → (i : ℕ) (key : List ℕ) (tag : ℕ) → IsSlotOf key tag (slot_at s.switch i) → entry key s.switch ≡ Some (slot_at s.switch i)
slot_entry plan s need i key tag is = ap (slot_if s.switch) (need.owned i key tag is)

pub slot_written : (plan : PlanView) {c : Content} (s : State) → Needs plan c s → (i : ℕ) (key : List ℕ) (tag : ℕ) → IsSlotOf key tag (slot_at s.switch i) → (slot_at s.switch i).latest ≡ true → c s key (slot_at s.switch i).num (slot_at s.switch i).body
slot_written plan s need i key tag is latest = need.slots key (slot_at s.switch i) (slot_entry plan s need i key tag is) latest

-- a pass that changes no slot keeps everything
pub quiet_pass_keeps : (plan : PlanView) (s t : State) (rest new : List Message) → OperationsStand plan s → t ≡ record s { bag = rest ++ new; passes = t.passes; steps = s.steps + 1; log = s.log ++ [] } → ((m : Message) → Among m rest → Among m s.bag) → AreSteady new → OperationsStand plan t
quiet_pass_keeps plan s t rest new k is rests steady = subst (OperationsStand plan) (sym is) (rules_keep plan [] s u k r (λ key. slot_rests plan s u key (omega arith) refl))
  where
    u : State
    u = record s { bag = rest ++ new; passes = t.passes; steps = s.steps + 1; log = s.log ++ [] }

    r : Rules plan [] s u
    r = record {
      log = refl;
      notes_are = tt;
      steps = refl;
      running = λ e. e;
      config = refl;
      counter = omega arith;
      servers = refl;
      more = λ key. omega arith;
      written = k.records;
      waits = λ c. refl;
      left = λ c. refl;
      tags = omega arith;
      bag = steady_bag plan s u rest new refl rests steady;
    }

-- ---- operations and owners

module _ (plan : PlanView) (s : State) (k : OperationsStand plan s) (h : Seats plan s) (n : ℕ) (from to : Party) (own i tag : ℕ)
    (at : slice_get s.bag n ≡ Some (record { from = from; to = to; packet = Peek own i tag })) where
  abbrev KeepsAndSits : Passed → Type 0
  KeepsAndSits p = OperationsStand plan (switch_turn s (remove s.bag n) (Peek own i tag) p) × Seats plan (switch_turn s (remove s.bag n) (Peek own i tag) p)

  abbrev told : List Message → State
  told new = record s { bag = remove s.bag n ++ new; passes = with_pass s.passes (Peek own i tag); steps = s.steps + 1; log = s.log ++ [] }

  sits : (new : List Message) → AreSteady new → Seats plan (told new)
  sits new steady = seats_last plan s (told new) h (same_seats s (told new) refl (unchanged_slots s.switch s.switch refl refl refl) refl refl (omega arith)
      (bag_taken s (told new) n _ new at refl refl (λ m a. steady_none m.packet (steady m a))))

  both_with : (new : List Message) → AreSteady new → OperationsStand plan (told new) × Seats plan (told new)
  both_with new steady = (quiet_pass_keeps plan s (told new) (remove s.bag n) new k refl (λ m a. among_remove m s.bag n a) steady, sits new steady)

  pub peek_keeps : KeepsAndSits (if is_slot_there s.switch own i then peeks s.switch i tag (slot_at s.switch i) else dropped s.switch)
  peek_keeps = by_test KeepsAndSits (is_slot_there s.switch own i) (peeks s.switch i tag (slot_at s.switch i)) (dropped s.switch) (shown (is_under tag (slot_at s.switch i))) (both_with [] no_steady)
    where
      shown : (b : Bool) → KeepsAndSits (record { view = s.switch; first = if b then sent_to Controller (PeekAns i tag (slot_at s.switch i).latest (slot_at s.switch i).num (shown_body (slot_at s.switch i))) else sent_to Controller (PeekAns i tag false 0 None); second = None })
      shown true = both_with (record { from = Switch; to = Controller; packet = PeekAns i tag (slot_at s.switch i).latest (slot_at s.switch i).num (shown_body (slot_at s.switch i)) } ∷ []) (one_steady _ refl)
      shown false = both_with (record { from = Switch; to = Controller; packet = PeekAns i tag false 0 None } ∷ []) (one_steady _ refl)

-- ---- the eviction

-- the state after a pass that changes nothing of the switch but its counts, with what leaves
abbrev pub passed_on : State → ℕ → List ℕ → List Message → State
passed_on s n passes new = record s { bag = remove s.bag n ++ new; passes = passes; steps = s.steps + 1; log = s.log ++ [] }

pub onward_on : (plan : PlanView) (s : State) (n : ℕ) (passes : List ℕ) (new : List Message) → Onward plan s (passed_on s n passes new)
onward_on plan s n passes new = record { still = member s (passed_on s n passes new) [] refl; past = omega arith; more = λ key. omega arith }

-- what leaves counts for the eviction as what came did
pub evictions_on : (plan : PlanView) {c : Content} (s : State) (v : EvictionsAre plan c s) (n : ℕ) (asked : Message) (passes : List ℕ) (new : List Message) → slice_get s.bag n ≡ Some asked
    → ((m : Message) → Among m new → EvictionPacketIs plan c (passed_on s n passes new) m.packet)
    → count_by (λ (m : Message). is_eviction_of s.controller.epoch s.controller.eviction m.packet) new ≡ counted (λ (m : Message). is_eviction_of s.controller.epoch s.controller.eviction m.packet) asked
    → EvictionsAre plan c (passed_on s n passes new)
evictions_on plan {c} s v n asked passes new at news count = evictions_last plan s (passed_on s n passes new) v (record {
  onward = onward_on plan s n passes new;
  running = λ e. e;
  eviction = refl;
  epoch = refl;
  round = refl;
  jobs = omega arith;
  evicted = λ j key tag e. e;
  no_more = λ j key tag e. e;
  owners = λ j key tag e. inl (record { valid = refl; key = refl; tag = refl });
  news = λ m a. go m (among_append m (remove s.bag n) new a);
  count =
      let first = count_removed (λ (m : Message). is_eviction_of s.controller.epoch s.controller.eviction m.packet) s.bag n asked at in
      let more = count_append (λ (m : Message). is_eviction_of s.controller.epoch s.controller.eviction m.packet) (remove s.bag n) new in
      omega (arith, first, more, count);
})
  where
    go : (m : Message) → Among m (remove s.bag n) ⊎ Among m new → Among m s.bag ⊎ EvictionPacketIs plan c (passed_on s n passes new) m.packet
    go m (inl a) = inl (among_remove m s.bag n a)
    go m (inr a) = inr (news m a)

module _ (plan : PlanView) {c : Content} (s : State) (need : Needs plan c s) (v : EvictionsAre plan c s) (runs : s.running ≡ true) (n : ℕ) (from to : Party) (own i tag : ℕ)
    (at : slice_get s.bag n ≡ Some (record { from = from; to = to; packet = Peek own i tag })) where
  abbrev asked : Message
  asked = record { from = from; to = to; packet = Peek own i tag }

  abbrev rest : List Message
  rest = remove s.bag n

  its : EvictionPacketIs plan c s (Peek own i tag)
  its = v.packets asked (among_at _ s.bag n at)

  -- the state after, with what leaves
  abbrev after : List Message → State
  after new = passed_on s n (with_pass s.passes (Peek own i tag)) new

  leaves : (new : List Message) → ((m : Message) → Among m new → EvictionPacketIs plan c (after new) m.packet)
      → count_by (λ (m : Message). is_eviction_of s.controller.epoch s.controller.eviction m.packet) new ≡ counted (λ (m : Message). is_eviction_of s.controller.epoch s.controller.eviction m.packet) asked
      → EvictionsAre plan c (after new)
  leaves new news count = evictions_on plan s v n asked (with_pass s.passes (Peek own i tag)) new at news count

  -- ---- of the switch's epoch

  abbrev answer : Message
  answer = record { from = Switch; to = Controller; packet = PeekAns i tag (slot_at s.switch i).latest (slot_at s.switch i).num (shown_body (slot_at s.switch i)) }

  module _ (same : own ≡ s.controller.epoch) where
    peek : PeekIs s i tag
    peek = its.1 same (need.outside runs)

    abbrev e : Eviction
    e = peek.awaits.eviction

    slot_of : IsSlotOf e.key e.tag (slot_at s.switch i)
    slot_of = subst (λ w. IsSlotOf e.key e.tag (slot_at s.switch w)) peek.awaits.slot_is (peek.there runs)

    body_shown : (b : Bool) → (slot_at s.switch i).latest ≡ b → b ≡ true → c s e.key (slot_at s.switch i).num (if b then (slot_at s.switch i).body else None)
    body_shown true l x = slot_written plan s need i e.key e.tag slot_of l
    body_shown false l x = absurd cc

    answer_is : EvictionPacketIs plan c (after (answer ∷ [])) answer.packet
    answer_is = record {
      awaits = record { eviction = e; is = peek.awaits.is; due_is = peek.awaits.due_is; slot_is = peek.awaits.slot_is; tag_is = peek.awaits.tag_is };
      there = peek.there;
      written = λ l. v.lasts s (after (answer ∷ [])) (record { still = Rattle.far_invariants.proofs.Noted.member s (after (answer ∷ [])) [] refl; past = omega arith; more = λ key. omega arith }) e.key _ _ (body_shown (slot_at s.switch i).latest refl l);
    }

    answered : EvictionsAre plan c (after (answer ∷ []))
    answered = leaves (answer ∷ []) packets
        (count_one (λ (m : Message). is_eviction_of s.controller.epoch s.controller.eviction m.packet) answer ∙ sym (ap (λ b. cond {A = ℕ} b 1 0) (eq-eqb own s.controller.epoch same)))
      where
        packets : (m : Message) → Among m (answer ∷ []) → EvictionPacketIs plan c (after (answer ∷ [])) m.packet
        packets m (inl q) = subst (λ (w : Message). EvictionPacketIs plan c (after (answer ∷ [])) w.packet) (sym q) answer_is
        packets m (inr a) = absurd a

  pub peek_sound : EvictionsAre plan c (switch_turn s rest (Peek own i tag) (if is_slot_there s.switch own i then peeks s.switch i tag (slot_at s.switch i) else dropped s.switch))
  peek_sound = go (is_slot_there s.switch own i) refl
    where
      shown : own ≡ s.controller.epoch → (b : Bool) → b ≡ true
          → EvictionsAre plan c (switch_turn s rest (Peek own i tag) (record { view = s.switch; first = if b then sent_to Controller (PeekAns i tag (slot_at s.switch i).latest (slot_at s.switch i).num (shown_body (slot_at s.switch i))) else sent_to Controller (PeekAns i tag false 0 None); second = None }))
      shown same true x = answered same
      shown same false x = absurd cc

      go : (b : Bool) → is_slot_there s.switch own i ≡ b → EvictionsAre plan c (switch_turn s rest (Peek own i tag) (if b then peeks s.switch i tag (slot_at s.switch i) else dropped s.switch))
      go true on =
          let same = there_same plan s need runs own i on in
          shown same (is_under tag (slot_at s.switch i)) (under (e same).key (e same).tag tag (slot_at s.switch i) (slot_of same) (peek same).awaits.tag_is)
      go false off = leaves [] (λ m a. absurd a) (sym (ap (λ b. cond {A = ℕ} b 1 0) (ne_eqb own s.controller.epoch (λ same.
          let q = v.some (e same) (peek same).awaits.is in
          let on = found_slot plan s need runs own i (e same).key (e same).tag same (ap (state_at s.controller.slots) (sym (peek same).awaits.slot_is) ∙ q.state) in
          let clash : true ≡ false = sym on ∙ off in cc))))

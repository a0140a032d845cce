-- A removal at the switch: what slots are afterwards, whatever keepers answer.
use Rattle.far_invariants.specs.Slots.{FitsState, IsGiven, is_admission_of, admits_under}
use Rattle.std.proofs.Common.{◌≡◌, ◌≢◌, ℕ, ◌<◌, ◌⊎◌, inl, inr, Bool, true, false, List, length, refl, sym, ap, ◌∙◌, subst, arith, eqb-true}
use Rattle.std.specs.Prelude.{Some, None, if◌then◌else◌, nat_eq, nat_lt, slice_get}
use Rattle.std.specs.List.{remove}
use Rattle.std.proofs.lemmas.List.{length-set}
use Rattle.far_base.specs.PlanView.{PlanView}
use Rattle.far_base.specs.declared.packet.Message.{Message}
use Rattle.far_base.specs.declared.packet.Packet.{Packet}
use Rattle.far_base.specs.declared.packet.Packet.TheVariants.{Admit, AdmitAck, Remove, RemoveAns, SnapSame, SnapPart}
use Rattle.far_base.specs.declared.party.Party.{Party}
use Rattle.far_base.specs.declared.party.Party.TheVariants.{Switch, Controller}
use Rattle.far_base.specs.declared.slot_state.SlotState.TheVariants.{Admitting, Evicting}
use Rattle.far_model.specs.Events.{switch_turn}
use Rattle.far_model.specs.Evictions.{Eviction, state_at}
use Rattle.far_model.specs.Members.{Among}
use Rattle.far_model.specs.Parties.{messages_from}
use Rattle.far_model.specs.Pass.{Passed, changes, dropped, is_as_before, is_slot_there, is_under, may_go, part_left, part_of, passed_out, removed_answer, removes, sent_to, with_slot, with_taken}
use Rattle.far_model.specs.State.{State}
use Rattle.far_model.specs.View.{SwitchView, bound_place, empty_slot, entry_if, entry_place, held_record, is_slot_of, is_taken, shown_body, slot_at}
use Rattle.far_model.proofs.Members.{among_at}
use Rattle.flight_laws.proofs.Lists.{by_test}
use Rattle.record_laws.proofs.Admissions.{nat_cases}
use Rattle.record_laws.proofs.Moves.{IsNoAdmission, PassSits, outs_none}
use Rattle.record_laws.proofs.Seats.{SameBag, admits_no_tag, bag_taken, is_admission_packet, no_admission_of, unchanged_slots}
use Rattle.record_laws.proofs.Slots.{IsEntry, SetsSlot, both, entry_is, taken_sets, with_slot_sets}
use Rattle.far_invariants.specs.Evictions.{Content, EvictionPacketIs, EvictionsAre, RemoveIs}
use Rattle.eviction_laws.proofs.Seating.{given_within}
use Rattle.far_invariants.specs.Seated.{AdmissionStands, Seated}
use Rattle.run_laws.proofs.Moving.{drop_sits, pass_sits}
use Rattle.run_laws.proofs.Seating.{admission_free}

-- an entry whose slot stays stays
entry_stays : (v w : SwitchView) (key : List ℕ) (j : ℕ) → w.bound ≡ v.bound → slot_at w j ≡ slot_at v j → entry_place key v ≡ Some j → entry_place key w ≡ Some j
entry_stays v w key j bound same h =
    let is : IsEntry key v j = entry_is key v j h in
    let fit : is_slot_of key (slot_at w j) ≡ true = ap (is_slot_of key) same ∙ is.owned in
    ap (entry_if key w) (ap (bound_place key) bound ∙ is.bound) ∙ ap (λ b. if b then Some j else None) fit

answer_none : (v : SwitchView) (i tag : ℕ) (done : Bool) → IsNoAdmission (removed_answer i tag done (slot_at v i))
answer_none v i tag done = by_test IsNoAdmission (is_under tag (slot_at v i)) (sent_to Controller (RemoveAns i tag done (slot_at v i).latest (slot_at v i).num (shown_body (slot_at v i)))) (sent_to Controller (RemoveAns i tag false false 0 None)) refl refl

left_none : (v : SwitchView) (i : ℕ) → IsNoAdmission (part_left v i)
left_none v i = by_test IsNoAdmission (is_taken v i) None (part_of v i) tt (by_test (λ p. IsNoAdmission (sent_to Controller p)) (is_as_before v i) (SnapSame v.snap i) (SnapPart v.snap i (held_record (slot_at v i))) refl refl)

module _ (plan : PlanView) {c : Content} (s : State) (v : EvictionsAre plan c s) (h : Seated plan s) (runs : s.running ≡ true) (outside : s.controller.round ≡ None) (n : ℕ) (from to : Party) (own i tag : ℕ) (latest : Bool) (num : ℕ)
    (at : slice_get s.bag n ≡ Some (record { from = from; to = to; packet = Remove own i tag latest num })) where
  abbrev after : Passed → State
  after p = switch_turn s (remove s.bag n) (Remove own i tag latest num) p

  stays : (p : Passed) → PassSits s.switch p → Seated plan (after p)
  stays p sits = pass_sits plan s h n (record { from = from; to = to; packet = Remove own i tag latest num }) p at refl sits

  module _ (there : is_slot_there s.switch own i ≡ true) where
    same_epoch : own ≡ s.controller.epoch
    same_epoch = eqb-true own s.switch.epoch (both (nat_eq own s.switch.epoch) (nat_lt i s.switch.config.slots) there).0 ∙ h.slots.epoch runs

    its : EvictionPacketIs plan c s (Remove own i tag latest num)
    its = v.packets _ (among_at _ s.bag n at)

    abbrev is : RemoveIs s i tag latest num
    is = its.1 same_epoch outside

    abbrev e : Eviction
    e = is.awaits.eviction

    state : state_at s.controller.slots i ≡ Evicting e.key e.tag
    state = subst (λ q. state_at s.controller.slots q ≡ Evicting e.key e.tag) is.awaits.slot_is (v.some e is.awaits.is).state

    within : i < length s.switch.slots
    within =
        let a = h.slots.states in let b = h.slots.slots in
        let d = given_within s.controller.slots i e.key e.tag (subst (IsGiven e.key e.tag) (sym state) (refl, refl)) in
        omega (arith, a, b, d)

    quiet : (j : ℕ) (key : List ℕ) (own_tag : ℕ) → state_at s.controller.slots j ≡ Admitting key own_tag → j ≢ i
    quiet j key own_tag q same = let clash : Admitting key own_tag ≡ Evicting e.key e.tag = sym q ∙ ap (state_at s.controller.slots) same ∙ state in cc

    module _ (p : Passed) (sets : SetsSlot s.switch p.view i empty_slot) (epoch : p.view.epoch ≡ s.switch.epoch) (size : length p.view.slots ≡ length s.switch.slots) (first : IsNoAdmission p.first) (second : IsNoAdmission p.second) where
      bag : SameBag s (after p)
      bag = bag_taken s (after p) n (record { from = from; to = to; packet = Remove own i tag latest num }) (messages_from Switch (passed_out p)) at refl refl (outs_none p.first p.second first second)

      fits : (j : ℕ) → (j ≡ i) ⊎ (j ≢ i) → FitsState (slot_at p.view j) (state_at s.controller.slots j)
      fits j (inl q) = subst (λ x. FitsState (slot_at p.view x) (state_at s.controller.slots x)) (sym q)
          (subst (FitsState (slot_at p.view i)) (sym state) (inl (ap (λ (w : Rattle.far_model.specs.View.SlotView). w.valid) sets.here)))
      fits j (inr ne) = subst (λ w. FitsState w (state_at s.controller.slots j)) (sym (sets.there j ne)) (h.slots.fits runs j)

      owned : (j : ℕ) (key : List ℕ) → (j ≡ i) ⊎ (j ≢ i) → (slot_at p.view j).valid ≡ true → (slot_at p.view j).key ≡ Some key → entry_place key p.view ≡ Some j
      owned j key (inl q) valid k = absurd (let off = ap (λ (w : Rattle.far_model.specs.View.SlotView). w.valid) sets.here in let on = sym (ap (λ x. (slot_at p.view x).valid) q) ∙ valid in let clash : true ≡ false = sym on ∙ off in cc)
      owned j key (inr ne) valid k =
          let same = sets.there j ne in
          entry_stays s.switch p.view key j sets.bound same (h.slots.owned j key (sym (ap (λ (w : Rattle.far_model.specs.View.SlotView). w.valid) same) ∙ valid) (sym (ap (λ (w : Rattle.far_model.specs.View.SlotView). w.key) same) ∙ k))

      still : (q : Packet) → AdmissionStands s q → AdmissionStands (after p) q
      still (Admit other j key own_tag) a = (a.0, a.1, λ x out. let f = a.2 x out in (f.0, λ on. ap (λ (w : Rattle.far_model.specs.View.SlotView). w.valid) (sets.there j (quiet j key own_tag f.0)) ∙ f.1 on))
      still (AdmitAck j own_tag) a = (a.0, a.1, λ on. ap (λ (w : Rattle.far_model.specs.View.SlotView). w.valid) (sets.there j (quiet j a.0 own_tag a.1)) ∙ a.2 on)
      still _ a = tt

      packet : (m : Message) → Among m s.bag ⊎ (is_admission_packet m.packet ≡ false) → AdmissionStands (after p) m.packet
      packet m (inl a) = still m.packet (h.admissions.packets m a)
      packet m (inr off) = admission_free (after p) m.packet off

      emptied_sits : Seated plan (after p)
      emptied_sits = record {
        slots = record {
          epoch = λ on. epoch ∙ h.slots.epoch on;
          bounds = ap length sets.bound ∙ h.slots.bounds;
          slots = size ∙ h.slots.slots;
          states = h.slots.states;
          fits = λ on j. fits j (nat_cases j i);
          apart = h.slots.apart;
          drawn = h.slots.drawn;
          owned = λ j key valid k. owned j key (nat_cases j i) valid k;
        };
        admissions = record {
          packets = λ m a. packet m (bag.news m a);
          one = λ out j. bag.count (λ q. is_admission_of j s.controller.epoch q) (no_admission_of j s.controller.epoch) ∙ h.admissions.one out j;
          once = λ own_tag. let x = bag.count (λ q. admits_under own_tag q) (admits_no_tag own_tag) in let b = h.admissions.once own_tag in omega (arith, x, b);
        };
      }

    goes : (latest_slot taken : Bool) → Seated plan (after (if latest_slot
        then record { view = if taken then with_slot s.switch i empty_slot else with_taken (with_slot s.switch i empty_slot) i (held_record (slot_at s.switch i)); first = removed_answer i tag true (slot_at s.switch i); second = part_left s.switch i }
        else record { view = with_slot s.switch i empty_slot; first = removed_answer i tag true (slot_at s.switch i); second = None }))
    goes true true = emptied_sits (record { view = with_slot s.switch i empty_slot; first = removed_answer i tag true (slot_at s.switch i); second = part_left s.switch i }) (with_slot_sets s.switch i empty_slot within) refl (length-set s.switch.slots i empty_slot) (answer_none s.switch i tag true) (left_none s.switch i)
    goes true false = emptied_sits (record { view = with_taken (with_slot s.switch i empty_slot) i (held_record (slot_at s.switch i)); first = removed_answer i tag true (slot_at s.switch i); second = part_left s.switch i }) (taken_sets s.switch i empty_slot within) refl (length-set s.switch.slots i empty_slot) (answer_none s.switch i tag true) (left_none s.switch i)
    goes false taken = emptied_sits (record { view = with_slot s.switch i empty_slot; first = removed_answer i tag true (slot_at s.switch i); second = None }) (with_slot_sets s.switch i empty_slot within) refl (length-set s.switch.slots i empty_slot) (answer_none s.switch i tag true) tt

    removed : (b : Bool) → Seated plan (after (if b
        then (if (slot_at s.switch i).latest then changes s.switch i empty_slot (removed_answer i tag true (slot_at s.switch i)) else record { view = with_slot s.switch i empty_slot; first = removed_answer i tag true (slot_at s.switch i); second = None })
        else record { view = s.switch; first = removed_answer i tag false (slot_at s.switch i); second = None }))
    removed true = goes (slot_at s.switch i).latest (is_taken s.switch i)
    removed false = stays (record { view = s.switch; first = removed_answer i tag false (slot_at s.switch i); second = None }) (record { slots = unchanged_slots s.switch s.switch refl refl refl; first = answer_none s.switch i tag false; second = tt })

  pub remove_sits : Seated plan (after (if is_slot_there s.switch own i then removes s.switch i tag latest num (slot_at s.switch i) else dropped s.switch))
  remove_sits = go (is_slot_there s.switch own i) refl
    where
      go : (b : Bool) → is_slot_there s.switch own i ≡ b → Seated plan (after (if b then removes s.switch i tag latest num (slot_at s.switch i) else dropped s.switch))
      go true x = removed x (may_go tag latest num (slot_at s.switch i))
      go false x = stays (dropped s.switch) (drop_sits s.switch)

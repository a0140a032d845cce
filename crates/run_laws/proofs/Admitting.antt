-- An admission at the switch: what slots are afterwards, whatever keepers answer.
use Rattle.far_invariants.specs.Slots.{IsSlotOf, FitsState, IsGiven, is_admission_of, admits_under, admission_count}
use Rattle.std.proofs.Common.{◌≡◌, ◌≢◌, ℕ, ◌<◌, ◌≤◌, ◌⊎◌, inl, inr, Bool, true, false, cond, List, [], ◌∷◌, ◌++◌, length, map, refl, sym, ap, ◌∙◌, subst, arith, eq-eqb, ne_eqb, eqb-true, lt-ltb}
use Rattle.std.specs.Prelude.{Some, None, if◌then◌else◌, ◌&&◌, nat_eq, nat_lt, slice_get}
use Rattle.std.specs.List.{remove, count_by}
use Rattle.std.proofs.lemmas.Option.{same_Some}
use Rattle.std.proofs.lemmas.List.{length-set}
use Rattle.far_base.specs.PlanView.{PlanView}
use Rattle.far_base.specs.declared.packet.Message.{Message}
use Rattle.far_base.specs.declared.packet.Packet.{Packet}
use Rattle.far_base.specs.declared.packet.Packet.TheVariants.{Admit, AdmitAck}
use Rattle.far_base.specs.declared.party.Party.{Party}
use Rattle.far_base.specs.declared.party.Party.TheVariants.{Switch, Controller}
use Rattle.far_base.specs.declared.plan.Config.{Config}
use Rattle.far_base.specs.declared.slot_state.SlotState.TheVariants.{Admitting}
use Rattle.far_model.specs.Events.{switch_turn}
use Rattle.far_model.specs.Evictions.{state_at}
use Rattle.far_model.specs.Members.{Among}
use Rattle.far_model.specs.Pass.{admits, dropped, is_slot_there, sent_to}
use Rattle.far_model.specs.State.{State}
use Rattle.far_model.specs.View.{SlotView, slot_at, entry_place, unbound}
use Rattle.far_model.proofs.Members.{among_append, among_at, among_remove}
use Rattle.record_laws.proofs.Admissions.{nat_cases}
use Rattle.record_laws.proofs.Bindings.{length-map, new_slot, admit_view, view_here, view_there, place_here, place_stays}
use Rattle.record_laws.proofs.Seats.{counted, count_removed, count_append, count_one, owner}
use Rattle.record_laws.proofs.Slots.{both}
use Rattle.record_laws.proofs.Arrivals.{none_left, state_within}
use Rattle.far_invariants.specs.Seated.{AdmissionStands, Seated}

both_true : (a b : Bool) → a ≡ true → b ≡ true → (a && b) ≡ true
both_true a b p q = ap (λ x. x && b) p ∙ q

-- ---- at the switch

module _ (plan : PlanView) (s : State) (config_is : s.switch.config ≡ plan.config) (h : Seated plan s) (runs : s.running ≡ true) (outside : s.controller.round ≡ None) (n : ℕ) (from to : Party) (epoch i : ℕ) (key : List ℕ) (tag : ℕ)
    (at : slice_get s.bag n ≡ Some (record { from = from; to = to; packet = Admit epoch i key tag })) where
  abbrev admission : Message
  admission = record { from = from; to = to; packet = Admit epoch i key tag }

  abbrev rest : List Message
  rest = remove s.bag n

  there_in_bag : Among admission s.bag
  there_in_bag = among_at _ s.bag n at

  its : AdmissionStands s (Admit epoch i key tag)
  its = h.admissions.packets _ there_in_bag

  module _ (is_there : is_slot_there s.switch epoch i ≡ true) where
    same_epoch : epoch ≡ s.controller.epoch
    same_epoch = eqb-true epoch s.switch.epoch (both (nat_eq epoch s.switch.epoch) (nat_lt i s.switch.config.slots) is_there).0 ∙ h.slots.epoch runs

    state : state_at s.controller.slots i ≡ Admitting key tag
    state = (its.2 same_epoch outside).0

    free : (slot_at s.switch i).valid ≡ false
    free = (its.2 same_epoch outside).1 runs

    given : IsGiven key tag (state_at s.controller.slots i)
    given = subst (IsGiven key tag) (sym state) (refl, refl)

    bound_within : i < length s.switch.bound
    bound_within = let a = h.slots.states in let b = h.slots.bounds in let c = state_within s.controller.slots i key tag state in omega (arith, a, b, c)

    within : i < length s.switch.slots
    within = let a = h.slots.states in let b = h.slots.slots in let c = state_within s.controller.slots i key tag state in omega (arith, a, b, c)

    abbrev ack : Message
    ack = record { from = Switch; to = Controller; packet = AdmitAck i tag }

    abbrev admitted_state : State
    admitted_state = switch_turn s rest (Admit epoch i key tag) (record { view = admit_view s.switch i key tag bound_within within free; first = sent_to Controller (AdmitAck i tag); second = None })

    -- another packet of this slot is not on its way
    alone : (m : Message) → Among m rest → is_admission_of i s.controller.epoch m.packet ≡ true → ⊥
    alone m a e = none_left s n admission (λ q. is_admission_of i s.controller.epoch q) at (both_true (nat_eq epoch s.controller.epoch) (nat_eq i i) (eq-eqb epoch s.controller.epoch same_epoch) (eq-eqb i i refl))
        (let one = h.admissions.one outside i in let is : admission_count (state_at s.controller.slots i) ≡ 1 = ap admission_count state in omega (arith, one, is)) m a e

    admitted_sits : Seated plan admitted_state
    admitted_sits = record {
      slots = record {
        epoch = h.slots.epoch;
        bounds = length-set (map (unbound key) s.switch.bound) i (Some key) ∙ length-map (unbound key) s.switch.bound ∙ h.slots.bounds;
        slots = length-set s.switch.slots i _ ∙ h.slots.slots;
        states = h.slots.states;
        fits = λ on j. fits j (nat_cases j i);
        apart = h.slots.apart;
        drawn = h.slots.drawn;
        owned = λ j other valid key_is. owned j other (nat_cases j i) valid key_is;
      };
      admissions = record {
        packets = λ m a. packet m (among_append m rest (ack ∷ []) a);
        one = λ out j. one j;
        once = λ own. once own;
      };
    }
      where
        view_i : slot_at admitted_state.switch i ≡ new_slot key tag
        view_i = view_here s.switch i key tag bound_within within free

        view_j : (j : ℕ) → j ≢ i → slot_at admitted_state.switch j ≡ slot_at s.switch j
        view_j j ne = view_there s.switch i key tag bound_within within free j ne

        fits : (j : ℕ) → (j ≡ i) ⊎ (j ≢ i) → FitsState (slot_at admitted_state.switch j) (state_at s.controller.slots j)
        fits j (inl e) = subst (λ q. FitsState (slot_at admitted_state.switch q) (state_at s.controller.slots q)) (sym e)
            (subst (FitsState (slot_at admitted_state.switch i)) (sym state) (inr (subst (λ w. IsSlotOf key tag w) (sym view_i) (refl, refl, refl))))
        fits j (inr ne) = subst (λ w. FitsState w (state_at s.controller.slots j)) (sym (view_j j ne)) (h.slots.fits runs j)

        owned : (j : ℕ) (other : List ℕ) → (j ≡ i) ⊎ (j ≢ i) → (slot_at admitted_state.switch j).valid ≡ true → (slot_at admitted_state.switch j).key ≡ Some other → entry_place other admitted_state.switch ≡ Some j
        owned j other (inl e) valid key_is =
            let mine : key ≡ other = same_Some key other (sym (ap (λ (w : SlotView). w.key) view_i) ∙ ap (λ q. (slot_at admitted_state.switch q).key) (sym e) ∙ key_is) in
            subst (λ q. entry_place q admitted_state.switch ≡ Some j) mine (place_here s.switch i key tag bound_within within free ∙ ap Some (sym e))
        owned j other (inr ne) valid key_is =
            let valid' = sym (ap (λ (w : SlotView). w.valid) (view_j j ne)) ∙ valid in
            let key_is' = sym (ap (λ (w : SlotView). w.key) (view_j j ne)) ∙ key_is in
            let away = (h.slots.apart i j key other tag (slot_at s.switch j).tag (λ same. ne (sym same)) given (owner (slot_at s.switch j) (state_at s.controller.slots j) other (h.slots.fits runs j) valid' key_is')).0 in
            (place_stays s.switch i key tag bound_within within free other j (λ same. away (sym same)) (h.slots.owned j other valid' key_is')).0

        still : (q : Packet) → (is_admission_of i s.controller.epoch q ≡ true → ⊥) → AdmissionStands s q → AdmissionStands admitted_state q
        still (Admit e j other own) lone a = (
          a.0,
          a.1,
          λ same out.
              let ne : j ≢ i = (λ eq. lone (both_true (nat_eq e s.controller.epoch) (nat_eq j i) (eq-eqb e s.controller.epoch same) (eq-eqb j i eq))) in
              let f = a.2 same out in (f.0, λ on. ap (λ (w : SlotView). w.valid) (view_j j ne) ∙ f.1 on),
        )
        still (AdmitAck j own) lone a = let ne : j ≢ i = (λ eq. lone (eq-eqb j i eq)) in (a.0, a.1, λ on. ap (λ (w : SlotView). w.valid) (view_j j ne) ∙ a.2 on)
        still _ lone a = tt

        packet : (m : Message) → Among m rest ⊎ Among m (ack ∷ []) → AdmissionStands admitted_state m.packet
        packet m (inl a) = still m.packet (alone m a) (h.admissions.packets m (among_remove m s.bag n a))
        packet m (inr (inl e)) =
            let new : AdmissionStands admitted_state (AdmitAck i tag) = (key, state, λ on. ap (λ (w : SlotView). w.valid) view_i) in
            subst (λ (w : Message). AdmissionStands admitted_state w.packet) (sym e) new
        packet m (inr (inr a)) = absurd a

        one : (j : ℕ) → count_by (λ (m : Message). is_admission_of j s.controller.epoch m.packet) (rest ++ ack ∷ []) ≡ admission_count (state_at s.controller.slots j)
        one j =
            let first = count_removed (λ (m : Message). is_admission_of j s.controller.epoch m.packet) s.bag n admission at in
            let gone : counted (λ (m : Message). is_admission_of j s.controller.epoch m.packet) admission ≡ counted (λ (m : Message). is_admission_of j s.controller.epoch m.packet) ack =
            ap (λ b. cond {A = ℕ} (b && nat_eq i j) 1 0) (eq-eqb epoch s.controller.epoch same_epoch) in
            let more = count_append (λ (m : Message). is_admission_of j s.controller.epoch m.packet) rest (ack ∷ []) in
            let single = count_one (λ (m : Message). is_admission_of j s.controller.epoch m.packet) ack in
            let before = h.admissions.one outside j in
            omega (arith, first, gone, more, single, before)

        once : (own : ℕ) → count_by (λ (m : Message). admits_under own m.packet) (rest ++ ack ∷ []) ≤ 1
        once own =
            let first = count_removed (λ (m : Message). admits_under own m.packet) s.bag n admission at in
            let more = count_append (λ (m : Message). admits_under own m.packet) rest (ack ∷ []) in
            let single : count_by (λ (m : Message). admits_under own m.packet) (ack ∷ []) ≡ 0 = refl in
            let before = h.admissions.once own in
            omega (arith, first, more, single, before)

  pub admit_sits : Seated plan (switch_turn s rest (Admit epoch i key tag) (if is_slot_there s.switch epoch i then admits s.switch i key tag else dropped s.switch))
  admit_sits = go (is_slot_there s.switch epoch i) refl
    where
      t : State
      t = switch_turn s rest (Admit epoch i key tag) (dropped s.switch)

      other_epoch : is_slot_there s.switch epoch i ≡ false → epoch ≢ s.controller.epoch
      other_epoch off same =
          let state = (its.2 same outside).0 in
          let b = state_within s.controller.slots i key tag state in
          let states = h.slots.states in
          let config : s.switch.config.slots ≡ plan.config.slots = ap (λ (w : Config). w.slots) config_is in
          let on : is_slot_there s.switch epoch i ≡ true = both_true (nat_eq epoch s.switch.epoch) (nat_lt i s.switch.config.slots) (eq-eqb epoch s.switch.epoch (same ∙ sym (h.slots.epoch runs))) (lt-ltb i s.switch.config.slots (omega (arith, b, states, config))) in
          let clash : true ≡ false = sym on ∙ off in cc

      gone : is_slot_there s.switch epoch i ≡ false → (j : ℕ) → count_by (λ (m : Message). is_admission_of j s.controller.epoch m.packet) (rest ++ []) ≡ count_by (λ (m : Message). is_admission_of j s.controller.epoch m.packet) s.bag
      gone off j =
          let first = count_removed (λ (m : Message). is_admission_of j s.controller.epoch m.packet) s.bag n admission at in
          let more = count_append (λ (m : Message). is_admission_of j s.controller.epoch m.packet) rest [] in
          let miss : counted (λ (m : Message). is_admission_of j s.controller.epoch m.packet) admission ≡ 0 = ap (λ b. cond {A = ℕ} (b && nat_eq i j) 1 0) (ne_eqb epoch s.controller.epoch (other_epoch off)) in
          let none : count_by (λ (m : Message). is_admission_of j s.controller.epoch m.packet) [] ≡ 0 = refl in
          omega (arith, first, more, miss, none)

      message : (m : Message) → Among m rest ⊎ Among m [] → Among m s.bag
      message m (inl a) = among_remove m s.bag n a
      message m (inr a) = absurd a

      -- an admission of another epoch is dropped
      dropped_sits : is_slot_there s.switch epoch i ≡ false → Seated plan (switch_turn s rest (Admit epoch i key tag) (dropped s.switch))
      dropped_sits off = record {
        slots = record {
          epoch = h.slots.epoch;
          bounds = h.slots.bounds;
          slots = h.slots.slots;
          states = h.slots.states;
          fits = h.slots.fits;
          apart = h.slots.apart;
          drawn = h.slots.drawn;
          owned = h.slots.owned;
        };
        admissions = record {
          packets = λ m a. same m.packet (h.admissions.packets m (message m (among_append m rest [] a)));
          one = λ out j. gone off j ∙ h.admissions.one out j;
          once = λ own.
              let first = count_removed (λ (m : Message). admits_under own m.packet) s.bag n admission at in
              let more = count_append (λ (m : Message). admits_under own m.packet) rest [] in
              let none : count_by (λ (m : Message). admits_under own m.packet) [] ≡ 0 = refl in
              let before = h.admissions.once own in
              omega (arith, first, more, none, before);
        };
      }
        where
          same : (p : Packet) → AdmissionStands s p → AdmissionStands (switch_turn s rest (Admit epoch i key tag) (dropped s.switch)) p
          same (Admit e j other own) a = a
          same (AdmitAck j own) a = a
          same _ a = tt

      taken : is_slot_there s.switch epoch i ≡ true → (b : Bool) → (slot_at s.switch i).valid ≡ b
          → Seated plan (switch_turn s rest (Admit epoch i key tag) (record { view = (admits s.switch i key tag).view; first = if b then None else sent_to Controller (AdmitAck i tag); second = None }))
      taken on true e = absurd (let clash : true ≡ false = sym e ∙ free on in cc)
      taken on false e = admitted_sits on

      go : (b : Bool) → is_slot_there s.switch epoch i ≡ b → Seated plan (switch_turn s rest (Admit epoch i key tag) (if b then admits s.switch i key tag else dropped s.switch))
      go true e = taken e (slot_at s.switch i).valid refl
      go false e = dropped_sits e

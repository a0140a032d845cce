-- Admissions arrive: at the switch, which takes the key, and back at the controller.
use Rattle.far_invariants.specs.Slots.{IsSlotOf, FitsState, IsGiven, AdmissionIs, is_admission_of, admits_under, admission_count}
use Rattle.far_invariants.specs.Numbers.{slot_if, entry, reach_by}
use Rattle.far_invariants.specs.Operations.{AdmitsOther, IsDrawn, Relies, OperationsStand}
use Rattle.far_invariants.proofs.Keys.{key_cases}
use Rattle.std.proofs.Common.{◌≡◌, ◌≢◌, ℕ, zero, suc, ◌<◌, ◌≤◌, ◌⊎◌, inl, inr, Bool, true, false, cond, List, [], ◌∷◌, ◌++◌, length, map, refl, sym, ap, ◌∙◌, subst, arith, eq-eqb, ne_eqb, eqb-true, lt-ltb}
use Rattle.std.specs.Prelude.{Option, Some, None, if◌then◌else◌, ◌&&◌, nat_eq, nat_lt, slice_get}
use Rattle.std.specs.List.{remove, count_by}
use Rattle.std.proofs.lemmas.Option.{same_Some}
use Rattle.std.proofs.lemmas.List.{length-set}
use Rattle.far_base.specs.PlanView.{PlanView}
use Rattle.far_base.specs.declared.packet.Message.{Message}
use Rattle.far_base.specs.declared.packet.Packet.{Packet}
use Rattle.far_base.specs.declared.packet.Packet.TheVariants.{Admit, AdmitAck}
use Rattle.far_base.specs.declared.party.Party.{Party}
use Rattle.far_base.specs.declared.party.Party.TheVariants.{Switch, Controller}
use Rattle.far_base.specs.declared.plan.Config.{Config}
use Rattle.far_base.specs.declared.slot_state.SlotState.{SlotState}
use Rattle.far_base.specs.declared.slot_state.SlotState.TheVariants.{Admitting}
use Rattle.far_model.specs.Events.{switch_turn}
use Rattle.far_model.specs.Evictions.{state_at}
use Rattle.far_model.specs.Members.{Among}
use Rattle.far_model.specs.Pass.{admits, dropped, is_slot_there, sent_to}
use Rattle.far_model.specs.State.{State}
use Rattle.far_model.specs.View.{SlotView, slot_at, entry_place, unbound}
use Rattle.far_model.proofs.Members.{among_append, among_at, among_remove}
use Rattle.record_laws.proofs.Admissions.{nat_cases}
use Rattle.record_laws.proofs.Bindings.{length-map, new_slot, admit_view, view_here, view_there, place_here, entry_here, place_stays, entry_there}
use Rattle.record_laws.proofs.Controls.{Controls, SlotSettles, slot_stays, controls_keep}
use Rattle.record_laws.proofs.Deliveries.{counts_one}
use Rattle.record_laws.proofs.Seats.{counted, count_removed, count_append, count_one, owner, Seats, seats_last, unchanged_slots}
use Rattle.record_laws.proofs.Slots.{both, IsEntry, entry_is}

pub state_within : (slots : List SlotState) (i : ℕ) (key : List ℕ) (tag : ℕ) → state_at slots i ≡ Admitting key tag → i < length slots
state_within [] i key tag h = absurd cc
state_within (x ∷ xs) zero key tag h = omega arith
state_within (x ∷ xs) (suc i) key tag h = let b = state_within xs i key tag h in omega (arith, b)

both_true : (a b : Bool) → a ≡ true → b ≡ true → (a && b) ≡ true
both_true a b p q = ap (λ x. x && b) p ∙ q

-- ---- what is counted once is there once

pub none_left : (s : State) (n : ℕ) (m : Message) (p : Packet → Bool) → slice_get s.bag n ≡ Some m → p m.packet ≡ true → count_by (λ (x : Message). p x.packet) s.bag ≤ 1 → (x : Message) → Among x (remove s.bag n) → p x.packet ≡ true → ⊥
none_left s n m p at hit most x a e =
    let first = count_removed (λ (x : Message). p x.packet) s.bag n m at in
    let one : counted (λ (x : Message). p x.packet) m ≡ 1 = ap (λ b. cond {A = ℕ} b 1 0) hit in
    let more = counts_one (λ (x : Message). p x.packet) (remove s.bag n) x a e in
    omega (arith, first, one, more, most)

-- ---- at the switch

module _ (plan : PlanView) (s : State) (k : OperationsStand plan s) (h : Seats plan s) (n : ℕ) (from to : Party) (epoch i : ℕ) (key : List ℕ) (tag : ℕ)
    (at : slice_get s.bag n ≡ Some (record { from = from; to = to; packet = Admit epoch i key tag })) where
  abbrev admission : Message
  admission = record { from = from; to = to; packet = Admit epoch i key tag }

  abbrev rest : List Message
  rest = remove s.bag n

  there_in_bag : Among admission s.bag
  there_in_bag = among_at _ s.bag n at

  its : AdmissionIs s (Admit epoch i key tag)
  its = h.admissions.packets _ there_in_bag

  others_tag : (m : Message) → Among m rest → AdmitsOther tag m.packet
  others_tag m a = go m.packet (λ e. none_left s n admission (λ q. admits_under tag q) at (eq-eqb tag tag refl) (h.admissions.once tag) m a e)
    where
      go : (q : Packet) → (admits_under tag q ≡ true → ⊥) → AdmitsOther tag q
      go (Admit e j other own) none = λ same. none (eq-eqb own tag same)
      go _ none = tt

  module _ (is_there : is_slot_there s.switch epoch i ≡ true) where
    same_epoch : epoch ≡ s.controller.epoch
    same_epoch = eqb-true epoch s.switch.epoch (both (nat_eq epoch s.switch.epoch) (nat_lt i s.switch.config.slots) is_there).0 ∙ h.slots.epoch

    state : state_at s.controller.slots i ≡ Admitting key tag
    state = (its.1 same_epoch).0

    free : (slot_at s.switch i).valid ≡ false
    free = (its.1 same_epoch).1

    given : IsGiven key tag (state_at s.controller.slots i)
    given = subst (IsGiven key tag) (sym state) (refl, refl)

    bound_within : i < length s.switch.bound
    bound_within = let a = h.slots.states in let b = h.slots.bounds in let c = state_within s.controller.slots i key tag state in omega (arith, a, b, c)

    within : i < length s.switch.slots
    within = let a = h.slots.states in let b = h.slots.slots in let c = state_within s.controller.slots i key tag state in omega (arith, a, b, c)

    abbrev ack : Message
    ack = record { from = Switch; to = Controller; packet = AdmitAck i tag }

    abbrev admitted_state : State
    admitted_state = switch_turn s rest (Admit epoch i key tag) (record { view = admit_view s.switch i key tag bound_within within free; first = sent_to Controller (AdmitAck i tag); second = None })

    -- another packet of this slot is not on its way
    alone : (m : Message) → Among m rest → is_admission_of i s.controller.epoch m.packet ≡ true → ⊥
    alone m a e = none_left s n admission (λ q. is_admission_of i s.controller.epoch q) at (both_true (nat_eq epoch s.controller.epoch) (nat_eq i i) (eq-eqb epoch s.controller.epoch same_epoch) (eq-eqb i i refl))
        (let one = h.admissions.one i in let is : admission_count (state_at s.controller.slots i) ≡ 1 = ap admission_count state in omega (arith, one, is)) m a e

    entry_none : entry key s.switch ≡ None
    entry_none = go (entry_place key s.switch) refl
      where
        go : (o : Option ℕ) → entry_place key s.switch ≡ o → entry key s.switch ≡ None
        go None e = ap (slot_if s.switch) e
        go (Some j) e =
            let is : IsEntry key s.switch j = entry_is key s.switch j e in
            let parts = both (slot_at s.switch j).valid _ is.owned in
            let key_is : (slot_at s.switch j).key ≡ Some key = Rattle.record_laws.proofs.Slots.there_is key (slot_at s.switch j).key parts.1 in
            let ne : i ≢ j = (λ same. let valid : (slot_at s.switch i).valid ≡ true = ap (λ q. (slot_at s.switch q).valid) same ∙ parts.0 in let clash : true ≡ false = sym valid ∙ free in cc) in
            absurd ((h.slots.apart i j key key tag (slot_at s.switch j).tag ne given (owner (slot_at s.switch j) (state_at s.controller.slots j) key (h.slots.fits j) parts.0 key_is)).0 refl)

    controls : Controls plan [] s admitted_state
    controls = record {
      log = refl;
      notes_are = tt;
      steps = refl;
      running = λ e. e;
      config = refl;
      counter = omega arith;
      servers = refl;
      waits = λ d. refl;
      left = λ d. refl;
      tags = omega arith;
      bag = λ m a. message m (among_append m rest (ack ∷ []) a);
    }
      where
        message : (m : Message) → Among m rest ⊎ Among m (ack ∷ []) → Among m s.bag ⊎ (Relies plan admitted_state m.packet × ((tag : ℕ) → IsDrawn s tag → AdmitsOther tag m.packet))
        message m (inl a) = inl (among_remove m s.bag n a)
        message m (inr (inl e)) = inr (subst (λ (w : Message). Relies plan admitted_state w.packet × ((tag : ℕ) → IsDrawn s tag → AdmitsOther tag w.packet)) (sym e) (tt, λ t d. tt))
        message m (inr (inr a)) = absurd a

    here : entry key admitted_state.switch ≡ Some (new_slot key tag)
    here = entry_here s.switch i key tag bound_within within free

    settles : (other : List ℕ) → (other ≡ key) ⊎ (other ≢ key) → SlotSettles plan s admitted_state other
    settles other (inr ne) = slot_stays plan [] s admitted_state k controls other (entry_there s.switch i key tag bound_within within free other ne (λ j valid key_is. h.slots.owned j other valid key_is))
    settles other (inl same) = subst (λ q. SlotSettles plan s admitted_state q) (sym same) (record {
      reach = λ m. ap (reach_by m) here ∙ sym (ap (reach_by m) entry_none);
      drawn = λ slot is. subst (λ (w : SlotView). IsDrawn admitted_state w.tag) (same_Some (new_slot key tag) slot (sym here ∙ is)) (record { below = its.0; admitted = λ m a. admitted m (among_append m rest (ack ∷ []) a) });
      written = λ slot is latest. absurd (new_latest slot (same_Some (new_slot key tag) slot (sym here ∙ is)) latest);
      current = λ own slot d is old under. absurd (d.admitted admission there_in_bag (ap (λ (w : SlotView). w.tag) (same_Some (new_slot key tag) slot (sym here ∙ is)) ∙ under));
    })
      where
        admitted : (m : Message) → Among m rest ⊎ Among m (ack ∷ []) → AdmitsOther tag m.packet
        admitted m (inl a) = others_tag m a
        admitted m (inr (inl e)) = subst (λ (w : Message). AdmitsOther tag w.packet) (sym e) tt
        admitted m (inr (inr a)) = absurd a

        new_latest : (slot : SlotView) → new_slot key tag ≡ slot → slot.latest ≡ true → ⊥
        new_latest slot e l = let clash : false ≡ true = ap (λ (w : SlotView). w.latest) e ∙ l in cc

    admitted_keeps : OperationsStand plan admitted_state
    admitted_keeps = controls_keep plan [] s admitted_state k controls (λ other. settles other (key_cases other key))

    admitted_sits : Seats plan admitted_state
    admitted_sits = record {
      running = h.running;
      slots = record {
        epoch = h.slots.epoch;
        bounds = length-set (map (unbound key) s.switch.bound) i (Some key) ∙ length-map (unbound key) s.switch.bound ∙ h.slots.bounds;
        slots = length-set s.switch.slots i _ ∙ h.slots.slots;
        states = h.slots.states;
        fits = λ j. fits j (nat_cases j i);
        apart = h.slots.apart;
        drawn = h.slots.drawn;
        owned = λ j other valid key_is. owned j other (nat_cases j i) valid key_is;
      };
      admissions = record {
        packets = λ m a. packet m (among_append m rest (ack ∷ []) a);
        one = λ j. one j;
        once = λ own. once own;
      };
    }
      where
        view_i : slot_at admitted_state.switch i ≡ new_slot key tag
        view_i = view_here s.switch i key tag bound_within within free

        view_j : (j : ℕ) → j ≢ i → slot_at admitted_state.switch j ≡ slot_at s.switch j
        view_j j ne = view_there s.switch i key tag bound_within within free j ne

        fits : (j : ℕ) → (j ≡ i) ⊎ (j ≢ i) → FitsState (slot_at admitted_state.switch j) (state_at s.controller.slots j)
        fits j (inl e) = subst (λ q. FitsState (slot_at admitted_state.switch q) (state_at s.controller.slots q)) (sym e)
            (subst (FitsState (slot_at admitted_state.switch i)) (sym state) (inr (subst (λ w. IsSlotOf key tag w) (sym view_i) (refl, refl, refl))))
        fits j (inr ne) = subst (λ w. FitsState w (state_at s.controller.slots j)) (sym (view_j j ne)) (h.slots.fits j)

        owned : (j : ℕ) (other : List ℕ) → (j ≡ i) ⊎ (j ≢ i) → (slot_at admitted_state.switch j).valid ≡ true → (slot_at admitted_state.switch j).key ≡ Some other → entry_place other admitted_state.switch ≡ Some j
        owned j other (inl e) valid key_is =
            let mine : key ≡ other = same_Some key other (sym (ap (λ (w : SlotView). w.key) view_i) ∙ ap (λ q. (slot_at admitted_state.switch q).key) (sym e) ∙ key_is) in
            subst (λ q. entry_place q admitted_state.switch ≡ Some j) mine (place_here s.switch i key tag bound_within within free ∙ ap Some (sym e))
        owned j other (inr ne) valid key_is =
            let valid' = sym (ap (λ (w : SlotView). w.valid) (view_j j ne)) ∙ valid in
            let key_is' = sym (ap (λ (w : SlotView). w.key) (view_j j ne)) ∙ key_is in
            let away = (h.slots.apart i j key other tag (slot_at s.switch j).tag (λ same. ne (sym same)) given (owner (slot_at s.switch j) (state_at s.controller.slots j) other (h.slots.fits j) valid' key_is')).0 in
            (place_stays s.switch i key tag bound_within within free other j (λ same. away (sym same)) (h.slots.owned j other valid' key_is')).0

        still : (q : Packet) → (is_admission_of i s.controller.epoch q ≡ true → ⊥) → AdmissionIs s q → AdmissionIs admitted_state q
        still (Admit e j other own) lone a = (
          a.0,
          λ same.
              let ne : j ≢ i = (λ eq. lone (both_true (nat_eq e s.controller.epoch) (nat_eq j i) (eq-eqb e s.controller.epoch same) (eq-eqb j i eq))) in
              let f = a.1 same in (f.0, ap (λ (w : SlotView). w.valid) (view_j j ne) ∙ f.1),
        )
        still (AdmitAck j own) lone a = let ne : j ≢ i = (λ eq. lone (eq-eqb j i eq)) in (a.0, a.1, ap (λ (w : SlotView). w.valid) (view_j j ne) ∙ a.2)
        still _ lone a = tt

        packet : (m : Message) → Among m rest ⊎ Among m (ack ∷ []) → AdmissionIs admitted_state m.packet
        packet m (inl a) = still m.packet (alone m a) (h.admissions.packets m (among_remove m s.bag n a))
        packet m (inr (inl e)) =
            let new : AdmissionIs admitted_state (AdmitAck i tag) = (key, state, ap (λ (w : SlotView). w.valid) view_i) in
            subst (λ (w : Message). AdmissionIs admitted_state w.packet) (sym e) new
        packet m (inr (inr a)) = absurd a

        one : (j : ℕ) → count_by (λ (m : Message). is_admission_of j s.controller.epoch m.packet) (rest ++ ack ∷ []) ≡ admission_count (state_at s.controller.slots j)
        one j =
            let first = count_removed (λ (m : Message). is_admission_of j s.controller.epoch m.packet) s.bag n admission at in
            let gone : counted (λ (m : Message). is_admission_of j s.controller.epoch m.packet) admission ≡ counted (λ (m : Message). is_admission_of j s.controller.epoch m.packet) ack =
            ap (λ b. cond {A = ℕ} (b && nat_eq i j) 1 0) (eq-eqb epoch s.controller.epoch same_epoch) in
            let more = count_append (λ (m : Message). is_admission_of j s.controller.epoch m.packet) rest (ack ∷ []) in
            let single = count_one (λ (m : Message). is_admission_of j s.controller.epoch m.packet) ack in
            let before = h.admissions.one j in
            omega (arith, first, gone, more, single, before)

        once : (own : ℕ) → count_by (λ (m : Message). admits_under own m.packet) (rest ++ ack ∷ []) ≤ 1
        once own =
            let first = count_removed (λ (m : Message). admits_under own m.packet) s.bag n admission at in
            let more = count_append (λ (m : Message). admits_under own m.packet) rest (ack ∷ []) in
            let single : count_by (λ (m : Message). admits_under own m.packet) (ack ∷ []) ≡ 0 = refl in
            let before = h.admissions.once own in
            omega (arith, first, more, single, before)

  -- an admission of another epoch is dropped
  dropped_keeps : OperationsStand plan (switch_turn s rest (Admit epoch i key tag) (dropped s.switch))
  dropped_keeps = controls_keep plan [] s t k f (λ other. slot_stays plan [] s t k f other refl)
    where
      t : State
      t = switch_turn s rest (Admit epoch i key tag) (dropped s.switch)

      message : (m : Message) → Among m rest ⊎ Among m [] → Among m s.bag
      message m (inl a) = among_remove m s.bag n a
      message m (inr a) = absurd a

      f : Controls plan [] s t
      f = record {
        log = refl;
        notes_are = tt;
        steps = refl;
        running = λ e. e;
        config = refl;
        counter = omega arith;
        servers = refl;
        waits = λ d. refl;
        left = λ d. refl;
        tags = omega arith;
        bag = λ m a. inl (message m (among_append m rest [] a));
      }

  dropped_sits : is_slot_there s.switch epoch i ≡ false → Seats plan (switch_turn s rest (Admit epoch i key tag) (dropped s.switch))
  dropped_sits off = seats_last plan s t h (record {
    running = refl;
    slots = unchanged_slots s.switch s.switch refl refl refl;
    epoch = refl;
    states = refl;
    tags = omega arith;
    news = λ m a. inl (message m (among_append m rest [] a));
    one = λ j.
        let first = count_removed (λ (m : Message). is_admission_of j s.controller.epoch m.packet) s.bag n admission at in
        let more = count_append (λ (m : Message). is_admission_of j s.controller.epoch m.packet) rest [] in
        let gone : counted (λ (m : Message). is_admission_of j s.controller.epoch m.packet) admission ≡ 0 = ap (λ b. cond {A = ℕ} (b && nat_eq i j) 1 0) (ne_eqb epoch s.controller.epoch other_epoch) in
        let none : count_by (λ (m : Message). is_admission_of j s.controller.epoch m.packet) [] ≡ 0 = refl in
        omega (arith, first, more, gone, none);
    once = λ own.
        let first = count_removed (λ (m : Message). admits_under own m.packet) s.bag n admission at in
        let more = count_append (λ (m : Message). admits_under own m.packet) rest [] in
        let none : count_by (λ (m : Message). admits_under own m.packet) [] ≡ 0 = refl in
        omega (arith, first, more, none);
  })
    where
      t : State
      t = switch_turn s rest (Admit epoch i key tag) (dropped s.switch)

      message : (m : Message) → Among m rest ⊎ Among m [] → Among m s.bag
      message m (inl a) = among_remove m s.bag n a
      message m (inr a) = absurd a

      other_epoch : epoch ≢ s.controller.epoch
      other_epoch same =
          let state = (its.1 same).0 in
          let b = state_within s.controller.slots i key tag state in
          let states = h.slots.states in
          let config : s.switch.config.slots ≡ plan.config.slots = ap (λ (w : Config). w.slots) k.config in
          let on : is_slot_there s.switch epoch i ≡ true = both_true (nat_eq epoch s.switch.epoch) (nat_lt i s.switch.config.slots) (eq-eqb epoch s.switch.epoch (same ∙ sym h.slots.epoch)) (lt-ltb i s.switch.config.slots (omega (arith, b, states, config))) in
          let clash : true ≡ false = sym on ∙ off in cc

  pub admit_keeps : OperationsStand plan (switch_turn s rest (Admit epoch i key tag) (if is_slot_there s.switch epoch i then admits s.switch i key tag else dropped s.switch)) × Seats plan (switch_turn s rest (Admit epoch i key tag) (if is_slot_there s.switch epoch i then admits s.switch i key tag else dropped s.switch))
  admit_keeps = go (is_slot_there s.switch epoch i) refl
    where
      taken : is_slot_there s.switch epoch i ≡ true → (b : Bool) → (slot_at s.switch i).valid ≡ b
          → OperationsStand plan (switch_turn s rest (Admit epoch i key tag) (record { view = (admits s.switch i key tag).view; first = if b then None else sent_to Controller (AdmitAck i tag); second = None }))
          × Seats plan (switch_turn s rest (Admit epoch i key tag) (record { view = (admits s.switch i key tag).view; first = if b then None else sent_to Controller (AdmitAck i tag); second = None }))
      taken on true e = absurd (let clash : true ≡ false = sym e ∙ free on in cc)
      taken on false e = (admitted_keeps on, admitted_sits on)

      go : (b : Bool) → is_slot_there s.switch epoch i ≡ b → OperationsStand plan (switch_turn s rest (Admit epoch i key tag) (if b then admits s.switch i key tag else dropped s.switch)) × Seats plan (switch_turn s rest (Admit epoch i key tag) (if b then admits s.switch i key tag else dropped s.switch))
      go true e = taken e (slot_at s.switch i).valid refl
      go false e = (dropped_keeps, dropped_sits e)

-- ---- back at the controller

module _ (plan : PlanView) (s : State) (k : OperationsStand plan s) (h : Seats plan s) (n : ℕ) (from to : Party) (i tag : ℕ)
    (at : slice_get s.bag n ≡ Some (record { from = from; to = to; packet = AdmitAck i tag })) where
  abbrev answer : Message
  answer = record { from = from; to = to; packet = AdmitAck i tag }

  abbrev left_over : List Message
  left_over = remove s.bag n

  its_state : AdmissionIs s (AdmitAck i tag)
  its_state = h.admissions.packets _ (among_at _ s.bag n at)

  lone : (m : Message) → Among m left_over → is_admission_of i s.controller.epoch m.packet ≡ true → ⊥
  lone m a e = none_left s n answer (λ q. is_admission_of i s.controller.epoch q) at (eq-eqb i i refl)
      (let one = h.admissions.one i in let is : admission_count (state_at s.controller.slots i) ≡ 1 = ap admission_count its_state.1 in omega (arith, one, is)) m a e

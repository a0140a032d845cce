-- Turns of the controller that change the state of one slot, while the switch runs or not.
use Rattle.far_invariants.specs.Slots.{IsSlotOf, FitsState, IsGiven, is_admission_of, admits_under, admission_count}
use Rattle.far_invariants.specs.Operations.{AdmitsOther, IsDrawn, Relies, OperationsStand}
use Rattle.far_invariants.proofs.Keys.{same_key_refl}
use Rattle.std.proofs.Common.{◌≡◌, ◌≢◌, ℕ, ◌<◌, ◌≤◌, ◌⊎◌, inl, inr, Bool, true, false, cond, List, [], ◌∷◌, ◌++◌, length, refl, sym, ap, ◌∙◌, subst, arith, eq-eqb, ne_eqb}
use Rattle.std.specs.Prelude.{Option, Some, None, ◌&&◌, if◌then◌else◌, nat_eq, slice_get}
use Rattle.std.specs.List.{remove, count_by}
use Rattle.std.proofs.lemmas.List.{get_or-set_same, get_or-set_other, length-set}
use Rattle.far_base.specs.PlanView.{PlanView}
use Rattle.far_base.specs.declared.log.LogEntry.TheVariants.{Admitted}
use Rattle.far_base.specs.declared.packet.Message.{Message}
use Rattle.far_base.specs.declared.packet.Packet.{Packet}
use Rattle.far_base.specs.declared.packet.Packet.TheVariants.{Admit, AdmitAck}
use Rattle.far_base.specs.declared.party.Party.{Party}
use Rattle.far_base.specs.declared.party.Party.TheVariants.{Switch, Controller}
use Rattle.far_base.specs.declared.slot_state.SlotState.{SlotState}
use Rattle.far_base.specs.declared.slot_state.SlotState.TheVariants.{Free, Admitting, Held, Evicting}
use Rattle.far_model.specs.Controller.{ControllerState, acked_state, acknowledged, admits_want, with_state}
use Rattle.far_model.specs.Events.{controller_turn}
use Rattle.far_model.specs.Evictions.{first_place, has_key, is_admitting, is_free, key_in, state_at}
use Rattle.far_model.specs.Members.{Among}
use Rattle.far_model.specs.Parties.{Turn, idle}
use Rattle.far_model.specs.State.{State}
use Rattle.far_model.specs.View.{SlotView, slot_at}
use Rattle.far_model.proofs.Members.{among_append, among_at, among_remove}
use Rattle.record_laws.proofs.Admissions.{first_none, first_some, free_is, nat_cases, no_self}
use Rattle.record_laws.proofs.Arrivals.{none_left, state_within}
use Rattle.record_laws.proofs.Controls.{Controls, controls_keep, slot_stays}
use Rattle.record_laws.proofs.Seats.{counted, count_append, count_none, count_one, count_removed, SameBag, no_admission_of, admits_no_tag, is_admission_packet}
use Rattle.eviction_laws.proofs.Steady.{no_steady, turn_keeps}
use Rattle.far_invariants.specs.Seated.{AdmissionStands, Seated}
use Rattle.run_laws.proofs.Seating.{admission_free}

both_true : (a b : Bool) → a ≡ true → b ≡ true → (a && b) ≡ true
both_true a b p q = ap (λ x. x && b) p ∙ q

given_has : (key : List ℕ) (tag : ℕ) (st : SlotState) → IsGiven key tag st → has_key key st ≡ true
given_has key tag Free h = absurd h
given_has key tag (Admitting other own) h = ap (λ k. Rattle.far_model.specs.Log.same_key k key) h.0 ∙ same_key_refl key
given_has key tag (Held other own) h = ap (λ k. Rattle.far_model.specs.Log.same_key k key) h.0 ∙ same_key_refl key
given_has key tag (Evicting other own) h = ap (λ k. Rattle.far_model.specs.Log.same_key k key) h.0 ∙ same_key_refl key

-- ---- a slot that is not being admitted, before and after

pub record StateMoves (s : State) (rest : List Message) (turn : Turn ControllerState) (i : ℕ) : Type 0 where
  pub size : length turn.state.slots ≡ length s.controller.slots
  pub epoch : turn.state.epoch ≡ s.controller.epoch
  pub round : turn.state.round ≡ s.controller.round
  pub tags : s.controller.next_tag ≤ turn.state.next_tag
  pub states : (j : ℕ) → j ≢ i → state_at turn.state.slots j ≡ state_at s.controller.slots j
  pub given : (key : List ℕ) (tag : ℕ) → IsGiven key tag (state_at turn.state.slots i) → IsGiven key tag (state_at s.controller.slots i)
  pub fits : s.running ≡ true → FitsState (slot_at s.switch i) (state_at turn.state.slots i)
  pub quiet : admission_count (state_at s.controller.slots i) ≡ 0
  pub stays_quiet : admission_count (state_at turn.state.slots i) ≡ 0
  pub bag : SameBag s (controller_turn s rest turn)

module _ (plan : PlanView) (s : State) (rest : List Message) (turn : Turn ControllerState) (i done : ℕ) (h : Seated plan s) (m : StateMoves s rest turn i) where
  abbrev moved : State
  moved = record (controller_turn s rest turn) { done = done }

  given_before : (j : ℕ) (key : List ℕ) (tag : ℕ) → (j ≡ i) ⊎ (j ≢ i) → IsGiven key tag (state_at turn.state.slots j) → IsGiven key tag (state_at s.controller.slots j)
  given_before j key tag (inl e) g = subst (λ n. IsGiven key tag (state_at s.controller.slots n)) (sym e) (m.given key tag (subst (λ n. IsGiven key tag (state_at turn.state.slots n)) e g))
  given_before j key tag (inr ne) g = subst (IsGiven key tag) (m.states j ne) g

  fits : s.running ≡ true → (j : ℕ) → (j ≡ i) ⊎ (j ≢ i) → FitsState (slot_at s.switch j) (state_at turn.state.slots j)
  fits runs j (inl e) = subst (λ n. FitsState (slot_at s.switch n) (state_at turn.state.slots n)) (sym e) (m.fits runs)
  fits runs j (inr ne) = subst (λ w. FitsState (slot_at s.switch j) w) (sym (m.states j ne)) (h.slots.fits runs j)

  not_here : (j : ℕ) (key : List ℕ) (tag : ℕ) → state_at s.controller.slots j ≡ Admitting key tag → j ≢ i
  not_here j key tag is same =
      let one : admission_count (state_at s.controller.slots j) ≡ 1 = ap admission_count is in
      let none : admission_count (state_at s.controller.slots j) ≡ 0 = ap (λ n. admission_count (state_at s.controller.slots n)) same ∙ m.quiet in
      omega (arith, one, none)

  stays : (p : Packet) → AdmissionStands s p → AdmissionStands moved p
  stays (Admit own j key tag) a = (
    let b = a.0 in let more = m.tags in omega (arith, b, more),
    let b = a.1 in let e = m.epoch in omega (arith, b, e),
    λ e outside. let f = a.2 (e ∙ m.epoch) (sym m.round ∙ outside) in (m.states j (not_here j key tag f.0) ∙ f.0, f.1),
  )
  stays (AdmitAck j tag) a = (a.0, m.states j (not_here j a.0 tag a.1) ∙ a.1, a.2)
  stays _ a = tt

  admission : (n : Message) → Among n s.bag ⊎ (is_admission_packet n.packet ≡ false) → AdmissionStands moved n.packet
  admission n (inl a) = stays n.packet (h.admissions.packets n a)
  admission n (inr off) = admission_free moved n.packet off

  counts : (j : ℕ) → (j ≡ i) ⊎ (j ≢ i) → admission_count (state_at s.controller.slots j) ≡ admission_count (state_at turn.state.slots j)
  counts j (inl e) = ap (λ n. admission_count (state_at s.controller.slots n)) e ∙ m.quiet ∙ sym m.stays_quiet ∙ ap (λ n. admission_count (state_at turn.state.slots n)) (sym e)
  counts j (inr ne) = ap admission_count (sym (m.states j ne))

  pub state_moves : Seated plan moved
  state_moves = record {
    slots = record {
      epoch = λ runs. h.slots.epoch runs ∙ sym m.epoch;
      bounds = h.slots.bounds;
      slots = h.slots.slots;
      states = m.size ∙ h.slots.states;
      fits = λ runs j. fits runs j (nat_cases j i);
      apart = λ a b key other tag own ne g g'. h.slots.apart a b key other tag own ne (given_before a key tag (nat_cases a i) g) (given_before b other own (nat_cases b i) g');
      drawn = λ j key tag g. let b = h.slots.drawn j key tag (given_before j key tag (nat_cases j i) g) in let more = m.tags in omega (arith, b, more);
      owned = h.slots.owned;
    };
    admissions = record {
      packets = λ n a. admission n (m.bag.news n a);
      one = λ outside j.
          ap (λ e. count_by (λ (n : Message). is_admission_of j e n.packet) moved.bag) m.epoch
          ∙ m.bag.count (λ q. is_admission_of j s.controller.epoch q) (no_admission_of j s.controller.epoch) ∙ h.admissions.one (sym m.round ∙ outside) j ∙ counts j (nat_cases j i);
      once = λ tag. let e = m.bag.count (λ q. admits_under tag q) (admits_no_tag tag) in let b = h.admissions.once tag in omega (arith, e, b);
    };
  }

-- ---- the controller admits a want

module _ (plan : PlanView) (s : State) (key : List ℕ) (i : ℕ) (free : first_place is_free s.controller.slots ≡ Some i) (new : first_place (has_key key) s.controller.slots ≡ None) where
  abbrev pub asked : State
  asked = controller_turn s s.bag (admits_want s.controller key i)

  abbrev asking : Message
  asking = record { from = Controller; to = Switch; packet = Admit s.controller.epoch i key s.controller.next_tag }

  within : i < length s.controller.slots
  within = (first_some is_free s.controller.slots i Free free).0

  was_free : state_at s.controller.slots i ≡ Free
  was_free = free_is _ (first_some is_free s.controller.slots i Free free).1

  now_admitting : state_at asked.controller.slots i ≡ Admitting key s.controller.next_tag
  now_admitting = get_or-set_same s.controller.slots i (Admitting key s.controller.next_tag) Free within

  others_stay : (j : ℕ) → j ≢ i → state_at asked.controller.slots j ≡ state_at s.controller.slots j
  others_stay j ne = get_or-set_other s.controller.slots i j (Admitting key s.controller.next_tag) Free ne

  pub want_keeps : OperationsStand plan s → OperationsStand plan asked
  want_keeps k = controls_keep plan [] s asked k f (λ other. slot_stays plan [] s asked k f other refl)
    where
      message : (m : Message) → Among m s.bag ⊎ Among m (asking ∷ []) → Among m s.bag ⊎ (Relies plan asked m.packet × ((tag : ℕ) → IsDrawn s tag → AdmitsOther tag m.packet))
      message m (inl a) = inl a
      message m (inr (inl e)) = inr (subst (λ (w : Message). Relies plan asked w.packet × ((tag : ℕ) → IsDrawn s tag → AdmitsOther tag w.packet)) (sym e)
          (tt, λ tag d same. let b = d.below in omega (arith, b, same)))
      message m (inr (inr a)) = absurd a

      f : Controls plan [] s asked
      f = record {
        log = refl;
        notes_are = tt;
        steps = refl;
        running = λ e. e;
        config = refl;
        counter = omega arith;
        servers = refl;
        waits = λ d. refl;
        left = λ d. refl;
        tags = omega arith;
        bag = λ m a. message m (among_append m s.bag (asking ∷ []) a);
      }

  given_old : (j : ℕ) (other : List ℕ) (tag : ℕ) → j ≢ i → IsGiven other tag (state_at asked.controller.slots j) → IsGiven other tag (state_at s.controller.slots j)
  given_old j other tag ne g = subst (IsGiven other tag) (others_stay j ne) g

  given_new : (other : List ℕ) (tag : ℕ) → IsGiven other tag (state_at asked.controller.slots i) → (key ≡ other) × (s.controller.next_tag ≡ tag)
  given_new other tag g = subst (IsGiven other tag) now_admitting g

  module _ (h : Seated plan s) where
    empty : s.running ≡ true → (slot_at s.switch i).valid ≡ false
    empty runs = subst (FitsState (slot_at s.switch i)) was_free (h.slots.fits runs i)

    new_apart : (j : ℕ) (other : List ℕ) (tag : ℕ) → j ≢ i → IsGiven other tag (state_at asked.controller.slots j) → (key ≢ other) × (s.controller.next_tag ≢ tag)
    new_apart j other tag ne g =
        let old = given_old j other tag ne g in (
          λ same. let a : has_key key (state_at s.controller.slots j) ≡ true = given_has key tag (state_at s.controller.slots j) (subst (λ q. IsGiven q tag (state_at s.controller.slots j)) (sym same) old) in
              let b : has_key key (state_at s.controller.slots j) ≡ false = first_none (has_key key) s.controller.slots j Free new refl in
              let e : true ≡ false = sym a ∙ b in cc,
          λ same. let b = h.slots.drawn j other tag old in omega (arith, b, same),
        )

    pub want_sits : Seated plan asked
    want_sits = record {
      slots = record {
        epoch = h.slots.epoch;
        bounds = h.slots.bounds;
        slots = h.slots.slots;
        states = length-set s.controller.slots i (Admitting key s.controller.next_tag) ∙ h.slots.states;
        fits = λ runs j. fits runs j (nat_cases j i);
        apart = λ a b x y tag own ne g g'. apart a b x y tag own ne (nat_cases a i) (nat_cases b i) g g';
        drawn = λ j other tag g. drawn j other tag (nat_cases j i) g;
        owned = h.slots.owned;
      };
      admissions = record {
        packets = λ m a. packet m (among_append m s.bag (asking ∷ []) a);
        one = λ outside j. one outside j (nat_cases i j);
        once = λ tag. once tag (nat_cases s.controller.next_tag tag);
      };
    }
      where
        fits : s.running ≡ true → (j : ℕ) → (j ≡ i) ⊎ (j ≢ i) → FitsState (slot_at s.switch j) (state_at asked.controller.slots j)
        fits runs j (inl e) = subst (λ n. FitsState (slot_at s.switch n) (state_at asked.controller.slots n)) (sym e) (subst (FitsState (slot_at s.switch i)) (sym now_admitting) (inl (empty runs)))
        fits runs j (inr ne) = subst (FitsState (slot_at s.switch j)) (sym (others_stay j ne)) (h.slots.fits runs j)

        apart : (a b : ℕ) (x y : List ℕ) (tag own : ℕ) → a ≢ b → (a ≡ i) ⊎ (a ≢ i) → (b ≡ i) ⊎ (b ≢ i) → IsGiven x tag (state_at asked.controller.slots a) → IsGiven y own (state_at asked.controller.slots b) → (x ≢ y) × (tag ≢ own)
        apart a b x y tag own ne (inl p) (inl q) g g' = absurd (ne (p ∙ sym q))
        apart a b x y tag own ne (inl p) (inr q) g g' =
            let mine = given_new x tag (subst (λ n. IsGiven x tag (state_at asked.controller.slots n)) p g) in
            let away = new_apart b y own q g' in
            (λ e. away.0 (mine.0 ∙ e), λ e. away.1 (mine.1 ∙ e))
        apart a b x y tag own ne (inr p) (inl q) g g' =
            let mine = given_new y own (subst (λ n. IsGiven y own (state_at asked.controller.slots n)) q g') in
            let away = new_apart a x tag p g in
            (λ e. away.0 (mine.0 ∙ sym e), λ e. away.1 (mine.1 ∙ sym e))
        apart a b x y tag own ne (inr p) (inr q) g g' = h.slots.apart a b x y tag own ne (given_old a x tag p g) (given_old b y own q g')

        drawn : (j : ℕ) (other : List ℕ) (tag : ℕ) → (j ≡ i) ⊎ (j ≢ i) → IsGiven other tag (state_at asked.controller.slots j) → tag < asked.controller.next_tag
        drawn j other tag (inl e) g = let mine = (given_new other tag (subst (λ n. IsGiven other tag (state_at asked.controller.slots n)) e g)).1 in omega (arith, mine)
        drawn j other tag (inr ne) g = let b = h.slots.drawn j other tag (given_old j other tag ne g) in omega (arith, b)

        -- what was on its way is of other slots
        still : (p : Packet) → AdmissionStands s p → AdmissionStands asked p
        still (Admit epoch j other tag) a = (
          let b = a.0 in omega (arith, b),
          a.1,
          λ e outside. let f = a.2 e outside in
              let ne : j ≢ i = (λ same. no_self (state_at s.controller.slots j) other tag (ap (state_at s.controller.slots) same ∙ was_free) f.0) in
              (others_stay j ne ∙ f.0, f.1),
        )
        still (AdmitAck j tag) a =
            let ne : j ≢ i = (λ same. no_self (state_at s.controller.slots j) a.0 tag (ap (state_at s.controller.slots) same ∙ was_free) a.1) in
            (a.0, others_stay j ne ∙ a.1, a.2)
        still _ a = tt

        packet : (m : Message) → Among m s.bag ⊎ Among m (asking ∷ []) → AdmissionStands asked m.packet
        packet m (inl a) = still m.packet (h.admissions.packets m a)
        packet m (inr (inl e)) =
            let fresh : AdmissionStands asked (Admit s.controller.epoch i key s.controller.next_tag) = (omega arith, omega arith, λ e outside. (now_admitting, empty)) in
            subst (λ (w : Message). AdmissionStands asked w.packet) (sym e) fresh
        packet m (inr (inr a)) = absurd a

        one : s.controller.round ≡ None → (j : ℕ) → (i ≡ j) ⊎ (i ≢ j) → count_by (λ (m : Message). is_admission_of j s.controller.epoch m.packet) (s.bag ++ asking ∷ []) ≡ admission_count (state_at asked.controller.slots j)
        one outside j (inl e) =
            let more = count_append (λ (m : Message). is_admission_of j s.controller.epoch m.packet) s.bag (asking ∷ []) in
            let single = count_one (λ (m : Message). is_admission_of j s.controller.epoch m.packet) asking in
            let hit : counted (λ (m : Message). is_admission_of j s.controller.epoch m.packet) asking ≡ 1 =
            ap (λ b. cond {A = ℕ} (b && nat_eq i j) 1 0) (eq-eqb s.controller.epoch s.controller.epoch refl) ∙ ap (λ b. cond {A = ℕ} b 1 0) (eq-eqb i j e) in
            let before : count_by (λ (m : Message). is_admission_of j s.controller.epoch m.packet) s.bag ≡ 0 = h.admissions.one outside j ∙ ap admission_count (ap (state_at s.controller.slots) (sym e) ∙ was_free) in
            let after : admission_count (state_at asked.controller.slots j) ≡ 1 = ap (λ n. admission_count (state_at asked.controller.slots n)) (sym e) ∙ ap admission_count now_admitting in
            omega (arith, more, single, hit, before, after)
        one outside j (inr ne) =
            let more = count_append (λ (m : Message). is_admission_of j s.controller.epoch m.packet) s.bag (asking ∷ []) in
            let single = count_one (λ (m : Message). is_admission_of j s.controller.epoch m.packet) asking in
            let miss : counted (λ (m : Message). is_admission_of j s.controller.epoch m.packet) asking ≡ 0 =
            ap (λ b. cond {A = ℕ} (b && nat_eq i j) 1 0) (eq-eqb s.controller.epoch s.controller.epoch refl) ∙ ap (λ b. cond {A = ℕ} b 1 0) (ne_eqb i j ne) in
            let before = h.admissions.one outside j in
            let after : admission_count (state_at asked.controller.slots j) ≡ admission_count (state_at s.controller.slots j) = ap admission_count (others_stay j (λ e. ne (sym e))) in
            omega (arith, more, single, miss, before, after)

        -- a tag that is still to be drawn is admitted by nobody
        fresh : (p : Packet) → AdmissionStands s p → admits_under s.controller.next_tag p ≡ false
        fresh (Admit epoch j other tag) a = ne_eqb tag s.controller.next_tag (λ e. let b = a.0 in omega (arith, b, e))
        fresh _ a = refl

        once : (tag : ℕ) → (s.controller.next_tag ≡ tag) ⊎ (s.controller.next_tag ≢ tag) → count_by (λ (m : Message). admits_under tag m.packet) (s.bag ++ asking ∷ []) ≤ 1
        once tag (inl e) =
            let more = count_append (λ (m : Message). admits_under tag m.packet) s.bag (asking ∷ []) in
            let single = count_one (λ (m : Message). admits_under tag m.packet) asking in
            let hit : counted (λ (m : Message). admits_under tag m.packet) asking ≡ 1 = ap (λ b. cond {A = ℕ} b 1 0) (eq-eqb s.controller.next_tag tag e) in
            let before : count_by (λ (m : Message). admits_under tag m.packet) s.bag ≡ 0 =
            count_none (λ (m : Message). admits_under tag m.packet) s.bag (λ m a. subst (λ n. admits_under n m.packet ≡ false) e (fresh m.packet (h.admissions.packets m a))) in
            omega (arith, more, single, hit, before)
        once tag (inr ne) =
            let more = count_append (λ (m : Message). admits_under tag m.packet) s.bag (asking ∷ []) in
            let single = count_one (λ (m : Message). admits_under tag m.packet) asking in
            let miss : counted (λ (m : Message). admits_under tag m.packet) asking ≡ 0 = ap (λ b. cond {A = ℕ} b 1 0) (ne_eqb s.controller.next_tag tag ne) in
            let before = h.admissions.once tag in
            omega (arith, more, single, miss, before)

-- ---- an admission comes back

module _ (plan : PlanView) (s : State) (h : Seated plan s) (n : ℕ) (from to : Party) (i tag : ℕ)
    (at : slice_get s.bag n ≡ Some (record { from = from; to = to; packet = AdmitAck i tag })) (freed : (s.controller.round ≡ None → ⊥) → state_at s.controller.slots i ≡ Free) where
  abbrev answer : Message
  answer = record { from = from; to = to; packet = AdmitAck i tag }

  abbrev left_over : List Message
  left_over = remove s.bag n

  abbrev held_turn : Turn ControllerState
  held_turn = record { state = with_state s.controller i (acked_state (state_at s.controller.slots i)); out = []; notes = Admitted i (key_in (state_at s.controller.slots i)) tag ∷ [] }

  abbrev held_state : State
  held_state = controller_turn s left_over held_turn

  its_state : AdmissionStands s (AdmitAck i tag)
  its_state = h.admissions.packets _ (among_at _ s.bag n at)

  outside : s.controller.round ≡ None
  outside = go s.controller.round refl
    where
      go : (o : Option Rattle.far_model.specs.Rounds.Round) → s.controller.round ≡ o → s.controller.round ≡ None
      go None e = e
      go (Some r) e = absurd (let f = freed (λ none. let clash = sym e ∙ none in cc) in let clash : Free ≡ Admitting its_state.0 tag = sym f ∙ its_state.1 in cc)

  lone : (m : Message) → Among m left_over → is_admission_of i s.controller.epoch m.packet ≡ true → ⊥
  lone m a e = none_left s n answer (λ q. is_admission_of i s.controller.epoch q) at (eq-eqb i i refl)
      (let one = h.admissions.one outside i in let is : admission_count (state_at s.controller.slots i) ≡ 1 = ap admission_count its_state.1 in omega (arith, one, is)) m a e

  now_held : state_at held_state.controller.slots i ≡ Held its_state.0 tag
  now_held = get_or-set_same s.controller.slots i (acked_state (state_at s.controller.slots i)) Free (state_within s.controller.slots i its_state.0 tag its_state.1) ∙ ap acked_state its_state.1

  others_held : (j : ℕ) → j ≢ i → state_at held_state.controller.slots j ≡ state_at s.controller.slots j
  others_held j ne = get_or-set_other s.controller.slots i j (acked_state (state_at s.controller.slots i)) Free ne

  held_before : (j : ℕ) (key : List ℕ) (own : ℕ) → (j ≡ i) ⊎ (j ≢ i) → IsGiven key own (state_at held_state.controller.slots j) → IsGiven key own (state_at s.controller.slots j)
  held_before j key own (inl e) g =
      let mine : IsGiven key own (Held its_state.0 tag) = subst (IsGiven key own) now_held (subst (λ q. IsGiven key own (state_at held_state.controller.slots q)) e g) in
      subst (λ q. IsGiven key own (state_at s.controller.slots q)) (sym e) (subst (IsGiven key own) (sym its_state.1) mine)
  held_before j key own (inr ne) g = subst (IsGiven key own) (others_held j ne) g

  held_sits : Seated plan held_state
  held_sits = record {
    slots = record {
      epoch = h.slots.epoch;
      bounds = h.slots.bounds;
      slots = h.slots.slots;
      states = length-set s.controller.slots i _ ∙ h.slots.states;
      fits = λ runs j. fits runs j (nat_cases j i);
      apart = λ a b x y own own' ne g g'. h.slots.apart a b x y own own' ne (held_before a x own (nat_cases a i) g) (held_before b y own' (nat_cases b i) g');
      drawn = λ j key own g. h.slots.drawn j key own (held_before j key own (nat_cases j i) g);
      owned = h.slots.owned;
    };
    admissions = record {
      packets = λ m a. packet m (among_append m left_over [] a);
      one = λ out j. one j (nat_cases i j);
      once = λ own.
          let first = count_removed (λ (m : Message). admits_under own m.packet) s.bag n answer at in
          let more = count_append (λ (m : Message). admits_under own m.packet) left_over [] in
          let none : count_by (λ (m : Message). admits_under own m.packet) [] ≡ 0 = refl in
          let before = h.admissions.once own in
          omega (arith, first, more, none, before);
    };
  }
    where
      valid_one : (slot : SlotView) → (slot.valid ≡ false) ⊎ IsSlotOf its_state.0 tag slot → slot.valid ≡ true → IsSlotOf its_state.0 tag slot
      valid_one slot (inl off) on = absurd (let clash : true ≡ false = sym on ∙ off in cc)
      valid_one slot (inr is) on = is

      fits : s.running ≡ true → (j : ℕ) → (j ≡ i) ⊎ (j ≢ i) → FitsState (slot_at s.switch j) (state_at held_state.controller.slots j)
      fits runs j (inl e) =
          let before : FitsState (slot_at s.switch i) (Admitting its_state.0 tag) = subst (FitsState (slot_at s.switch i)) its_state.1 (h.slots.fits runs i) in
          subst (λ q. FitsState (slot_at s.switch q) (state_at held_state.controller.slots q)) (sym e) (subst (FitsState (slot_at s.switch i)) (sym now_held) (valid_one (slot_at s.switch i) before (its_state.2 runs)))
      fits runs j (inr ne) = subst (FitsState (slot_at s.switch j)) (sym (others_held j ne)) (h.slots.fits runs j)

      still : (q : Packet) → (is_admission_of i s.controller.epoch q ≡ true → ⊥) → AdmissionStands s q → AdmissionStands held_state q
      still (Admit e j other own) none a = (
        a.0,
        a.1,
        λ same out.
            let ne : j ≢ i = (λ eq. none (both_true (nat_eq e s.controller.epoch) (nat_eq j i) (eq-eqb e s.controller.epoch same) (eq-eqb j i eq))) in
            let f = a.2 same out in (others_held j ne ∙ f.0, f.1),
      )
      still (AdmitAck j own) none a = let ne : j ≢ i = (λ eq. none (eq-eqb j i eq)) in (a.0, others_held j ne ∙ a.1, a.2)
      still _ none a = tt

      packet : (m : Message) → Among m left_over ⊎ Among m [] → AdmissionStands held_state m.packet
      packet m (inl a) = still m.packet (lone m a) (h.admissions.packets m (among_remove m s.bag n a))
      packet m (inr a) = absurd a

      one : (j : ℕ) → (i ≡ j) ⊎ (i ≢ j) → count_by (λ (m : Message). is_admission_of j s.controller.epoch m.packet) (left_over ++ []) ≡ admission_count (state_at held_state.controller.slots j)
      one j (inl e) =
          let first = count_removed (λ (m : Message). is_admission_of j s.controller.epoch m.packet) s.bag n answer at in
          let gone : counted (λ (m : Message). is_admission_of j s.controller.epoch m.packet) answer ≡ 1 = ap (λ b. cond {A = ℕ} b 1 0) (eq-eqb i j e) in
          let more = count_append (λ (m : Message). is_admission_of j s.controller.epoch m.packet) left_over [] in
          let none : count_by (λ (m : Message). is_admission_of j s.controller.epoch m.packet) [] ≡ 0 = refl in
          let before : count_by (λ (m : Message). is_admission_of j s.controller.epoch m.packet) s.bag ≡ 1 = h.admissions.one outside j ∙ ap (λ q. admission_count (state_at s.controller.slots q)) (sym e) ∙ ap admission_count its_state.1 in
          let after : admission_count (state_at held_state.controller.slots j) ≡ 0 = ap (λ q. admission_count (state_at held_state.controller.slots q)) (sym e) ∙ ap admission_count now_held in
          omega (arith, first, gone, more, none, before, after)
      one j (inr ne) =
          let first = count_removed (λ (m : Message). is_admission_of j s.controller.epoch m.packet) s.bag n answer at in
          let gone : counted (λ (m : Message). is_admission_of j s.controller.epoch m.packet) answer ≡ 0 = ap (λ b. cond {A = ℕ} b 1 0) (ne_eqb i j ne) in
          let more = count_append (λ (m : Message). is_admission_of j s.controller.epoch m.packet) left_over [] in
          let none : count_by (λ (m : Message). is_admission_of j s.controller.epoch m.packet) [] ≡ 0 = refl in
          let before = h.admissions.one outside j in
          let after : admission_count (state_at held_state.controller.slots j) ≡ admission_count (state_at s.controller.slots j) = ap admission_count (others_held j (λ e. ne (sym e))) in
          omega (arith, first, gone, more, none, before, after)

  acks : (Goal : State → Type 0) → Goal held_state → Goal (controller_turn s left_over (acknowledged s.controller i tag))
  acks Goal g = go (is_admitting tag (state_at s.controller.slots i)) (ap (is_admitting tag) its_state.1 ∙ eq-eqb tag tag refl)
    where
      go : (b : Bool) → b ≡ true → Goal (controller_turn s left_over (if b then held_turn else idle s.controller))
      go true e = g
      go false e = absurd cc

  pub ack_sits : Seated plan (controller_turn s left_over (acknowledged s.controller i tag))
  ack_sits = acks (Seated plan) held_sits

  pub ack_keeps : OperationsStand plan s → OperationsStand plan (controller_turn s left_over (acknowledged s.controller i tag))
  ack_keeps k = acks (OperationsStand plan) (turn_keeps plan s left_over held_turn s.done k (λ m a. among_remove m s.bag n a) no_steady (tt, tt) (omega arith))

-- Evictions begin, and wants are admitted.
use Rattle.far_invariants.specs.Slots.{IsGiven, is_admission_of, admits_under, admission_count}
use Rattle.std.proofs.Common.{◌≡◌, ◌≢◌, ℕ, ◌+◌, ◌≤◌, ◌<◌, ◌⊎◌, inl, inr, Bool, true, false, true≢false, cond, ◌&&◌, nat_eq, eq-eqb, ne_eqb, List, [], ◌∷◌, ◌++◌, length, length-set, drop, set, refl, sym, ap, ◌∙◌, subst, arith}
use Rattle.std.specs.Prelude.{Option, None, Some, is_some}
use Rattle.std.specs.List.{count_by}
use Rattle.std.proofs.lemmas.Bool.{cases_eq}
use Rattle.std.proofs.lemmas.Option.{none-some}
use Rattle.std.proofs.lemmas.List.{get_or-set_same, get_or-set_other}
use Rattle.far_base.specs.PlanView.{PlanView}
use Rattle.far_base.specs.declared.packet.Message.{Message}
use Rattle.far_base.specs.declared.packet.Out.{Out}
use Rattle.far_base.specs.declared.packet.Packet.{Packet}
use Rattle.far_base.specs.declared.packet.Packet.TheVariants.{Admit, AdmitAck, Peek, RemoveAns}
use Rattle.far_base.specs.declared.party.Party.TheVariants.{Switch, Controller}
use Rattle.far_base.specs.declared.slot_state.SlotState.{SlotState}
use Rattle.far_base.specs.declared.slot_state.SlotState.TheVariants.{Free, Admitting, Held, Evicting}
use Rattle.far_model.specs.Controller.{ControllerState, admits_want, evict_held, evict_key, evicts, makes_room, tick, tick_free, tick_room, tick_want, tick_wants}
use Rattle.far_model.specs.Events.{controller_turn}
use Rattle.far_model.specs.Evictions.{Eviction, begins_eviction, first_place, hand_after, has_key, holds_key, is_free, is_held, key_in, state_at, tag_in, victim}
use Rattle.far_invariants.specs.Flights.{Subject, OfAdmission, OfEviction, OfJob, subject}
use Rattle.far_model.specs.Members.{Among}
use Rattle.far_model.specs.Parties.{Turn, to_party}
use Rattle.far_model.specs.Rounds.{Round}
use Rattle.far_model.specs.State.{State}
use Rattle.far_model.specs.View.{slot_at}
use Rattle.far_model.proofs.Members.{among_append}
use Rattle.far_invariants.specs.InFlight.{AdmissionFits, AdmissionMeets, AdmissionsFly, Emptied, FitsDue, IsEvicted, epoch_in, is_own}
use Rattle.flight_laws.proofs.ControlKeeps.{control_epochs, control_no_round, control_sized, control_snapshots, idle_keeps, wants_keep}
use Rattle.flight_laws.proofs.ControlWork.{NoneOf, begins_strange, held_given}
use Rattle.flight_laws.proofs.Counts.{count_append, count_cons, count_none, counted_false, counted_true}
use Rattle.flight_laws.proofs.Frames.{admissions_last, evictions_last}
use Rattle.flight_laws.proofs.Moves.{moves_sent, of_admission, of_eviction, of_round, of_snapshot}
use Rattle.flight_laws.proofs.Places.{first_some, victim_held}
use Rattle.flight_laws.proofs.SwitchKeeps.{Inv}
use Rattle.flight_laws.proofs.TickWork.{holds_held}
use Rattle.flight_laws.proofs.Weights.{state_within}

held_is : (st : SlotState) → is_held st ≡ true → st ≡ Held (key_in st) (tag_in st)
held_is Free h = absurd (true≢false (sym h))
held_is (Admitting key tag) h = absurd (true≢false (sym h))
held_is (Held key tag) h = refl
held_is (Evicting key tag) h = absurd (true≢false (sym h))

free_is : (st : SlotState) → is_free st ≡ true → st ≡ Free
free_is Free h = refl
free_is (Admitting key tag) h = absurd (true≢false (sym h))
free_is (Held key tag) h = absurd (true≢false (sym h))
free_is (Evicting key tag) h = absurd (true≢false (sym h))

module _ (plan : PlanView) (s : State) (h : Inv plan s) (no_round : s.controller.round ≡ None) where
  same_members : (x : Message) → Among x s.bag → Among x s.bag
  same_members x a = a

  -- ---- an eviction begins

  module _ (none : s.controller.eviction ≡ None) (i hand : ℕ) (for_want : Bool) (held : is_held (state_at s.controller.slots i) ≡ true) where
    abbrev key : List ℕ
    key = key_in (state_at s.controller.slots i)

    abbrev tag : ℕ
    tag = tag_in (state_at s.controller.slots i)

    abbrev eviction : Eviction
    eviction = begins_eviction s.controller.epoch i key tag for_want

    abbrev turn : Turn ControllerState
    turn = evicts (record s.controller { hand = hand }) for_want i

    abbrev peek : Message
    peek = record { from = Controller; to = Switch; packet = Peek s.controller.epoch i tag }

    abbrev slots : List SlotState
    slots = set s.controller.slots i (Evicting key tag)

    was : state_at s.controller.slots i ≡ Held key tag
    was = held_is (state_at s.controller.slots i) held

    within : i < length s.controller.slots
    within = state_within s.controller.slots i (ap is_free was)

    here : state_at slots i ≡ Evicting key tag
    here = get_or-set_same s.controller.slots i (Evicting key tag) Free within

    there : (j : ℕ) → j ≢ i → state_at slots j ≡ state_at s.controller.slots j
    there j ne = get_or-set_other s.controller.slots i j (Evicting key tag) Free ne

    given_was : (j t : ℕ) (k : List ℕ) → IsGiven k t (state_at slots j) → (j ≡ i) ⊎ (j ≡ i → ⊥) → IsGiven k t (state_at s.controller.slots j)
    given_was j t k g (inl e) = subst (λ n. IsGiven k t (state_at s.controller.slots n)) (sym e) (subst (IsGiven k t) (sym was) (subst (IsGiven k t) here (subst (λ n. IsGiven k t (state_at slots n)) e g)))
    given_was j t k g (inr ne) = subst (IsGiven k t) (there j ne) g

    none_of : NoneOf plan s.bag s.controller
    none_of m j t k a e g = let o = h.evictions.owned m j t k a e g in none-some o.eviction (sym none ∙ o.is)

    only : (class : Subject → Bool) → class (OfEviction i tag) ≡ false → (x : Message) → Among x (peek ∷ []) → class (subject x.packet) ≡ false
    only class y x (inl k) = ap (λ (w : Message). class (subject w.packet)) k ∙ y
    only class y x (inr b) = absurd b

    pub begins_keep : Inv plan (controller_turn s s.bag turn)
    begins_keep = record {
      sized = control_sized plan s h s.bag same_members turn (length-set s.controller.slots i (Evicting key tag)) h.sized.parts h.sized.views;
      epochs = control_epochs plan s h s.bag same_members turn refl (λ o a. sent o a);
      admissions = admissions_last s (controller_turn s s.bag turn) h.admissions (record {
        moves = moves_sent of_admission s.bag (peek ∷ []) (only of_admission refl);
        epoch = refl;
        round = λ e. e;
        running = λ e. e;
        tags = omega arith;
        given = λ j t k g. given_was j t k g (cases_eq j i);
        admitting = λ j t k e. admitting j t k e (cases_eq j i);
        count = λ j. count j (cases_eq j i);
        empty = λ r j e. empty r j e (cases_eq j i);
        meets = λ r m a f. f;
      });
      evictions = record {
        tags = λ x j t a e. tags x j t e (among_append x s.bag (peek ∷ []) a);
        jobs = λ x j a e. jobs x j e (among_append x s.bag (peek ∷ []) a);
        owned = λ x j t k a e g. owned x j t k e g (among_append x s.bag (peek ∷ []) a);
        evicting = λ j t k e. evicting j t k e (cases_eq j i);
        flies = (
          record { state = here; epoch = refl; tries = refl; job = λ d. absurd cc },
          (let p = λ (x : Message). is_own eviction (subject x.packet) in
              let both = count_append p s.bag (peek ∷ []) in
              let last = count_cons p peek [] in
              let mine = counted_true p peek ((λ z. eq-eqb i i refl z && nat_eq tag tag) ∙ eq-eqb tag tag refl) in
              let nothing = count_none p s.bag (begins_strange plan s.bag s.controller i for_want none_of held) in
              omega (arith, both, last, mine, nothing)),
          λ x a own. fits x own (among_append x s.bag (peek ∷ []) a),
        );
        emptied = λ r x a. emptied r x (among_append x s.bag (peek ∷ []) a);
      };
      snapshots = control_snapshots plan s h s.bag same_members turn (moves_sent of_snapshot s.bag (peek ∷ []) (only of_snapshot refl)) refl refl (omega arith);
      rounds = control_no_round plan s h s.bag same_members turn no_round (omega arith) (λ o a. no_sent o a);
    }
      where
        sent : (o : Out) → Among o (to_party Switch (Peek s.controller.epoch i tag) ∷ []) → epoch_in o.packet ≤ s.controller.epoch
        sent o (inl e) = subst (λ (w : Out). epoch_in w.packet ≤ s.controller.epoch) (sym e) (omega arith)
        sent o (inr a) = absurd a

        no_sent : (o : Out) → Among o (to_party Switch (Peek s.controller.epoch i tag) ∷ []) → of_round (subject o.packet) ≡ false
        no_sent o (inl e) = ap (λ (w : Out). of_round (subject w.packet)) e
        no_sent o (inr a) = absurd a

        admitting : (j t : ℕ) (k : List ℕ) → state_at s.controller.slots j ≡ Admitting k t → (j ≡ i) ⊎ (j ≡ i → ⊥) → state_at (set s.controller.slots i (Evicting (key_in (state_at s.controller.slots i)) (tag_in (state_at s.controller.slots i)))) j ≡ Admitting k t
        admitting j t k e (inl same) = let f : Held key tag ≡ Admitting k t = sym was ∙ ap (state_at s.controller.slots) (sym same) ∙ e in absurd cc
        admitting j t k e (inr ne) = there j ne ∙ e

        count : (j : ℕ) → (j ≡ i) ⊎ (j ≡ i → ⊥) → admission_count (state_at (set s.controller.slots i (Evicting (key_in (state_at s.controller.slots i)) (tag_in (state_at s.controller.slots i)))) j) ≡ admission_count (state_at s.controller.slots j)
        count j (inl same) = ap admission_count (ap (state_at slots) same ∙ here) ∙ sym (ap admission_count (ap (state_at s.controller.slots) same ∙ was))
        count j (inr ne) = ap admission_count (there j ne)

        empty : s.running ≡ true → (j : ℕ) → state_at (set s.controller.slots i (Evicting (key_in (state_at s.controller.slots i)) (tag_in (state_at s.controller.slots i)))) j ≡ Free → (j ≡ i) ⊎ (j ≡ i → ⊥) → (slot_at s.switch j).valid ≡ false
        empty r j e (inl same) = let f : Evicting key tag ≡ Free = sym here ∙ ap (state_at slots) (sym same) ∙ e in absurd cc
        empty r j e (inr ne) = h.admissions.empty r j (sym (there j ne) ∙ e)

        tags : (x : Message) (j t : ℕ) → subject x.packet ≡ OfEviction j t → Among x s.bag ⊎ Among x (peek ∷ []) → t < s.controller.next_tag
        tags x j t e (inl a) = h.evictions.tags x j t a e
        tags x j t e (inr (inl k)) =
            let z : OfEviction i tag ≡ OfEviction j t = ap (λ (w : Message). subject w.packet) (sym k) ∙ e in
            let y : tag ≡ t = cc in
            subst (λ n. n < s.controller.next_tag) y (h.admissions.given i tag key (held_given plan s.bag (state_at s.controller.slots i) held))
        tags x j t e (inr (inr a)) = absurd a

        jobs : (x : Message) (j : ℕ) → subject x.packet ≡ OfJob j → Among x s.bag ⊎ Among x (peek ∷ []) → j < s.controller.next_job
        jobs x j e (inl a) = h.evictions.jobs x j a e
        jobs x j e (inr (inl k)) = let z : OfEviction i tag ≡ OfJob j = ap (λ (w : Message). subject w.packet) (sym k) ∙ e in absurd cc
        jobs x j e (inr (inr a)) = absurd a

        owned : (x : Message) (j t : ℕ) (k : List ℕ) → subject x.packet ≡ OfEviction j t → IsGiven k t (state_at (set s.controller.slots i (Evicting (key_in (state_at s.controller.slots i)) (tag_in (state_at s.controller.slots i)))) j) → Among x s.bag ⊎ Among x (peek ∷ []) → IsEvicted turn.state j t
        owned x j t k e g (inl a) = absurd (none_of x j t k a e (given_was j t k g (cases_eq j i)))
        owned x j t k e g (inr (inl y)) =
            let z : OfEviction i tag ≡ OfEviction j t = ap (λ (w : Message). subject w.packet) (sym y) ∙ e in
            let a : i ≡ j = cc in
            let b : tag ≡ t = cc in
            record { eviction = eviction; is = refl; slot = a; tag_is = b }
        owned x j t k e g (inr (inr a)) = absurd a

        evicting : (j t : ℕ) (k : List ℕ) → state_at (set s.controller.slots i (Evicting (key_in (state_at s.controller.slots i)) (tag_in (state_at s.controller.slots i)))) j ≡ Evicting k t → (j ≡ i) ⊎ (j ≡ i → ⊥) → IsEvicted turn.state j t
        evicting j t k e (inl same) =
            let f : Evicting key tag ≡ Evicting k t = sym here ∙ ap (state_at slots) (sym same) ∙ e in
            let b : tag ≡ t = cc in
            record { eviction = eviction; is = refl; slot = sym same; tag_is = b }
        evicting j t k e (inr ne) = let o = h.evictions.evicting j t k (sym (there j ne) ∙ e) in absurd (none-some o.eviction (sym none ∙ o.is))

        fits : (x : Message) → is_own eviction (subject x.packet) ≡ true → Among x s.bag ⊎ Among x (peek ∷ []) → FitsDue s.controller.epoch eviction x.packet
        fits x own (inl a) = absurd (true≢false (sym own ∙ begins_strange plan s.bag s.controller i for_want none_of held x a))
        fits x own (inr (inl k)) = subst (λ (w : Message). FitsDue s.controller.epoch eviction w.packet) (sym k) (refl, refl)
        fits x own (inr (inr a)) = absurd a

        emptied : s.running ≡ true → (x : Message) → Among x s.bag ⊎ Among x (peek ∷ []) → Emptied s.switch turn.state x.packet
        emptied r x (inr (inl k)) = subst (λ (w : Message). Emptied s.switch turn.state w.packet) (sym k) tt
        emptied r x (inr (inr a)) = absurd a
        emptied r x (inl a) = of x.packet refl (h.evictions.emptied r x a)
          where
            of : (p : Packet) → x.packet ≡ p → Emptied s.switch s.controller p → Emptied s.switch turn.state p
            of (RemoveAns j t done latest num body) y f = λ d k g. absurd (none_of x j t k a (ap subject y) (given_was j t k g (cases_eq j i)))
            of _ y f = tt

  -- ---- a want is admitted

  module _ (key : List ℕ) (i : ℕ) (free : first_place is_free s.controller.slots ≡ Some i) where
    abbrev next : ℕ
    next = s.controller.next_tag

    abbrev admits : Turn ControllerState
    admits = admits_want s.controller key i

    abbrev asking : Message
    asking = record { from = Controller; to = Switch; packet = Admit s.controller.epoch i key s.controller.next_tag }

    abbrev states : List SlotState
    states = set s.controller.slots i (Admitting key s.controller.next_tag)

    was_free : state_at s.controller.slots i ≡ Free
    was_free = free_is (state_at s.controller.slots i) ((first_some is_free s.controller.slots i Free free).passes)

    at_i : state_at states i ≡ Admitting key s.controller.next_tag
    at_i = get_or-set_same s.controller.slots i (Admitting key s.controller.next_tag) Free ((first_some is_free s.controller.slots i Free free).within)

    at_other : (j : ℕ) → j ≢ i → state_at states j ≡ state_at s.controller.slots j
    at_other j ne = get_or-set_other s.controller.slots i j (Admitting key s.controller.next_tag) Free ne

    given_or_new : (j t : ℕ) (k : List ℕ) → IsGiven k t (state_at states j) → (j ≡ i) ⊎ (j ≡ i → ⊥) → IsGiven k t (state_at s.controller.slots j) ⊎ (s.controller.next_tag ≡ t)
    given_or_new j t k g (inl e) = let w : (key ≡ k) × (s.controller.next_tag ≡ t) = subst (IsGiven k t) at_i (subst (λ n. IsGiven k t (state_at states n)) e g) in inr w.1
    given_or_new j t k g (inr ne) = inl (subst (IsGiven k t) (at_other j ne) g)

    just : (class : Subject → Bool) → class (OfAdmission i s.controller.next_tag) ≡ false → (x : Message) → Among x (asking ∷ []) → class (subject x.packet) ≡ false
    just class y x (inl k) = ap (λ (w : Message). class (subject w.packet)) k ∙ y
    just class y x (inr b) = absurd b

    not_free : (j t : ℕ) (k : List ℕ) → state_at s.controller.slots j ≡ Admitting k t → j ≡ i → ⊥
    not_free j t k e same = let f : Free ≡ Admitting k t = sym was_free ∙ ap (state_at s.controller.slots) (sym same) ∙ e in cc

    admits_admissions : AdmissionsFly (controller_turn s s.bag admits)
    admits_admissions = record {
      given = λ j t k g. given j t k (given_or_new j t k g (cases_eq j i));
      drawn = λ x j t a e. drawn x j t e (among_append x s.bag (asking ∷ []) a);
      fits = λ x a. fits x (among_append x s.bag (asking ∷ []) a);
      meets = λ r x a. meets r x (among_append x s.bag (asking ∷ []) a);
      one = λ none j. one j (cases_eq j i);
      once = λ t. once t (cases_eq s.controller.next_tag t);
      empty = λ r j e. empty r j e (cases_eq j i);
    }
      where
        given : (j t : ℕ) (k : List ℕ) → IsGiven k t (state_at s.controller.slots j) ⊎ (s.controller.next_tag ≡ t) → t < s.controller.next_tag + 1
        given j t k (inl g) = let b = h.admissions.given j t k g in omega (arith, b)
        given j t k (inr e) = omega (arith, e)

        drawn : (x : Message) (j t : ℕ) → subject x.packet ≡ OfAdmission j t → Among x s.bag ⊎ Among x (asking ∷ []) → t < s.controller.next_tag + 1
        drawn x j t e (inl a) = let b = h.admissions.drawn x j t a e in omega (arith, b)
        drawn x j t e (inr (inl k)) = let z : OfAdmission i s.controller.next_tag ≡ OfAdmission j t = ap (λ (w : Message). subject w.packet) (sym k) ∙ e in let y : s.controller.next_tag ≡ t = cc in omega (arith, y)
        drawn x j t e (inr (inr a)) = absurd a

        fits : (x : Message) → Among x s.bag ⊎ Among x (asking ∷ []) → AdmissionFits admits.state x.packet
        fits x (inl a) = of x.packet (h.admissions.fits x a)
          where
            of : (p : Packet) → AdmissionFits s.controller p → AdmissionFits admits.state p
            of (Admit epoch j k t) f = λ none e. at_other j (not_free j t k (f none e)) ∙ f none e
            of (AdmitAck j t) f = (f.0, at_other j (not_free j t f.0 f.1) ∙ f.1)
            of _ f = tt
        fits x (inr (inl k)) = subst (λ (w : Message). AdmissionFits admits.state w.packet) (sym k) (λ none e. at_i)
        fits x (inr (inr a)) = absurd a

        meets : s.running ≡ true → (x : Message) → Among x s.bag ⊎ Among x (asking ∷ []) → AdmissionMeets s.switch s.controller.epoch x.packet
        meets r x (inl a) = h.admissions.meets r x a
        meets r x (inr (inl k)) = subst (λ (w : Message). AdmissionMeets s.switch s.controller.epoch w.packet) (sym k) (λ e. h.admissions.empty r i was_free)
        meets r x (inr (inr a)) = absurd a

        one : (j : ℕ) → (j ≡ i) ⊎ (j ≡ i → ⊥) → count_by (λ (x : Message). is_admission_of j s.controller.epoch x.packet) (s.bag ++ asking ∷ []) ≡ admission_count (state_at (set s.controller.slots i (Admitting key s.controller.next_tag)) j)
        one j (inl e) =
            let p = λ (x : Message). is_admission_of j s.controller.epoch x.packet in
            let both = count_append p s.bag (asking ∷ []) in
            let last = count_cons p asking [] in
            let mine = counted_true p asking ((λ z. eq-eqb s.controller.epoch s.controller.epoch refl z && nat_eq i j) ∙ eq-eqb i j (sym e)) in
            let before = h.admissions.one no_round j in
            let none : admission_count (state_at s.controller.slots j) ≡ 0 = ap admission_count (ap (state_at s.controller.slots) e ∙ was_free) in
            let after : admission_count (state_at states j) ≡ 1 = ap admission_count (ap (state_at states) e ∙ at_i) in
            omega (arith, both, last, mine, before, none, after)
        one j (inr ne) =
            let p = λ (x : Message). is_admission_of j s.controller.epoch x.packet in
            let both = count_append p s.bag (asking ∷ []) in
            let last = count_cons p asking [] in
            let mine = counted_false p asking ((λ z. eq-eqb s.controller.epoch s.controller.epoch refl z && nat_eq i j) ∙ ne_eqb i j (λ e. ne (sym e))) in
            let before = h.admissions.one no_round j in
            let after : admission_count (state_at states j) ≡ admission_count (state_at s.controller.slots j) = ap admission_count (at_other j ne) in
            omega (arith, both, last, mine, before, after)

        fresh : (x : Message) → Among x s.bag → admits_under s.controller.next_tag x.packet ≡ false
        fresh x a = of x.packet refl
          where
            of : (p : Packet) → x.packet ≡ p → admits_under s.controller.next_tag p ≡ false
            of (Admit epoch j k t) e = ne_eqb t s.controller.next_tag (λ z. let b = h.admissions.drawn x j t a (ap subject e) in omega (arith, b, z))
            of _ e = refl

        once : (t : ℕ) → (s.controller.next_tag ≡ t) ⊎ (s.controller.next_tag ≡ t → ⊥) → count_by (λ (x : Message). admits_under t x.packet) (s.bag ++ asking ∷ []) ≤ 1
        once t (inl e) =
            let p = λ (x : Message). admits_under t x.packet in
            let both = count_append p s.bag (asking ∷ []) in
            let last = count_cons p asking [] in
            let mine = counted_true p asking (eq-eqb s.controller.next_tag t e) in
            let none = count_none p s.bag (λ x a. subst (λ n. admits_under n x.packet ≡ false) e (fresh x a)) in
            omega (arith, both, last, mine, none)
        once t (inr ne) =
            let p = λ (x : Message). admits_under t x.packet in
            let both = count_append p s.bag (asking ∷ []) in
            let last = count_cons p asking [] in
            let mine = counted_false p asking (ne_eqb s.controller.next_tag t ne) in
            let before = h.admissions.once t in
            omega (arith, both, last, mine, before)

        empty : s.running ≡ true → (j : ℕ) → state_at (set s.controller.slots i (Admitting key s.controller.next_tag)) j ≡ Free → (j ≡ i) ⊎ (j ≡ i → ⊥) → (slot_at s.switch j).valid ≡ false
        empty r j e (inl same) = let f : Admitting key s.controller.next_tag ≡ Free = sym at_i ∙ ap (state_at states) (sym same) ∙ e in absurd cc
        empty r j e (inr ne) = h.admissions.empty r j (sym (at_other j ne) ∙ e)

    pub admits_keep : Inv plan (controller_turn s s.bag admits)
    admits_keep = record {
      sized = control_sized plan s h s.bag same_members admits (length-set s.controller.slots i (Admitting key s.controller.next_tag)) h.sized.parts h.sized.views;
      epochs = control_epochs plan s h s.bag same_members admits refl (λ o a. sent o a);
      admissions = admits_admissions;
      evictions = evictions_last s (controller_turn s s.bag admits) h.evictions (record {
        moves = moves_sent of_eviction s.bag (asking ∷ []) (just of_eviction refl);
        epoch = refl;
        eviction = refl;
        running = λ e. e;
        tags = omega arith;
        jobs = omega arith;
        given = λ j t k g. given (given_or_new j t k g (cases_eq j i));
        evicting = λ j t k e. evicting j t k e (cases_eq j i);
        still = λ j t k e. at_other j (λ same. let f : Free ≡ Evicting k t = sym was_free ∙ ap (state_at s.controller.slots) (sym same) ∙ e in absurd cc) ∙ e;
        emptied = λ r j t k st off. off;
      });
      snapshots = control_snapshots plan s h s.bag same_members admits (moves_sent of_snapshot s.bag (asking ∷ []) (just of_snapshot refl)) refl refl (omega arith);
      rounds = control_no_round plan s h s.bag same_members admits no_round (omega arith) (λ o a. no_sent o a);
    }
      where
        sent : (o : Out) → Among o (to_party Switch (Admit s.controller.epoch i key s.controller.next_tag) ∷ []) → epoch_in o.packet ≤ s.controller.epoch
        sent o (inl e) = subst (λ (w : Out). epoch_in w.packet ≤ s.controller.epoch) (sym e) (omega arith)
        sent o (inr a) = absurd a

        no_sent : (o : Out) → Among o (to_party Switch (Admit s.controller.epoch i key s.controller.next_tag) ∷ []) → of_round (subject o.packet) ≡ false
        no_sent o (inl e) = ap (λ (w : Out). of_round (subject w.packet)) e
        no_sent o (inr a) = absurd a

        given : {P : Type 0} {t : ℕ} → P ⊎ (s.controller.next_tag ≡ t) → P ⊎ (s.controller.next_tag ≤ t)
        given (inl g) = inl g
        given (inr e) = inr (omega (arith, e))

        evicting : (j t : ℕ) (k : List ℕ) → state_at (set s.controller.slots i (Admitting key s.controller.next_tag)) j ≡ Evicting k t → (j ≡ i) ⊎ (j ≡ i → ⊥) → state_at s.controller.slots j ≡ Evicting k t
        evicting j t k e (inl same) = let f : Admitting key s.controller.next_tag ≡ Evicting k t = sym at_i ∙ ap (state_at states) (sym same) ∙ e in absurd cc
        evicting j t k e (inr ne) = sym (at_other j ne) ∙ e

  -- ---- ticks and the order to evict

  abbrev IfTurn : Option (Turn ControllerState) → Type 0
  IfTurn None = Unit {0}
  IfTurn (Some t) = Inv plan (controller_turn s s.bag t)

  room_keeps : (o : Option ℕ) → victim s.controller.hand s.controller.slots ≡ o → IfTurn (tick_room s.controller o)
  room_keeps None e = tt
  room_keeps (Some i) e = go s.controller.eviction refl
    where
      go : (x : Option Eviction) → s.controller.eviction ≡ x → IfTurn (cond (is_some x) None (Some (makes_room s.controller i)))
      go None k = begins_keep k i (hand_after i s.controller.slots) true (victim_held s.controller.hand s.controller.slots i e)
      go (Some x) k = tt

  free_keeps : (key : List ℕ) (o : Option ℕ) → first_place is_free s.controller.slots ≡ o → IfTurn (tick_free s.controller key o)
  free_keeps key None e = room_keeps (victim s.controller.hand s.controller.slots) refl
  free_keeps key (Some i) e = admits_keep key i e

  want_keeps : (key : List ℕ) (o : Option ℕ) → IfTurn (tick_want s.controller key o)
  want_keeps key None = free_keeps key (first_place is_free s.controller.slots) refl
  want_keeps key (Some i) = wants_keep plan s h s.bag same_members (λ q e. moves_sent q s.bag [] (λ x a. absurd a)) (drop 1 s.controller.wants) no_round

  wants_keeps : (wants : List (List ℕ)) → IfTurn (tick_wants s.controller wants)
  wants_keeps [] = tt
  wants_keeps (key ∷ keys) = want_keeps key (first_place (has_key key) s.controller.slots)

  pub evict_keeps : (key : List ℕ) → s.controller.eviction ≡ None → Inv plan (controller_turn s s.bag (evict_key key s.controller))
  evict_keeps key none = go (first_place (holds_key key) s.controller.slots) refl
    where
      go : (o : Option ℕ) → first_place (holds_key key) s.controller.slots ≡ o → Inv plan (controller_turn s s.bag (evict_held s.controller o))
      go None e = idle_keeps plan s h s.bag same_members (λ q e. moves_sent q s.bag [] (λ x a. absurd a))
      go (Some i) e = begins_keep none i s.controller.hand false (holds_held plan s.bag key (state_at s.controller.slots i) ((first_some (holds_key key) s.controller.slots i Free e).passes))

pub tick_keeps : (plan : PlanView) (s : State) (h : Inv plan s) (t : Turn ControllerState) → tick s.controller ≡ Some t → Inv plan (controller_turn s s.bag t)
tick_keeps plan s h t e = go s.controller.round refl e
  where
    go : (o : Option Round) → s.controller.round ≡ o → cond (is_some o) None (tick_wants s.controller s.controller.wants) ≡ Some t → Inv plan (controller_turn s s.bag t)
    go None none k = subst (IfTurn plan s h none) k (wants_keeps plan s h none s.controller.wants)
    go (Some r) some k = absurd (none-some t k)

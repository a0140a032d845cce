-- Evictions go on, end and begin, and wants are admitted: what is in flight is kept.
use Rattle.far_invariants.specs.Slots.{IsGiven, admission_count}
use Rattle.std.proofs.Common.{◌≡◌, ◌≢◌, ℕ, ◌≤◌, ◌<◌, ◌⊎◌, inl, inr, Bool, true, false, true≢false, ◌&&◌, nat_eq, eq-eqb, List, [], ◌∷◌, ◌++◌, append-nil, length, length-set, set, refl, sym, ap, ◌∙◌, subst, arith, le_trans}
use Rattle.std.specs.Prelude.{None, Some}
use Rattle.std.proofs.lemmas.Bool.{cases_eq}
use Rattle.std.proofs.lemmas.Option.{same_Some}
use Rattle.std.proofs.lemmas.List.{get_or-set_same, get_or-set_other}
use Rattle.far_base.specs.PlanView.{PlanView}
use Rattle.far_base.specs.declared.log.LogEntry.{LogEntry}
use Rattle.far_base.specs.declared.packet.Message.{Message}
use Rattle.far_base.specs.declared.packet.Out.{Out}
use Rattle.far_base.specs.declared.packet.Packet.{Packet}
use Rattle.far_base.specs.declared.packet.Packet.TheVariants.{RemoveAns}
use Rattle.far_base.specs.declared.party.Party.{Party}
use Rattle.far_base.specs.declared.party.Party.TheVariants.{Controller}
use Rattle.far_base.specs.declared.slot_state.SlotState.{SlotState}
use Rattle.far_base.specs.declared.slot_state.SlotState.TheVariants.{Free, Admitting, Held, Evicting}
use Rattle.far_base.specs.declared.slot_state.Due.TheVariants.{Stored as StoredDue}
use Rattle.far_model.specs.Controller.{ControllerState, with_state}
use Rattle.far_model.specs.Events.{controller_turn}
use Rattle.far_model.specs.Evictions.{Eviction, is_free, state_at}
use Rattle.far_invariants.specs.Flights.{Subject, OfEviction, OfJob, OfRound, subject}
use Rattle.far_model.specs.Members.{Among}
use Rattle.far_model.specs.Parties.{Turn, idle, to_party}
use Rattle.far_model.specs.State.{State}
use Rattle.far_model.specs.View.{SwitchView, slot_at}
use Rattle.far_model.proofs.Members.{among_append}
use Rattle.far_invariants.specs.InFlight.{Emptied, EvictionIs, FitsDue, IsEvicted, OwnFlies, RoundsFly, TriesFit, epoch_in, is_own}
use Rattle.flight_laws.proofs.ControlKeeps.{control_admissions, control_epochs, control_no_round, control_no_round_jobs, control_rounds, control_sized, control_snapshots, evicting_no_round}
use Rattle.flight_laws.proofs.ControlWork.{AllStrange}
use Rattle.flight_laws.proofs.Counts.{count_append, count_cons, count_none, counted_true, none_counted}
use Rattle.flight_laws.proofs.Frames.{admissions_last}
use Rattle.flight_laws.proofs.Moves.{Takes, moves_taken, of_admission, of_round, of_snapshot}
use Rattle.flight_laws.proofs.SwitchKeeps.{Inv, evictions_drop}
use Rattle.flight_laws.proofs.Weights.{state_within}

-- ---- a packet of another eviction changes nothing

module _ (plan : PlanView) (s : State) (h : Inv plan s) (rest : List Message) (m : Message) (takes : Takes s.bag rest m) where
  pub dropped_keeps : of_admission (subject m.packet) ≡ false → of_snapshot (subject m.packet) ≡ false → ((e : Eviction) → s.controller.eviction ≡ Some e → is_own e (subject m.packet) ≡ false) → RoundsFly plan (controller_turn s rest (idle s.controller)) → Inv plan (controller_turn s rest (idle s.controller))
  dropped_keeps a sn strange rounds =
      let turn : Turn ControllerState = idle s.controller in
      record {
        sized = control_sized plan s h rest takes.members turn refl h.sized.parts h.sized.views;
        epochs = control_epochs plan s h rest takes.members turn refl (λ o x. absurd x);
        admissions = control_admissions plan s h rest takes.members turn (moves_taken of_admission s.bag rest [] m takes a (λ x y. absurd y)) refl (λ e. e) (omega arith) refl;
        evictions = evictions_drop s (controller_turn s rest turn) rest m h.evictions takes refl strange (λ e. e) (record { valid = λ i. refl; tag = λ i. refl });
        snapshots = control_snapshots plan s h rest takes.members turn (moves_taken of_snapshot s.bag rest [] m takes sn (λ x y. absurd y)) refl refl (omega arith);
        rounds = rounds;
      }

  pub dropped_rounds : of_round (subject m.packet) ≡ false → RoundsFly plan (controller_turn s rest (idle s.controller))
  dropped_rounds ro = control_rounds plan s h rest takes.members (idle s.controller) (moves_taken of_round s.bag rest [] m takes ro (λ x y. absurd y)) refl (omega arith) (omega arith) refl refl refl refl

-- ---- the eviction that is under way

module _ (plan : PlanView) (s : State) (h : Inv plan s) (rest : List Message) (m : Message) (takes : Takes s.bag rest m) (e : Eviction) (is : s.controller.eviction ≡ Some e) where
  abbrev own_flies : OwnFlies s.controller s.bag (Some e)
  own_flies = subst (OwnFlies s.controller s.bag) is h.evictions.flies

  pub eis : EvictionIs s.controller e
  eis = own_flies.0

  not_round : s.controller.round ≡ None
  not_round = evicting_no_round plan s e h.rounds is

  pub slot_given : IsGiven e.key e.tag (state_at s.controller.slots e.slot)
  slot_given = subst (IsGiven e.key e.tag) (sym eis.state) (refl, refl)

  same_eviction : (i t : ℕ) → IsEvicted s.controller i t → (e.slot ≡ i) × (e.tag ≡ t)
  same_eviction i t o = let k : e ≡ o.eviction = same_Some e o.eviction (sym is ∙ o.is) in (ap (λ (x : Eviction). x.slot) k ∙ o.slot, ap (λ (x : Eviction). x.tag) k ∙ o.tag_is)

  module _ (own : is_own e (subject m.packet) ≡ true) (a : of_admission (subject m.packet) ≡ false) (sn : of_snapshot (subject m.packet) ≡ false) where
    pub strange : AllStrange (Some e) rest
    strange x b = none_counted (λ (x : Message). is_own e (subject x.packet)) rest x (
        let p = λ (x : Message). is_own e (subject x.packet) in
        let one = own_flies.1 in
        let was = takes.count p in
        let mine = counted_true p m own in
        omega (arith, one, was, mine)) b

    -- it goes on with one packet
    pub goes_on : (f : Eviction) (next : ℕ) (to : Party) (q : Packet) (notes : List LogEntry) → f.slot ≡ e.slot → f.tag ≡ e.tag → f.key ≡ e.key → f.epoch ≡ e.epoch → TriesFit f.due f.tries → (f.due ≡ StoredDue → f.job < next) → s.controller.next_job ≤ next
        → AllStrange (Some f) rest → is_own f (subject q) ≡ true → FitsDue s.controller.epoch f q → of_admission (subject q) ≡ false → of_snapshot (subject q) ≡ false → ((n : ℕ) → subject q ≡ OfRound n → ⊥) → epoch_in q ≤ s.controller.epoch
        → ((i t : ℕ) → subject q ≡ OfEviction i t → (i ≡ e.slot) × (t ≡ e.tag)) → ((job : ℕ) → subject q ≡ OfJob job → job < next) → ((v : SwitchView) (c : ControllerState) → Emptied v c q)
        → Inv plan (controller_turn s rest (record { state = record s.controller { eviction = Some f; next_job = next }; out = to_party to q ∷ []; notes = notes }))
    goes_on f next to q notes slot tag key epoch tries job more new own_q due qa qs qr qe qt qj qm = record {
      sized = control_sized plan s h rest takes.members turn refl h.sized.parts h.sized.views;
      epochs = control_epochs plan s h rest takes.members turn refl (λ o b. one (λ p. epoch_in p ≤ s.controller.epoch) o b qe);
      admissions = control_admissions plan s h rest takes.members turn (moves_taken of_admission s.bag rest (reply ∷ []) m takes a (only of_admission qa)) refl (λ x. x) (omega arith) refl;
      evictions = record {
        tags = λ x i t b k. tags x i t k (among_append x rest (reply ∷ []) b);
        jobs = λ x j b k. jobs x j k (among_append x rest (reply ∷ []) b);
        owned = λ x i t k b y g. owned x i t k y g (among_append x rest (reply ∷ []) b);
        evicting = λ i t k y. evicted i t (h.evictions.evicting i t k y);
        flies = (
          record { state = ap (state_at s.controller.slots) slot ∙ eis.state ∙ (λ z. Evicting (sym key z) (sym tag z)); epoch = epoch ∙ eis.epoch; tries = tries; job = job },
          (let p = λ (x : Message). is_own f (subject x.packet) in
              let both = count_append p rest (reply ∷ []) in
              let last = count_cons p reply [] in
              let mine = counted_true p reply own_q in
              let none = count_none p rest new in
              omega (arith, both, last, mine, none)),
          λ x b y. fits x y (among_append x rest (reply ∷ []) b),
        );
        emptied = λ r x b. emptied r x (among_append x rest (reply ∷ []) b);
      };
      snapshots = control_snapshots plan s h rest takes.members turn (moves_taken of_snapshot s.bag rest (reply ∷ []) m takes sn (only of_snapshot qs)) refl refl (omega arith);
      rounds = control_no_round_jobs plan s h rest takes.members turn not_round (omega arith) (λ o n b k. one (λ p. subject p ≡ OfRound n → ⊥) o b (qr n) k);
    }
      where
        turn : Turn ControllerState
        turn = record { state = record s.controller { eviction = Some f; next_job = next }; out = to_party to q ∷ []; notes = notes }

        reply : Message
        reply = record { from = Controller; to = to; packet = q }

        one : (P : Packet → Type 0) (o : Out) → Among o (to_party to q ∷ []) → P q → P o.packet
        one P o (inl k) y = subst (λ (w : Out). P w.packet) (sym k) y
        one P o (inr b) y = absurd b

        only : (class : Subject → Bool) → class (subject q) ≡ false → (x : Message) → Among x (record { from = Controller; to = to; packet = q } ∷ []) → class (subject x.packet) ≡ false
        only class y x (inl k) = ap (λ (w : Message). class (subject w.packet)) k ∙ y
        only class y x (inr b) = absurd b

        evicted : (i t : ℕ) → IsEvicted s.controller i t → IsEvicted (record s.controller { eviction = Some f; next_job = next }) i t
        evicted i t o = let k = same_eviction i t o in record { eviction = f; is = refl; slot = slot ∙ k.0; tag_is = tag ∙ k.1 }

        tags : (x : Message) (i t : ℕ) → subject x.packet ≡ OfEviction i t → Among x rest ⊎ Among x (record { from = Controller; to = to; packet = q } ∷ []) → t < s.controller.next_tag
        tags x i t k (inl b) = h.evictions.tags x i t (takes.members x b) k
        tags x i t k (inr (inl y)) = subst (λ n. n < s.controller.next_tag) (sym (qt i t (ap (λ (w : Message). subject w.packet) (sym y) ∙ k)).1) (h.admissions.given e.slot e.tag e.key slot_given)
        tags x i t k (inr (inr b)) = absurd b

        jobs : (x : Message) (j : ℕ) → subject x.packet ≡ OfJob j → Among x rest ⊎ Among x (record { from = Controller; to = to; packet = q } ∷ []) → j < next
        jobs x j k (inl b) = le_trans (h.evictions.jobs x j (takes.members x b) k) more
        jobs x j k (inr (inl y)) = qj j (ap (λ (w : Message). subject w.packet) (sym y) ∙ k)
        jobs x j k (inr (inr b)) = absurd b

        owned : (x : Message) (i t : ℕ) (k : List ℕ) → subject x.packet ≡ OfEviction i t → IsGiven k t (state_at s.controller.slots i) → Among x rest ⊎ Among x (record { from = Controller; to = to; packet = q } ∷ []) → IsEvicted (record s.controller { eviction = Some f; next_job = next }) i t
        owned x i t k y g (inl b) = evicted i t (h.evictions.owned x i t k (takes.members x b) y g)
        owned x i t k y g (inr (inl z)) = let w = qt i t (ap (λ (w : Message). subject w.packet) (sym z) ∙ y) in record { eviction = f; is = refl; slot = slot ∙ sym w.0; tag_is = tag ∙ sym w.1 }
        owned x i t k y g (inr (inr b)) = absurd b

        fits : (x : Message) → is_own f (subject x.packet) ≡ true → Among x rest ⊎ Among x (record { from = Controller; to = to; packet = q } ∷ []) → FitsDue s.controller.epoch f x.packet
        fits x y (inl b) = absurd (true≢false (sym y ∙ new x b))
        fits x y (inr (inl z)) = subst (λ (w : Message). FitsDue s.controller.epoch f w.packet) (sym z) due
        fits x y (inr (inr b)) = absurd b

        emptied : s.running ≡ true → (x : Message) → Among x rest ⊎ Among x (record { from = Controller; to = to; packet = q } ∷ []) → Emptied s.switch (record s.controller { eviction = Some f; next_job = next }) x.packet
        emptied r x (inl b) = of x.packet (h.evictions.emptied r x (takes.members x b))
          where
            of : (p : Packet) → Emptied s.switch s.controller p → Emptied s.switch (record s.controller { eviction = Some f; next_job = next }) p
            of (RemoveAns i t done latest num body) y = y
            of _ y = tt
        emptied r x (inr (inl z)) = subst (λ (w : Message). Emptied s.switch (record s.controller { eviction = Some f; next_job = next }) w.packet) (sym z) (qm s.switch (record s.controller { eviction = Some f; next_job = next }))
        emptied r x (inr (inr b)) = absurd b

    -- it ends: the slot is free, or held as before
    pub ends : (new : SlotState) (ws : List (List ℕ)) (notes : List LogEntry) → (new ≡ Free) ⊎ (new ≡ Held e.key e.tag) → (new ≡ Free → s.running ≡ true → (slot_at s.switch e.slot).valid ≡ false)
        → Inv plan (controller_turn s rest (record { state = record (with_state s.controller e.slot new) { eviction = None; wants = ws }; out = []; notes = notes }))
    ends new ws notes kind off = record {
      sized = control_sized plan s h rest takes.members turn (length-set s.controller.slots e.slot new) h.sized.parts h.sized.views;
      epochs = control_epochs plan s h rest takes.members turn refl (λ o b. absurd b);
      admissions = admissions_last s (controller_turn s rest turn) h.admissions (record {
        moves = moves_taken of_admission s.bag rest [] m takes a (λ x b. absurd b);
        epoch = refl;
        round = λ x. x;
        running = λ x. x;
        tags = omega arith;
        given = λ j t k g. given j t k g (cases_eq j e.slot);
        admitting = λ j t k y. admitting j t k y (cases_eq j e.slot);
        count = λ j. count j (cases_eq j e.slot);
        empty = λ r j y. empty r j y (cases_eq j e.slot);
        meets = λ r x b f. f;
      });
      evictions = record {
        tags = λ x i t b k. h.evictions.tags x i t (old x b) k;
        jobs = λ x j b k. h.evictions.jobs x j (old x b) k;
        owned = λ x i t k b y g. absurd (owned x i t k (old' x b) y g (cases_eq i e.slot));
        evicting = λ i t k y. absurd (evicting i t k y (cases_eq i e.slot));
        flies = tt;
        emptied = λ r x b. emptied r x (old x b);
      };
      snapshots = control_snapshots plan s h rest takes.members turn (moves_taken of_snapshot s.bag rest [] m takes sn (λ x b. absurd b)) refl refl (omega arith);
      rounds = control_no_round plan s h rest takes.members turn not_round (omega arith) (λ o b. absurd b);
    }
      where
        turn : Turn ControllerState
        turn = record { state = record (with_state s.controller e.slot new) { eviction = None; wants = ws }; out = []; notes = notes }

        old' : (x : Message) → Among x (rest ++ []) → Among x rest
        old' x b = subst (Among x) (append-nil rest) b

        old : (x : Message) → Among x (rest ++ []) → Among x s.bag
        old x b = takes.members x (subst (Among x) (append-nil rest) b)

        within : e.slot < length s.controller.slots
        within = state_within s.controller.slots e.slot (ap is_free eis.state)

        here : state_at (set s.controller.slots e.slot new) e.slot ≡ new
        here = get_or-set_same s.controller.slots e.slot new Free within

        there : (j : ℕ) → j ≢ e.slot → state_at (set s.controller.slots e.slot new) j ≡ state_at s.controller.slots j
        there j ne = get_or-set_other s.controller.slots e.slot j new Free ne

        new_given : (k : List ℕ) (t : ℕ) → (new ≡ Free) ⊎ (new ≡ Held e.key e.tag) → IsGiven k t new → (e.key ≡ k) × (e.tag ≡ t)
        new_given k t (inl f) g = absurd (subst (IsGiven k t) f g)
        new_given k t (inr f) g = subst (IsGiven k t) f g

        given : (j t : ℕ) (k : List ℕ) → IsGiven k t (state_at (set s.controller.slots e.slot new) j) → (j ≡ e.slot) ⊎ (j ≡ e.slot → ⊥) → IsGiven k t (state_at s.controller.slots j)
        given j t k g (inl same) =
            let w = new_given k t kind (subst (IsGiven k t) here (subst (λ n. IsGiven k t (state_at (set s.controller.slots e.slot new) n)) same g)) in
            subst (λ n. IsGiven k t (state_at s.controller.slots n)) (sym same) (subst (IsGiven k t) (sym eis.state) w)
        given j t k g (inr ne) = subst (IsGiven k t) (there j ne) g

        admitting : (j t : ℕ) (k : List ℕ) → state_at s.controller.slots j ≡ Admitting k t → (j ≡ e.slot) ⊎ (j ≡ e.slot → ⊥) → state_at (set s.controller.slots e.slot new) j ≡ Admitting k t
        admitting j t k y (inl same) = let f : Evicting e.key e.tag ≡ Admitting k t = sym eis.state ∙ ap (state_at s.controller.slots) (sym same) ∙ y in absurd cc
        admitting j t k y (inr ne) = there j ne ∙ y

        new_count : (new ≡ Free) ⊎ (new ≡ Held e.key e.tag) → admission_count new ≡ 0
        new_count (inl f) = ap admission_count f
        new_count (inr f) = ap admission_count f

        count : (j : ℕ) → (j ≡ e.slot) ⊎ (j ≡ e.slot → ⊥) → admission_count (state_at (set s.controller.slots e.slot new) j) ≡ admission_count (state_at s.controller.slots j)
        count j (inl same) = ap admission_count (ap (state_at (set s.controller.slots e.slot new)) same ∙ here) ∙ new_count kind ∙ sym (ap admission_count (ap (state_at s.controller.slots) same ∙ eis.state))
        count j (inr ne) = ap admission_count (there j ne)

        empty : s.running ≡ true → (j : ℕ) → state_at (set s.controller.slots e.slot new) j ≡ Free → (j ≡ e.slot) ⊎ (j ≡ e.slot → ⊥) → (slot_at s.switch j).valid ≡ false
        empty r j y (inl same) = ap (λ n. (slot_at s.switch n).valid) same ∙ off (sym here ∙ ap (state_at (set s.controller.slots e.slot new)) (sym same) ∙ y) r
        empty r j y (inr ne) = h.admissions.empty r j (sym (there j ne) ∙ y)

        -- no packet of the eviction is left, and others are of other slots
        owned : (x : Message) (i t : ℕ) (k : List ℕ) → Among x rest → subject x.packet ≡ OfEviction i t → IsGiven k t (state_at (set s.controller.slots e.slot new) i) → (i ≡ e.slot) ⊎ (i ≡ e.slot → ⊥) → ⊥
        owned x i t k b y g (inl same) =
            let w = new_given k t kind (subst (IsGiven k t) here (subst (λ n. IsGiven k t (state_at (set s.controller.slots e.slot new) n)) same g)) in
            let mine : is_own e (subject x.packet) ≡ true = ap (is_own e) y ∙ (λ z. eq-eqb e.slot i (sym same) z && nat_eq e.tag t) ∙ eq-eqb e.tag t w.1 in
            true≢false (sym mine ∙ strange x b)
        owned x i t k b y g (inr ne) = let o = same_eviction i t (h.evictions.owned x i t k (takes.members x b) y (subst (IsGiven k t) (there i ne) g)) in ne (sym o.0)

        not_evicting : (k : List ℕ) (t : ℕ) → (new ≡ Free) ⊎ (new ≡ Held e.key e.tag) → new ≡ Evicting k t → ⊥
        not_evicting k t (inl f) y = let z : Free ≡ Evicting k t = sym f ∙ y in absurd cc
        not_evicting k t (inr f) y = let z : Held e.key e.tag ≡ Evicting k t = sym f ∙ y in absurd cc

        evicting : (i t : ℕ) (k : List ℕ) → state_at (set s.controller.slots e.slot new) i ≡ Evicting k t → (i ≡ e.slot) ⊎ (i ≡ e.slot → ⊥) → ⊥
        evicting i t k y (inl same) = not_evicting k t kind (sym here ∙ ap (state_at (set s.controller.slots e.slot new)) (sym same) ∙ y)
        evicting i t k y (inr ne) = let o = same_eviction i t (h.evictions.evicting i t k (sym (there i ne) ∙ y)) in ne (sym o.0)

        emptied : s.running ≡ true → (x : Message) → Among x s.bag → Emptied s.switch (record (with_state s.controller e.slot new) { eviction = None; wants = ws }) x.packet
        emptied r x b = of x.packet (h.evictions.emptied r x b)
          where
            of : (p : Packet) → Emptied s.switch s.controller p → Emptied s.switch (record (with_state s.controller e.slot new) { eviction = None; wants = ws }) p
            of (RemoveAns i t done latest num body) f = λ d k g. f d k (given i t k g (cases_eq i e.slot))
            of _ f = tt

-- What lasts where a step touches nothing of admissions, of evictions, of snapshots or of rounds.
use Rattle.far_invariants.specs.Slots.{IsGiven, is_admission_of, admits_under, admission_count}
use Rattle.std.proofs.Common.{◌≡◌, ℕ, ◌≤◌, ◌<◌, ◌⊎◌, inl, inr, true, false, true≢false, List, refl, sym, ap, ◌∙◌, subst, arith, le_trans}
use Rattle.std.specs.Prelude.{Option, None, Some, slice_index_or}
use Rattle.std.specs.List.{count_by}
use Rattle.far_base.specs.PlanView.{PlanView}
use Rattle.far_base.specs.declared.packet.Message.{Message}
use Rattle.far_base.specs.declared.packet.Packet.{Packet}
use Rattle.far_base.specs.declared.packet.Packet.TheVariants.{Admit, AdmitAck, RemoveAns, Ask, Told, TopAsk, TopIs}
use Rattle.far_base.specs.declared.party.Party.{Party}
use Rattle.far_base.specs.declared.slot_state.SlotState.TheVariants.{Free, Admitting, Evicting}
use Rattle.far_model.specs.Controller.{ControllerState}
use Rattle.far_model.specs.Events.{is_switch}
use Rattle.far_model.specs.Evictions.{Eviction, state_at}
use Rattle.far_invariants.specs.Flights.{Subject, OfOperation, OfAdmission, OfEviction, OfJob, OfSnapshot, OfRound, OfNone, subject}
use Rattle.far_model.specs.Members.{Among}
use Rattle.far_model.specs.Rounds.{Round}
use Rattle.far_model.specs.State.{State}
use Rattle.far_model.specs.View.{SwitchView, slot_at}
use Rattle.far_invariants.specs.InFlight.{AdmissionFits, AdmissionMeets, AdmissionsFly, Emptied, EvictionsFly, FitsDue, IsAsked, IsEvicted, IsTelling, OwnFlies, RoundFlies, RoundsFly, SnapshotsFly, is_ask, is_job_from, is_own, is_told, is_top}
use Rattle.flight_laws.proofs.Moves.{Moves, of_admission, of_eviction, of_round, of_snapshot}

-- ---- admissions

pub no_admission : (i epoch : ℕ) (p : Packet) → of_admission (subject p) ≡ false → is_admission_of i epoch p ≡ false
no_admission i epoch (Admit own j key tag) h = absurd (true≢false h)
no_admission i epoch (AdmitAck j tag) h = absurd (true≢false h)
no_admission i epoch _ h = refl

pub no_tag : (tag : ℕ) (p : Packet) → of_admission (subject p) ≡ false → admits_under tag p ≡ false
no_tag tag (Admit own j key t) h = absurd (true≢false h)
no_tag tag _ h = refl

pub fits_any : (c : ControllerState) (p : Packet) → of_admission (subject p) ≡ false → AdmissionFits c p
fits_any c (Admit own j key t) h = absurd (true≢false h)
fits_any c (AdmitAck j t) h = absurd (true≢false h)
fits_any c _ h = tt

pub meets_any : (v : SwitchView) (epoch : ℕ) (p : Packet) → of_admission (subject p) ≡ false → AdmissionMeets v epoch p
meets_any v epoch (Admit own j key t) h = absurd (true≢false h)
meets_any v epoch (AdmitAck j t) h = absurd (true≢false h)
meets_any v epoch _ h = tt

pub record SameAdmissions (s t : State) : Type 0 where
  pub moves : Moves of_admission s.bag t.bag
  pub epoch : t.controller.epoch ≡ s.controller.epoch
  pub round : t.controller.round ≡ None → s.controller.round ≡ None
  pub running : t.running ≡ true → s.running ≡ true
  pub tags : s.controller.next_tag ≤ t.controller.next_tag
  pub given : (i tag : ℕ) (key : List ℕ) → IsGiven key tag (state_at t.controller.slots i) → IsGiven key tag (state_at s.controller.slots i)
  pub admitting : (i tag : ℕ) (key : List ℕ) → state_at s.controller.slots i ≡ Admitting key tag → state_at t.controller.slots i ≡ Admitting key tag
  pub count : (i : ℕ) → admission_count (state_at t.controller.slots i) ≡ admission_count (state_at s.controller.slots i)
  pub empty : t.running ≡ true → (i : ℕ) → state_at t.controller.slots i ≡ Free → (slot_at t.switch i).valid ≡ false
  pub meets : t.running ≡ true → (m : Message) → Among m s.bag → AdmissionMeets s.switch s.controller.epoch m.packet → AdmissionMeets t.switch t.controller.epoch m.packet

pub admissions_last : (s t : State) → AdmissionsFly s → SameAdmissions s t → AdmissionsFly t
admissions_last s t h same = record {
  given = λ i tag key g. le_trans (h.given i tag key (same.given i tag key g)) same.tags;
  drawn = λ m i tag a e. drawn m i tag e (same.moves.news m a);
  fits = λ m a. fits m (same.moves.news m a);
  meets = λ r m a. meets r m (same.moves.news m a);
  one = λ none i. ap (λ e. count_by (λ (m : Message). is_admission_of i e m.packet) t.bag) same.epoch
      ∙ same.moves.count (λ (m : Message). is_admission_of i s.controller.epoch m.packet) (λ m off. no_admission i s.controller.epoch m.packet off) ∙ h.one (same.round none) i ∙ sym (same.count i);
  once = λ tag. subst (λ n. n ≤ 1) (sym (same.moves.count (λ (m : Message). admits_under tag m.packet) (λ m off. no_tag tag m.packet off))) (h.once tag);
  empty = same.empty;
}
  where
    drawn : (m : Message) (i tag : ℕ) → subject m.packet ≡ OfAdmission i tag → Among m s.bag ⊎ (of_admission (subject m.packet) ≡ false) → tag < t.controller.next_tag
    drawn m i tag e (inl a) = le_trans (h.drawn m i tag a e) same.tags
    drawn m i tag e (inr off) = absurd (true≢false (ap of_admission (sym e) ∙ off))

    still : (p : Packet) → AdmissionFits s.controller p → AdmissionFits t.controller p
    still (Admit epoch i key tag) f = λ none e. same.admitting i tag key (f (same.round none) (e ∙ same.epoch))
    still (AdmitAck i tag) f = (f.0, same.admitting i tag f.0 f.1)
    still _ f = tt

    fits : (m : Message) → Among m s.bag ⊎ (of_admission (subject m.packet) ≡ false) → AdmissionFits t.controller m.packet
    fits m (inl a) = still m.packet (h.fits m a)
    fits m (inr off) = fits_any t.controller m.packet off

    meets : t.running ≡ true → (m : Message) → Among m s.bag ⊎ (of_admission (subject m.packet) ≡ false) → AdmissionMeets t.switch t.controller.epoch m.packet
    meets r m (inl a) = same.meets r m a (h.meets (same.running r) m a)
    meets r m (inr off) = meets_any t.switch t.controller.epoch m.packet off

-- slots with the same owners
pub record SameOwners (v w : SwitchView) : Type 0 where
  pub valid : (i : ℕ) → (slot_at w i).valid ≡ (slot_at v i).valid
  pub tag : (i : ℕ) → (slot_at w i).tag ≡ (slot_at v i).tag

pub owners_refl : (v : SwitchView) → SameOwners v v
owners_refl v = record { valid = λ i. refl; tag = λ i. refl }

pub meets_still : (v w : SwitchView) (epoch : ℕ) (p : Packet) → SameOwners v w → AdmissionMeets v epoch p → AdmissionMeets w epoch p
meets_still v w epoch (Admit own i key tag) same h = λ e. same.valid i ∙ h e
meets_still v w epoch (AdmitAck i tag) same h = (same.valid i ∙ h.0, same.tag i ∙ h.1)
meets_still v w epoch _ same h = tt

-- where neither the controller's slots nor the owners change
pub plain_admissions : (s t : State) → AdmissionsFly s → Moves of_admission s.bag t.bag → t.controller.epoch ≡ s.controller.epoch → (t.controller.round ≡ None → s.controller.round ≡ None) → (t.running ≡ true → s.running ≡ true)
    → s.controller.next_tag ≤ t.controller.next_tag → t.controller.slots ≡ s.controller.slots → SameOwners s.switch t.switch → AdmissionsFly t
plain_admissions s t h moves epoch round running tags slots owners = admissions_last s t h (record {
  moves = moves;
  epoch = epoch;
  round = round;
  running = running;
  tags = tags;
  given = λ i tag key g. subst (λ l. IsGiven key tag (state_at l i)) slots g;
  admitting = λ i tag key e. ap (λ l. state_at l i) slots ∙ e;
  count = λ i. ap (λ l. admission_count (state_at l i)) slots;
  empty = λ r i e. owners.valid i ∙ h.empty (running r) i (ap (λ l. state_at l i) (sym slots) ∙ e);
  meets = λ r m a f. subst (λ e. AdmissionMeets t.switch e m.packet) (sym epoch) (meets_still s.switch t.switch s.controller.epoch m.packet owners f);
})

-- ---- evictions

pub not_own : (e : Eviction) (sub : Subject) → of_eviction sub ≡ false → is_own e sub ≡ false
not_own e (OfEviction i tag) h = absurd (true≢false h)
not_own e (OfJob job) h = absurd (true≢false h)
not_own e (OfOperation caller op) h = refl
not_own e (OfAdmission slot tag) h = refl
not_own e (OfSnapshot id) h = refl
not_own e (OfRound round) h = refl
not_own e OfNone h = refl

pub emptied_any : (v : SwitchView) (c : ControllerState) (p : Packet) → of_eviction (subject p) ≡ false → Emptied v c p
emptied_any v c (RemoveAns i tag done latest num body) h = absurd (true≢false h)
emptied_any v c _ h = tt

pub record SameEvictions (s t : State) : Type 0 where
  pub moves : Moves of_eviction s.bag t.bag
  pub epoch : t.controller.epoch ≡ s.controller.epoch
  pub eviction : t.controller.eviction ≡ s.controller.eviction
  pub running : t.running ≡ true → s.running ≡ true
  pub tags : s.controller.next_tag ≤ t.controller.next_tag
  pub jobs : s.controller.next_job ≤ t.controller.next_job
  pub given : (i tag : ℕ) (key : List ℕ) → IsGiven key tag (state_at t.controller.slots i) → IsGiven key tag (state_at s.controller.slots i) ⊎ (s.controller.next_tag ≤ tag)
  pub evicting : (i tag : ℕ) (key : List ℕ) → state_at t.controller.slots i ≡ Evicting key tag → state_at s.controller.slots i ≡ Evicting key tag
  pub still : (i tag : ℕ) (key : List ℕ) → state_at s.controller.slots i ≡ Evicting key tag → state_at t.controller.slots i ≡ Evicting key tag
  -- what an eviction has emptied stays empty
  pub emptied : t.running ≡ true → (i tag : ℕ) (key : List ℕ) → state_at s.controller.slots i ≡ Evicting key tag → (slot_at s.switch i).valid ≡ false → (slot_at t.switch i).valid ≡ false

pub evictions_last : (s t : State) → EvictionsFly s → SameEvictions s t → EvictionsFly t
evictions_last s t h same = record {
  tags = λ m i tag a e. tags m i tag e (same.moves.news m a);
  jobs = λ m job a e. jobs m job e (same.moves.news m a);
  owned = λ m i tag key a e g. owned m i tag key e (same.moves.news m a) (same.given i tag key g);
  evicting = λ i tag key e. evicted i tag (h.evicting i tag key (same.evicting i tag key e));
  flies = flies s.controller.eviction h.flies t.controller.eviction same.eviction;
  emptied = λ r m a. emptied r m (same.moves.news m a);
}
  where
    evicted : (i tag : ℕ) → IsEvicted s.controller i tag → IsEvicted t.controller i tag
    evicted i tag o = record { eviction = o.eviction; is = same.eviction ∙ o.is; slot = o.slot; tag_is = o.tag_is }

    tags : (m : Message) (i tag : ℕ) → subject m.packet ≡ OfEviction i tag → Among m s.bag ⊎ (of_eviction (subject m.packet) ≡ false) → tag < t.controller.next_tag
    tags m i tag e (inl a) = le_trans (h.tags m i tag a e) same.tags
    tags m i tag e (inr off) = absurd (true≢false (ap of_eviction (sym e) ∙ off))

    jobs : (m : Message) (job : ℕ) → subject m.packet ≡ OfJob job → Among m s.bag ⊎ (of_eviction (subject m.packet) ≡ false) → job < t.controller.next_job
    jobs m job e (inl a) = le_trans (h.jobs m job a e) same.jobs
    jobs m job e (inr off) = absurd (true≢false (ap of_eviction (sym e) ∙ off))

    owned : (m : Message) (i tag : ℕ) (key : List ℕ) → subject m.packet ≡ OfEviction i tag → Among m s.bag ⊎ (of_eviction (subject m.packet) ≡ false) → IsGiven key tag (state_at s.controller.slots i) ⊎ (s.controller.next_tag ≤ tag) → IsEvicted t.controller i tag
    owned m i tag key e (inl a) (inl g) = evicted i tag (h.owned m i tag key a e g)
    owned m i tag key e (inl a) (inr new) = let b = h.tags m i tag a e in absurd (omega (arith, b, new))
    owned m i tag key e (inr off) g = absurd (true≢false (ap of_eviction (sym e) ∙ off))

    flies : (o : Option Eviction) → OwnFlies s.controller s.bag o → (p : Option Eviction) → p ≡ o → OwnFlies t.controller t.bag p
    flies None f p e = subst (OwnFlies t.controller t.bag) (sym e) tt
    flies (Some x) f p e = subst (OwnFlies t.controller t.bag) (sym e) (
      record {
        state = same.still x.slot x.tag x.key (f.0).state;
        epoch = (f.0).epoch ∙ sym same.epoch;
        tries = (f.0).tries;
        job = λ d. le_trans ((f.0).job d) same.jobs;
      },
      same.moves.count (λ (m : Message). is_own x (subject m.packet)) (λ m off. not_own x (subject m.packet) off) ∙ f.1,
      λ m a own. fits m own (same.moves.news m a),
    )
      where
        fits : (m : Message) → is_own x (subject m.packet) ≡ true → Among m s.bag ⊎ (of_eviction (subject m.packet) ≡ false) → FitsDue t.controller.epoch x m.packet
        fits m own (inl a) = subst (λ n. FitsDue n x m.packet) (sym same.epoch) (f.2 m a own)
        fits m own (inr off) = absurd (true≢false (sym own ∙ not_own x (subject m.packet) off))

    emptied : t.running ≡ true → (m : Message) → Among m s.bag ⊎ (of_eviction (subject m.packet) ≡ false) → Emptied t.switch t.controller m.packet
    emptied r m (inr off) = emptied_any t.switch t.controller m.packet off
    emptied r m (inl a) = of m.packet refl (h.emptied (same.running r) m a)
      where
        of : (p : Packet) → m.packet ≡ p → Emptied s.switch s.controller p → Emptied t.switch t.controller p
        of (RemoveAns i tag done latest num body) k f = λ d key g. at d key (same.given i tag key g)
          where
            at : done ≡ true → (key : List ℕ) → IsGiven key tag (state_at s.controller.slots i) ⊎ (s.controller.next_tag ≤ tag) → (slot_at t.switch i).valid ≡ false
            at d key (inr new) = let b = h.tags m i tag a (ap subject k) in absurd (omega (arith, b, new))
            at d key (inl old) =
                let o = h.owned m i tag key a (ap subject k) old in
                let is = (subst (OwnFlies s.controller s.bag) o.is h.flies).0 in
                let st : state_at s.controller.slots i ≡ Evicting o.eviction.key o.eviction.tag = ap (state_at s.controller.slots) (sym o.slot) ∙ is.state in
                same.emptied r i o.eviction.tag o.eviction.key st (f d key old)
        of _ k f = tt

-- where the controller's slots stay
pub plain_evictions : (s t : State) → EvictionsFly s → Moves of_eviction s.bag t.bag → t.controller.epoch ≡ s.controller.epoch → t.controller.eviction ≡ s.controller.eviction → (t.running ≡ true → s.running ≡ true)
    → s.controller.next_tag ≤ t.controller.next_tag → s.controller.next_job ≤ t.controller.next_job → t.controller.slots ≡ s.controller.slots → SameOwners s.switch t.switch → EvictionsFly t
plain_evictions s t h moves epoch eviction running tags jobs slots owners = evictions_last s t h (record {
  moves = moves;
  epoch = epoch;
  eviction = eviction;
  running = running;
  tags = tags;
  jobs = jobs;
  given = λ i tag key g. inl (subst (λ l. IsGiven key tag (state_at l i)) slots g);
  evicting = λ i tag key e. ap (λ l. state_at l i) (sym slots) ∙ e;
  still = λ i tag key e. ap (λ l. state_at l i) slots ∙ e;
  emptied = λ r i tag key st off. owners.valid i ∙ off;
})

-- ---- snapshots

pub record SameSnapshots (s t : State) : Type 0 where
  pub moves : Moves of_snapshot s.bag t.bag
  pub epoch : t.controller.epoch ≡ s.controller.epoch
  pub job : t.controller.job ≡ s.controller.job
  pub running : t.running ≡ true → s.running ≡ true
  pub ids : s.controller.next_id ≤ t.controller.next_id
  pub snap : t.switch.snap ≡ s.switch.snap
  pub taken : t.switch.taken ≡ s.switch.taken

pub snapshots_last : (plan : PlanView) (s t : State) → SnapshotsFly plan s → SameSnapshots s t → SnapshotsFly plan t
snapshots_last plan s t h same = record {
  ids = λ m id a e. ids m id e (same.moves.news m a);
  snap = subst (λ n. n < t.controller.next_id) (sym same.snap) (le_trans h.snap same.ids);
  taken = λ i. subst (λ l. slice_index_or l i 0 < t.controller.next_id) (sym same.taken) (le_trans (h.taken i) same.ids);
}
  where
    ids : (m : Message) (id : ℕ) → subject m.packet ≡ OfSnapshot id → Among m s.bag ⊎ (of_snapshot (subject m.packet) ≡ false) → id < t.controller.next_id
    ids m id e (inl a) = le_trans (h.ids m id a e) same.ids
    ids m id e (inr off) = absurd (true≢false (ap of_snapshot (sym e) ∙ off))

-- ---- rounds

pub no_ask : (number c : ℕ) (to : Party) (p : Packet) → of_round (subject p) ≡ false → is_ask number c to p ≡ false
no_ask number c to (Ask round) h = absurd (true≢false h)
no_ask number c to _ h = refl

pub no_told : (number c : ℕ) (p : Packet) → of_round (subject p) ≡ false → is_told number c p ≡ false
no_told number c (Told round caller total item) h = absurd (true≢false h)
no_told number c _ h = refl

pub no_top : (number n : ℕ) (to : Party) (p : Packet) → of_round (subject p) ≡ false → is_top number n to p ≡ false
no_top number n to (TopAsk round) h = absurd (true≢false h)
no_top number n to (TopIs round server top) h = absurd (true≢false h)
no_top number n to _ h = refl

pub no_job : (first : ℕ) (sub : Subject) → of_round sub ≡ false → is_job_from first sub ≡ false
no_job first (OfJob job) h = absurd (true≢false h)
no_job first (OfEviction i tag) h = refl
no_job first (OfOperation caller op) h = refl
no_job first (OfAdmission slot tag) h = refl
no_job first (OfSnapshot id) h = refl
no_job first (OfRound round) h = refl
no_job first OfNone h = refl

pub record SameRounds (s t : State) : Type 0 where
  pub moves : Moves of_round s.bag t.bag
  pub sources : (m : Message) → Among m t.bag → Among m s.bag ⊎ (is_switch m.from ≡ false)
  pub running : t.running ≡ s.running
  pub round : t.controller.round ≡ s.controller.round
  pub numbers : s.controller.next_round ≤ t.controller.next_round
  pub jobs : s.controller.next_job ≤ t.controller.next_job
  pub slots : t.controller.slots ≡ s.controller.slots
  pub wants : t.controller.wants ≡ s.controller.wants
  pub eviction : t.controller.eviction ≡ s.controller.eviction
  pub job : t.controller.job ≡ s.controller.job

numbers_last : (s t : State) → Moves of_round s.bag t.bag → s.controller.next_round ≤ t.controller.next_round → ((m : Message) (number : ℕ) → Among m s.bag → subject m.packet ≡ OfRound number → number < s.controller.next_round)
    → (m : Message) (number : ℕ) → Among m t.bag → subject m.packet ≡ OfRound number → number < t.controller.next_round
numbers_last s t moves le h m number a e = go (moves.news m a)
  where
    go : Among m s.bag ⊎ (of_round (subject m.packet) ≡ false) → number < t.controller.next_round
    go (inl b) = le_trans (h m number b e) le
    go (inr off) = absurd (true≢false (ap of_round (sym e) ∙ off))

pub rounds_last : (plan : PlanView) (s t : State) → RoundsFly plan s → SameRounds s t → RoundsFly plan t
rounds_last plan s t h same = record {
  numbers = numbers_last s t same.moves same.numbers h.numbers;
  round = subst (RoundFlies plan t) (sym same.round) (round s.controller.round h.round);
}
  where
    round : (o : Option Round) → RoundFlies plan s o → RoundFlies plan t o
    round None f = tt
    round (Some r) f = record {
      running = same.running ∙ f.running;
      quiet = λ m a. quiet m (same.sources m a);
      free = λ i. ap (λ l. state_at l i) same.slots ∙ f.free i;
      wants = same.wants ∙ f.wants;
      eviction = same.eviction ∙ f.eviction;
      job = same.job ∙ f.job;
      number = le_trans f.number same.numbers;
      first_job = le_trans f.first_job same.jobs;
      told_size = f.told_size;
      tops_size = f.tops_size;
      waits = f.waits;
      asked = f.asked;
      untold = f.untold;
      stores = same.moves.count (λ (m : Message). is_job_from r.first_job (subject m.packet)) (λ m off. no_job r.first_job (subject m.packet) off) ∙ f.stores;
      tellings = λ c b. tells c (f.tellings c b);
      tops = λ n b. same.moves.count (λ (m : Message). is_top r.number n m.to m.packet) (λ m off. no_top r.number n m.to m.packet off) ∙ f.tops n b;
    }
      where
        quiet : (m : Message) → Among m s.bag ⊎ (is_switch m.from ≡ false) → is_switch m.from ≡ false
        quiet m (inl a) = f.quiet m a
        quiet m (inr e) = e

        asks : (c : ℕ) → count_by (λ (m : Message). is_ask r.number c m.to m.packet) t.bag ≡ count_by (λ (m : Message). is_ask r.number c m.to m.packet) s.bag
        asks c = same.moves.count (λ (m : Message). is_ask r.number c m.to m.packet) (λ m off. no_ask r.number c m.to m.packet off)

        tolds : (c : ℕ) → count_by (λ (m : Message). is_told r.number c m.packet) t.bag ≡ count_by (λ (m : Message). is_told r.number c m.packet) s.bag
        tolds c = same.moves.count (λ (m : Message). is_told r.number c m.packet) (λ m off. no_told r.number c m.packet off)

        tells : (c : ℕ) → IsAsked s.bag r c ⊎ IsTelling s.bag r c → IsAsked t.bag r c ⊎ IsTelling t.bag r c
        tells c (inl k) = inl (record { asked = asks c ∙ k.asked; told = tolds c ∙ k.told; none = k.none })
        tells c (inr k) = inr (record { total = k.total; asked = asks c ∙ k.asked; told = let e = tolds c in let b = k.told in omega (arith, e, b); same = λ m a e. total m e (same.moves.news m a); known = k.known })
          where
            total : (m : Message) → is_told r.number c m.packet ≡ true → Among m s.bag ⊎ (of_round (subject m.packet) ≡ false) → Rattle.far_invariants.specs.InFlight.TotalIs k.total m.packet
            total m e (inl a) = k.same m a e
            total m e (inr off) = absurd (true≢false (sym e ∙ no_told r.number c m.packet off))

-- outside a round only the numbers of packets count
pub no_round : (plan : PlanView) (s t : State) → RoundsFly plan s → ((m : Message) (number : ℕ) → Among m t.bag → subject m.packet ≡ OfRound number → Among m s.bag) → s.controller.next_round ≤ t.controller.next_round → t.controller.round ≡ None → RoundsFly plan t
no_round plan s t h olds numbers none = record {
  numbers = λ m number a e. le_trans (h.numbers m number (olds m number a e) e) numbers;
  round = subst (RoundFlies plan t) (sym none) tt;
}

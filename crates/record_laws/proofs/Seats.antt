-- Slots and their owners, and admissions on their way.
use Rattle.far_invariants.specs.Slots.{IsSlotOf, FitsState, IsGiven, SlotsAreOwned, AdmissionIs, is_admission_of, admits_under, admission_count, AdmissionsInFlight}
use Rattle.std.proofs.Common.{◌≡◌, ℕ, ◌+◌, ◌≤◌, ◌⊎◌, inl, inr, Bool, true, false, cond, List, [], ◌∷◌, ◌++◌, length, set, get_or, refl, sym, ap, ◌∙◌, subst, arith, le_trans}
use Rattle.std.specs.Prelude.{Option, Some, None, if◌then◌else◌, ◌&&◌, slice_get}
use Rattle.std.specs.List.{remove, count_by}
use Rattle.std.proofs.lemmas.Option.{same_Some, slice_get_within, get_or_from_slice_get}
use Rattle.std.proofs.lemmas.List.{length-set}
use Rattle.std.proofs.lemmas.List.Sums.{sum_by-remove, sum_by-append, sum_by-cons}
use Rattle.far_base.specs.PlanView.{PlanView}
use Rattle.far_base.specs.declared.packet.Message.{Message}
use Rattle.far_base.specs.declared.packet.Packet.{Packet}
use Rattle.far_base.specs.declared.packet.Packet.TheVariants.{Admit, AdmitAck}
use Rattle.far_base.specs.declared.slot_state.SlotState.{SlotState}
use Rattle.far_base.specs.declared.slot_state.SlotState.TheVariants.{Free, Admitting, Held, Evicting}
use Rattle.far_model.specs.Evictions.{state_at}
use Rattle.far_model.specs.Members.{Among}
use Rattle.far_model.specs.State.{State}
use Rattle.far_model.specs.View.{SlotView, SwitchView, slot_at, empty_slot, is_key_there, bound_place, entry_if, entry_place}
use Rattle.far_model.proofs.Members.{among_append, among_remove}
use Rattle.flight_laws.proofs.Lists.{set_field}

-- ---- counts

abbrev pub counted : {A : Type 0} → (A → Bool) → A → ℕ
counted p x = cond {A = ℕ} (p x) 1 0

pub count_removed : {A : Type 0} (p : A → Bool) (xs : List A) (i : ℕ) (x : A) → slice_get xs i ≡ Some x → count_by p (remove xs i) + counted p x ≡ count_by p xs
count_removed p xs i x h =
    let sum = sum_by-remove (λ y. cond {A = ℕ} (p y) 1 0) xs i x (slice_get_within xs i x h) in
    ap (λ y. count_by p (remove xs i) + counted p y) (sym (get_or_from_slice_get xs i x x h)) ∙ sum

pub count_append : {A : Type 0} (p : A → Bool) (xs ys : List A) → count_by p (xs ++ ys) ≡ count_by p xs + count_by p ys
count_append p xs ys = sum_by-append (λ y. cond {A = ℕ} (p y) 1 0) xs ys

pub count_one : {A : Type 0} (p : A → Bool) (x : A) → count_by p (x ∷ []) ≡ counted p x
count_one p x = omega arith

pub count_none : {A : Type 0} (p : A → Bool) (xs : List A) → ((x : A) → Among x xs → p x ≡ false) → count_by p xs ≡ 0
count_none p [] h = refl
count_none p (x ∷ xs) h =
    let rest = count_none p xs (λ y a. h y (inr a)) in
    let first : counted p x ≡ 0 = ap (λ b. cond {A = ℕ} b 1 0) (h x (inl refl)) in
    sum_by-cons (λ y. cond {A = ℕ} (p y) 1 0) x xs ∙ omega (arith, rest, first)

-- ---- packets of admissions

abbrev pub is_admission_packet : Packet → Bool
is_admission_packet (Admit epoch i key tag) = true
is_admission_packet (AdmitAck i tag) = true
is_admission_packet _ = false

pub no_admission_of : (i epoch : ℕ) (p : Packet) → is_admission_packet p ≡ false → is_admission_of i epoch p ≡ false
no_admission_of i epoch (Admit own j key tag) h = absurd cc
no_admission_of i epoch (AdmitAck j tag) h = absurd cc
no_admission_of i epoch _ h = refl

pub admits_no_tag : (tag : ℕ) (p : Packet) → is_admission_packet p ≡ false → admits_under tag p ≡ false
admits_no_tag tag (Admit own j key t) h = absurd cc
admits_no_tag tag _ h = refl

pub admission_any : (s : State) (p : Packet) → is_admission_packet p ≡ false → AdmissionIs s p
admission_any s (Admit own j key t) h = absurd cc
admission_any s (AdmitAck j t) h = absurd cc
admission_any s _ h = tt

-- ---- slots that have the same owner

pub record SameOwner (a b : SlotView) : Type 0 where
  pub valid : a.valid ≡ b.valid
  pub key : a.key ≡ b.key
  pub tag : a.tag ≡ b.tag

pub record SameSlots (v w : SwitchView) : Type 0 where
  pub bound : w.bound ≡ v.bound
  pub epoch : w.epoch ≡ v.epoch
  pub size : length w.slots ≡ length v.slots
  pub owners : (i : ℕ) → SameOwner (slot_at w i) (slot_at v i)

slot_of_same : (key : List ℕ) (tag : ℕ) (a b : SlotView) → SameOwner a b → IsSlotOf key tag b → IsSlotOf key tag a
slot_of_same key tag a b same h = (same.valid ∙ h.0, same.key ∙ h.1, same.tag ∙ h.2)

valid_or_of : (key : List ℕ) (tag : ℕ) (a b : SlotView) → SameOwner a b → (b.valid ≡ false) ⊎ IsSlotOf key tag b → (a.valid ≡ false) ⊎ IsSlotOf key tag a
valid_or_of key tag a b same (inl h) = inl (same.valid ∙ h)
valid_or_of key tag a b same (inr h) = inr (slot_of_same key tag a b same h)

pub fits_same : (a b : SlotView) (st : SlotState) → SameOwner a b → FitsState b st → FitsState a st
fits_same a b Free same h = same.valid ∙ h
fits_same a b (Admitting key tag) same h = valid_or_of key tag a b same h
fits_same a b (Held key tag) same h = slot_of_same key tag a b same h
fits_same a b (Evicting key tag) same h = valid_or_of key tag a b same h

pub place_same : (v w : SwitchView) → SameSlots v w → (key : List ℕ) → entry_place key w ≡ entry_place key v
place_same v w same key = ap (λ b. entry_if key w (bound_place key b)) same.bound ∙ go (bound_place key v.bound)
  where
    go : (o : Option ℕ) → entry_if key w o ≡ entry_if key v o
    go None = refl
    go (Some j) =
        let o = same.owners j in
        ap (λ b. if b && is_key_there key (slot_at w j).key then Some j else None) o.valid ∙ ap (λ k. if (slot_at v j).valid && is_key_there key k then Some j else None) o.key

-- a valid slot is given to its key
of_seat : (key own : List ℕ) (tag own_tag : ℕ) (slot : SlotView) → (slot.valid ≡ false) ⊎ IsSlotOf own own_tag slot → slot.valid ≡ true → slot.key ≡ Some key → (own ≡ key) × (own_tag ≡ slot.tag)
of_seat key own tag own_tag slot (inl off) valid k = absurd (let e : true ≡ false = sym valid ∙ off in cc)
of_seat key own tag own_tag slot (inr h) valid k = (same_Some own key (sym h.1 ∙ k), sym h.2)

pub owner : (slot : SlotView) (st : SlotState) (key : List ℕ) → FitsState slot st → slot.valid ≡ true → slot.key ≡ Some key → IsGiven key slot.tag st
owner slot Free key h valid k = absurd (let e : true ≡ false = sym valid ∙ h in cc)
owner slot (Admitting own tag) key h valid k = of_seat key own tag tag slot h valid k
owner slot (Held own tag) key h valid k = of_seat key own tag tag slot (inr h) valid k
owner slot (Evicting own tag) key h valid k = of_seat key own tag tag slot h valid k

-- ---- what the induction carries of slots

pub record Seats (plan : PlanView) (s : State) : Type 0 where
  pub running : s.running ≡ true
  pub slots : SlotsAreOwned plan s
  pub admissions : AdmissionsInFlight s

-- a step that changes no owner and sends no admission
pub record SameSeats (s t : State) : Type 0 where
  pub running : t.running ≡ s.running
  pub slots : SameSlots s.switch t.switch
  pub epoch : t.controller.epoch ≡ s.controller.epoch
  pub states : t.controller.slots ≡ s.controller.slots
  pub tags : s.controller.next_tag ≤ t.controller.next_tag
  pub news : (m : Message) → Among m t.bag → Among m s.bag ⊎ (is_admission_packet m.packet ≡ false)
  pub one : (i : ℕ) → count_by (λ (m : Message). is_admission_of i s.controller.epoch m.packet) t.bag ≡ count_by (λ (m : Message). is_admission_of i s.controller.epoch m.packet) s.bag
  pub once : (tag : ℕ) → count_by (λ (m : Message). admits_under tag m.packet) t.bag ≤ count_by (λ (m : Message). admits_under tag m.packet) s.bag

admission_lasts : (s t : State) → SameSeats s t → (p : Packet) → AdmissionIs s p → AdmissionIs t p
admission_lasts s t same (Admit epoch i key tag) h = (
  let b = h.0 in let more = same.tags in omega (arith, b, more),
  λ e. let p = h.1 (e ∙ same.epoch) in (ap (λ l. state_at l i) same.states ∙ p.0, (same.slots.owners i).valid ∙ p.1),
)
admission_lasts s t same (AdmitAck i tag) h = (h.0, ap (λ l. state_at l i) same.states ∙ h.1, (same.slots.owners i).valid ∙ h.2)
admission_lasts s t same _ h = tt

pub seats_last : (plan : PlanView) (s t : State) → Seats plan s → SameSeats s t → Seats plan t
seats_last plan s t h same = record {
  running = same.running ∙ h.running;
  slots = record {
    epoch = same.slots.epoch ∙ h.slots.epoch ∙ sym same.epoch;
    bounds = ap length same.slots.bound ∙ h.slots.bounds;
    slots = same.slots.size ∙ h.slots.slots;
    states = ap length same.states ∙ h.slots.states;
    fits = λ i. subst (λ l. FitsState (slot_at t.switch i) (state_at l i)) (sym same.states) (fits_same (slot_at t.switch i) (slot_at s.switch i) (state_at s.controller.slots i) (same.slots.owners i) (h.slots.fits i));
    apart = λ i j key other tag own ne a b. h.slots.apart i j key other tag own ne (subst (λ l. IsGiven key tag (state_at l i)) same.states a) (subst (λ l. IsGiven other own (state_at l j)) same.states b);
    drawn = λ i key tag a. let b = h.slots.drawn i key tag (subst (λ l. IsGiven key tag (state_at l i)) same.states a) in let more = same.tags in omega (arith, b, more);
    owned = λ i key valid k. place_same s.switch t.switch same.slots key ∙ h.slots.owned i key (sym (same.slots.owners i).valid ∙ valid) (sym (same.slots.owners i).key ∙ k);
  };
  admissions = record {
    packets = λ m a. packet m (same.news m a);
    one = λ i. ap (λ e. count_by (λ (m : Message). is_admission_of i e m.packet) t.bag) same.epoch ∙ same.one i ∙ h.admissions.one i ∙ ap (λ l. admission_count (state_at l i)) (sym same.states);
    once = λ tag. le_trans (same.once tag) (h.admissions.once tag);
  };
}
  where
    packet : (m : Message) → Among m s.bag ⊎ (is_admission_packet m.packet ≡ false) → AdmissionIs t m.packet
    packet m (inl a) = admission_lasts s t same m.packet (h.admissions.packets m a)
    packet m (inr off) = admission_any t m.packet off

-- the bag of a step that takes one message that is no admission, and sends none
pub record SameBag (s t : State) : Type 0 where
  pub news : (m : Message) → Among m t.bag → Among m s.bag ⊎ (is_admission_packet m.packet ≡ false)
  pub count : (p : Packet → Bool) → ((q : Packet) → is_admission_packet q ≡ false → p q ≡ false) → count_by (λ (m : Message). p m.packet) t.bag ≡ count_by (λ (m : Message). p m.packet) s.bag

pub bag_taken : (s t : State) (i : ℕ) (m : Message) (new : List Message) → slice_get s.bag i ≡ Some m → is_admission_packet m.packet ≡ false → t.bag ≡ remove s.bag i ++ new
    → ((n : Message) → Among n new → is_admission_packet n.packet ≡ false) → SameBag s t
bag_taken s t i m new at off e news = record {
  news = λ n a. go n (among_append n (remove s.bag i) new (subst (λ w. Among n w) e a));
  count = λ p none. count p none;
}
  where
    go : (n : Message) → Among n (remove s.bag i) ⊎ Among n new → Among n s.bag ⊎ (is_admission_packet n.packet ≡ false)
    go n (inl a) = inl (among_remove n s.bag i a)
    go n (inr a) = inr (news n a)

    count : (p : Packet → Bool) → ((q : Packet) → is_admission_packet q ≡ false → p q ≡ false) → count_by (λ (m : Message). p m.packet) t.bag ≡ count_by (λ (m : Message). p m.packet) s.bag
    count p none =
        let first = count_removed (λ (m : Message). p m.packet) s.bag i m at in
        let gone : counted (λ (m : Message). p m.packet) m ≡ 0 = ap (λ b. cond {A = ℕ} b 1 0) (none m.packet off) in
        let more = count_append (λ (m : Message). p m.packet) (remove s.bag i) new in
        let nothing = count_none (λ (m : Message). p m.packet) new (λ n a. none n.packet (news n a)) in
        ap (λ l. count_by (λ (m : Message). p m.packet) l) e ∙ omega (arith, first, gone, more, nothing)

pub bag_grown : (s t : State) (new : List Message) → t.bag ≡ s.bag ++ new → ((n : Message) → Among n new → is_admission_packet n.packet ≡ false) → SameBag s t
bag_grown s t new e news = record {
  news = λ n a. go n (among_append n s.bag new (subst (λ w. Among n w) e a));
  count = λ p none.
      let more = count_append (λ (m : Message). p m.packet) s.bag new in
      let nothing = count_none (λ (m : Message). p m.packet) new (λ n a. none n.packet (news n a)) in
      ap (λ l. count_by (λ (m : Message). p m.packet) l) e ∙ omega (arith, more, nothing);
}
  where
    go : (n : Message) → Among n s.bag ⊎ Among n new → Among n s.bag ⊎ (is_admission_packet n.packet ≡ false)
    go n (inl a) = inl a
    go n (inr a) = inr (news n a)

pub same_seats : (s t : State) → t.running ≡ s.running → SameSlots s.switch t.switch → t.controller.epoch ≡ s.controller.epoch → t.controller.slots ≡ s.controller.slots → s.controller.next_tag ≤ t.controller.next_tag → SameBag s t → SameSeats s t
same_seats s t running slots epoch states tags bag = record {
  running = running;
  slots = slots;
  epoch = epoch;
  states = states;
  tags = tags;
  news = bag.news;
  one = λ i. bag.count (λ q. is_admission_of i s.controller.epoch q) (no_admission_of i s.controller.epoch);
  once = λ tag. let e = bag.count (λ q. admits_under tag q) (admits_no_tag tag) in omega (arith, e);
}

pub unchanged_slots : (v w : SwitchView) → w.bound ≡ v.bound → w.epoch ≡ v.epoch → w.slots ≡ v.slots → SameSlots v w
unchanged_slots v w b e s = record {
  bound = b;
  epoch = e;
  size = ap length s;
  owners = λ i. record { valid = ap (λ l. (get_or l i empty_slot).valid) s; key = ap (λ l. (get_or l i empty_slot).key) s; tag = ap (λ l. (get_or l i empty_slot).tag) s };
}

-- one slot is set, and has the owner that it had
pub set_slots : (v w : SwitchView) (i : ℕ) (slot : SlotView) → w.bound ≡ v.bound → w.epoch ≡ v.epoch → w.slots ≡ set v.slots i slot → SameOwner slot (slot_at v i) → SameSlots v w
set_slots v w i slot b e s same = record {
  bound = b;
  epoch = e;
  size = ap length s ∙ length-set v.slots i slot;
  owners = λ j. record {
    valid = ap (λ l. (get_or l j empty_slot).valid) s ∙ set_field (λ (x : SlotView). x.valid) v.slots i slot empty_slot same.valid j;
    key = ap (λ l. (get_or l j empty_slot).key) s ∙ set_field (λ (x : SlotView). x.key) v.slots i slot empty_slot same.key j;
    tag = ap (λ l. (get_or l j empty_slot).tag) s ∙ set_field (λ (x : SlotView). x.tag) v.slots i slot empty_slot same.tag j;
  };
}

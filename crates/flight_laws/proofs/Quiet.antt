-- Nothing can happen exactly where everything is done.
use Rattle.far_invariants.specs.Slots.{admission_count}
use Rattle.std.proofs.Common.{◌≡◌, ◌≢◌, ℕ, zero, suc, ◌≤◌, ◌<◌, ◌⊎◌, inl, inr, Bool, true, false, true≢false, cond, not, ◌&&◌, ◌||◌, nat_eq, nat_le, eqb-true, eq-eqb, max, List, [], ◌∷◌, ◌++◌, length, get_or, refl, sym, ap, ◌∙◌, subst, arith}
use Rattle.std.specs.Prelude.{Option, None, Some, is_some, slice_get, slice_index_or}
use Rattle.std.specs.List.{count_by, list_all, list_any}
use Rattle.std.proofs.lemmas.Bool.{and_parts, eqb-false, leb-false}
use Rattle.std.proofs.lemmas.Option.{none-some}
use Rattle.std.proofs.lemmas.List.Sums.{sum_by-take-drop}
use Rattle.far_base.specs.Limits.{IsPlan, due_number}
use Rattle.far_base.specs.PlanView.{PlanView}
use Rattle.far_base.specs.declared.event.Event.{Event}
use Rattle.far_base.specs.declared.event.Event.TheVariants.{Send, Deliver, Tick, Recover, Restart}
use Rattle.far_base.specs.declared.packet.Message.{Message}
use Rattle.far_base.specs.declared.packet.Packet.{Packet}
use Rattle.far_base.specs.declared.packet.Packet.TheVariants.{GetReq, WriteReq, GetFwd, WriteFwd, GetRep, WriteRep, GetAns, WriteAns, Hot, Admit, AdmitAck, Peek, PeekAns, Remove, RemoveAns, SnapStart, SnapBegun, SnapRead, SnapPart, Store, Stored, Release, Ask, Told, TopAsk, TopIs, SnapFrom, SnapSame}
use Rattle.far_base.specs.declared.party.Party.{Party}
use Rattle.far_base.specs.declared.plan.Config.{Config}
use Rattle.far_base.specs.declared.plan.Order.{Order}
use Rattle.far_base.specs.declared.plan.Order.TheVariants.{Admit as AdmitOrder, Evict as EvictOrder, Snap as SnapOrder, Stop as StopOrder, StopAt as StopAtOrder}
use Rattle.far_base.specs.declared.slot_state.SlotState.{SlotState}
use Rattle.far_base.specs.declared.slot_state.SlotState.TheVariants.{Free, Admitting, Held, Evicting}
use Rattle.far_model.specs.Clients.{ClientState}
use Rattle.far_model.specs.Controller.{ControllerState, ready, ready_in, tick, tick_free, tick_room, tick_want, tick_wants}
use Rattle.far_model.specs.Events.{counted_for, can_deliver, can_recover, can_send, choice_if, choices, deliver_choices, has_next, is_order_due, is_order_enabled, is_possible, is_switch, send_choices}
use Rattle.far_model.specs.Evictions.{Eviction, first_place, has_key, is_free, is_held, state_at, victim}
use Rattle.far_invariants.specs.Flights.{IsFor, IsFrom, flights_of, open_count, subject, IsInFlight}
use Rattle.far_model.specs.Members.{Among, is_empty}
use Rattle.far_model.specs.Rounds.{Round, Telling, asks_tops, greatest_top, has_told, no_telling, ready_counter, telling_at}
use Rattle.far_model.specs.Runs.{is_done, is_finished, is_quiet}
use Rattle.far_model.specs.State.{State, client_at}
use Rattle.flight_laws.proofs.Finishing.{none_sends}
use Rattle.far_invariants.specs.InFlight.{AdmissionsFly, EvictionsFly, IsAsked, IsTelling, OwnFlies, RoundFlies, RoundIs, RoundsFly, due_top, is_ask, is_job_from, is_told, is_top}
use Rattle.far_invariants.specs.Sizes.{IsSized}
use Rattle.flight_laws.proofs.Counts.{Passing, none_counted, some_counted}
use Rattle.flight_laws.proofs.Places.{first_none, victim_none}

-- what quiet rests on
pub record Flies (plan : PlanView) (s : State) : Type 0 where
  pub flight : IsInFlight plan s
  pub sized : IsSized plan s
  pub admissions : AdmissionsFly s
  pub evictions : EvictionsFly s
  -- snapshots: where nothing is on its way there is no job
  pub no_job : s.running ≡ true → s.bag ≡ [] → s.controller.job ≡ None
  pub rounds : RoundsFly plan s

-- ---- tests

bool_same : (a b : Bool) → (a ≡ true → b ≡ true) → (b ≡ true → a ≡ true) → a ≡ b
bool_same true b f g = sym (f refl)
bool_same false true f g = g refl
bool_same false false f g = refl

both_true : (a b : Bool) → a ≡ true → b ≡ true → a && b ≡ true
both_true a b p q = ap (λ x. x && b) p ∙ q

not_true : (b : Bool) → not b ≡ true → b ≡ false
not_true true h = absurd (true≢false (sym h))
not_true false h = refl

not_false : (b : Bool) → b ≡ false → not b ≡ true
not_false b h = ap not h

opposite : {X : Type 0} (b : Bool) → b ≡ true → b ≡ false → X
opposite b p q = absurd (true≢false (sym p ∙ q))

none_append : (xs ys : List Event) → is_empty (xs ++ ys) ≡ is_empty xs && is_empty ys
none_append [] ys = refl
none_append (x ∷ xs) ys = refl

none_if : (b : Bool) (e : Event) → is_empty (choice_if b e) ≡ not b
none_if true e = refl
none_if false e = refl

none_is : {X : Type 0} (o : Option X) → is_some o ≡ false → o ≡ None
none_is None e = refl
none_is (Some x) e = absurd (true≢false e)

some_is : {X : Type 0} (o : Option X) → o ≡ None → is_some o ≡ false
some_is o e = ap is_some e

empty_is : {X : Type 0} (xs : List X) → is_empty xs ≡ true → xs ≡ []
empty_is [] e = refl
empty_is (x ∷ xs) e = absurd (true≢false (sym e))

-- ---- where all is done nothing can happen

done_sends : (clients : List ClientState) (n : ℕ) → list_all is_done clients ≡ true → is_empty (send_choices n clients) ≡ true
done_sends [] n h = refl
done_sends (x ∷ xs) n h =
    let p = and_parts (is_done x) (list_all is_done xs) h in
    let q = and_parts (not (is_some x.waits)) (not (has_next x.left)) p.0 in
    let off : can_send x ≡ false = ap (λ b. not (is_some x.waits) && b) (not_true (has_next x.left) q.1) ∙ and_none (not (is_some x.waits)) in
    ap (λ b. is_empty (cond b (Send n ∷ send_choices (suc n) xs) (send_choices (suc n) xs))) off ∙ done_sends xs (suc n) p.1
  where
    and_none : (b : Bool) → b && false ≡ false
    and_none true = refl
    and_none false = refl

past_end : {X : Type 0} (xs : List X) → slice_get xs (length xs) ≡ None
past_end [] = refl
past_end (x ∷ xs) = past_end xs

five_none : (a b c d e : List Event) → is_empty (a ++ b ++ c ++ d ++ e) ≡ (((is_empty a && is_empty b) && is_empty c) && is_empty d) && is_empty e
five_none a b c d e = none_append (a ++ b ++ c ++ d) e ∙ ap (λ x. x && is_empty e) (none_append (a ++ b ++ c) d ∙ ap (λ x. x && is_empty d) (none_append (a ++ b) c ∙ ap (λ x. x && is_empty c) (none_append a b)))

each_none : (s : State) → is_empty (send_choices 0 s.clients) ≡ true → is_empty (deliver_choices s.running 0 s.bag) ≡ true → is_empty (choice_if (is_some (tick s.controller)) Tick) ≡ true
    → is_empty (choice_if (can_recover s) Recover) ≡ true → is_empty (choice_if (is_some (ready s.controller)) Restart) ≡ true → is_empty (choices s) ≡ true
each_none s a b c d e = five_none (send_choices 0 s.clients) (deliver_choices s.running 0 s.bag) (choice_if (is_some (tick s.controller)) Tick) (choice_if (can_recover s) Recover) (choice_if (is_some (ready s.controller)) Restart)
    ∙ both_true _ _ (both_true _ _ (both_true _ _ (both_true _ _ a b) c) d) e

finished_quiet : (plan : PlanView) (s : State) → is_finished plan s ≡ true → is_quiet plan s ≡ true
finished_quiet plan s h =
    let a = and_parts (list_all is_done s.clients) _ h in
    let b = and_parts (nat_eq s.done (length plan.orders)) _ a.1 in
    let c = and_parts s.running _ b.1 in
    let d = and_parts (is_empty s.bag) _ c.1 in
    let e = and_parts (is_empty s.controller.wants) _ d.1 in
    let f = and_parts (not (is_some s.controller.eviction)) _ e.1 in
    let g = and_parts (not (is_some s.controller.job)) (not (is_some s.controller.round)) f.1 in
    let round : s.controller.round ≡ None = none_is s.controller.round (not_true _ g.1) in
    let done : s.done ≡ length plan.orders = eqb-true s.done (length plan.orders) b.0 in
    let orders : is_order_enabled plan s ≡ false = ap (is_order_due s) (ap (slice_get plan.orders) done ∙ past_end plan.orders) in
    let sends = done_sends s.clients 0 a.0 in
    let delivers : is_empty (deliver_choices s.running 0 s.bag) ≡ true = ap (λ xs. is_empty (deliver_choices s.running 0 xs)) (empty_is s.bag d.0) in
    let ticks : is_some (tick s.controller) ≡ false = ap (λ o. is_some (cond (is_some o) None (tick_wants s.controller s.controller.wants))) round ∙ ap (λ ws. is_some (tick_wants s.controller ws)) (empty_is s.controller.wants e.0) in
    let recovers : can_recover s ≡ false = ap (λ r. not r && (not (is_some s.controller.round) && not (list_any (λ (m : Message). is_switch m.from) s.bag))) c.0 in
    let restarts : is_some (ready s.controller) ≡ false = ap (λ r. is_some (ready_in r)) round in
    both_true _ _ (not_false _ orders) (each_none s sends delivers (none_if (is_some (tick s.controller)) Tick ∙ not_false _ ticks) (none_if (can_recover s) Recover ∙ not_false _ recovers) (none_if (is_some (ready s.controller)) Restart ∙ not_false _ restarts))

-- ---- what cannot happen

pub record IsStill (s : State) : Type 0 where
  pub sends : is_empty (send_choices 0 s.clients) ≡ true
  pub delivers : is_empty (deliver_choices s.running 0 s.bag) ≡ true
  pub ticks : is_some (tick s.controller) ≡ false
  pub recovers : can_recover s ≡ false
  pub restarts : is_some (ready s.controller) ≡ false

still : (s : State) → is_empty (choices s) ≡ true → IsStill s
still s h =
    let z = sym (five_none (send_choices 0 s.clients) (deliver_choices s.running 0 s.bag) (choice_if (is_some (tick s.controller)) Tick) (choice_if (can_recover s) Recover) (choice_if (is_some (ready s.controller)) Restart)) ∙ h in
    let d = and_parts (((is_empty (send_choices 0 s.clients) && is_empty (deliver_choices s.running 0 s.bag)) && is_empty (choice_if (is_some (tick s.controller)) Tick)) && is_empty (choice_if (can_recover s) Recover)) _ z in
    let c = and_parts ((is_empty (send_choices 0 s.clients) && is_empty (deliver_choices s.running 0 s.bag)) && is_empty (choice_if (is_some (tick s.controller)) Tick)) _ d.0 in
    let b = and_parts (is_empty (send_choices 0 s.clients) && is_empty (deliver_choices s.running 0 s.bag)) _ c.0 in
    let a = and_parts (is_empty (send_choices 0 s.clients)) _ b.0 in
    record {
      sends = a.0;
      delivers = a.1;
      ticks = not_true _ (sym (none_if (is_some (tick s.controller)) Tick) ∙ b.1);
      recovers = not_true _ (sym (none_if (can_recover s) Recover) ∙ c.1);
      restarts = not_true _ (sym (none_if (is_some (ready s.controller)) Restart) ∙ d.1);
    }

none_deliver : (running : Bool) (n : ℕ) (bag : List Message) (m : Message) → is_empty (deliver_choices running n bag) ≡ true → Among m bag → can_deliver running m ≡ false
none_deliver running n [] m h a = absurd a
none_deliver running n (x ∷ xs) m h a = go (can_deliver running x) refl (λ k b. none_deliver running (suc n) xs m k b) h a
  where
    go : (b : Bool) → can_deliver running x ≡ b → (is_empty (deliver_choices running (suc n) xs) ≡ true → Among m xs → can_deliver running m ≡ false)
        → is_empty (cond b (Deliver n ∷ deliver_choices running (suc n) xs) (deliver_choices running (suc n) xs)) ≡ true → Among m (x ∷ xs) → can_deliver running m ≡ false
    go true e f k b = absurd (true≢false (sym k))
    go false e f k (inl same) = ap (can_deliver running) same ∙ e
    go false e f k (inr b) = f k b

pub any_among : (p : Message → Bool) (bag : List Message) → list_any p bag ≡ true → Passing p bag
any_among p [] h = absurd (true≢false (sym h))
any_among p (x ∷ xs) h = go (λ k. any_among p xs k) (p x) refl h
  where
    go : (list_any p xs ≡ true → Passing p xs) → (b : Bool) → p x ≡ b → b || list_any p xs ≡ true → Passing p (x ∷ xs)
    go f true e k = record { one = x; there = inl refl; passes = e }
    go f false e k = let more = f k in record { one = more.one; there = inr more.there; passes = more.passes }

-- a packet that goes to the switch
abbrev is_for_switch : Packet → Bool
is_for_switch (GetReq caller op key) = true
is_for_switch (WriteReq caller op key body) = true
is_for_switch (GetRep caller op key tag num body) = true
is_for_switch (WriteRep caller op key num body) = true
is_for_switch (Admit epoch i key tag) = true
is_for_switch (Peek epoch i tag) = true
is_for_switch (Remove epoch i tag latest num) = true
is_for_switch (SnapStart epoch id) = true
is_for_switch (SnapFrom epoch id base) = true
is_for_switch (SnapRead epoch id i) = true
is_for_switch _ = false

elsewhere : (config : Config) (p : Packet) (to : Party) → is_for_switch p ≡ false → IsFor config p to → is_switch to ≡ false
elsewhere config (GetReq caller op key) to h goes = absurd (true≢false h)
elsewhere config (WriteReq caller op key body) to h goes = absurd (true≢false h)
elsewhere config (GetRep caller op key tag num body) to h goes = absurd (true≢false h)
elsewhere config (WriteRep caller op key num body) to h goes = absurd (true≢false h)
elsewhere config (Admit epoch i key tag) to h goes = absurd (true≢false h)
elsewhere config (Peek epoch i tag) to h goes = absurd (true≢false h)
elsewhere config (Remove epoch i tag latest num) to h goes = absurd (true≢false h)
elsewhere config (SnapStart epoch id) to h goes = absurd (true≢false h)
elsewhere config (SnapFrom epoch id base) to h goes = absurd (true≢false h)
elsewhere config (SnapRead epoch id i) to h goes = absurd (true≢false h)
elsewhere config (Release point) to h goes = ap is_switch goes.is
elsewhere config (Ask round) to h goes = ap is_switch goes.is
elsewhere config (TopAsk round) to h goes = ap is_switch goes.is
elsewhere config (GetFwd caller op key tag) to h goes = ap is_switch goes
elsewhere config (WriteFwd caller op key num body) to h goes = ap is_switch goes
elsewhere config (GetAns caller op key num body near) to h goes = ap is_switch goes
elsewhere config (WriteAns caller op key num kept) to h goes = ap is_switch goes
elsewhere config (Hot key) to h goes = ap is_switch goes
elsewhere config (AdmitAck i tag) to h goes = ap is_switch goes
elsewhere config (PeekAns i tag latest num body) to h goes = ap is_switch goes
elsewhere config (RemoveAns i tag done latest num body) to h goes = ap is_switch goes
elsewhere config (SnapBegun id point) to h goes = ap is_switch goes
elsewhere config (SnapPart id i view) to h goes = ap is_switch goes
elsewhere config (SnapSame id i) to h goes = ap is_switch goes
elsewhere config (Store job item) to h goes = ap is_switch goes
elsewhere config (Stored job) to h goes = ap is_switch goes
elsewhere config (Told round caller total item) to h goes = ap is_switch goes
elsewhere config (TopIs round server top) to h goes = ap is_switch goes

-- what the switch sends goes elsewhere
from_switch : (p : Packet) (from : Party) → is_switch from ≡ true → IsFrom p from → is_for_switch p ≡ false
from_switch (GetReq caller op key) from h f = opposite (is_switch from) h (ap is_switch f)
from_switch (WriteReq caller op key body) from h f = opposite (is_switch from) h (ap is_switch f)
from_switch (GetRep caller op key tag num body) from h f = opposite (is_switch from) h (ap is_switch f.1)
from_switch (WriteRep caller op key num body) from h f = opposite (is_switch from) h (ap is_switch f.1)
from_switch (Admit epoch i key tag) from h f = opposite (is_switch from) h (ap is_switch f)
from_switch (Peek epoch i tag) from h f = opposite (is_switch from) h (ap is_switch f)
from_switch (Remove epoch i tag latest num) from h f = opposite (is_switch from) h (ap is_switch f)
from_switch (SnapStart epoch id) from h f = opposite (is_switch from) h (ap is_switch f)
from_switch (SnapFrom epoch id base) from h f = opposite (is_switch from) h (ap is_switch f)
from_switch (SnapRead epoch id i) from h f = opposite (is_switch from) h (ap is_switch f)
from_switch _ from h f = refl

-- ---- a running switch

pub all_pass : {X : Type 0} (p : X → Bool) (xs : List X) (d : X) → ((i : ℕ) → i < length xs → p (get_or xs i d) ≡ true) → list_all p xs ≡ true
all_pass p [] d h = refl
all_pass p (x ∷ xs) d h = both_true _ _ (h 0 (omega arith)) (all_pass p xs d (λ i b. h (suc i) (omega (arith, b))))

module _ (plan : PlanView) (valid : IsPlan plan) (s : State) (h : Flies plan s) (rests : IsStill s) where
  -- nothing is on its way to a party that can take it
  stuck : {X : Type 0} (m : Message) → Among m s.bag → can_deliver s.running m ≡ true → X
  stuck m a e = opposite (can_deliver s.running m) e (none_deliver s.running 0 s.bag m rests.delivers a)

  module _ (running : s.running ≡ true) where
    bag_none : s.bag ≡ []
    bag_none = go s.bag (λ m a. a)
      where
        go : (bag : List Message) → ((m : Message) → Among m bag → Among m s.bag) → bag ≡ []
        go [] f = refl
        go (m ∷ ms) f = stuck m (f m (inl refl)) (ap (λ r. r || not (is_switch m.to)) running)

    none_there : (m : Message) → Among m s.bag → ⊥
    none_there m a = subst (Among m) bag_none a

    round_none : s.controller.round ≡ None
    round_none = go s.controller.round h.rounds.round
      where
        go : (o : Option Round) → RoundFlies plan s o → o ≡ None
        go None f = refl
        go (Some r) f = opposite s.running running f.running

    eviction_none : s.controller.eviction ≡ None
    eviction_none = go s.controller.eviction (subst (λ bag. OwnFlies s.controller bag s.controller.eviction) bag_none h.evictions.flies)
      where
        go : (o : Option Eviction) → OwnFlies s.controller [] o → o ≡ None
        go None f = refl
        go (Some e) f = let one = f.1 in absurd (omega (arith, one))

    job_none : s.controller.job ≡ None
    job_none = h.no_job running bag_none

    -- each slot is free or held, so a want would be served
    settled : (i : ℕ) → is_free (state_at s.controller.slots i) || is_held (state_at s.controller.slots i) ≡ true
    settled i = go (state_at s.controller.slots i) refl
      where
        go : (st : SlotState) → state_at s.controller.slots i ≡ st → is_free st || is_held st ≡ true
        go Free e = refl
        go (Held key tag) e = refl
        go (Admitting key tag) e =
            let one = ap (λ bag. count_by (λ (m : Message). Rattle.far_invariants.specs.Slots.is_admission_of i s.controller.epoch m.packet) bag) bag_none in
            let count = h.admissions.one round_none i in
            let is : admission_count (state_at s.controller.slots i) ≡ 1 = ap admission_count e in
            absurd (omega (arith, one, count, is))
        go (Evicting key tag) e = let o = h.evictions.evicting i tag key e in absurd (none-some o.eviction (sym eviction_none ∙ o.is))

    wants_none : s.controller.wants ≡ []
    wants_none = go s.controller.wants (sym (ap (λ o. is_some (cond (is_some o) None (tick_wants s.controller s.controller.wants))) round_none) ∙ rests.ticks)
      where
        busy : (slots : List SlotState) → 1 ≤ length slots → count_by is_free slots ≡ 0 → count_by is_held slots ≡ 0 → is_free (state_at slots 0) || is_held (state_at slots 0) ≡ true → ⊥
        busy [] n f g e = omega (arith, n)
        busy (x ∷ xs) n f g e = true≢false (sym (sym (λ z. none_counted is_free (x ∷ xs) x f (inl refl) z || none_counted is_held (x ∷ xs) x g (inl refl) z) ∙ e))

        room : (o : Option ℕ) → victim s.controller.hand s.controller.slots ≡ o → count_by is_free s.controller.slots ≡ 0 → is_some (tick_room s.controller o) ≡ false → ⊥
        room None e f k =
            let v = victim_none s.controller.hand s.controller.slots e in
            let all = sum_by-take-drop (λ x. cond {A = ℕ} (is_held x) 1 0) s.controller.slots s.controller.hand in
            busy s.controller.slots (omega (arith, h.sized.states, valid.config.slots.0)) f (omega (arith, v.0, v.1, all)) (settled 0)
        room (Some i) e f k = true≢false (ap (λ x. is_some (cond (is_some x) None (Some (Rattle.far_model.specs.Controller.makes_room s.controller i)))) (sym eviction_none) ∙ k)

        free : (key : List ℕ) (o : Option ℕ) → first_place is_free s.controller.slots ≡ o → is_some (tick_free s.controller key o) ≡ false → ⊥
        free key None e k = room (victim s.controller.hand s.controller.slots) refl (first_none is_free s.controller.slots e) k
        free key (Some i) e k = true≢false k

        want : (key : List ℕ) (o : Option ℕ) → is_some (tick_want s.controller key o) ≡ false → ⊥
        want key None k = free key (first_place is_free s.controller.slots) refl k
        want key (Some i) k = true≢false k

        go : (wants : List (List ℕ)) → is_some (tick_wants s.controller wants) ≡ false → wants ≡ []
        go [] k = refl
        go (key ∷ keys) k = absurd (want key (first_place (has_key key) s.controller.slots) k)

    done_is : is_order_enabled plan s ≡ false → is_empty (choices s) ≡ true → s.done ≡ length plan.orders
    done_is off none = go (slice_get plan.orders s.done) refl off
      where
        possible : (o : Order) → is_possible s o ≡ true
        possible (AdmitOrder step key) = not_false _ (some_is _ round_none)
        possible (EvictOrder step key) = both_true _ _ running (both_true _ _ (not_false _ (some_is _ eviction_none)) (not_false _ (some_is _ round_none)))
        possible (SnapOrder step) = both_true _ _ running (both_true _ _ (not_false _ (some_is _ job_none)) (not_false _ (some_is _ round_none)))
        possible (StopOrder step) = running
        possible (StopAtOrder kind times) = running

        or_true : (a : Bool) → a || true ≡ true
        or_true true = refl
        or_true false = refl

        go : (o : Option Order) → slice_get plan.orders s.done ≡ o → is_order_due s o ≡ false → s.done ≡ length plan.orders
        go None e k = let b = ended plan.orders s.done e in omega (arith, b, h.sized.done)
          where
            ended : {X : Type 0} (xs : List X) (n : ℕ) → slice_get xs n ≡ None → length xs ≤ n
            ended [] n e = omega arith
            ended (x ∷ xs) zero e = absurd cc
            ended (x ∷ xs) (suc n) e = let b = ended xs n e in omega (arith, b)
        go (Some o) e k = opposite (is_order_due s (Some o)) (both_true _ _ (possible o) (ap (λ b. nat_le (due_number o) (counted_for s o) || b) none ∙ or_true (nat_le (due_number o) (counted_for s o)))) k

    clients_done : list_all is_done s.clients ≡ true
    clients_done = sym (none_sends s.clients 0 (λ c. waits (client_at s c).waits (sym (h.flight.one.one c) ∙ ap (flights_of c) bag_none))) ∙ rests.sends
      where
        waits : (o : Option ℕ) → open_count o ≡ 0 → o ≡ None
        waits None e = refl
        waits (Some op) e = absurd (omega (arith, e))

    all_done : is_order_enabled plan s ≡ false → is_empty (choices s) ≡ true → is_finished plan s ≡ true
    all_done off none = both_true _ _ clients_done (both_true _ _ (eq-eqb s.done (length plan.orders) (done_is off none)) (both_true _ _ running (both_true _ _ (ap is_empty bag_none) (both_true _ _ (ap is_empty wants_none)
        (both_true _ _ (not_false _ (some_is _ eviction_none)) (both_true _ _ (not_false _ (some_is _ job_none)) (not_false _ (some_is _ round_none))))))))

  -- ---- a stopped switch

  module _ (stopped : s.running ≡ false) where
    -- a message that does not go to the switch could be delivered
    moves : {X : Type 0} (m : Message) → Among m s.bag → is_for_switch m.packet ≡ false → X
    moves m a e = stuck m a (ap (λ r. r || not (is_switch m.to)) stopped ∙ not_false _ (elsewhere plan.config m.packet m.to e (h.flight.routed.messages m a).target))

    no_round : s.controller.round ≡ None → ⊥
    no_round none = go (list_any (λ (m : Message). is_switch m.from) s.bag) refl
      where
        go : (b : Bool) → list_any (λ (m : Message). is_switch m.from) s.bag ≡ b → ⊥
        go true e =
            let m = any_among (λ (m : Message). is_switch m.from) s.bag e in
            moves m.one m.there (from_switch m.one.packet m.one.from m.passes (h.flight.routed.messages m.one m.there).source)
        go false e = opposite (can_recover s) (both_true _ _ (not_false _ stopped) (both_true _ _ (not_false _ (some_is _ none)) (not_false _ e))) rests.recovers

    of_round : (r : Round) → s.controller.round ≡ Some r → RoundIs plan s r → ⊥
    of_round r e is = go r.asked refl
      where
        not_ready : is_some (ready_counter r) ≡ false
        not_ready = sym (ap (λ o. is_some (ready_in o)) e) ∙ rests.restarts

        ready_if : r.asked ≡ true → list_all is_some r.tops ≡ true → list_all has_told r.told ≡ true → r.stores ≡ 0 → is_some (ready_counter r) ≡ true
        ready_if a b c d = ap (λ z. is_some (cond z (Some (greatest_top r.tops)) None)) (both_true _ _ (both_true _ _ a b) (both_true _ _ c (eq-eqb r.stores 0 d)))

        -- each top is there, else it is on its way
        top_there : r.asked ≡ true → (n : ℕ) → n < length r.tops → is_some (slice_index_or r.tops n None) ≡ true
        top_there a n b = at (is_some (slice_index_or r.tops n None)) refl
          where
            at : (t : Bool) → is_some (slice_index_or r.tops n None) ≡ t → t ≡ true
            at true k = refl
            at false k =
                let due : due_top r n ≡ 1 = ap (λ z. cond {A = ℕ} z 1 0) (both_true _ _ a (not_false _ k)) in
                let count = is.tops n (subst (λ x. n < x) is.tops_size b) in
                let m = some_counted (λ (m : Message). is_top r.number n m.to m.packet) s.bag (omega (arith, due, count)) in
                moves m.one m.there (kind m.one.to m.one.packet m.passes)
              where
                kind : (to : Party) (p : Packet) → is_top r.number n to p ≡ true → is_for_switch p ≡ false
                kind to (TopAsk round) z = refl
                kind to (TopIs round server top) z = refl
                kind to (GetReq caller op key) z = absurd (true≢false (sym z))
                kind to (WriteReq caller op key body) z = absurd (true≢false (sym z))
                kind to (GetRep caller op key tag num body) z = absurd (true≢false (sym z))
                kind to (WriteRep caller op key num body) z = absurd (true≢false (sym z))
                kind to (Admit epoch i key tag) z = absurd (true≢false (sym z))
                kind to (Peek epoch i tag) z = absurd (true≢false (sym z))
                kind to (Remove epoch i tag latest num) z = absurd (true≢false (sym z))
                kind to (SnapStart epoch id) z = absurd (true≢false (sym z))
                kind to (SnapFrom epoch id base) z = absurd (true≢false (sym z))
                kind to (SnapRead epoch id i) z = absurd (true≢false (sym z))
                kind to _ z = refl

        ask_kind : (c : ℕ) (to : Party) (p : Packet) → is_ask r.number c to p ≡ true → is_for_switch p ≡ false
        ask_kind c to (Ask round) z = refl
        ask_kind c to (GetReq caller op key) z = absurd (true≢false (sym z))
        ask_kind c to (WriteReq caller op key body) z = absurd (true≢false (sym z))
        ask_kind c to (GetRep caller op key tag num body) z = absurd (true≢false (sym z))
        ask_kind c to (WriteRep caller op key num body) z = absurd (true≢false (sym z))
        ask_kind c to (Admit epoch i key tag) z = absurd (true≢false (sym z))
        ask_kind c to (Peek epoch i tag) z = absurd (true≢false (sym z))
        ask_kind c to (Remove epoch i tag latest num) z = absurd (true≢false (sym z))
        ask_kind c to (SnapStart epoch id) z = absurd (true≢false (sym z))
        ask_kind c to (SnapFrom epoch id base) z = absurd (true≢false (sym z))
        ask_kind c to (SnapRead epoch id i) z = absurd (true≢false (sym z))
        ask_kind c to _ z = refl

        told_kind : (c : ℕ) (p : Packet) → is_told r.number c p ≡ true → is_for_switch p ≡ false
        told_kind c (Told round caller total item) z = refl
        told_kind c (GetReq caller op key) z = absurd (true≢false (sym z))
        told_kind c (WriteReq caller op key body) z = absurd (true≢false (sym z))
        told_kind c (GetRep caller op key tag num body) z = absurd (true≢false (sym z))
        told_kind c (WriteRep caller op key num body) z = absurd (true≢false (sym z))
        told_kind c (Admit epoch i key tag) z = absurd (true≢false (sym z))
        told_kind c (Peek epoch i tag) z = absurd (true≢false (sym z))
        told_kind c (Remove epoch i tag latest num) z = absurd (true≢false (sym z))
        told_kind c (SnapStart epoch id) z = absurd (true≢false (sym z))
        told_kind c (SnapFrom epoch id base) z = absurd (true≢false (sym z))
        told_kind c (SnapRead epoch id i) z = absurd (true≢false (sym z))
        told_kind c _ z = refl

        job_kind : (p : Packet) → is_job_from r.first_job (subject p) ≡ true → is_for_switch p ≡ false
        job_kind (GetReq caller op key) z = absurd (true≢false (sym z))
        job_kind (WriteReq caller op key body) z = absurd (true≢false (sym z))
        job_kind (GetRep caller op key tag num body) z = absurd (true≢false (sym z))
        job_kind (WriteRep caller op key num body) z = absurd (true≢false (sym z))
        job_kind (Admit epoch i key tag) z = absurd (true≢false (sym z))
        job_kind (Peek epoch i tag) z = absurd (true≢false (sym z))
        job_kind (Remove epoch i tag latest num) z = absurd (true≢false (sym z))
        job_kind (SnapStart epoch id) z = absurd (true≢false (sym z))
        job_kind (SnapFrom epoch id base) z = absurd (true≢false (sym z))
        job_kind (SnapRead epoch id i) z = absurd (true≢false (sym z))
        job_kind _ z = refl

        -- each client has told, else its question or answer is on its way
        told_there : (c : ℕ) → c < length r.told → has_told (telling_at r c) ≡ true
        told_there c b = at (is.tellings c (subst (λ x. c < x) is.told_size b))
          where
            some_told : 1 ≤ count_by (λ (m : Message). is_told r.number c m.packet) s.bag → has_told (telling_at r c) ≡ true
            some_told n = let m = some_counted (λ (m : Message). is_told r.number c m.packet) s.bag n in moves m.one m.there (told_kind c m.one.packet m.passes)

            at : IsAsked s.bag r c ⊎ IsTelling s.bag r c → has_told (telling_at r c) ≡ true
            at (inl a) = let m = some_counted (λ (m : Message). is_ask r.number c m.to m.packet) s.bag (let n = a.asked in omega (arith, n)) in moves m.one m.there (ask_kind c m.one.to m.one.packet m.passes)
            at (inr t) = known t.known
              where
                known : (telling_at r c ≡ no_telling) ⊎ ((telling_at r c).total ≡ Some t.total) → has_told (telling_at r c) ≡ true
                known (inl e) = let zero' : (telling_at r c).count ≡ 0 = ap (λ (x : Telling). x.count) e in let n = t.told in some_told (omega (arith, zero', n))
                known (inr e) = try (nat_le (max t.total 1) (telling_at r c).count) refl
                  where
                    try : (z : Bool) → nat_le (max t.total 1) (telling_at r c).count ≡ z → has_told (telling_at r c) ≡ true
                    try true k = ap (λ o. Rattle.far_model.specs.Rounds.told_of o (telling_at r c).count) e ∙ k
                    try false k = let n = t.told in let less = leb-false (max t.total 1) (telling_at r c).count k in some_told (omega (arith, n, less))

        all_told : list_all has_told r.told ≡ true
        all_told = all_pass has_told r.told no_telling told_there

        go : (z : Bool) → r.asked ≡ z → ⊥
        go true a =
            let f = is.asked a in
            true≢false (sym (ready_if a (all_pass is_some r.tops None (top_there a)) f.0 f.1) ∙ not_ready)
        go false a = stores (nat_eq r.stores 0) refl
          where
            stores : (z : Bool) → nat_eq r.stores 0 ≡ z → ⊥
            stores true k = true≢false (sym (both_true _ _ (not_false _ a) (both_true _ _ all_told k)) ∙ is.waits)
            stores false k =
                let n : r.stores ≢ 0 = eqb-false r.stores 0 k in
                let count = is.stores in
                let m = some_counted (λ (m : Message). is_job_from r.first_job (subject m.packet)) s.bag (omega (arith, n, count)) in
                moves m.one m.there (job_kind m.one.packet m.passes)

    never : ⊥
    never = go s.controller.round refl h.rounds.round
      where
        go : (o : Option Round) → s.controller.round ≡ o → RoundFlies plan s o → ⊥
        go None e f = no_round e
        go (Some r) e f = of_round r e f

quiet_finished : (plan : PlanView) (s : State) → IsPlan plan → Flies plan s → is_quiet plan s ≡ true → is_finished plan s ≡ true
quiet_finished plan s valid h q =
    let p = and_parts (not (is_order_enabled plan s)) (is_empty (choices s)) q in
    go s.running refl (not_true _ p.0) p.1
  where
    go : (b : Bool) → s.running ≡ b → is_order_enabled plan s ≡ false → is_empty (choices s) ≡ true → is_finished plan s ≡ true
    go true e off none = all_done plan valid s h (still s none) e off none
    go false e off none = absurd (never plan valid s h (still s none) e)

-- nothing can happen exactly where everything is done
pub quiet_is_finished : (plan : PlanView) (s : State) → IsPlan plan → Flies plan s → is_quiet plan s ≡ is_finished plan s
quiet_is_finished plan s valid h = bool_same (is_quiet plan s) (is_finished plan s) (quiet_finished plan s valid h) (finished_quiet plan s)

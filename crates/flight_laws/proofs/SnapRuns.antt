-- Runs, and the state in which a snapshot began.
use Rattle.far_model.specs.SnapshotAt.{IsStartWith, IsSnapshotAt}
use Rattle.std.proofs.Common.{◌≡◌, ◌≢◌, ℕ, zero, suc, ◌+◌, ◌<◌, ◌≤◌, ◌⊎◌, inl, inr, Bool, true, false, cond, List, [], ◌∷◌, ◌++◌, length, map, get_or, set, replicate, refl, sym, ap, ◌∙◌, subst, arith, le_trans, eqb-true, eq-eqb, ltb-true, le-leb, lt-ltb}
use Rattle.std.specs.Prelude.{Option, Some, None, if◌then◌else◌, ◌||◌, not, nat_eq, nat_lt, slice_get, filter, max}
use Rattle.std.specs.List.{remove}
use Rattle.std.proofs.lemmas.List.{get_or-set_same}
use Rattle.far_base.specs.PlanView.{PlanView}
use Rattle.far_base.specs.declared.event.Event.{Event}
use Rattle.far_base.specs.declared.event.Event.TheVariants.{Send, Deliver, Tick, Recover, Restart, Order as OrderOf}
use Rattle.far_base.specs.declared.packet.Message.{Message}
use Rattle.far_base.specs.declared.packet.Packet.{Packet}
use Rattle.far_base.specs.declared.packet.Packet.TheVariants.{SnapStart, Release, SnapFrom}
use Rattle.far_base.specs.declared.party.Party.{Party}
use Rattle.far_base.specs.declared.party.Party.TheVariants.{Client, Switch, Server, Controller}
use Rattle.far_base.specs.declared.plan.OpLine.{OpLine}
use Rattle.far_base.specs.declared.record.Record.{Record}
use Rattle.far_invariants.specs.Remembered.{WasMadeBy}
use Rattle.far_model.specs.Clients.{ClientState, client_takes, released_to}
use Rattle.far_model.specs.Events.{Keeping, happens, is_enabled, handled, delivers, switch_turn, client_turn, can_deliver, can_deliver_some, is_switch, reply_to, reply_at, all_listed}
use Rattle.far_invariants.specs.Covers.{IsAtServer, Covers, IsInSnapshot, IsAbsorbed}
use Rattle.far_model.specs.Members.{Among}
use Rattle.far_invariants.specs.Past.{SnapshotStart, Past, no_past, start_of, starts_by, starts_with, new_starts, remembers, past_from, past_of}
use Rattle.far_model.specs.Pass.{starts_snapshot, dropped}
use Rattle.far_model.specs.Runs.{run, IsRun}
use Rattle.far_model.specs.Snapshots.{SnapshotView, no_snapshot}
use Rattle.far_model.specs.State.{State, client_at, clients_from, nobody, opening}
use Rattle.far_model.specs.View.{SwitchView, held_record}
use Rattle.far_model.proofs.Members.{among_at}
use Rattle.far_invariants.specs.SnapshotLaws.{CompletedIsStart, ReleaseIsSafe, IsOwed}
use Rattle.far_invariants.specs.Snapshots.{IsStartOf, IsLast, ClientStands, SnapshotsStand}
use Rattle.flight_laws.proofs.SnapRuling.{empty_stands}
use Rattle.flight_laws.proofs.SnapEvents.{event_stands}
use Rattle.flight_laws.proofs.SnapMeanings.{released_covered}

-- ---- the opening

module _ {tells : Bool} where
  opened : (plan : PlanView) (ops : List OpLine) (n more d : ℕ) → ClientStands tells (record (opening plan) { clients = clients_from ops n more }) d
  opened plan ops n zero d = record { released = λ told. omega arith; preserved = λ r a. absurd a }
  opened plan ops n (suc more) zero = record { released = λ told. omega arith; preserved = λ r a. absurd a }
  opened plan ops n (suc more) (suc d) = let k = opened plan ops (suc n) more d in record { released = k.released; preserved = k.preserved }

module _ {tells : Bool} where
  pub opening_stands : (plan : PlanView) → SnapshotsStand tells plan (opening plan) []
  opening_stands plan = record {
    rise = record { order = tt; above = λ start a. absurd a; below = λ start a. absurd a; views = λ start a. absurd a; numbers = λ told start a. absurd a };
    gathered = record { next = omega arith; present = omega arith; last = inl refl; job = λ j e. absurd cc };
    switch = empty_stands plan [] 1 0 (λ start a. absurd a);
    in_step = λ up. record { epoch = refl; counted = λ told start a. absurd a; runs = λ j e. absurd cc; settled = λ some. absurd (omega (arith, some)) };
    packets = λ m a. absurd a;
    parts = λ up m a. absurd a;
    once = λ up. omega arith;
    drawn = λ told start a. absurd a;
    covers = λ told. record { last = λ key num a. absurd a.numbered; job = λ j e. absurd cc };
    clients = λ c. let k = opened plan plan.ops 0 plan.config.clients c in record { released = k.released; preserved = k.preserved };
  }

module _ {tells : Bool} where
  run_stands : (plan : PlanView) (s : State) (p : Past) (events : List Event) → SnapshotsStand tells plan s p.starts → IsRun plan s events → IsOwed tells plan s events → SnapshotsStand tells plan (run plan s events) (past_from plan s p events).starts
  run_stands plan s p [] h r o = h
  run_stands plan s p (e ∷ es) h r o = run_stands plan (happens plan s e) (remembers s p e) es (event_stands plan s p e h o.0 r.0) r.1 o.1

module _ {tells : Bool} where
  pub runs_stand : (plan : PlanView) (events : List Event) → IsRun plan (opening plan) events → IsOwed tells plan (opening plan) events → SnapshotsStand tells plan (run plan (opening plan) events) (past_of plan events).starts
  runs_stand plan events r o = run_stands plan (opening plan) no_past events (opening_stands plan) r o

-- ---- the state in which a snapshot began

run_one : (plan : PlanView) (s : State) (es : List Event) (e : Event) → run plan s (es ++ e ∷ []) ≡ happens plan (run plan s es) e
run_one plan s [] e = refl
run_one plan s (x ∷ es) e = run_one plan (happens plan s x) es e

run_enabled : (plan : PlanView) (s : State) (es later : List Event) (e : Event) → IsRun plan s (es ++ e ∷ later) → is_enabled plan (run plan s es) e ≡ true
run_enabled plan s [] later e r = r.0
run_enabled plan s (x ∷ es) later e r = run_enabled plan (happens plan s x) es later e r.1

-- what a start leaves of slots and counter
pub record IsStartedBy (s t : State) (start : SnapshotStart) (m : Message) : Type 0 where
  pub to : m.to ≡ Switch
  pub starts_it : IsStartWith start.id s.switch.epoch m.packet
  pub views : start.views ≡ map held_record t.switch.slots
  pub counter : start.counter ≡ t.switch.counter

module _ (plan : PlanView) (s : State) (k : Keeping) (rest : List Message) where
  start_leaves : (from : Party) (to : Party) (p : Packet) (start : SnapshotStart) → Among start (starts_by s.switch to p) → IsStartedBy s (handled plan k s rest to p) start (record { from = from; to = to; packet = p })
  start_leaves from Switch (SnapStart epoch id) start a = go (nat_eq epoch s.switch.epoch) refl a
    where
      go : (b : Bool) → nat_eq epoch s.switch.epoch ≡ b → Among start (if b then start_of s.switch id false ∷ [] else [])
          → IsStartedBy s (switch_turn s rest (SnapStart epoch id) (if b then starts_snapshot s.switch id 0 else dropped s.switch)) start (record { from = from; to = Switch; packet = SnapStart epoch id })
      go true e (inl same) = record { to = refl; starts_it = (eqb-true _ _ e, sym (ap (λ (x : SnapshotStart). x.id) same)); views = ap (λ (x : SnapshotStart). x.views) same; counter = ap (λ (x : SnapshotStart). x.counter) same }
      go true e (inr a) = absurd a
      go false e a = absurd a
  start_leaves from Switch (SnapFrom epoch id base) start a = go (nat_eq epoch s.switch.epoch) refl a
    where
      go : (b : Bool) → nat_eq epoch s.switch.epoch ≡ b → Among start (if b then start_of s.switch id true ∷ [] else [])
          → IsStartedBy s (switch_turn s rest (SnapFrom epoch id base) (if b then starts_snapshot s.switch id base else dropped s.switch)) start (record { from = from; to = Switch; packet = SnapFrom epoch id base })
      go true e (inl same) = record { to = refl; starts_it = (eqb-true _ _ e, sym (ap (λ (x : SnapshotStart). x.id) same)); views = ap (λ (x : SnapshotStart). x.views) same; counter = ap (λ (x : SnapshotStart). x.counter) same }
      go true e (inr a) = absurd a
      go false e a = absurd a
  start_leaves from Switch _ start a = absurd a
  start_leaves from (Client c) p start a = absurd a
  start_leaves from (Server n) p start a = absurd a
  start_leaves from Controller p start a = absurd a

-- an event that made a start is the delivery of it
pub record IsDeliveredStart (plan : PlanView) (s : State) (e : Event) (start : SnapshotStart) : Type 0 where
  pub place : ℕ
  pub is : e ≡ Deliver place
  pub message : Message
  pub there : slice_get s.bag place ≡ Some message
  pub by : IsStartedBy s (happens plan s e) start message

made_by_delivery : (plan : PlanView) (s : State) (e : Event) (start : SnapshotStart) → Among start (new_starts s e) → IsDeliveredStart plan s e start
made_by_delivery plan s (Deliver i) start a = go (slice_get s.bag i) refl a
  where
    go : (o : Option Message) → slice_get s.bag i ≡ o → Among start (starts_with s.switch o) → IsDeliveredStart plan s (Deliver i) start
    go None e a = absurd a
    go (Some m) e a = record {
      place = i;
      is = refl;
      message = m;
      there = e;
      by = subst (λ o. IsStartedBy s (delivers plan (record { reply = reply_to s o; records = all_listed s.servers }) s i o) start m) (sym e)
          (start_leaves plan s (record { reply = reply_at s m.to m.packet; records = all_listed s.servers }) (remove s.bag i) m.from m.to m.packet start a);
    }
made_by_delivery plan s (Send c) start a = absurd a
made_by_delivery plan s Tick start a = absurd a
made_by_delivery plan s Recover start a = absurd a
made_by_delivery plan s Restart start a = absurd a
made_by_delivery plan s (OrderOf j) start a = absurd a

up : (b c : Bool) → (b || not c) ≡ true → c ≡ true → b ≡ true
up true c e k = refl
up false c e k = absurd (let off : not c ≡ false = ap not k in let clash : true ≡ false = sym e ∙ off in cc)

-- each start that is remembered is what the slots held when it passed
pub start_was : (plan : PlanView) (events : List Event) (start : SnapshotStart) → IsRun plan (opening plan) events → WasMadeBy new_starts plan (opening plan) events start → IsSnapshotAt plan events start.id start.views start.counter
start_was plan events start r m = record {
  earlier = m.earlier;
  place = d.place;
  later = m.later;
  split = subst (λ e. events ≡ m.earlier ++ e ∷ m.later) d.is m.split;
  message = d.message;
  there = d.there;
  to = d.by.to;
  running = up (run plan (opening plan) m.earlier).running (is_switch d.message.to) can (ap is_switch d.by.to);
  starts_it = d.by.starts_it;
  views_are = d.by.views ∙ ap (λ (x : State). map held_record x.switch.slots) after;
  point_is = d.by.counter ∙ ap (λ (x : State). x.switch.counter) after;
}
  where
    d : IsDeliveredStart plan (run plan (opening plan) m.earlier) m.event start
    d = made_by_delivery plan (run plan (opening plan) m.earlier) m.event start m.made

    after : happens plan (run plan (opening plan) m.earlier) m.event ≡ run plan (opening plan) (m.earlier ++ Deliver d.place ∷ [])
    after = ap (happens plan (run plan (opening plan) m.earlier)) d.is ∙ sym (run_one plan (opening plan) m.earlier (Deliver d.place))

    enabled : is_enabled plan (run plan (opening plan) m.earlier) m.event ≡ true
    enabled = run_enabled plan (opening plan) m.earlier m.later m.event (subst (IsRun plan (opening plan)) m.split r)

    can : can_deliver (run plan (opening plan) m.earlier).running d.message ≡ true
    can = sym (ap (can_deliver_some (run plan (opening plan) m.earlier).running) d.there) ∙ sym (ap (is_enabled plan (run plan (opening plan) m.earlier)) d.is) ∙ enabled

-- the last completed snapshot is what all slots held at the one moment at which its start passed
pub completed_is_start : (plan : PlanView) (events : List Event) → IsRun plan (opening plan) events → SnapshotsStand true plan (run plan (opening plan) events) (past_of plan events).starts
    → ((start : SnapshotStart) → Among start (past_of plan events).starts → WasMadeBy new_starts plan (opening plan) events start) → CompletedIsStart plan events (run plan (opening plan) events)
completed_is_start plan events r h made some = go h.gathered.last
  where
    last : SnapshotView
    last = (run plan (opening plan) events).controller.last

    go : ((run plan (opening plan) events).controller.last ≡ no_snapshot) ⊎ IsLast true (past_of plan events).starts (run plan (opening plan) events).controller.last
        → IsSnapshotAt plan events (run plan (opening plan) events).controller.last.id (run plan (opening plan) events).controller.last.views (run plan (opening plan) events).controller.last.point
    go (inl none) = absurd (let z : (run plan (opening plan) events).controller.last.id ≡ 0 = ap (λ (x : SnapshotView). x.id) none in omega (arith, z, some))
    go (inr l) =
        let k = start_was plan events l.start r (made l.start l.of.there) in
        subst (λ n. IsSnapshotAt plan events (run plan (opening plan) events).controller.last.id (run plan (opening plan) events).controller.last.views n) (sym l.point)
        (subst (λ v. IsSnapshotAt plan events (run plan (opening plan) events).controller.last.id v l.start.counter) (sym (l.views refl))
        (subst (λ i. IsSnapshotAt plan events i l.start.views l.start.counter) l.of.is k))

-- ---- a release

stays_filtered : (p : Record → Bool) (x : Record) (xs : List Record) → Among x xs → p x ≡ true → Among x (filter p xs)
stays_filtered p x [] a t = absurd a
stays_filtered p x (y ∷ ys) a t = go (stays_filtered p x ys) (p y) refl a
  where
    go : (Among x ys → p x ≡ true → Among x (filter p ys)) → (b : Bool) → p y ≡ b → (x ≡ y) ⊎ Among x ys → Among x (if b then y ∷ filter p ys else filter p ys)
    go f true e (inl same) = inl same
    go f true e (inr a) = inr (f a t)
    go f false e (inl same) = absurd (let clash : true ≡ false = sym t ∙ ap p same ∙ e in cc)
    go f false e (inr a) = f a t

module _ (plan : PlanView) (s : State) (starts : List SnapshotStart) (h : SnapshotsStand true plan s starts) (rest : List Message) (m : Message) (there : Among m s.bag) (c point : ℕ) (is : m.packet ≡ Release point) where
  pub release_safe : c < length s.clients → ReleaseIsSafe plan s (client_turn s c rest (client_takes plan.ops c (client_at s c) (Release point))) c point
  release_safe within = record {
    dropped = λ r a. let k = ltb-true _ _ (Rattle.flight_laws.proofs.SnapTurning.among_filter (λ (w : Record). nat_lt (max (client_at s c).released point) w.num) r (client_at s c).preserved
        (subst (λ (w : ClientState). Among r w.preserved) its a)) in omega (arith, k);
    covered = λ key num a v. go key num a v (nat_lt (max (client_at s c).released point) v.item.num) refl;
  }
    where
      its : client_at (client_turn s c rest (client_takes plan.ops c (client_at s c) (Release point))) c ≡ released_to point (client_at s c)
      its = get_or-set_same s.clients c (released_to point (client_at s c)) nobody within

      below : point ≤ s.controller.last.point
      below = (released_covered plan s starts h).flying m point there is

      go : (key : List ℕ) (num : ℕ) → IsAbsorbed plan s.log key num → (v : Covers (client_at s c).preserved key num) → (b : Bool) → nat_lt (max (client_at s c).released point) v.item.num ≡ b
          → Covers (client_at (client_turn s c rest (client_takes plan.ops c (client_at s c) (Release point))) c).preserved key num ⊎ (IsAtServer plan s key num ⊎ IsInSnapshot s key num)
      go key num a v true e = inl (subst (λ (w : ClientState). Covers w.preserved key num) (sym its) (record { item = v.item; there = stays_filtered (λ (w : Record). nat_lt (max (client_at s c).released point) w.num) v.item (client_at s c).preserved v.there e; on_key = v.on_key; above = v.above }))
      go key num a v false e = inr ((released_covered plan s starts h).covered key num a (let no_more = Rattle.std.proofs.Common.ltb-false _ _ e in let above = v.above in let old = (h.clients c).released refl in omega (arith, no_more, above, old, below)))

-- ---- a snapshot has one start

past_more : (plan : PlanView) (s : State) (p : Past) (es : List Event) (x : SnapshotStart) → Among x p.starts → Among x (past_from plan s p es).starts
past_more plan s p [] x a = a
past_more plan s p (e ∷ es) x a = past_more plan (happens plan s e) (remembers s p e) es x (Rattle.far_model.proofs.Members.among_append_left x p.starts (new_starts s e) a)

past_at : (plan : PlanView) (s : State) (p : Past) (es later : List Event) (e : Event) (x : SnapshotStart) → Among x (new_starts (run plan s es) e) → Among x (past_from plan s p (es ++ e ∷ later)).starts
past_at plan s p [] later e x a = past_more plan (happens plan s e) (remembers s p e) later x (Rattle.far_model.proofs.Members.among_append_right x p.starts (new_starts s e) a)
past_at plan s p (y ∷ es) later e x a = past_at plan (happens plan s y) (remembers s p y) es later e x a

-- whether it starts a snapshot by difference
abbrev is_from : Packet → Bool
is_from (SnapFrom epoch id base) = true
is_from _ = false

starts_then : (v : SwitchView) (to : Party) (p : Packet) (id : ℕ) → to ≡ Switch → IsStartWith id v.epoch p → Among (start_of v id (is_from p)) (starts_by v to p)
starts_then v (Client c) p id e k = absurd cc
starts_then v (Server n) p id e k = absurd cc
starts_then v Controller p id e k = absurd cc
starts_then v Switch (SnapStart epoch other) id e k =
    subst (λ b. Among (start_of v id false) (if b then start_of v other false ∷ [] else [])) (sym (eq-eqb epoch v.epoch k.0)) (inl (ap (λ n. start_of v n false) (sym k.1)))
starts_then v Switch (SnapFrom epoch other base) id e k =
    subst (λ b. Among (start_of v id true) (if b then start_of v other true ∷ [] else [])) (sym (eq-eqb epoch v.epoch k.0)) (inl (ap (λ n. start_of v n true) (sym k.1)))
starts_then v Switch _ id e k = absurd k

-- the start of a snapshot at an id
pub record IsRemembered (plan : PlanView) (events : List Event) (id : ℕ) (views : List (Option Record)) (point : ℕ) : Type 0 where
  pub start : SnapshotStart
  pub of : IsStartOf (past_of plan events).starts id start
  pub views_are : views ≡ start.views
  pub point_is : point ≡ start.counter

is_remembered : (plan : PlanView) (events : List Event) (id : ℕ) (views : List (Option Record)) (point : ℕ) → IsSnapshotAt plan events id views point → IsRemembered plan events id views point
is_remembered plan events id views point k = record {
  start = start_of before.switch id (is_from k.message.packet);
  of = record { there = subst (λ l. Among (start_of before.switch id (is_from k.message.packet)) (past_of plan l).starts) (sym k.split) (past_at plan (opening plan) no_past k.earlier k.later (Deliver k.place) (start_of before.switch id (is_from k.message.packet)) made); is = refl };
  views_are = k.views_are ∙ sym (ap (λ (x : State). map held_record x.switch.slots) after) ∙ sym d.views;
  point_is = k.point_is ∙ sym (ap (λ (x : State). x.switch.counter) after) ∙ sym d.counter;
}
  where
    before : State
    before = run plan (opening plan) k.earlier

    made : Among (start_of (run plan (opening plan) k.earlier).switch id (is_from k.message.packet)) (new_starts (run plan (opening plan) k.earlier) (Deliver k.place))
    made = subst (λ o. Among (start_of (run plan (opening plan) k.earlier).switch id (is_from k.message.packet)) (starts_with (run plan (opening plan) k.earlier).switch o)) (sym k.there)
        (starts_then (run plan (opening plan) k.earlier).switch k.message.to k.message.packet id k.to k.starts_it)

    d : IsStartedBy (run plan (opening plan) k.earlier) (happens plan (run plan (opening plan) k.earlier) (Deliver k.place)) (start_of (run plan (opening plan) k.earlier).switch id (is_from k.message.packet)) (made_by_delivery plan (run plan (opening plan) k.earlier) (Deliver k.place) (start_of (run plan (opening plan) k.earlier).switch id (is_from k.message.packet)) made).message
    d = (made_by_delivery plan (run plan (opening plan) k.earlier) (Deliver k.place) (start_of (run plan (opening plan) k.earlier).switch id (is_from k.message.packet)) made).by

    after : happens plan (run plan (opening plan) k.earlier) (Deliver k.place) ≡ run plan (opening plan) (k.earlier ++ Deliver k.place ∷ [])
    after = sym (run_one plan (opening plan) k.earlier (Deliver k.place))

-- what the slots held, and the counter, at the start of an id are one thing
pub one_snapshot : (plan : PlanView) (events : List Event) → SnapshotsStand true plan (run plan (opening plan) events) (past_of plan events).starts → (id : ℕ) (views other : List (Option Record)) (point own : ℕ)
    → IsSnapshotAt plan events id views point → IsSnapshotAt plan events id other own → (views ≡ other) × (point ≡ own)
one_snapshot plan events h id views other point own k l =
    let a = is_remembered plan events id views point k in
    let b = is_remembered plan events id other own l in
    let same = Rattle.flight_laws.proofs.SnapFrame.one_start true (past_of plan events).starts id a.start b.start h.rise.order a.of b.of in
    (a.views_are ∙ ap (λ (x : SnapshotStart). x.views) same ∙ sym b.views_are, a.point_is ∙ ap (λ (x : SnapshotStart). x.counter) same ∙ sym b.point_is)

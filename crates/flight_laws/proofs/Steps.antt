-- One step of every event, and runs.
use Rattle.far_invariants.specs.Slots.{IsGiven}
use Rattle.std.proofs.Common.{◌≡◌, ℕ, zero, suc, ◌+◌, ◌≤◌, ◌<◌, ◌⊎◌, inl, inr, Bool, true, false, true≢false, not, ◌||◌, eqb-true, List, [], ◌∷◌, length, replicate, refl, sym, ap, ◌∙◌, subst, arith}
use Rattle.std.specs.Prelude.{Option, None, Some, is_some, slice_get, slice_index_or}
use Rattle.std.specs.List.{remove}
use Rattle.std.proofs.lemmas.Bool.{and_parts}
use Rattle.std.proofs.lemmas.Option.{none-some, slice_get_within}
use Rattle.std.proofs.lemmas.List.{length-replicate}
use Rattle.far_base.specs.Limits.{IsPlan}
use Rattle.far_base.specs.PlanView.{PlanView}
use Rattle.far_base.specs.declared.event.Event.{Event}
use Rattle.far_base.specs.declared.event.Event.TheVariants.{Send, Deliver, Tick, Recover, Restart, Order as OrderOf}
use Rattle.far_base.specs.declared.packet.Message.{Message}
use Rattle.far_base.specs.declared.packet.Packet.{Packet}
use Rattle.far_base.specs.declared.packet.Packet.TheVariants.{GetReq, WriteReq, GetFwd, WriteFwd, GetRep, WriteRep, GetAns, WriteAns, Hot, Admit, AdmitAck, Peek, PeekAns, Remove, RemoveAns, SnapStart, SnapBegun, SnapRead, SnapPart, Store, Stored, Release, Ask, Told, TopAsk, TopIs, SnapFrom, SnapSame}
use Rattle.far_base.specs.declared.party.Party.{Party}
use Rattle.far_base.specs.declared.party.Party.TheVariants.{Client, Switch, Server, Controller}
use Rattle.far_base.specs.declared.plan.OpLine.{OpLine}
use Rattle.far_base.specs.declared.plan.Order.{Order}
use Rattle.far_base.specs.declared.plan.Order.TheVariants.{Admit as AdmitOrder, Evict as EvictOrder, Snap as SnapOrder, Stop as StopOrder, StopAt as StopAtOrder}
use Rattle.far_base.specs.declared.slot_state.SlotState.TheVariants.{Free, Evicting}
use Rattle.far_model.specs.Clients.{ClientState, line_of, request, script}
use Rattle.far_model.specs.Controller.{ControllerState, ready, tick}
use Rattle.far_model.specs.Events.{Keeping, can_deliver_some, can_send, client_turn, controller_turn, delivers, does_order, handled, happens_with, has_next, is_enabled, is_order_due, next_sent, restarts, ticks}
use Rattle.far_model.specs.Evictions.{state_at}
use Rattle.far_invariants.specs.Flights.{IsFor, OfOperation, Subject, subject, IsInFlight}
use Rattle.far_model.specs.Log.{is_read}
use Rattle.far_model.specs.Members.{Among}
use Rattle.far_model.specs.Parties.{Turn}
use Rattle.far_model.specs.Replies.{IsRunWith, KeptEvent, RepliesAt, RepliesToMessage, run_with, AnswersInKind, ceiling_after}
use Rattle.far_model.specs.Rounds.{Round}
use Rattle.far_model.specs.State.{State, client_at, clients_from, nobody, opening}
use Rattle.far_model.specs.View.{SlotView, empty_slot, server_of}
use Rattle.far_model.specs.Work.{work_left}
use Rattle.far_model.specs.Runs.{is_finished, is_quiet}
use Rattle.far_model.proofs.Members.{among_append, among_at}
use Rattle.flight_laws.proofs.Handling.{flight_opens, flight_step}
use Rattle.flight_laws.proofs.Lists.{by_test, get_or-replicate_default}
use Rattle.flight_laws.proofs.Working.{step_counted}
use Rattle.far_invariants.specs.InFlight.{epoch_in}
use Rattle.far_invariants.specs.Sound.{IsSound}
use Rattle.flight_laws.proofs.BeginKeeps.{evict_keeps, tick_keeps}
use Rattle.flight_laws.proofs.ControlKeeps.{acked_keeps, round_or_none, wanted_keeps}
use Rattle.flight_laws.proofs.EventKeeps.{recovery_keeps, restart_keeps, stop_keeps}
use Rattle.flight_laws.proofs.EventWork.{Works, none_from, step_lowers}
use Rattle.flight_laws.proofs.Frames.{owners_refl, plain_admissions, plain_evictions, rounds_last, snapshots_last}
use Rattle.flight_laws.proofs.Moves.{Takes, moves_none, moves_sent, moves_taken, of_admission, of_eviction, of_round, of_snapshot, takes}
use Rattle.flight_laws.proofs.PartyKeeps.{ask_keeps, burden, few_after, get_answered, get_served, release_taken, store_served, top_served, write_answered, write_served}
use Rattle.flight_laws.proofs.Quiet.{Flies, quiet_is_finished}
use Rattle.flight_laws.proofs.RoundTurns.{stored_keeps, told_keeps, top_keeps}
use Rattle.flight_laws.proofs.SnapKeeps.{begun_keeps, part_keeps, snapshot_keeps, same_keeps}
use Rattle.flight_laws.proofs.SwitchKeeps.{Inv, switch_keeps}
use Rattle.flight_laws.proofs.TurnKeeps.{peek_keeps, removal_keeps}

-- ---- a delivery

module _ (plan : PlanView) (k : Keeping) (s : State) (flight : IsInFlight plan s) (h : Inv plan s) (rest : List Message) where
  moved : (to : Party) (p : Packet) (w : Party) → to ≡ w → Inv plan (handled plan k s rest w p) → Inv plan (handled plan k s rest to p)
  moved to p w e x = subst (λ z. Inv plan (handled plan k s rest z p)) (sym e) x

  abbrev Taken : Party → Party → Packet → Type 0
  Taken from to p = Takes s.bag rest (record { from = from; to = to; packet = p })

  switch_runs : (to : Party) → to ≡ Switch → s.running || not (Rattle.far_model.specs.Events.is_switch to) ≡ true → s.running ≡ true
  switch_runs to e able = go s.running (sym (ap (λ z. s.running || not (Rattle.far_model.specs.Events.is_switch z)) e) ∙ able)
    where
      go : (b : Bool) → b || false ≡ true → b ≡ true
      go true x = refl
      go false x = absurd (true≢false (sym x))

  at_switch : (from to : Party) (p : Packet) → to ≡ Switch → IsFor plan.config p Switch → s.running || not (Rattle.far_model.specs.Events.is_switch to) ≡ true → Taken from to p → Inv plan (handled plan k s rest to p)
  at_switch from to p e goes able t = moved to p Switch e (switch_keeps plan s h (switch_runs to e able) flight.routed.switch rest from to p t goes)

  delivery_keeps : (from to : Party) (p : Packet) → IsFor plan.config p to → RepliesAt to p k.reply → s.running || not (Rattle.far_model.specs.Events.is_switch to) ≡ true → Taken from to p → Inv plan (handled plan k s rest to p)
  delivery_keeps from to (GetReq caller op key) goes ans able t = at_switch from to (GetReq caller op key) goes refl able t
  delivery_keeps from to (WriteReq caller op key body) goes ans able t = at_switch from to (WriteReq caller op key body) goes refl able t
  delivery_keeps from to (GetRep caller op key tag num body) goes ans able t = at_switch from to (GetRep caller op key tag num body) goes refl able t
  delivery_keeps from to (WriteRep caller op key num body) goes ans able t = at_switch from to (WriteRep caller op key num body) goes refl able t
  delivery_keeps from to (Admit epoch i key tag) goes ans able t = at_switch from to (Admit epoch i key tag) goes refl able t
  delivery_keeps from to (Peek epoch i tag) goes ans able t = at_switch from to (Peek epoch i tag) goes refl able t
  delivery_keeps from to (Remove epoch i tag latest num) goes ans able t = at_switch from to (Remove epoch i tag latest num) goes refl able t
  delivery_keeps from to (SnapStart epoch id) goes ans able t = at_switch from to (SnapStart epoch id) goes refl able t
  delivery_keeps from to (SnapFrom epoch id base) goes ans able t = at_switch from to (SnapFrom epoch id base) goes refl able t
  delivery_keeps from to (SnapSame id i) goes ans able t = moved to (SnapSame id i) Controller goes (same_keeps plan s h rest (record { from = from; to = to; packet = SnapSame id i }) t id i refl)
  delivery_keeps from to (SnapRead epoch id i) goes ans able t = at_switch from to (SnapRead epoch id i) goes refl able t
  delivery_keeps from to (GetFwd caller op key tag) goes ans able t =
      let n = server_of plan.config key in
      let r = subst (λ w. RepliesAt w (GetFwd caller op key tag) k.reply) goes ans in
      moved to (GetFwd caller op key tag) (Server (server_of plan.config key)) goes (subst (λ z. Inv plan (Rattle.far_model.specs.Events.server_turn s (server_of plan.config key) rest (GetFwd caller op key tag) z)) (sym r.is)
      (get_served plan s h rest (server_of plan.config key) from caller op key tag r.num r.body (subst (λ w. Taken from w (GetFwd caller op key tag)) goes t)))
  delivery_keeps from to (WriteFwd caller op key num body) goes ans able t =
      let r = subst (λ w. RepliesAt w (WriteFwd caller op key num body) k.reply) goes ans in
      moved to (WriteFwd caller op key num body) (Server (server_of plan.config key)) goes (subst (λ z. Inv plan (Rattle.far_model.specs.Events.server_turn s (server_of plan.config key) rest (WriteFwd caller op key num body) z)) (sym r.is)
      (write_served plan s h rest (server_of plan.config key) from caller op key num r.num body r.body (subst (λ w. Taken from w (WriteFwd caller op key num body)) goes t)))
  delivery_keeps from to (Store job item) goes ans able t =
      let r = subst (λ w. RepliesAt w (Store job item) k.reply) goes ans in
      moved to (Store job item) (Server (server_of plan.config item.key)) goes (subst (λ z. Inv plan (Rattle.far_model.specs.Events.server_turn s (server_of plan.config item.key) rest (Store job item) z)) (sym r)
      (store_served plan s h rest (server_of plan.config item.key) from job item (subst (λ w. Taken from w (Store job item)) goes t)))
  delivery_keeps from to (TopAsk round) goes ans able t =
      let r = subst (λ w. RepliesAt w (TopAsk round) k.reply) goes.is ans in
      moved to (TopAsk round) (Server goes.server) goes.is (subst (λ z. Inv plan (Rattle.far_model.specs.Events.server_turn s goes.server rest (TopAsk round) z)) (sym r.is)
      (top_served plan s h rest goes.server from round r.top (subst (λ w. Taken from w (TopAsk round)) goes.is t)))
  delivery_keeps from to (GetAns caller op key num body near) goes ans able t = moved to (GetAns caller op key num body near) (Client caller) goes (get_answered plan s h rest (record { from = from; to = to; packet = GetAns caller op key num body near }) t caller op key num body near refl)
  delivery_keeps from to (WriteAns caller op key num kept) goes ans able t = moved to (WriteAns caller op key num kept) (Client caller) goes (write_answered plan s h rest (record { from = from; to = to; packet = WriteAns caller op key num kept }) t caller op key num kept refl
      (flight.one.waited (record { from = from; to = to; packet = WriteAns caller op key num kept }) caller op t.there refl).1)
  delivery_keeps from to (Release point) goes ans able t = moved to (Release point) (Client goes.client) goes.is (release_taken plan s h rest (record { from = from; to = to; packet = Release point }) t goes.client point refl)
  delivery_keeps from to (Ask round) goes ans able t = moved to (Ask round) (Client goes.client) goes.is (ask_keeps plan s h rest from goes.client round (subst (λ w. Taken from w (Ask round)) goes.is t))
  delivery_keeps from to (Hot key) goes ans able t = moved to (Hot key) Controller goes (wanted_keeps plan s h rest t.members (λ q e. moves_taken q s.bag rest [] (record { from = from; to = to; packet = Hot key }) t e (λ x a. absurd a)) key)
  delivery_keeps from to (AdmitAck i tag) goes ans able t = moved to (AdmitAck i tag) Controller goes (acked_keeps plan s h rest from to i tag t)
  delivery_keeps from to (PeekAns i tag latest num body) goes ans able t = moved to (PeekAns i tag latest num body) Controller goes (peek_keeps plan s h rest (record { from = from; to = to; packet = PeekAns i tag latest num body }) t i tag latest num body refl)
  delivery_keeps from to (RemoveAns i tag done latest num body) goes ans able t = moved to (RemoveAns i tag done latest num body) Controller goes (removal_keeps plan s h rest (record { from = from; to = to; packet = RemoveAns i tag done latest num body }) t i tag done latest num body refl)
  delivery_keeps from to (SnapBegun id point) goes ans able t = moved to (SnapBegun id point) Controller goes (begun_keeps plan s h rest (record { from = from; to = to; packet = SnapBegun id point }) t id point refl)
  delivery_keeps from to (SnapPart id i view) goes ans able t = moved to (SnapPart id i view) Controller goes (part_keeps plan s h rest (record { from = from; to = to; packet = SnapPart id i view }) t id i view refl)
  delivery_keeps from to (Stored job) goes ans able t = moved to (Stored job) Controller goes (stored_keeps plan s h rest (record { from = from; to = to; packet = Stored job }) t job refl)
  delivery_keeps from to (Told round caller total item) goes ans able t = moved to (Told round caller total item) Controller goes (told_keeps plan s h rest (record { from = from; to = to; packet = Told round caller total item }) t round caller total item refl)
  delivery_keeps from to (TopIs round server top) goes ans able t = moved to (TopIs round server top) Controller goes (top_keeps plan s h rest (record { from = from; to = to; packet = TopIs round server top }) t round server top refl)

-- ---- a client sends

send_keeps : (plan : PlanView) (s : State) (c : ℕ) → Inv plan s → can_send (client_at s c) ≡ true → (left : List ℕ) → (client_at s c).left ≡ left → has_next left ≡ true → Inv plan (client_turn s c s.bag (next_sent plan.ops c (client_at s c) left))
send_keeps plan s c h able [] e next = absurd (true≢false (sym next))
send_keeps plan s c h able (op ∷ left) e next = record {
  sized = record {
    view = h.sized.view;
    states = h.sized.states;
    parts = h.sized.parts;
    views = h.sized.views;
    done = h.sized.done;
    preserved = few_after plan s t c turn.state refl (let n : length (client_at s c).left ≡ suc (length left) = ap length e in omega (arith, n)) h.sized.preserved;
  };
  epochs = record { running = h.epochs.running; sent = λ m a. sent m (among_append m s.bag (x ∷ []) a) };
  admissions = plain_admissions s t h.admissions (moves_sent of_admission s.bag (x ∷ []) (only of_admission refl)) refl (λ z. z) (λ z. z) (omega arith) refl (owners_refl s.switch);
  evictions = plain_evictions s t h.evictions (moves_sent of_eviction s.bag (x ∷ []) (only of_eviction refl)) refl refl (λ z. z) (omega arith) (omega arith) refl (owners_refl s.switch);
  snapshots = snapshots_last plan s t h.snapshots (record { moves = moves_sent of_snapshot s.bag (x ∷ []) (only of_snapshot refl); epoch = refl; job = refl; running = λ z. z; ids = omega arith; snap = refl; taken = refl });
  rounds = rounds_last plan s t h.rounds (record { moves = moves_sent of_round s.bag (x ∷ []) (only of_round refl); sources = λ m a. source m (among_append m s.bag (x ∷ []) a); running = refl; round = refl; numbers = omega arith; jobs = omega arith; slots = refl; wants = refl; eviction = refl; job = refl });
}
  where
    turn : Turn ClientState
    turn = next_sent plan.ops c (client_at s c) (op ∷ left)

    t : State
    t = client_turn s c s.bag (next_sent plan.ops c (client_at s c) (op ∷ left))

    x : Message
    x = record { from = Client c; to = Switch; packet = request c op (line_of plan.ops op) }

    is : subject (request c op (line_of plan.ops op)) ≡ OfOperation c op
    is = by_test (λ p. subject p ≡ OfOperation c op) (is_read (line_of plan.ops op).op) (GetReq c op (line_of plan.ops op).key) (WriteReq c op (line_of plan.ops op).key (line_of plan.ops op).body) refl refl

    none : epoch_in (request c op (line_of plan.ops op)) ≡ 0
    none = by_test (λ p. epoch_in p ≡ 0) (is_read (line_of plan.ops op).op) (GetReq c op (line_of plan.ops op).key) (WriteReq c op (line_of plan.ops op).key (line_of plan.ops op).body) refl refl

    only : (class : Subject → Bool) → class (OfOperation c op) ≡ false → (m : Message) → Among m (record { from = Client c; to = Switch; packet = request c op (line_of plan.ops op) } ∷ []) → class (subject m.packet) ≡ false
    only class y m (inl z) = ap (λ (w : Message). class (subject w.packet)) z ∙ ap class is ∙ y
    only class y m (inr a) = absurd a

    sent : (m : Message) → Among m s.bag ⊎ Among m (x ∷ []) → epoch_in m.packet ≤ s.controller.epoch
    sent m (inl a) = h.epochs.sent m a
    sent m (inr (inl z)) = let w : epoch_in m.packet ≡ 0 = ap (λ (w : Message). epoch_in w.packet) z ∙ none in omega (arith, w)
    sent m (inr (inr a)) = absurd a

    source : (m : Message) → Among m s.bag ⊎ Among m (x ∷ []) → Among m s.bag ⊎ (Rattle.far_model.specs.Events.is_switch m.from ≡ false)
    source m (inl a) = inl a
    source m (inr (inl z)) = inr (ap (λ (w : Message). Rattle.far_model.specs.Events.is_switch w.from) z)
    source m (inr (inr a)) = absurd a

-- ---- an order is done

counted_done : (plan : PlanView) (t : State) (n : ℕ) → Inv plan t → n ≤ length plan.orders → Inv plan (record t { done = n })
counted_done plan t n h le = record {
  sized = record { view = h.sized.view; states = h.sized.states; parts = h.sized.parts; views = h.sized.views; done = le; preserved = h.sized.preserved };
  epochs = record { running = h.epochs.running; sent = h.epochs.sent };
  admissions = plain_admissions t u h.admissions (moves_none of_admission t.bag) refl (λ z. z) (λ z. z) (omega arith) refl (owners_refl t.switch);
  evictions = plain_evictions t u h.evictions (moves_none of_eviction t.bag) refl refl (λ z. z) (omega arith) (omega arith) refl (owners_refl t.switch);
  snapshots = snapshots_last plan t u h.snapshots (record { moves = moves_none of_snapshot t.bag; epoch = refl; job = refl; running = λ z. z; ids = omega arith; snap = refl; taken = refl });
  rounds = rounds_last plan t u h.rounds (record { moves = moves_none of_round t.bag; sources = λ m a. inl a; running = refl; round = refl; numbers = omega arith; jobs = omega arith; slots = refl; wants = refl; eviction = refl; job = refl });
}
  where
    u : State
    u = record t { done = n }

order_keeps : (plan : PlanView) (s : State) (o : Option Order) → Inv plan s → slice_get plan.orders s.done ≡ o → is_order_due s o ≡ true → Inv plan (record (does_order plan s o) { done = s.done + 1 })
order_keeps plan s None h e due = absurd (true≢false (sym due))
order_keeps plan s (Some o) h e due = counted_done plan (does_order plan s (Some o)) (s.done + 1) (by o (and_parts _ _ due).0) (let b = slice_get_within plan.orders s.done o e in omega (arith, b))
  where
    by : (o : Order) → Rattle.far_model.specs.Events.is_possible s o ≡ true → Inv plan (does_order plan s (Some o))
    by (AdmitOrder step key) p = wanted_keeps plan s h s.bag (λ x a. a) (λ q e. moves_sent q s.bag [] (λ x a. absurd a)) key
    by (EvictOrder step key) p = let q = and_parts (not (is_some s.controller.eviction)) (not (is_some s.controller.round)) (and_parts s.running _ p).1 in evict_keeps plan s h (none_from s.controller.round q.1) key (none_from s.controller.eviction q.0)
    by (SnapOrder step) p = let q = and_parts (not (is_some s.controller.job)) (not (is_some s.controller.round)) (and_parts s.running _ p).1 in snapshot_keeps plan s h (and_parts s.running _ p).0 (none_from s.controller.round q.1) (none_from s.controller.job q.0)
    by (StopOrder step) p = stop_keeps plan s h p
    by (StopAtOrder kind times) p = stop_keeps plan s h p

-- ---- every event

pub step_keeps : (plan : PlanView) (k : Keeping) (s : State) (e : Event) → IsPlan plan → IsInFlight plan s → Inv plan s → AnswersInKind s e k → is_enabled plan s e ≡ true → Inv plan (happens_with plan k s e)
step_keeps plan k s (Send c) valid flight h ans able = send_keeps plan s c h able (client_at s c).left refl (and_parts (not (is_some (client_at s c).waits)) (has_next (client_at s c).left) able).1
step_keeps plan k s (Deliver i) valid flight h ans able = by (slice_get s.bag i) refl ans able
  where
    by : (o : Option Message) → slice_get s.bag i ≡ o → RepliesToMessage o k.reply → can_deliver_some s.running o ≡ true → Inv plan (delivers plan k s i o)
    by None e r can = absurd (true≢false (sym can))
    by (Some m) e r can = delivery_keeps plan k s flight h (remove s.bag i) m.from m.to m.packet (flight.routed.messages m (among_at m s.bag i e)).target r can (takes s.bag i m e)
step_keeps plan k s Tick valid flight h ans able = by (tick s.controller) refl able
  where
    by : (o : Option (Turn ControllerState)) → tick s.controller ≡ o → is_some o ≡ true → Inv plan (ticks s o)
    by None e z = absurd (true≢false (sym z))
    by (Some t) e z = tick_keeps plan s h t e
step_keeps plan k s Recover valid flight h ans able = recovery_keeps plan k s valid flight h able
step_keeps plan k s Restart valid flight h ans able = restart_keeps plan k s h (ready s.controller) refl able
step_keeps plan k s (OrderOf j) valid flight h ans able =
    let same : j ≡ s.done = eqb-true j s.done (and_parts _ _ able).0 in
    subst (λ n. Inv plan (record (does_order plan s (slice_get plan.orders n)) { done = s.done + 1 })) (sym same) (order_keeps plan s (slice_get plan.orders s.done) h refl (and_parts _ _ able).1)

-- ---- the opening

opening_burden : (ops : List OpLine) (n more c : ℕ) → burden (slice_index_or (clients_from ops n more) c nobody) ≤ length (script ops (n + c))
opening_burden ops n zero c = omega arith
opening_burden ops n (suc more) zero = let e : length (script ops (n + 0)) ≡ length (script ops n) = ap (λ k. length (script ops k)) (omega arith) in omega (arith, e)
opening_burden ops n (suc more) (suc c) = let e : length (script ops (suc n + c)) ≡ length (script ops (n + suc c)) = ap (λ k. length (script ops k)) (omega arith) in let b = opening_burden ops (suc n) more c in omega (arith, e, b)

pub opens : (plan : PlanView) → Inv plan (opening plan)
opens plan = record {
  sized = record {
    view = record { bound = length-replicate plan.config.slots None; slots_there = length-replicate plan.config.slots empty_slot; taken = length-replicate plan.config.slots 0 };
    states = length-replicate plan.config.slots Free;
    parts = tt;
    views = omega arith;
    done = omega arith;
    preserved = λ c. let b = opening_burden plan.ops 0 plan.config.clients c in let e : length (script plan.ops (0 + c)) ≡ length (script plan.ops c) = (let z : 0 + c ≡ c = omega arith in ap (λ k. length (script plan.ops k)) z) in omega (arith, b, e);
  };
  epochs = record { running = λ e. refl; sent = λ m a. absurd a };
  admissions = record {
    given = λ i tag key g. absurd (subst (IsGiven key tag) (free i) g);
    drawn = λ m i tag a e. absurd a;
    fits = λ m a. absurd a;
    meets = λ r m a. absurd a;
    one = λ none i. sym (ap Rattle.far_invariants.specs.Slots.admission_count (free i));
    once = λ tag. omega arith;
    empty = λ r i e. ap (λ (x : SlotView). x.valid) (get_or-replicate_default plan.config.slots i empty_slot);
  };
  evictions = record {
    tags = λ m i tag a e. absurd a;
    jobs = λ m job a e. absurd a;
    owned = λ m i tag key a e g. absurd a;
    evicting = λ i tag key e. absurd (let z : Free ≡ Evicting key tag = sym (free i) ∙ e in cc);
    flies = tt;
    emptied = λ r m a. absurd a;
  };
  snapshots = record {
    ids = λ m id a e. absurd a;
    snap = omega arith;
    taken = λ i. subst (λ n. n < 1) (sym (get_or-replicate_default plan.config.slots i 0)) (omega arith);
  };
  rounds = record { numbers = λ m number a e. absurd a; round = tt };
}
  where
    free : (i : ℕ) → state_at (replicate plan.config.slots Free) i ≡ Free
    free i = get_or-replicate_default plan.config.slots i Free

-- ---- all together

pub record Sound (plan : PlanView) (s : State) : Type 0 where
  pub flight : IsInFlight plan s
  pub inv : Inv plan s

pub sound_works : (plan : PlanView) (s : State) → Sound plan s → Works plan s
sound_works plan s h = record {
  flight = h.flight;
  sized = h.inv.sized;
  evictions = h.inv.evictions;
  calm = λ r e. by r e (round_or_none plan s h.inv.rounds);
}
  where
    by : (r : Round) → s.controller.round ≡ Some r → (s.controller.round ≡ None) ⊎ ((r : Round) × (s.controller.round ≡ Some r) × Rattle.far_invariants.specs.InFlight.RoundIs plan s r) → s.controller.eviction ≡ None
    by r e (inl n) = absurd (none-some r (sym n ∙ e))
    by r e (inr q) = (q.2).eviction

pub sound_flies : (plan : PlanView) (s : State) → Sound plan s → (s.running ≡ true → s.bag ≡ [] → s.controller.job ≡ None) → Flies plan s
sound_flies plan s h quiet = record { flight = h.flight; sized = h.inv.sized; admissions = h.inv.admissions; evictions = h.inv.evictions; no_job = quiet; rounds = h.inv.rounds }

pub sound_step : (plan : PlanView) (k : Keeping) (s : State) (e : Event) → IsPlan plan → Sound plan s → AnswersInKind s e k → is_enabled plan s e ≡ true → Sound plan (happens_with plan k s e)
sound_step plan k s e valid h ans able = record { flight = flight_step plan k s e h.flight ans able; inv = step_keeps plan k s e valid h.flight h.inv ans able }

pub sound_opens : (plan : PlanView) → Sound plan (opening plan)
sound_opens plan = record { flight = flight_opens plan; inv = opens plan }

pub sound_run : (plan : PlanView) (ceiling : ℕ) (s : State) (events : List KeptEvent) → IsPlan plan → Sound plan s → IsRunWith plan ceiling s events → Sound plan (run_with plan s events)
sound_run plan ceiling s [] valid h r = h
sound_run plan ceiling s (e ∷ es) valid h r = sound_run plan (ceiling_after s e.event ceiling) (happens_with plan e.keeping s e.event) es valid (sound_step plan e.keeping s e.event valid h r.1.kind r.0) r.2

pub sound_lowers : (plan : PlanView) (k : Keeping) (s : State) (e : Event) → Sound plan s → AnswersInKind s e k → is_enabled plan s e ≡ true → suc (work_left plan (happens_with plan k s e)) ≤ work_left plan s
sound_lowers plan k s e h ans able = step_lowers plan k s e (sound_works plan s h) ans able

pub run_spends : (plan : PlanView) (ceiling : ℕ) (s : State) (events : List KeptEvent) → IsPlan plan → Sound plan s → IsRunWith plan ceiling s events → (run_with plan s events).steps + work_left plan (run_with plan s events) ≤ s.steps + work_left plan s
run_spends plan ceiling s [] valid h r = omega arith
run_spends plan ceiling s (e ∷ es) valid h r =
    let t = happens_with plan e.keeping s e.event in
    let less = sound_lowers plan e.keeping s e.event h r.1.kind r.0 in
    let one = step_counted plan e.keeping s e.event r.0 in
    let later = run_spends plan (ceiling_after s e.event ceiling) t es valid (sound_step plan e.keeping s e.event valid h r.1.kind r.0) r.2 in
    omega (arith, less, one, later)

pub quiet_run : (plan : PlanView) (s : State) → IsPlan plan → Sound plan s → (s.running ≡ true → s.bag ≡ [] → s.controller.job ≡ None) → is_quiet plan s ≡ is_finished plan s
quiet_run plan s valid h quiet = quiet_is_finished plan s valid (sound_flies plan s h quiet)

-- the record that contracts see

pub to_sound : (plan : PlanView) (s : State) → IsSound plan s → Sound plan s
to_sound plan s h = record { flight = record { routed = h.routed; one = h.one }; inv = record { sized = h.sized; epochs = h.epochs; admissions = h.admissions; evictions = h.evictions; snapshots = h.snapshots; rounds = h.rounds } }

pub from_sound : (plan : PlanView) (s : State) → Sound plan s → IsSound plan s
from_sound plan s h = record { routed = h.flight.routed; one = h.flight.one; sized = h.inv.sized; epochs = h.inv.epochs; admissions = h.inv.admissions; evictions = h.inv.evictions; snapshots = h.inv.snapshots; rounds = h.inv.rounds }

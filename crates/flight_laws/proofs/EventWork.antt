-- Every event lowers the work that is left.
use Rattle.std.proofs.Common.{◌≡◌, ℕ, zero, suc, ◌+◌, ◌-◌, ◌*◌, ◌≤◌, ◌<◌, Bool, true, false, true≢false, cond, not, ◌&&◌, nat_eq, nat_lt, eqb-true, List, [], ◌∷◌, length, drop, refl, sym, ap, ◌∙◌, subst, arith}
use Rattle.std.specs.Prelude.{Option, None, Some, is_some, slice_get}
use Rattle.std.specs.List.{list_all, remove, sum_by}
use Rattle.std.proofs.lemmas.Bool.{and_parts}
use Rattle.std.proofs.lemmas.Option.{none-some, get_or_from_slice_get, slice_get_within}
use Rattle.std.proofs.lemmas.List.{map-append}
use Rattle.std.proofs.lemmas.List.Sums.{sum_by-append, sum_by-cons, sum_by-drop_more, sum_by-set}
use Rattle.far_base.specs.PlanView.{PlanView}
use Rattle.far_base.specs.declared.event.Event.{Event}
use Rattle.far_base.specs.declared.event.Event.TheVariants.{Send, Deliver, Tick, Recover, Restart, Order as OrderOf}
use Rattle.far_base.specs.declared.packet.Message.{Message}
use Rattle.far_base.specs.declared.packet.Out.{Out}
use Rattle.far_base.specs.declared.packet.Packet.{Packet}
use Rattle.far_base.specs.declared.packet.Packet.TheVariants.{GetReq, WriteReq, GetFwd, WriteFwd, GetRep, WriteRep, GetAns, WriteAns, Hot, Admit, AdmitAck, Peek, PeekAns, Remove, RemoveAns, SnapStart, SnapBegun, SnapRead, SnapPart, Store, Stored, Release, Ask, Told, TopAsk, TopIs, SnapFrom, SnapSame}
use Rattle.far_base.specs.declared.party.Party.{Party}
use Rattle.far_base.specs.declared.party.Party.TheVariants.{Client, Switch, Server, Controller}
use Rattle.far_base.specs.declared.plan.Config.{Config}
use Rattle.far_base.specs.declared.plan.OpLine.{OpLine}
use Rattle.far_base.specs.declared.plan.Order.{Order}
use Rattle.far_base.specs.declared.plan.Order.TheVariants.{Admit as AdmitOrder, Evict as EvictOrder, Snap as SnapOrder, Stop as StopOrder, StopAt as StopAtOrder}
use Rattle.far_base.specs.declared.record.Record.{Record}
use Rattle.far_base.specs.declared.slot_state.Due.{Due}
use Rattle.far_base.specs.declared.slot_state.Due.TheVariants.{Peeked, Stored as StoredDue, Removed, Over}
use Rattle.far_model.specs.Clients.{ClientState, answered_record, client_takes, closed, line_of, preserves, request, script, tells, tells_each}
use Rattle.far_model.specs.Controller.{ControllerState, controller_takes, evict_key, is_evicting_job, numbered_records, opening_controller, ready, ready_in, snapshot_stores, start_recovery, start_snapshot, stores_of, tick, to_clients, wanted}
use Rattle.far_model.specs.Events.{Keeping, can_deliver_some, can_recover, can_send, client_turn, controller_turn, delivers, does_order, handled, happens_with, has_next, is_enabled, is_order_due, next_sent, reply_goes_to, restarts, server_turn, switch_turn, ticks}
use Rattle.far_model.specs.Evictions.{Eviction, is_due, waits_for, waits_job}
use Rattle.far_invariants.specs.Flights.{IsFor, subject, IsInFlight}
use Rattle.far_model.specs.KeyedRecords.{put_record}
use Rattle.far_model.specs.Log.{is_read}
use Rattle.far_model.specs.Parties.{Turn, idle, messages_from}
use Rattle.far_model.specs.Pass.{pass}
use Rattle.far_model.specs.Replies.{RepliesAt, RepliesToMessage, AnswersInKind}
use Rattle.far_model.specs.Rounds.{Round, greatest_top, has_told}
use Rattle.far_model.specs.Snapshots.{view_records}
use Rattle.far_model.specs.State.{State, client_at, nobody}
use Rattle.far_model.specs.View.{SwitchView, is_taken, opening_view, server_of}
use Rattle.far_model.specs.Work.{client_weight, eviction_weight, is_peeking, is_removing, message_weight, order_weight, packet_weight, round_weight, stop_weight, stopped_weight, tries_of, untaken_from, work_left}
use Rattle.far_model.proofs.Members.{among_at, among_remove}
use Rattle.flight_laws.proofs.Bounds.{scripts, scripts_most}
use Rattle.flight_laws.proofs.Lists.{by_test, get_or-replicate_default, sum_by-set_same}
use Rattle.flight_laws.proofs.InKind.{client_within}
use Rattle.far_invariants.specs.InFlight.{EvictionIs, EvictionsFly, OwnFlies, TriesFit, is_own}
use Rattle.far_invariants.specs.Sizes.{IsSized}
use Rattle.flight_laws.proofs.Counts.{count_removed, counted_true, none_counted, sum_less, sum_removed, sum_same}
use Rattle.flight_laws.proofs.ControlWork.{AllStrange, ControlLowers, Facts, NoneOf, plain_weight, same_weight, snapshot_lowers, takes_lowers, wanted_lowers}
use Rattle.flight_laws.proofs.PassWork.{pass_lowers}
use Rattle.flight_laws.proofs.TickWork.{evict_lowers, tick_lowers}

-- what the work rests on
pub record Works (plan : PlanView) (s : State) : Type 0 where
  pub flight : IsInFlight plan s
  pub sized : IsSized plan s
  pub evictions : EvictionsFly s
  pub calm : (r : Round) → s.controller.round ≡ Some r → s.controller.eviction ≡ None

abbrev Lowers : PlanView → State → State → Type 0
Lowers plan s t = suc (work_left plan t) ≤ work_left plan s

-- ---- tries

tries_few : (d : Due) (n : ℕ) → TriesFit d n → n ≤ 3
tries_few Peeked n h = omega (arith, h)
tries_few StoredDue n h = omega (arith, h)
tries_few Removed n h = h.1
tries_few Over n h = absurd h

module _ (plan : PlanView) (s : State) (works : Works plan s) where
  pub eviction_is : (e : Eviction) → s.controller.eviction ≡ Some e → EvictionIs s.controller e
  eviction_is e h = (subst (OwnFlies s.controller s.bag) h works.evictions.flies).0

  few : tries_of s.controller.eviction ≤ 3
  few = go s.controller.eviction (λ e h. eviction_is e h)
    where
      go : (o : Option Eviction) → ((e : Eviction) → o ≡ Some e → EvictionIs s.controller e) → tries_of o ≤ 3
      go None f = omega arith
      go (Some e) f = tries_few e.due e.tries (f e refl).tries

  -- what stays in the bag is strange to the eviction whose own packet is taken
  stays_strange : (i : ℕ) (m : Message) (e : Eviction) → slice_get s.bag i ≡ Some m → s.controller.eviction ≡ Some e → is_own e (subject m.packet) ≡ true → AllStrange (Some e) (remove s.bag i)
  stays_strange i m e at h own x a =
      let one = (subst (OwnFlies s.controller s.bag) h works.evictions.flies).1 in
      let p = λ (w : Message). is_own e (subject w.packet) in
      none_counted p (remove s.bag i) x (let r = count_removed p s.bag i m at in let c = counted_true p m own in omega (arith, one, r, c)) a

  facts : (i : ℕ) (m : Message) → slice_get s.bag i ≡ Some m → Facts plan s.controller (remove s.bag i) m.packet
  facts i m at = record {
    eviction = λ e h. (eviction_is e h, λ own. stays_strange i m e at h own);
    jobs = λ x job a. works.evictions.jobs x job (among_remove x s.bag i a);
    states = works.sized.states;
    parts = works.sized.parts;
  }

  -- with no eviction under way none of its packets has the tag of a slot
  none_of : s.controller.eviction ≡ None → NoneOf plan s.bag s.controller
  none_of none m i tag key a e g = let o = works.evictions.owned m i tag key a e g in none-some o.eviction (sym none ∙ o.is)

-- ---- clients

module _ (plan : PlanView) (k : Keeping) (s : State) (works : Works plan s) (rest : List Message) where
  abbrev weigh : Message → ℕ
  weigh = message_weight plan s.controller

  client_lowers : (c w : ℕ) (turn : Turn ClientState) → turn.state.left ≡ (client_at s c).left → suc (sum_by weigh (messages_from (Client c) turn.out)) ≤ w → sum_by weigh rest + w ≡ sum_by weigh s.bag → Lowers plan s (client_turn s c rest turn)
  client_lowers c w turn left less total =
      let clients = sum_by-set_same client_weight s.clients c turn.state nobody (ap (λ xs. 24 * length xs) left) in
      let bag = sum_by-append weigh rest (messages_from (Client c) turn.out) in
      omega (arith, clients, bag, less, total)

  preserves_left : (c : ClientState) (kept : Bool) (r : Record) → (preserves c kept r).left ≡ c.left
  preserves_left c kept r = by_test (λ (w : ClientState). w.left ≡ c.left) (kept && nat_lt c.released r.num) (record c { preserved = put_record r c.preserved }) c refl refl

  each_weigh : (round c total : ℕ) (items : List Record) → sum_by weigh (messages_from (Client c) (tells_each round c total items)) ≡ 3 * length items
  each_weigh round c total [] = refl
  each_weigh round c total (r ∷ rs) = sum_by-cons weigh (record { from = Client c; to = Controller; packet = Told round c total (Some r) }) (messages_from (Client c) (tells_each round c total rs)) ∙ omega (arith, each_weigh round c total rs)

  tells_weigh : (round c : ℕ) (items : List Record) → sum_by weigh (messages_from (Client c) (tells round c items)) ≤ 3 * length items + 1
  tells_weigh round c [] = omega arith
  tells_weigh round c (r ∷ rs) = omega (arith, each_weigh round c (length (r ∷ rs)) (r ∷ rs))

  -- ---- servers

  server_lowers : (n : ℕ) (p q : Packet) → k.reply ≡ Some q → suc (packet_weight plan s.controller (reply_goes_to q) q) ≤ packet_weight plan s.controller (Server n) p → sum_by weigh rest + packet_weight plan s.controller (Server n) p ≡ sum_by weigh s.bag → Lowers plan s (server_turn s n rest p k.reply)
  server_lowers n p q e less total = subst (λ z. Lowers plan s (server_turn s n rest p z)) (sym e) (
      let bag = sum_by-append weigh rest (record { from = Server n; to = reply_goes_to q; packet = q } ∷ []) in
      omega (arith, bag, less, total))

  store_falls : (job : ℕ) → suc (eviction_weight s.controller (is_evicting_job job s.controller.eviction) 11 1) ≤ eviction_weight s.controller (is_evicting_job job s.controller.eviction) 12 2
  store_falls job = go s.controller.eviction (λ e h. eviction_is plan s works e h)
    where
      due_stored : (d : Due) (n : ℕ) → is_due d StoredDue ≡ true → TriesFit d n → n ≤ 2
      due_stored Peeked n h t = absurd (true≢false (sym h))
      due_stored StoredDue n h t = t
      due_stored Removed n h t = absurd (true≢false (sym h))
      due_stored Over n h t = absurd (true≢false (sym h))

      at : (n : ℕ) (b : Bool) → (b ≡ true → n ≤ 2) → suc (cond {A = ℕ} b (11 - 4 * n) 1) ≤ cond {A = ℕ} b (12 - 4 * n) 2
      at n true f = let l = f refl in omega (arith, l)
      at n false f = omega arith

      go : (o : Option Eviction) → ((e : Eviction) → o ≡ Some e → EvictionIs s.controller e) → suc (cond {A = ℕ} (is_evicting_job job o) (11 - 4 * tries_of o) 1) ≤ cond {A = ℕ} (is_evicting_job job o) (12 - 4 * tries_of o) 2
      go None f = omega arith
      go (Some e) f = at e.tries (waits_job job e) (λ h. due_stored e.due e.tries (and_parts _ _ h).0 (f e refl).tries)

  -- ---- the switch and the controller

  switch_lowers : (p : Packet) → IsFor plan.config p Switch → sum_by weigh rest + packet_weight plan s.controller Switch p ≡ sum_by weigh s.bag → Lowers plan s (switch_turn s rest p (pass s.switch p))
  switch_lowers p goes total =
      let less = pass_lowers plan s.controller (few plan s works) s.switch works.sized.view plan.config p (ap (λ (c : Config). c.slots) works.flight.routed.switch) goes in
      let bag = sum_by-append weigh rest (messages_from Switch (Rattle.far_model.specs.Pass.passed_out (pass s.switch p))) in
      omega (arith, less, bag, total)

  control_lowers : (w : ℕ) (t : Turn ControllerState) → ControlLowers plan s.controller rest w t → sum_by weigh rest + w ≤ sum_by weigh s.bag + w → (gone : ℕ) → sum_by weigh rest + gone ≡ sum_by weigh s.bag → w ≡ gone → Lowers plan s (controller_turn s rest t)
  control_lowers w t l h gone total same =
      let bag = sum_by-append (message_weight plan t.state) rest (messages_from Controller t.out) in
      let stop : stop_weight plan (controller_turn s rest t) ≡ stop_weight plan s = ap (λ b. cond {A = ℕ} (not s.running && not b) (stopped_weight plan) 0) l.round in
      let less = l.less in
      omega (arith, bag, stop, less, total, same)

  moved : (to : Party) (p : Packet) (w : Party) → to ≡ w → Lowers plan s (handled plan k s rest w p) → Lowers plan s (handled plan k s rest to p)
  moved to p w e x = subst (λ z. Lowers plan s (handled plan k s rest z p)) (sym e) x

  -- ---- a delivery, by the kind of the packet

  abbrev Total : Packet → Party → Type 0
  Total p to = sum_by weigh rest + packet_weight plan s.controller to p ≡ sum_by weigh s.bag

  at_switch : (p : Packet) (to : Party) → to ≡ Switch → IsFor plan.config p Switch → Total p to → Lowers plan s (handled plan k s rest to p)
  at_switch p to e goes total = moved to p Switch e (switch_lowers p goes (subst (Total p) e total))

  at_controller : (p : Packet) (to : Party) → to ≡ Controller → IsFor plan.config p Controller → Facts plan s.controller rest p → Total p to → Lowers plan s (handled plan k s rest to p)
  at_controller p to e goes f total = moved to p Controller e
      (control_lowers (packet_weight plan s.controller Controller p) (controller_takes plan.config s.controller p) (takes_lowers plan rest s.controller p f works.calm goes) (omega (arith, subst (Total p) e total)) (packet_weight plan s.controller Controller p) (subst (Total p) e total) refl)

  delivery_lowers : (p : Packet) (to : Party) → IsFor plan.config p to → RepliesAt to p k.reply → Facts plan s.controller rest p → Total p to → Lowers plan s (handled plan k s rest to p)
  delivery_lowers (GetReq caller op key) to goes ans f total = at_switch (GetReq caller op key) to goes refl total
  delivery_lowers (WriteReq caller op key body) to goes ans f total = at_switch (WriteReq caller op key body) to goes refl total
  delivery_lowers (GetRep caller op key tag num body) to goes ans f total = at_switch (GetRep caller op key tag num body) to goes refl total
  delivery_lowers (WriteRep caller op key num body) to goes ans f total = at_switch (WriteRep caller op key num body) to goes refl total
  delivery_lowers (Admit epoch i key tag) to goes ans f total = at_switch (Admit epoch i key tag) to goes refl total
  delivery_lowers (Peek epoch i tag) to goes ans f total = at_switch (Peek epoch i tag) to goes refl total
  delivery_lowers (Remove epoch i tag latest num) to goes ans f total = at_switch (Remove epoch i tag latest num) to goes refl total
  delivery_lowers (SnapStart epoch id) to goes ans f total = at_switch (SnapStart epoch id) to goes refl total
  delivery_lowers (SnapFrom epoch id base) to goes ans f total = at_switch (SnapFrom epoch id base) to goes refl total
  delivery_lowers (SnapRead epoch id i) to goes ans f total = at_switch (SnapRead epoch id i) to goes refl total
  delivery_lowers (GetFwd caller op key tag) to goes ans f total =
      let r = subst (λ w. RepliesAt w (GetFwd caller op key tag) k.reply) goes ans in
      moved to (GetFwd caller op key tag) (Server (server_of plan.config key)) goes
      (server_lowers (server_of plan.config key) (GetFwd caller op key tag) (GetRep caller op key tag r.num r.body) r.is (omega arith) (subst (Total (GetFwd caller op key tag)) goes total))
  delivery_lowers (WriteFwd caller op key num body) to goes ans f total =
      let r = subst (λ w. RepliesAt w (WriteFwd caller op key num body) k.reply) goes ans in
      moved to (WriteFwd caller op key num body) (Server (server_of plan.config key)) goes
      (server_lowers (server_of plan.config key) (WriteFwd caller op key num body) (WriteRep caller op key r.num r.body) r.is (omega arith) (subst (Total (WriteFwd caller op key num body)) goes total))
  delivery_lowers (Store job item) to goes ans f total =
      let r = subst (λ w. RepliesAt w (Store job item) k.reply) goes ans in
      moved to (Store job item) (Server (server_of plan.config item.key)) goes
      (server_lowers (server_of plan.config item.key) (Store job item) (Stored job) r (store_falls job) (subst (Total (Store job item)) goes total))
  delivery_lowers (TopAsk round) to goes ans f total =
      let r = subst (λ w. RepliesAt w (TopAsk round) k.reply) goes.is ans in
      moved to (TopAsk round) (Server goes.server) goes.is
      (server_lowers goes.server (TopAsk round) (TopIs round goes.server r.top) r.is (omega arith) (subst (Total (TopAsk round)) goes.is total))
  delivery_lowers (GetAns caller op key num body near) to goes ans f total = moved to (GetAns caller op key num body near) (Client caller) goes
      (client_lowers caller 1 (client_takes plan.ops caller (client_at s caller) (GetAns caller op key num body near)) refl (omega arith) total)
  delivery_lowers (WriteAns caller op key num kept) to goes ans f total = moved to (WriteAns caller op key num kept) (Client caller) goes
      (client_lowers caller 1 (client_takes plan.ops caller (client_at s caller) (WriteAns caller op key num kept)) (preserves_left (closed (client_at s caller)) kept (answered_record plan.ops op num)) (omega arith) total)
  delivery_lowers (Release point) to goes ans f total = moved to (Release point) (Client goes.client) goes.is
      (client_lowers goes.client 1 (client_takes plan.ops goes.client (client_at s goes.client) (Release point)) refl (omega arith) total)
  delivery_lowers (Ask round) to goes ans f total = moved to (Ask round) (Client goes.client) goes.is
      (client_lowers goes.client (2 + 3 * length (script plan.ops goes.client)) (client_takes plan.ops goes.client (client_at s goes.client) (Ask round)) refl
      (omega (arith, tells_weigh round goes.client (client_at s goes.client).preserved, works.sized.preserved goes.client)) (subst (Total (Ask round)) goes.is total))
  delivery_lowers (Hot key) to goes ans f total = at_controller (Hot key) to goes refl f total
  delivery_lowers (AdmitAck i tag) to goes ans f total = at_controller (AdmitAck i tag) to goes refl f total
  delivery_lowers (PeekAns i tag latest num body) to goes ans f total = at_controller (PeekAns i tag latest num body) to goes refl f total
  delivery_lowers (RemoveAns i tag done latest num body) to goes ans f total = at_controller (RemoveAns i tag done latest num body) to goes refl f total
  delivery_lowers (SnapBegun id point) to goes ans f total = at_controller (SnapBegun id point) to goes refl f total
  delivery_lowers (SnapSame id i) to goes ans f total = at_controller (SnapSame id i) to goes refl f total
  delivery_lowers (SnapPart id i view) to goes ans f total = at_controller (SnapPart id i view) to goes refl f total
  delivery_lowers (Stored job) to goes ans f total = at_controller (Stored job) to goes refl f total
  delivery_lowers (Told round caller total' item) to goes ans f total = at_controller (Told round caller total' item) to goes refl f total
  delivery_lowers (TopIs round server top) to goes ans f total = at_controller (TopIs round server top) to goes refl f total

-- ---- recovery

-- without the eviction no packet weighs more
module _ (plan : PlanView) (c : ControllerState) (e : Eviction) (is : c.eviction ≡ Some e) (tries : TriesFit e.due e.tries) where
  removed_few : (d : Due) (n : ℕ) → is_due d Removed ≡ true → TriesFit d n → n ≤ 3
  removed_few Peeked n h t = absurd (true≢false (sym h))
  removed_few StoredDue n h t = absurd (true≢false (sym h))
  removed_few Removed n h t = t.1
  removed_few Over n h t = absurd (true≢false (sym h))

  stored_few : (d : Due) (n : ℕ) → is_due d StoredDue ≡ true → TriesFit d n → n ≤ 2
  stored_few Peeked n h t = absurd (true≢false (sym h))
  stored_few StoredDue n h t = t
  stored_few Removed n h t = absurd (true≢false (sym h))
  stored_few Over n h t = absurd (true≢false (sym h))

  at_least : (b : Bool) (x y : ℕ) → (b ≡ true → y ≤ x) → y ≤ cond {A = ℕ} b x y
  at_least true x y f = f refl
  at_least false x y f = omega arith

  pub plain_least : (to : Party) (p : Packet) → packet_weight plan (opening_controller plan.config) to p ≤ packet_weight plan c to p
  plain_least to (Peek epoch i tag) = at_least (is_peeking i tag c.eviction) 14 2 (λ h. omega arith)
  plain_least to (PeekAns i tag latest num body) = at_least (is_peeking i tag c.eviction) 13 1 (λ h. omega arith)
  plain_least to (Remove epoch i tag latest num) = subst (λ o. 2 ≤ cond {A = ℕ} (is_removing i tag o) (14 - 4 * tries_of o) 2) (sym is) (at_least (waits_for Removed i tag e) (14 - 4 * e.tries) 2 (λ h. let l = removed_few e.due e.tries (and_parts _ _ h).0 tries in omega (arith, l)))
  plain_least to (RemoveAns i tag done latest num body) = subst (λ o. 1 ≤ cond {A = ℕ} (is_removing i tag o) (13 - 4 * tries_of o) 1) (sym is) (at_least (waits_for Removed i tag e) (13 - 4 * e.tries) 1 (λ h. let l = removed_few e.due e.tries (and_parts _ _ h).0 tries in omega (arith, l)))
  plain_least to (Store job item) = subst (λ o. 2 ≤ cond {A = ℕ} (is_evicting_job job o) (12 - 4 * tries_of o) 2) (sym is) (at_least (waits_job job e) (12 - 4 * e.tries) 2 (λ h. let l = stored_few e.due e.tries (and_parts _ _ h).0 tries in omega (arith, l)))
  plain_least to (Stored job) = subst (λ o. 1 ≤ cond {A = ℕ} (is_evicting_job job o) (11 - 4 * tries_of o) 1) (sym is) (at_least (waits_job job e) (11 - 4 * e.tries) 1 (λ h. let l = stored_few e.due e.tries (and_parts _ _ h).0 tries in omega (arith, l)))
  plain_least to _ = omega arith

asks_weigh : (plan : PlanView) (c : ControllerState) (round n more : ℕ) → sum_by (message_weight plan c) (messages_from Controller (to_clients n more (Ask round))) ≡ 2 * more + 3 * scripts 1 plan.ops n more
unfolding scripts
asks_weigh plan c round n zero = refl
asks_weigh plan c round n (suc more) = sum_by-cons (message_weight plan c) (record { from = Controller; to = Client n; packet = Ask round }) (messages_from Controller (to_clients (suc n) more (Ask round))) ∙ omega (arith, asks_weigh plan c round (suc n) more)

stores_weigh : (plan : PlanView) (c : ControllerState) (job : ℕ) (items : List Record) → c.eviction ≡ None → sum_by (message_weight plan c) (messages_from Controller (stores_of plan.config job items)) ≡ 2 * length items
stores_weigh plan c job [] none = refl
stores_weigh plan c job (r ∷ rs) none =
    let one = same_weight plan c (opening_controller plan.config) (Server (server_of plan.config r.key)) (Store job r) none in
    sum_by-cons (message_weight plan c) (record { from = Controller; to = Server (server_of plan.config r.key); packet = Store job r }) (messages_from Controller (stores_of plan.config (suc job) rs)) ∙ omega (arith, one, stores_weigh plan c (suc job) rs none)

pub views_most : (views : List (Option Record)) → length (view_records views) ≤ length views
views_most [] = omega arith
views_most (None ∷ views) = omega (arith, views_most views)
views_most (Some r ∷ views) = omega (arith, views_most views)

pub numbered_most : (items : List Record) → length (numbered_records items) ≤ length items
numbered_most [] = omega arith
numbered_most (r ∷ rs) = go (nat_eq r.num 0) (numbered_most rs)
  where
    go : (b : Bool) → length (numbered_records rs) ≤ length rs → length (cond b (numbered_records rs) (r ∷ numbered_records rs)) ≤ suc (length rs)
    go true h = omega (arith, h)
    go false h = omega (arith, h)

untaken_reset : (config : Config) (epoch counter i more : ℕ) → untaken_from (opening_view config epoch counter) i more ≡ 0
untaken_reset config epoch counter i zero = refl
untaken_reset config epoch counter i (suc more) =
    let taken : is_taken (opening_view config epoch counter) i ≡ true = ap (λ n. nat_eq n 0) (get_or-replicate_default config.slots i 0) in
    let one : cond {A = ℕ} (is_taken (opening_view config epoch counter) i) 0 1 ≡ 0 = ap (λ b. cond {A = ℕ} b 0 1) taken in
    omega (arith, one, untaken_reset config epoch counter (suc i) more)

recovery_lowers : (plan : PlanView) (k : Keeping) (s : State) → Works plan s → can_recover s ≡ true → Lowers plan s (happens_with plan k s Recover)
recovery_lowers plan k s works able =
    let c = s.controller in
    let t = start_recovery plan.config c in
    let a = and_parts _ _ able in
    let b = and_parts _ _ a.1 in
    let items = snapshot_stores c in
    let old = sum_less (plain_weight plan) (message_weight plan c) s.bag (λ m x. least c.eviction refl m) in
    let new = sum_same (message_weight plan t.state) (plain_weight plan) s.bag (λ m x. same_weight plan t.state (opening_controller plan.config) m.to m.packet refl) in
    let bag = sum_by-append (message_weight plan t.state) s.bag (messages_from Controller t.out) in
    let outs = ap (sum_by (message_weight plan t.state)) (map-append (λ (o : Out). record { from = Controller; to = o.to; packet = o.packet }) (to_clients 0 plan.config.clients (Ask c.next_round)) (stores_of plan.config c.next_job items))
    ∙ sum_by-append (message_weight plan t.state) (messages_from Controller (to_clients 0 plan.config.clients (Ask c.next_round))) (messages_from Controller (stores_of plan.config c.next_job items)) in
    let asks = asks_weigh plan t.state c.next_round 0 plan.config.clients in
    let stores = stores_weigh plan t.state c.next_job items refl in
    let few_scripts = scripts_most 1 plan.ops 0 plan.config.clients in
    let few_items : length items ≤ plan.config.slots = omega (arith, numbered_most (view_records c.last.views), views_most c.last.views, works.sized.views) in
    let off : not (is_some c.round) ≡ true = b.0 in
    let before : stop_weight plan s ≡ stopped_weight plan = ap (λ z. cond {A = ℕ} z (stopped_weight plan) 0) (ap (λ z. z && not (is_some c.round)) a.0 ∙ off) in
    let after : stop_weight plan (controller_turn s s.bag t) ≡ 0 = ap (λ z. cond {A = ℕ} z (stopped_weight plan) 0) (and_none (not s.running)) in
    omega (arith, old, new, bag, outs, asks, stores, few_scripts, few_items, before, after)
  where
    and_none : (b : Bool) → b && false ≡ false
    and_none true = refl
    and_none false = refl

    least : (o : Option Eviction) → s.controller.eviction ≡ o → (m : Message) → plain_weight plan m ≤ message_weight plan s.controller m
    least None h m = let e = same_weight plan s.controller (opening_controller plan.config) m.to m.packet h in omega (arith, e)
    least (Some e) h m = plain_least plan s.controller e h ((eviction_is plan s works e h).tries) m.to m.packet

restart_lowers : (plan : PlanView) (k : Keeping) (s : State) (o : Option ℕ) → ready s.controller ≡ o → is_some o ≡ true → Lowers plan s (restarts plan k s o)
restart_lowers plan k s None e h = absurd (true≢false (sym h))
restart_lowers plan k s (Some counter) e h =
    let c = s.controller in
    let old : round_weight plan c.round ≡ 1 = asked c.round e in
    let t = restarts plan k s (Some counter) in
    let bag = sum_same (message_weight plan t.controller) (message_weight plan c) s.bag (λ m a. same_weight plan t.controller c m.to m.packet refl) in
    let v : SwitchView = opening_view plan.config (c.epoch + 1) counter in
    let none = untaken_reset plan.config (c.epoch + 1) counter 0 (length v.slots) in
    omega (arith, old, bag, none)
  where
    asked : (r : Option Round) → ready_in r ≡ Some counter → round_weight plan r ≡ 1
    asked None k = absurd (none-some counter k)
    asked (Some r) k = go r.asked k
      where
        go : (b : Bool) → cond ((b && list_all is_some r.tops) && (list_all has_told r.told && nat_eq r.stores 0)) (Some (greatest_top r.tops)) None ≡ Some counter → cond {A = ℕ} b 1 (2 * plan.config.servers + 1) ≡ 1
        go true k = refl
        go false k = absurd (none-some counter k)

-- ---- sendings and orders

sending_lowers : (plan : PlanView) (k : Keeping) (s : State) (c : ℕ) → can_send (client_at s c) ≡ true → Lowers plan s (happens_with plan k s (Send c))
sending_lowers plan k s c able = by (client_at s c).left refl (and_parts _ _ able).1
  where
    within : c < length s.clients
    within = client_within s c (and_parts (not (is_some (client_at s c).waits)) (has_next (client_at s c).left) able).1

    by : (left : List ℕ) → (client_at s c).left ≡ left → has_next left ≡ true → Lowers plan s (client_turn s c s.bag (next_sent plan.ops c (client_at s c) left))
    by [] e next = absurd (true≢false (sym next))
    by (op ∷ left) e next =
        let line : OpLine = line_of plan.ops op in
        let turn : Turn ClientState = next_sent plan.ops c (client_at s c) (op ∷ left) in
        let weigh : Message → ℕ = message_weight plan s.controller in
        let x : Message = record { from = Client c; to = Switch; packet = request c op line } in
        let clients = sum_by-set client_weight s.clients c turn.state nobody within in
        let before : client_weight (client_at s c) ≡ 24 * length left + 24 = ap (λ xs. 24 * length xs) e ∙ omega arith in
        let asked : weigh x ≡ 23 = by_test (λ q. packet_weight plan s.controller Switch q ≡ 23) (is_read line.op) (GetReq c op line.key) (WriteReq c op line.key line.body) refl refl in
        let bag = sum_by-append weigh s.bag (x ∷ []) in
        omega (arith, clients, before, asked, bag)

orders_left : (plan : PlanView) (n : ℕ) (o : Order) → slice_get plan.orders n ≡ Some o → sum_by (order_weight plan) (drop n plan.orders) ≡ order_weight plan o + sum_by (order_weight plan) (drop (n + 1) plan.orders)
orders_left plan n o e = sum_by-drop_more (order_weight plan) plan.orders n o (slice_get_within plan.orders n o e) ∙ ap (λ x. order_weight plan x + sum_by (order_weight plan) (drop (n + 1) plan.orders)) (get_or_from_slice_get plan.orders n o o e)

pub none_from : {X : Type 0} (o : Option X) → not (is_some o) ≡ true → o ≡ None
none_from None e = refl
none_from (Some x) e = absurd (true≢false (sym e))

-- an order that is a turn of the controller
order_turn : (plan : PlanView) (s : State) (w : ℕ) (t : Turn ControllerState) → ControlLowers plan s.controller s.bag w t → sum_by (order_weight plan) (drop s.done plan.orders) ≡ w + sum_by (order_weight plan) (drop (s.done + 1) plan.orders) → Lowers plan s (record (controller_turn s s.bag t) { done = s.done + 1 })
order_turn plan s w t l orders =
    let bag = sum_by-append (message_weight plan t.state) s.bag (messages_from Controller t.out) in
    let stop : stop_weight plan (controller_turn s s.bag t) ≡ stop_weight plan s = ap (λ b. cond {A = ℕ} (not s.running && not b) (stopped_weight plan) 0) l.round in
    let less = l.less in
    omega (arith, bag, stop, less, orders)

order_lowers : (plan : PlanView) (s : State) (o : Option Order) → Works plan s → slice_get plan.orders s.done ≡ o → is_order_due s o ≡ true → Lowers plan s (record (does_order plan s o) { done = s.done + 1 })
order_lowers plan s None works e due = absurd (true≢false (sym due))
order_lowers plan s (Some (AdmitOrder step key)) works e due = order_turn plan s 19 (idle (wanted key s.controller)) (wanted_lowers plan s.bag s.controller key) (orders_left plan s.done (AdmitOrder step key) e)
order_lowers plan s (Some (EvictOrder step key)) works e due =
    let none : s.controller.eviction ≡ None = none_from s.controller.eviction (and_parts _ _ (and_parts _ _ (and_parts _ _ due).0).1).0 in
    order_turn plan s 15 (evict_key key s.controller) (evict_lowers plan s.bag s.controller key none (none_of plan s works none)) (orders_left plan s.done (EvictOrder step key) e)
order_lowers plan s (Some (SnapOrder step)) works e due =
    let none : s.controller.job ≡ None = none_from s.controller.job (and_parts _ _ (and_parts _ _ (and_parts _ _ due).0).1).0 in
    order_turn plan s (2 * plan.config.slots + plan.config.clients + 3) (start_snapshot s.controller) (snapshot_lowers plan s.bag s.controller none) (orders_left plan s.done (SnapOrder step) e)
order_lowers plan s (Some (StopOrder step)) works e due =
    let v : SwitchView = opening_view plan.config 0 0 in
    let none = untaken_reset plan.config 0 0 0 (length v.slots) in
    let most : cond {A = ℕ} (not (is_some s.controller.round)) (stopped_weight plan) 0 ≤ stopped_weight plan = at_most (not (is_some s.controller.round)) in
    omega (arith, none, most, orders_left plan s.done (StopOrder step) e)
  where
    at_most : (b : Bool) → cond {A = ℕ} b (stopped_weight plan) 0 ≤ stopped_weight plan
    at_most true = omega arith
    at_most false = omega arith
order_lowers plan s (Some (StopAtOrder kind times)) works e due =
    let v : SwitchView = opening_view plan.config 0 0 in
    let none = untaken_reset plan.config 0 0 0 (length v.slots) in
    let most : cond {A = ℕ} (not (is_some s.controller.round)) (stopped_weight plan) 0 ≤ stopped_weight plan = at_most (not (is_some s.controller.round)) in
    omega (arith, none, most, orders_left plan s.done (StopAtOrder kind times) e)
  where
    at_most : (b : Bool) → cond {A = ℕ} b (stopped_weight plan) 0 ≤ stopped_weight plan
    at_most true = omega arith
    at_most false = omega arith

-- ---- every event

pub step_lowers : (plan : PlanView) (k : Keeping) (s : State) (e : Event) → Works plan s → AnswersInKind s e k → is_enabled plan s e ≡ true → suc (work_left plan (happens_with plan k s e)) ≤ work_left plan s
step_lowers plan k s (Send c) works ans able = sending_lowers plan k s c able
step_lowers plan k s (Deliver i) works ans able = by (slice_get s.bag i) refl ans able
  where
    by : (o : Option Message) → slice_get s.bag i ≡ o → RepliesToMessage o k.reply → can_deliver_some s.running o ≡ true → Lowers plan s (delivers plan k s i o)
    by None e r can = absurd (true≢false (sym can))
    by (Some m) e r can = delivery_lowers plan k s works (remove s.bag i) m.packet m.to (works.flight.routed.messages m (among_at m s.bag i e)).target r (facts plan s works i m e) (sum_removed (message_weight plan s.controller) s.bag i m e)
step_lowers plan k s Tick works ans able = by (tick s.controller) refl able
  where
    by : (o : Option (Turn ControllerState)) → tick s.controller ≡ o → is_some o ≡ true → Lowers plan s (ticks s o)
    by None e h = absurd (true≢false (sym h))
    by (Some t) e h = control_lowers plan k s works s.bag 0 t (tick_lowers plan s.bag s.controller t (none_of plan s works) e) (omega arith) 0 (omega arith) refl
step_lowers plan k s Recover works ans able = recovery_lowers plan k s works able
step_lowers plan k s Restart works ans able = restart_lowers plan k s (ready s.controller) refl able
step_lowers plan k s (OrderOf j) works ans able =
    let same : j ≡ s.done = eqb-true j s.done (and_parts _ _ able).0 in
    subst (λ n. Lowers plan s (record (does_order plan s (slice_get plan.orders n)) { done = s.done + 1 })) (sym same) (order_lowers plan s (slice_get plan.orders s.done) works refl (and_parts _ _ able).1)

-- The room that tags, jobs, ids, rounds, epochs and the bag need.
use Rattle.std.proofs.Common.{◌≡◌, ℕ, suc, ◌+◌, ◌-◌, ◌≤◌, Bool, true, false, true≢false, cond, not, ◌&&◌, nat_eq, nat_lt, nat_le, eqb-true, List, [], ◌∷◌, ◌++◌, length, refl, sym, ap, ◌∙◌, subst, arith}
use Rattle.std.specs.Prelude.{Option, None, Some, is_some, slice_get, slice_index_or, slice_set}
use Rattle.std.specs.List.{count_by, remove, sum_by}
use Rattle.std.proofs.lemmas.List.{map-append}
use Rattle.std.proofs.lemmas.List.Sums.{sum_by-cons}
use Rattle.std.proofs.lemmas.Bool.{and_parts}
use Rattle.far_model.specs.Replies.{IsRunWith, KeptEvent, run_with, ceiling_after}
use Rattle.far_base.specs.PlanView.{PlanView}
use Rattle.far_base.specs.declared.event.Event.{Event}
use Rattle.far_base.specs.declared.event.Event.TheVariants.{Send, Deliver, Tick, Recover, Restart, Order as OrderOf}
use Rattle.far_base.specs.declared.packet.Message.{Message}
use Rattle.far_base.specs.declared.packet.Out.{Out}
use Rattle.far_base.specs.declared.packet.Packet.{Packet}
use Rattle.far_base.specs.declared.packet.Packet.TheVariants.{Hot, AdmitAck, PeekAns, RemoveAns, SnapBegun, SnapPart, Store, Stored, Ask, Told, TopAsk, TopIs, SnapSame}
use Rattle.far_base.specs.declared.party.Party.{Party}
use Rattle.far_base.specs.declared.party.Party.TheVariants.{Client, Switch, Server, Controller}
use Rattle.far_base.specs.declared.plan.Order.{Order}
use Rattle.far_base.specs.declared.plan.Order.TheVariants.{Admit as AdmitOrder, Evict as EvictOrder, Snap as SnapOrder, Stop as StopOrder, StopAt as StopAtOrder}
use Rattle.far_base.specs.declared.record.Record.{Record}
use Rattle.far_base.specs.declared.slot_state.Due.TheVariants.{Peeked, Removed}
use Rattle.far_model.specs.Controller.{ControllerState, acknowledged, client_told, controller_takes, evict_held, evict_key, evicts_on, job_turn, makes_room, opening_controller, part_came, peek_answered, removal_answered, round_stored, round_turn, snapshot_begun, snapshot_stores, start_recovery, store_answered, store_of, start_snapshot, ready, store_outs, stores_of, tick, tick_free, tick_room, tick_want, tick_wants, to_clients, to_servers, told_round, top_told, wanted, same_came, same_part}
use Rattle.far_model.specs.Events.{Keeping, can_deliver_some, delivers, does_order, handled, happens_with, is_enabled, is_order_due, restarts, ticks}
use Rattle.far_model.specs.Evictions.{Eviction, Next, Send, Store as StoreNext, Done, Kept, after_peek, after_removal, first_place, has_key, holds_key, is_admitting, is_free, state_at, victim, waits_for, waits_job}
use Rattle.far_model.specs.Parties.{Turn, idle, messages_from}
use Rattle.far_model.specs.Rounds.{Round, asks_tops, has_told, telling_at}
use Rattle.far_model.specs.Snapshots.{Job, has_begun, has_part, is_whole, part_reads, with_same}
use Rattle.far_model.specs.State.{State, opening}
use Rattle.far_model.specs.Work.{asked_weight, message_weight, packet_weight, told_weight, work_left}
use Rattle.far_invariants.specs.Sizes.{DrawsWithSteps, is_store}
use Rattle.flight_laws.proofs.ControlWork.{same_weight}
use Rattle.flight_laws.proofs.Counts.{count_append, count_cons, count_removed, counted}
use Rattle.flight_laws.proofs.EventWork.{Works, eviction_is, plain_least}
use Rattle.flight_laws.proofs.Passes.{tested}

abbrev stores : List Message → ℕ
stores bag = count_by (λ (m : Message). is_store m.packet) bag

-- what a turn of the controller draws: one of each, and as many jobs as it sends stores
pub record DrawsTurn (c : ControllerState) (t : Turn ControllerState) : Type 0 where
  pub tags : t.state.next_tag ≤ c.next_tag + 1
  pub ids : t.state.next_id ≤ c.next_id + 1
  pub rounds : t.state.next_round ≤ c.next_round + 1
  pub epochs : t.state.epoch ≤ c.epoch
  pub jobs : t.state.next_job ≤ c.next_job + count_by (λ (m : Message). is_store m.packet) (messages_from Controller t.out)

module _ (plan : PlanView) (c : ControllerState) where
  idle_draws : DrawsTurn c (idle c)
  idle_draws = record { tags = omega arith; ids = omega arith; rounds = omega arith; epochs = omega arith; jobs = omega arith }

  wanted_draws : (key : List ℕ) → DrawsTurn c (idle (wanted key c))
  wanted_draws key = tested (λ z. DrawsTurn c (idle z)) (is_some c.round) _ _ (λ e. idle_draws) (λ e. record { tags = omega arith; ids = omega arith; rounds = omega arith; epochs = omega arith; jobs = omega arith })

  abbrev IfDraws : Option (Turn ControllerState) → Type 0
  IfDraws None = Unit {0}
  IfDraws (Some t) = DrawsTurn c t

  room_draws : (o : Option ℕ) → IfDraws (tick_room c o)
  room_draws None = tt
  room_draws (Some i) = tested IfDraws (is_some c.eviction) None (Some (makes_room c i)) (λ e. tt) (λ e. record { tags = omega arith; ids = omega arith; rounds = omega arith; epochs = omega arith; jobs = omega arith })

  free_draws : (key : List ℕ) (o : Option ℕ) → IfDraws (tick_free c key o)
  free_draws key None = room_draws (victim c.hand c.slots)
  free_draws key (Some i) = record { tags = omega arith; ids = omega arith; rounds = omega arith; epochs = omega arith; jobs = omega arith }

  want_draws : (key : List ℕ) (o : Option ℕ) → IfDraws (tick_want c key o)
  want_draws key None = free_draws key (first_place is_free c.slots)
  want_draws key (Some i) = record { tags = omega arith; ids = omega arith; rounds = omega arith; epochs = omega arith; jobs = omega arith }

  wants_draws : (keys : List (List ℕ)) → IfDraws (tick_wants c keys)
  wants_draws [] = tt
  wants_draws (key ∷ keys) = want_draws key (first_place (has_key key) c.slots)

  pub tick_draws : (t : Turn ControllerState) → tick c ≡ Some t → DrawsTurn c t
  tick_draws t e = subst IfDraws e (tested IfDraws (is_some c.round) None (tick_wants c c.wants) (λ x. tt) (λ x. wants_draws c.wants))

  pub evict_draws : (key : List ℕ) → DrawsTurn c (evict_key key c)
  evict_draws key = go (first_place (holds_key key) c.slots)
    where
      go : (o : Option ℕ) → DrawsTurn c (evict_held c o)
      go None = idle_draws
      go (Some i) = record { tags = omega arith; ids = omega arith; rounds = omega arith; epochs = omega arith; jobs = omega arith }

  next_draws : (e : Eviction) (x : Next) → DrawsTurn c (evicts_on plan.config c e x)
  next_draws e (Send packet) = record { tags = omega arith; ids = omega arith; rounds = omega arith; epochs = omega arith; jobs = omega arith }
  next_draws e (StoreNext item) = record { tags = omega arith; ids = omega arith; rounds = omega arith; epochs = omega arith; jobs = omega arith }
  next_draws e (Done tries) = record { tags = omega arith; ids = omega arith; rounds = omega arith; epochs = omega arith; jobs = omega arith }
  next_draws e (Kept tries last) = go e.for_want
    where
      go : (b : Bool) → DrawsTurn c (evicts_on plan.config c (record e { for_want = b }) (Kept tries last))
      go true = record { tags = omega arith; ids = omega arith; rounds = omega arith; epochs = omega arith; jobs = omega arith }
      go false = record { tags = omega arith; ids = omega arith; rounds = omega arith; epochs = omega arith; jobs = omega arith }

  peek_draws : (i tag : ℕ) (latest : Bool) (num : ℕ) (body : Option (List ℕ)) (o : Option Eviction) → DrawsTurn c (peek_answered plan.config c i tag latest num body o)
  peek_draws i tag latest num body None = idle_draws
  peek_draws i tag latest num body (Some e) = tested (DrawsTurn c) (waits_for Peeked i tag e) _ (idle c) (λ w. next_draws e (after_peek e latest num body)) (λ w. idle_draws)

  removal_draws : (i tag : ℕ) (done : Bool) (num : ℕ) (body : Option (List ℕ)) (o : Option Eviction) → DrawsTurn c (removal_answered plan.config c i tag done num body o)
  removal_draws i tag done num body None = idle_draws
  removal_draws i tag done num body (Some e) = tested (DrawsTurn c) (waits_for Removed i tag e) _ (idle c) (λ w. next_draws e (after_removal e done num body)) (λ w. idle_draws)

  job_draws : (job : Job) (out : List Out) → DrawsTurn c (job_turn plan.config c job out)
  job_draws job out = tested (DrawsTurn c) (is_whole job) _ _ (λ e. record { tags = omega arith; ids = omega arith; rounds = omega arith; epochs = omega arith; jobs = omega arith }) (λ e. record { tags = omega arith; ids = omega arith; rounds = omega arith; epochs = omega arith; jobs = omega arith })

  begun_draws : (id point : ℕ) (o : Option Job) → DrawsTurn c (snapshot_begun plan.config c id point o)
  begun_draws id point None = idle_draws
  begun_draws id point (Some job) = tested (DrawsTurn c) (nat_eq job.id id && not (has_begun job)) _ (idle c) (λ e. job_draws (record job { begun = Some point }) (part_reads c.epoch id 0 job.parts)) (λ e. idle_draws)

  part_draws : (id i : ℕ) (view : Option Record) (o : Option Job) → DrawsTurn c (part_came plan.config c id i view o)
  part_draws id i view None = idle_draws
  part_draws id i view (Some job) = tested (DrawsTurn c) (nat_eq job.id id && (nat_lt i (length job.parts) && not (has_part job i))) _ (idle c) (λ e. job_draws (record job { parts = slice_set job.parts i (Some view) }) []) (λ e. idle_draws)

  same_draws : (id i : ℕ) (o : Option Job) → DrawsTurn c (same_came plan.config c id i o)
  same_draws id i None = idle_draws
  same_draws id i (Some job) = go (slice_get c.last.views i)
    where
      go : (v : Option (Option Record)) → DrawsTurn c (same_part plan.config c id i job v)
      go None = idle_draws
      go (Some view) = tested (DrawsTurn c) (nat_eq job.id id && (nat_lt i (length job.parts) && not (has_part job i))) _ (idle c) (λ e. job_draws (with_same job i view) []) (λ e. idle_draws)

  round_draws : (extra : ℕ) (r : Round) (out : List Out) → extra ≤ count_by (λ (m : Message). is_store m.packet) (messages_from Controller out) → DrawsTurn c (round_turn plan.config (record c { next_job = c.next_job + extra }) r out)
  round_draws extra r out le = tested (DrawsTurn c) (asks_tops r) _ _
      (λ e. record {
        tags = omega arith;
        ids = omega arith;
        rounds = omega arith;
        epochs = omega arith;
        jobs = (let f = λ (m : Message). is_store m.packet in let s = ap (count_by f) (map-append (λ (o : Out). record { from = Controller; to = o.to; packet = o.packet }) out (to_servers 0 plan.config.servers (TopAsk r.number))) in let b = count_append f (messages_from Controller out) (messages_from Controller (to_servers 0 plan.config.servers (TopAsk r.number))) in omega (arith, s, b, le));
      })
      (λ e. record { tags = omega arith; ids = omega arith; rounds = omega arith; epochs = omega arith; jobs = omega (arith, le) })

  store_count : (item : Option Record) → length (store_outs plan.config c.next_job item) ≤ count_by (λ (m : Message). is_store m.packet) (messages_from Controller (store_outs plan.config c.next_job item))
  store_count None = omega arith
  store_count (Some r) = omega arith

  told_draws : (number caller total : ℕ) (item : Option Record) (o : Option Round) → DrawsTurn c (client_told plan.config c number caller total item o)
  told_draws number caller total item None = idle_draws
  told_draws number caller total item (Some r) = tested (DrawsTurn c) (nat_eq r.number number && (nat_lt caller (length r.told) && not (has_told (telling_at r caller)))) _ (idle c)
      (λ e. round_draws (length (store_outs plan.config c.next_job item)) (told_round r caller total (length (store_outs plan.config c.next_job item))) (store_outs plan.config c.next_job item) (store_count item)) (λ e. idle_draws)

  zero_draws : (r : Round) → DrawsTurn c (round_turn plan.config c r [])
  zero_draws r = tested (DrawsTurn c) (asks_tops r) _ _ (λ e. record { tags = omega arith; ids = omega arith; rounds = omega arith; epochs = omega arith; jobs = omega arith }) (λ e. record { tags = omega arith; ids = omega arith; rounds = omega arith; epochs = omega arith; jobs = omega arith })

  stored_draws : (job : ℕ) (o : Option Round) → DrawsTurn c (round_stored plan.config c job o)
  stored_draws job None = idle_draws
  stored_draws job (Some r) = tested (DrawsTurn c) (nat_le r.first_job job && (nat_lt job c.next_job && not (nat_eq r.stores 0))) _ (idle c) (λ e. zero_draws (record r { stores = r.stores - 1 })) (λ e. idle_draws)

  answered_draws : (job : ℕ) (o : Option Eviction) → DrawsTurn c (store_answered plan.config c job o)
  answered_draws job None = stored_draws job c.round
  answered_draws job (Some e) = tested (DrawsTurn c) (waits_job job e) _ (round_stored plan.config c job c.round) (λ w. record { tags = omega arith; ids = omega arith; rounds = omega arith; epochs = omega arith; jobs = omega arith }) (λ w. stored_draws job c.round)

  top_draws : (number server top : ℕ) (o : Option Round) → DrawsTurn c (top_told plan.config c number server top o)
  top_draws number server top None = idle_draws
  top_draws number server top (Some r) = tested (DrawsTurn c) (nat_eq r.number number && (r.asked && (nat_lt server (length r.tops) && not (is_some (slice_index_or r.tops server None))))) _ (idle c) (λ e. record { tags = omega arith; ids = omega arith; rounds = omega arith; epochs = omega arith; jobs = omega arith }) (λ e. idle_draws)

  acked_draws : (i tag : ℕ) → DrawsTurn c (acknowledged c i tag)
  acked_draws i tag = tested (DrawsTurn c) (is_admitting tag (state_at c.slots i)) _ (idle c) (λ e. record { tags = omega arith; ids = omega arith; rounds = omega arith; epochs = omega arith; jobs = omega arith }) (λ e. idle_draws)

  pub takes_draws : (p : Packet) → DrawsTurn c (controller_takes plan.config c p)
  takes_draws (Hot key) = wanted_draws key
  takes_draws (AdmitAck i tag) = acked_draws i tag
  takes_draws (PeekAns i tag latest num body) = peek_draws i tag latest num body c.eviction
  takes_draws (RemoveAns i tag done latest num body) = removal_draws i tag done num body c.eviction
  takes_draws (SnapBegun id point) = begun_draws id point c.job
  takes_draws (SnapPart id i view) = part_draws id i view c.job
  takes_draws (SnapSame id i) = same_draws id i c.job
  takes_draws (Stored job) = answered_draws job c.eviction
  takes_draws (Told number caller total item) = told_draws number caller total item c.round
  takes_draws (TopIs number server top) = top_draws number server top c.round
  takes_draws _ = idle_draws

  stores_all : (job : ℕ) (items : List Record) → length items ≤ count_by (λ (m : Message). is_store m.packet) (messages_from Controller (stores_of plan.config job items))
  stores_all job [] = omega arith
  stores_all job (r ∷ rs) = let a = count_cons (λ (m : Message). is_store m.packet) (record { from = Controller; to = (store_of plan.config job r).to; packet = Store job r }) (messages_from Controller (stores_of plan.config (suc job) rs)) in let b = stores_all (suc job) rs in omega (arith, a, b)

  pub recovery_draws : DrawsTurn c (start_recovery plan.config c)
  recovery_draws = record {
    tags = omega arith;
    ids = omega arith;
    rounds = omega arith;
    epochs = omega arith;
    jobs = (let f = λ (m : Message). is_store m.packet in
        let s = ap (count_by f) (map-append (λ (o : Out). record { from = Controller; to = o.to; packet = o.packet }) (to_clients 0 plan.config.clients (Ask c.next_round)) (stores_of plan.config c.next_job (snapshot_stores c))) in
        let b = count_append f (messages_from Controller (to_clients 0 plan.config.clients (Ask c.next_round))) (messages_from Controller (stores_of plan.config c.next_job (snapshot_stores c))) in
        let l = stores_all c.next_job (snapshot_stores c) in omega (arith, s, b, l));
  }

-- ---- events

one_at_most : (p : Message → Bool) (m : Message) → counted p m ≤ 1
one_at_most p m = go (p m)
  where
    go : (b : Bool) → cond {A = ℕ} b 1 0 ≤ 1
    go true = omega arith
    go false = omega arith

-- the controller makes a turn while at most one store is taken
turn_draws : (s : State) (t : State) (rest : List Message) (turn : Turn ControllerState) → DrawsWithSteps s → DrawsTurn s.controller turn → t.controller ≡ turn.state → t.steps ≡ s.steps + 1 → t.bag ≡ rest ++ messages_from Controller turn.out → count_by (λ (m : Message). is_store m.packet) s.bag ≤ count_by (λ (m : Message). is_store m.packet) rest + 1 → DrawsWithSteps t
turn_draws s t rest turn h d same steps bag less =
    let both = ap (count_by (λ (m : Message). is_store m.packet)) bag ∙ count_append (λ (m : Message). is_store m.packet) rest (messages_from Controller turn.out) in
    record {
      tags = (let e = ap (λ (c : ControllerState). c.next_tag) same in let a = h.tags in let b = d.tags in omega (arith, e, a, b, steps));
      ids = (let e = ap (λ (c : ControllerState). c.next_id) same in let a = h.ids in let b = d.ids in omega (arith, e, a, b, steps));
      rounds = (let e = ap (λ (c : ControllerState). c.next_round) same in let a = h.rounds in let b = d.rounds in omega (arith, e, a, b, steps));
      epochs = (let e = ap (λ (c : ControllerState). c.epoch) same in let a = h.epochs in let b = d.epochs in omega (arith, e, a, b, steps));
      jobs = (let e = ap (λ (c : ControllerState). c.next_job) same in let a = h.jobs in let b = d.jobs in omega (arith, e, a, b, steps, both, less));
    }

-- another party does
party_draws : (s t : State) (rest out : List Message) → DrawsWithSteps s → t.controller ≡ s.controller → t.steps ≡ s.steps + 1 → t.bag ≡ rest ++ out → count_by (λ (m : Message). is_store m.packet) s.bag ≤ count_by (λ (m : Message). is_store m.packet) rest + 1 → DrawsWithSteps t
party_draws s t rest out h same steps bag less =
    let both = ap (count_by (λ (m : Message). is_store m.packet)) bag ∙ count_append (λ (m : Message). is_store m.packet) rest out in
    record {
      tags = (let e = ap (λ (c : ControllerState). c.next_tag) same in let a = h.tags in omega (arith, e, a, steps));
      ids = (let e = ap (λ (c : ControllerState). c.next_id) same in let a = h.ids in omega (arith, e, a, steps));
      rounds = (let e = ap (λ (c : ControllerState). c.next_round) same in let a = h.rounds in omega (arith, e, a, steps));
      epochs = (let e = ap (λ (c : ControllerState). c.epoch) same in let a = h.epochs in omega (arith, e, a, steps));
      jobs = (let e = ap (λ (c : ControllerState). c.next_job) same in let a = h.jobs in omega (arith, e, a, steps, both, less));
    }

-- ---- the bag

weight_least : (plan : PlanView) (to : Party) (p : Packet) → 1 ≤ packet_weight plan (opening_controller plan.config) to p
weight_least plan to (Ask round) = go to
  where
    go : (to : Party) → 1 ≤ asked_weight plan to
    go (Client c) = omega arith
    go Switch = omega arith
    go (Server n) = omega arith
    go Controller = omega arith
weight_least plan to (Told round caller total item) = go item
  where
    go : (item : Option Record) → 1 ≤ told_weight item
    go None = omega arith
    go (Some r) = omega arith
weight_least plan to _ = omega arith

-- each message weighs at least one, so the bag is no longer than the work that is left
pub bag_within_work : (plan : PlanView) (s : State) → Works plan s → length s.bag ≤ work_left plan s
bag_within_work plan s works = let b = all s.bag in omega (arith, b)
  where
    least : (o : Option Eviction) → s.controller.eviction ≡ o → (m : Message) → 1 ≤ message_weight plan s.controller m
    least None e m = let w = same_weight plan s.controller (opening_controller plan.config) m.to m.packet e in let l = weight_least plan m.to m.packet in omega (arith, w, l)
    least (Some x) e m = let w = plain_least plan s.controller x e ((eviction_is plan s works x e).tries) m.to m.packet in let l = weight_least plan m.to m.packet in omega (arith, w, l)

    all : (bag : List Message) → length bag ≤ sum_by (message_weight plan s.controller) bag
    all [] = omega arith
    all (m ∷ ms) = let c = sum_by-cons (message_weight plan s.controller) m ms in let l = least s.controller.eviction refl m in let r = all ms in omega (arith, c, l, r)

-- ---- every event that can happen

handled_draws : (plan : PlanView) (k : Keeping) (s : State) (rest : List Message) (to : Party) (p : Packet) → DrawsWithSteps s → count_by (λ (m : Message). is_store m.packet) s.bag ≤ count_by (λ (m : Message). is_store m.packet) rest + 1 → DrawsWithSteps (handled plan k s rest to p)
handled_draws plan k s rest (Client c) p h less = party_draws s (handled plan k s rest (Client c) p) rest _ h refl refl refl less
handled_draws plan k s rest Switch p h less = party_draws s (handled plan k s rest Switch p) rest _ h refl refl refl less
handled_draws plan k s rest (Server n) p h less = party_draws s (handled plan k s rest (Server n) p) rest _ h refl refl refl less
handled_draws plan k s rest Controller p h less = turn_draws s (handled plan k s rest Controller p) rest (controller_takes plan.config s.controller p) h (takes_draws plan s.controller p) refl refl refl less

order_draws : (plan : PlanView) (s : State) (o : Option Order) → DrawsWithSteps s → is_order_due s o ≡ true → DrawsWithSteps (does_order plan s o)
order_draws plan s None h due = absurd (true≢false (sym due))
order_draws plan s (Some (AdmitOrder step key)) h due = turn_draws s (does_order plan s (Some (AdmitOrder step key))) s.bag (idle (wanted key s.controller)) h (wanted_draws plan s.controller key) refl refl refl (omega arith)
order_draws plan s (Some (EvictOrder step key)) h due = turn_draws s (does_order plan s (Some (EvictOrder step key))) s.bag (evict_key key s.controller) h (evict_draws plan s.controller key) refl refl refl (omega arith)
order_draws plan s (Some (SnapOrder step)) h due = turn_draws s (does_order plan s (Some (SnapOrder step))) s.bag (start_snapshot s.controller) h (record { tags = omega arith; ids = omega arith; rounds = omega arith; epochs = omega arith; jobs = omega arith }) refl refl refl (omega arith)
order_draws plan s (Some (StopOrder step)) h due = let a = h.tags in let b = h.ids in let c = h.rounds in let d = h.epochs in let e = h.jobs in
    record { tags = omega (arith, a); ids = omega (arith, b); rounds = omega (arith, c); epochs = omega (arith, d); jobs = omega (arith, e) }
order_draws plan s (Some (StopAtOrder kind times)) h due = let a = h.tags in let b = h.ids in let c = h.rounds in let d = h.epochs in let e = h.jobs in
    record { tags = omega (arith, a); ids = omega (arith, b); rounds = omega (arith, c); epochs = omega (arith, d); jobs = omega (arith, e) }

pub step_draws : (plan : PlanView) (k : Keeping) (s : State) (e : Event) → DrawsWithSteps s → is_enabled plan s e ≡ true → DrawsWithSteps (happens_with plan k s e)
step_draws plan k s (Send c) h able = party_draws s (happens_with plan k s (Send c)) s.bag _ h refl refl refl (omega arith)
step_draws plan k s (Deliver i) h able = go (slice_get s.bag i) refl able
  where
    go : (o : Option Message) → slice_get s.bag i ≡ o → can_deliver_some s.running o ≡ true → DrawsWithSteps (delivers plan k s i o)
    go None e a = absurd (true≢false (sym a))
    go (Some m) e a = handled_draws plan k s (remove s.bag i) m.to m.packet h (let c = count_removed (λ (m : Message). is_store m.packet) s.bag i m e in let l = one_at_most (λ (m : Message). is_store m.packet) m in omega (arith, c, l))
step_draws plan k s Tick h able = go (tick s.controller) refl able
  where
    go : (o : Option (Turn ControllerState)) → tick s.controller ≡ o → is_some o ≡ true → DrawsWithSteps (ticks s o)
    go None e a = absurd (true≢false (sym a))
    go (Some t) e a = turn_draws s (ticks s (Some t)) s.bag t h (tick_draws plan s.controller t e) refl refl refl (omega arith)
step_draws plan k s Recover h able = turn_draws s (happens_with plan k s Recover) s.bag (start_recovery plan.config s.controller) h (recovery_draws plan s.controller) refl refl refl (omega arith)
step_draws plan k s Restart h able = go (ready s.controller) able
  where
    go : (o : Option ℕ) → is_some o ≡ true → DrawsWithSteps (restarts plan k s o)
    go None a = absurd (true≢false (sym a))
    go (Some counter) a = let x = h.tags in let b = h.ids in let c = h.rounds in let d = h.epochs in let e = h.jobs in
        record { tags = omega (arith, x); ids = omega (arith, b); rounds = omega (arith, c); epochs = omega (arith, d); jobs = omega (arith, e) }
step_draws plan k s (OrderOf j) h able =
    let same : j ≡ s.done = eqb-true j s.done (and_parts _ _ able).0 in
    let d = order_draws plan s (slice_get plan.orders j) h (subst (λ n. is_order_due s (slice_get plan.orders n) ≡ true) (sym same) (and_parts _ _ able).1) in
    record { tags = d.tags; ids = d.ids; rounds = d.rounds; epochs = d.epochs; jobs = d.jobs }

pub run_draws : (plan : PlanView) (ceiling : ℕ) (s : State) (events : List KeptEvent) → DrawsWithSteps s → IsRunWith plan ceiling s events → DrawsWithSteps (run_with plan s events)
run_draws plan ceiling s [] h r = h
run_draws plan ceiling s (e ∷ es) h r = run_draws plan (ceiling_after s e.event ceiling) (happens_with plan e.keeping s e.event) es (step_draws plan e.keeping s e.event h r.0) r.2

pub opens_draws : (plan : PlanView) → DrawsWithSteps (opening plan)
opens_draws plan = record { tags = omega arith; ids = omega arith; rounds = omega arith; epochs = omega arith; jobs = omega arith }

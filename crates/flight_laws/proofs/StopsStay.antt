-- A switch that was stopped stays stopped until a recovery begins.
use Rattle.std.proofs.Common.{◌≡◌, ◌≢◌, ◌⊎◌, inl, inr, ℕ, suc, ◌+◌, ◌<◌, Bool, true, false, not, ◌&&◌, ◌||◌, cond, List, [], ◌∷◌, ◌++◌, length, refl, sym, ap, ◌∙◌, subst, Some, None, arith}
use Rattle.std.specs.Prelude.{Option, is_some, nat_eq, nat_lt, slice_get, remove}
use Rattle.far_base.specs.declared.packet.Out.{Out}
use Rattle.far_base.specs.declared.log.LogEntry.TheVariants.{Admitted}
use Rattle.std.specs.List.{list_any}
use Rattle.std.proofs.lemmas.Bool.{cases_lt}
use Rattle.std.proofs.lemmas.Bool.Decides.{nat_tests}
use Rattle.std.proofs.lemmas.Option.{same_Some, slice_get_within}
use Rattle.far_base.specs.Limits.{is_stop}
use Rattle.far_base.specs.PlanView.{PlanView}
use Rattle.far_base.specs.declared.event.Event.{Event}
use Rattle.far_base.specs.declared.event.Event.TheVariants.{Send, Deliver, Tick, Recover, Restart, Order as OrderOf}
use Rattle.far_base.specs.declared.packet.Message.{Message}
use Rattle.far_base.specs.declared.packet.Packet.{Packet}
use Rattle.far_base.specs.declared.packet.Packet.TheVariants.{GetReq, WriteReq, GetFwd, WriteFwd, GetRep, WriteRep, GetAns, WriteAns, Hot, Admit, AdmitAck, Peek, PeekAns, Remove, RemoveAns, SnapStart, SnapBegun, SnapRead, SnapPart, Store, Stored, Release, Ask, Told, TopAsk, TopIs, SnapSame, SnapFrom}
use Rattle.far_base.specs.declared.party.Party.{Party}
use Rattle.far_base.specs.declared.party.Party.TheVariants.{Client, Switch, Server, Controller}
use Rattle.far_base.specs.declared.plan.Config.{Config}
use Rattle.far_base.specs.declared.plan.Order.{Order}
use Rattle.far_base.specs.declared.plan.Order.TheVariants.{Admit as AdmitOrder, Evict as EvictOrder, Snap as SnapOrder, Stop as StopOrder, StopAt as StopAtOrder}
use Rattle.far_base.specs.declared.record.Record.{Record}
use Rattle.far_base.specs.declared.slot_state.Due.TheVariants.{Peeked, Removed}
use Rattle.far_base.specs.declared.slot_state.SlotState.TheVariants.{Held}
use Rattle.far_model.specs.Controller.{ControllerState, acknowledged, client_told, controller_takes, drop_want_if, evict_held, evicts_on, first_want_dropped, job_turn, acked_state, admits_want, completes, makes_room, part_came, peek_answered, ready, ready_in, removal_answered, round_stored, same_came, same_part, snapshot_begun, store_answered, tick, tick_free, tick_room, tick_want, tick_wants, top_told, wanted, with_state}
use Rattle.far_model.specs.Evictions.{Eviction, Next, Send as SendNext, Store as StoreNext, Done, Kept, after_peek, after_removal, after_store, removing, key_in, first_place, has_key, holds_key, is_admitting, is_free, state_at, victim, waits_for, waits_job}
use Rattle.far_model.specs.Events.{Keeping, delivers, does_order, handled, happens_with, is_enabled, is_order_due, is_order_enabled, restarts, ticks}
use Rattle.far_model.specs.Members.{Each}
use Rattle.far_model.specs.Parties.{Turn, idle, to_party}
use Rattle.far_model.specs.Replies.{IsRunWith, KeptEvent, ceiling_after, run_with}
use Rattle.far_model.specs.Rounds.{Round}
use Rattle.far_model.specs.Runs.{is_finished}
use Rattle.far_model.specs.Snapshots.{Job, completed, has_begun, has_part, is_whole, part_reads, with_part, with_same}
use Rattle.far_model.specs.State.{State, opening}

-- ---- no packet begins a round

abbrev NoRound : Turn ControllerState → Type 0
NoRound t = t.state.round ≡ None

either : (b : Bool) (t u : Turn ControllerState) → NoRound t → NoRound u → NoRound (cond b t u)
either true t u h k = h
either false t u h k = k

drop_none : (b : Bool) (d : ControllerState) → d.round ≡ None → (drop_want_if b d).round ≡ None
drop_none true d h = h
drop_none false d h = h

wanted_none : (key : List ℕ) (c : ControllerState) → c.round ≡ None → (wanted key c).round ≡ None
wanted_none key c h = by (is_some c.round)
  where
    by : (b : Bool) → (cond b c (record c { wants = c.wants ++ key ∷ [] })).round ≡ None
    by true = h
    by false = h

module _ (config : Config) (c : ControllerState) (h : c.round ≡ None) where
  evicts_none : (e : Eviction) (next : Next) → NoRound (evicts_on config c e next)
  evicts_none e (SendNext packet) = h
  evicts_none e (StoreNext item) = h
  evicts_none e (Done tries) = h
  evicts_none e (Kept tries last) = drop_none e.for_want (record (with_state c e.slot (Held e.key e.tag)) { eviction = None }) h

  peek_none : (i tag : ℕ) (latest : Bool) (num : ℕ) (body : Option (List ℕ)) (o : Option Eviction) → NoRound (peek_answered config c i tag latest num body o)
  peek_none i tag latest num body None = h
  peek_none i tag latest num body (Some e) = either (waits_for Peeked i tag e) (evicts_on config c e (after_peek e latest num body)) (idle c) (evicts_none e (after_peek e latest num body)) h

  removal_none : (i tag : ℕ) (done : Bool) (num : ℕ) (body : Option (List ℕ)) (latest : Bool) (o : Option Eviction) → NoRound (removal_answered config c i tag done num body o)
  removal_none i tag done num body latest None = h
  removal_none i tag done num body latest (Some e) = either (waits_for Removed i tag e) (evicts_on config c e (after_removal e done num body)) (idle c) (evicts_none e (after_removal e done num body)) h

  stored_none : (job : ℕ) (o : Option Round) → o ≡ None → NoRound (round_stored config c job o)
  stored_none job None e = h
  stored_none job (Some r) e = absurd cc

  told_none : (number caller total : ℕ) (item : Option Record) (o : Option Round) → o ≡ None → NoRound (client_told config c number caller total item o)
  told_none number caller total item None e = h
  told_none number caller total item (Some r) e = absurd cc

  top_none : (number server top : ℕ) (o : Option Round) → o ≡ None → NoRound (top_told config c number server top o)
  top_none number server top None e = h
  top_none number server top (Some r) e = absurd cc

  job_none : (job : Job) (out : List Out) → NoRound (job_turn config c job out)
  job_none job out = either (is_whole job) (completes config c (completed job) job.sames) (record { state = record c { job = Some job }; out = out; notes = [] }) h h

  begun_none : (id point : ℕ) (o : Option Job) → NoRound (snapshot_begun config c id point o)
  begun_none id point None = h
  begun_none id point (Some job) = either (nat_eq job.id id && not (has_begun job)) (job_turn config c (record job { begun = Some point }) (part_reads c.epoch id 0 job.parts)) (idle c) (job_none (record job { begun = Some point }) (part_reads c.epoch id 0 job.parts)) h

  part_none : (id i : ℕ) (view : Option Record) (o : Option Job) → NoRound (part_came config c id i view o)
  part_none id i view None = h
  part_none id i view (Some job) = either (nat_eq job.id id && (nat_lt i (length job.parts) && not (has_part job i))) (job_turn config c (with_part job i view) []) (idle c) (job_none (with_part job i view) []) h

  same_none : (id i : ℕ) (job : Job) (o : Option (Option Record)) → NoRound (same_part config c id i job o)
  same_none id i job None = h
  same_none id i job (Some view) = either (nat_eq job.id id && (nat_lt i (length job.parts) && not (has_part job i))) (job_turn config c (with_same job i view) []) (idle c) (job_none (with_same job i view) []) h

  same_came_none : (id i : ℕ) (o : Option Job) → NoRound (same_came config c id i o)
  same_came_none id i None = h
  same_came_none id i (Some job) = same_none id i job (slice_get c.last.views i)

  answered_none : (job : ℕ) (o : Option Eviction) → NoRound (store_answered config c job o)
  answered_none job None = stored_none job c.round h
  answered_none job (Some e) = either (waits_job job e) (record { state = record c { eviction = Some (removing e) }; out = to_party Switch (after_store e) ∷ []; notes = [] }) (round_stored config c job c.round) h (stored_none job c.round h)

  acked_none : (i tag : ℕ) → NoRound (acknowledged c i tag)
  acked_none i tag = either (is_admitting tag (state_at c.slots i)) (record {
    state = with_state c i (acked_state (state_at c.slots i));
    out = [];
    notes = Admitted i (key_in (state_at c.slots i)) tag ∷ [];
  }) (idle c) h h

  takes_none : (packet : Packet) → NoRound (controller_takes config c packet)
  takes_none (Hot key) = wanted_none key c h
  takes_none (AdmitAck i tag) = acked_none i tag
  takes_none (PeekAns i tag latest num body) = peek_none i tag latest num body c.eviction
  takes_none (RemoveAns i tag done latest num body) = removal_none i tag done num body latest c.eviction
  takes_none (SnapBegun id point) = begun_none id point c.job
  takes_none (SnapPart id i view) = part_none id i view c.job
  takes_none (SnapSame id i) = same_came_none id i c.job
  takes_none (Stored job) = answered_none job c.eviction
  takes_none (Told number caller total item) = told_none number caller total item c.round h
  takes_none (TopIs number server top) = top_none number server top c.round h
  takes_none (GetReq caller op key) = h
  takes_none (WriteReq caller op key body) = h
  takes_none (GetFwd caller op key tag) = h
  takes_none (WriteFwd caller op key num body) = h
  takes_none (GetRep caller op key tag num body) = h
  takes_none (WriteRep caller op key num body) = h
  takes_none (GetAns caller op key num body near) = h
  takes_none (WriteAns caller op key num kept) = h
  takes_none (Admit epoch i key tag) = h
  takes_none (Peek epoch i tag) = h
  takes_none (Remove epoch i tag latest num) = h
  takes_none (SnapStart epoch id) = h
  takes_none (SnapRead epoch id i) = h
  takes_none (Store job item) = h
  takes_none (Release point) = h
  takes_none (Ask round) = h
  takes_none (TopAsk round) = h
  takes_none (SnapFrom epoch id base) = h

-- ---- no event but the beginning of a recovery does

record StopsStay (plan : PlanView) (s : State) : Type 0 where
  round : s.controller.round ≡ None
  stopped : (j : ℕ) (order : Order) → slice_get plan.orders j ≡ Some order → is_stop order ≡ true → j < s.done → s.running ≡ false

-- the same orders are done and the switch runs as before
same_run : (plan : PlanView) (s t : State) → StopsStay plan s → t.controller.round ≡ None → t.running ≡ s.running → t.done ≡ s.done → StopsStay plan t
same_run plan s t h round running done = record {
  round = round;
  stopped = λ j order e is less. running ∙ h.stopped j order e is (subst (λ (n : ℕ). j < n) done less);
}

tick_none : (s : State) (o : Option (Turn ControllerState)) → ((t : Turn ControllerState) → o ≡ Some t → NoRound t) → s.controller.round ≡ None → (ticks s o).controller.round ≡ None
tick_none s None f h = h
tick_none s (Some t) f h = f t refl

abbrev AllNoRound : Option (Turn ControllerState) → Type 0
AllNoRound o = (t : Turn ControllerState) → o ≡ Some t → NoRound t

module _ (c : ControllerState) (h : c.round ≡ None) where
  all_some : (u : Turn ControllerState) → NoRound u → AllNoRound (Some u)
  all_some u k t e = subst NoRound (same_Some u t e) k

  room_none : (o : Option ℕ) → AllNoRound (tick_room c o)
  room_none None = λ t e. absurd cc
  room_none (Some i) = by (is_some c.eviction)
    where
      by : (b : Bool) → AllNoRound (cond b None (Some (makes_room c i)))
      by true = λ t e. absurd cc
      by false = all_some (makes_room c i) h

  free_none : (key : List ℕ) (o : Option ℕ) → AllNoRound (tick_free c key o)
  free_none key None = room_none (victim c.hand c.slots)
  free_none key (Some i) = all_some (admits_want c key i) h

  want_none : (key : List ℕ) (o : Option ℕ) → AllNoRound (tick_want c key o)
  want_none key (Some i) = all_some (idle (first_want_dropped c)) h
  want_none key None = free_none key (first_place is_free c.slots)

  wants_none : (keys : List (List ℕ)) → AllNoRound (tick_wants c keys)
  wants_none [] = λ t e. absurd cc
  wants_none (key ∷ keys) = want_none key (first_place (has_key key) c.slots)

  ticked_none : AllNoRound (tick c)
  ticked_none = by (is_some c.round)
    where
      by : (b : Bool) → AllNoRound (cond b None (tick_wants c c.wants))
      by true = λ t e. absurd cc
      by false = wants_none c.wants

  held_none : (o : Option ℕ) → NoRound (evict_held c o)
  held_none None = h
  held_none (Some i) = h

ticks_run : (s : State) (o : Option (Turn ControllerState)) → ((ticks s o).running ≡ s.running) × ((ticks s o).done ≡ s.done)
ticks_run s None = (refl, refl)
ticks_run s (Some t) = (refl, refl)

handled_stays : (plan : PlanView) (k : Keeping) (s : State) (rest : List Message) (to : Party) (packet : Packet) → StopsStay plan s → StopsStay plan (handled plan k s rest to packet)
handled_stays plan k s rest (Client c) packet h = same_run plan s (handled plan k s rest (Client c) packet) h h.round refl refl
handled_stays plan k s rest Switch packet h = same_run plan s (handled plan k s rest Switch packet) h h.round refl refl
handled_stays plan k s rest (Server n) packet h = same_run plan s (handled plan k s rest (Server n) packet) h h.round refl refl
handled_stays plan k s rest Controller packet h = same_run plan s (handled plan k s rest Controller packet) h (takes_none plan.config s.controller h.round packet) refl refl

delivers_stays : (plan : PlanView) (k : Keeping) (s : State) (i : ℕ) (o : Option Message) → StopsStay plan s → StopsStay plan (delivers plan k s i o)
delivers_stays plan k s i None h = h
delivers_stays plan k s i (Some m) h = handled_stays plan k s (remove s.bag i) m.to m.packet h

-- ---- orders

before_or_at : (j n : ℕ) → j < n + 1 → (j < n) ⊎ (j ≡ n)
before_or_at j n less = elim (cases_lt j n) [ inl l ↦ inl l | inr g ↦ inr (omega (arith, less, g)) ]

-- an order that is no stop leaves the switch as it is
plain_order : (plan : PlanView) (s t : State) (order : Order) → StopsStay plan s → slice_get plan.orders s.done ≡ Some order → is_stop order ≡ false → t.controller.round ≡ None → t.running ≡ s.running → StopsStay plan (record t { done = s.done + 1 })
plain_order plan s t order h e plain round running = record {
  round = round;
  stopped = λ j other f is less. elim (before_or_at j s.done less) [
    | inl l ↦ running ∙ h.stopped j other f is l
    | inr q ↦
        let same : order ≡ other = same_Some order other (sym e ∙ (ap (slice_get plan.orders) (sym q) ∙ f)) in
        let z : true ≡ false = sym is ∙ (sym (ap is_stop same) ∙ plain) in
        absurd cc
  ];
}

order_stays : (plan : PlanView) (s : State) (o : Option Order) → slice_get plan.orders s.done ≡ o → is_order_due s o ≡ true → StopsStay plan s → StopsStay plan (record (does_order plan s o) { done = s.done + 1 })
order_stays plan s None e due h = absurd cc
order_stays plan s (Some (AdmitOrder step key)) e due h = plain_order plan s (does_order plan s (Some (AdmitOrder step key))) (AdmitOrder step key) h e refl (wanted_none key s.controller h.round) refl
order_stays plan s (Some (EvictOrder step key)) e due h = plain_order plan s (does_order plan s (Some (EvictOrder step key))) (EvictOrder step key) h e refl (held_none s.controller h.round (first_place (holds_key key) s.controller.slots)) refl
order_stays plan s (Some (SnapOrder step)) e due h = plain_order plan s (does_order plan s (Some (SnapOrder step))) (SnapOrder step) h e refl h.round refl
order_stays plan s (Some (StopOrder step)) e due h = record { round = h.round; stopped = λ j order f is less. refl }
order_stays plan s (Some (StopAtOrder kind times)) e due h = record { round = h.round; stopped = λ j order f is less. refl }

restart_stays : (plan : PlanView) (k : Keeping) (s : State) → StopsStay plan s → StopsStay plan (restarts plan k s (ready s.controller))
restart_stays plan k s h =
    let none : ready s.controller ≡ None = ap ready_in h.round in
    subst (λ (o : Option ℕ). StopsStay plan (restarts plan k s o)) (sym none) h

and_parts : (a b : Bool) → (a && b) ≡ true → (a ≡ true) × (b ≡ true)
and_parts true b h = (refl, h)
and_parts false b h = absurd cc

event_stays : (plan : PlanView) (k : Keeping) (s : State) (e : Event) → is_enabled plan s e ≡ true → e ≢ Recover → StopsStay plan s → StopsStay plan (happens_with plan k s e)
event_stays plan k s (Send c) able other h = same_run plan s (happens_with plan k s (Send c)) h h.round refl refl
event_stays plan k s (Deliver i) able other h = delivers_stays plan k s i (slice_get s.bag i) h
event_stays plan k s Tick able other h = let r = ticks_run s (tick s.controller) in same_run plan s (happens_with plan k s Tick) h (tick_none s (tick s.controller) (ticked_none s.controller h.round) h.round) r.0 r.1
event_stays plan k s Recover able other h = absurd (other refl)
event_stays plan k s Restart able other h = restart_stays plan k s h
event_stays plan k s (OrderOf j) able other h =
    let a = and_parts (nat_eq j s.done) (is_order_enabled plan s) able in
    let t : nat_eq j s.done ≡ true = a.0 in
    let same : s.done ≡ j = grind (arith, nat_tests) in
    subst (λ (i : ℕ). StopsStay plan (happens_with plan k s (OrderOf i))) same (order_stays plan s (slice_get plan.orders s.done) refl a.1 h)

opens : (plan : PlanView) → StopsStay plan (opening plan)
opens plan = record { round = refl; stopped = λ j order e is less. absurd (omega (arith, less)) }

runs_stay : (plan : PlanView) (ceiling : ℕ) (s : State) (events : List KeptEvent) → IsRunWith plan ceiling s events → Each (λ (e : KeptEvent). e.event ≢ Recover) events → StopsStay plan s → StopsStay plan (run_with plan s events)
runs_stay plan ceiling s [] way others h = h
runs_stay plan ceiling s (e ∷ es) way others h = runs_stay plan (ceiling_after s e.event ceiling) (happens_with plan e.keeping s e.event) es way.2 others.1 (event_stays plan e.keeping s e.event way.0 others.0 h)

a_stop : (orders : List Order) → list_any is_stop orders ≡ true → (j : ℕ) × (order : Order) × (slice_get orders j ≡ Some order) × (is_stop order ≡ true)
a_stop [] e = absurd cc
a_stop (order ∷ orders) e = by (is_stop order) refl e (a_stop orders)
  where
    by : (b : Bool) → is_stop order ≡ b → (b || list_any is_stop orders) ≡ true → (list_any is_stop orders ≡ true → (j : ℕ) × (found : Order) × (slice_get orders j ≡ Some found) × (is_stop found ≡ true))
        → (j : ℕ) × (found : Order) × (slice_get (order ∷ orders) j ≡ Some found) × (is_stop found ≡ true)
    by true is e further = (0, order, refl, is)
    by false is e further = let x = further e in (suc x.0, x.1, x.2, x.3)

pub recovery_begins : (plan : PlanView) (events : List KeptEvent) → IsRunWith plan 0 (opening plan) events → list_any is_stop plan.orders ≡ true → is_finished plan (run_with plan (opening plan) events) ≡ true → Each (λ (e : KeptEvent). e.event ≢ Recover) events → ⊥
recovery_begins plan events way stop finished others =
    let s : State = run_with plan (opening plan) events in
    let h : StopsStay plan s = runs_stay plan 0 (opening plan) events way others (opens plan) in
    let x = a_stop plan.orders stop in
    let a = and_parts _ _ finished in
    let b = and_parts _ _ a.1 in
    let c = and_parts _ _ b.1 in
    let all : nat_eq s.done (length plan.orders) ≡ true = b.0 in
    let done : s.done ≡ length plan.orders = grind (arith, nat_tests) in
    let less : x.0 < s.done = omega (arith, done, slice_get_within plan.orders x.0 x.1 x.2) in
    let z : true ≡ false = sym c.0 ∙ h.stopped x.0 x.1 x.2 x.3 less in
    absurd cc

-- No step but a recovery begins a round, so at a restart one began before.
use Rattle.std.proofs.Common.{◌≡◌, ◌≢◌, ℕ, ◌+◌, ◌-◌, ◌⊎◌, inl, inr, true, false, List, [], ◌∷◌, ◌++◌, length, refl, sym, ap, ◌∙◌, subst}
use Rattle.std.specs.Prelude.{Option, Some, None, ◌&&◌, not, nat_eq, nat_le, nat_lt, slice_get, slice_index_or, slice_set, is_some}
use Rattle.std.specs.List.{remove}
use Rattle.far_base.specs.PlanView.{PlanView}
use Rattle.far_base.specs.declared.event.Event.{Event}
use Rattle.far_base.specs.declared.event.Event.TheVariants.{Send, Deliver, Tick, Recover, Restart, Order as OrderOf}
use Rattle.far_base.specs.declared.packet.Message.{Message}
use Rattle.far_base.specs.declared.packet.Out.{Out}
use Rattle.far_base.specs.declared.packet.Packet.{Packet}
use Rattle.far_base.specs.declared.packet.Packet.TheVariants.{Hot, AdmitAck, PeekAns, RemoveAns, SnapBegun, SnapPart, SnapSame, Stored, Told, TopAsk, TopIs}
use Rattle.far_base.specs.declared.party.Party.{Party}
use Rattle.far_base.specs.declared.party.Party.TheVariants.{Client, Switch, Server, Controller}
use Rattle.far_base.specs.declared.plan.Config.{Config}
use Rattle.far_base.specs.declared.plan.Order.{Order}
use Rattle.far_base.specs.declared.plan.Order.TheVariants.{Admit as AdmitOrder, Evict as EvictOrder, Snap as SnapOrder, Stop as StopOrder, StopAt as StopAtOrder}
use Rattle.far_base.specs.declared.record.Record.{Record}
use Rattle.far_model.specs.Controller.{ControllerState, tick, ready, ready_in, controller_takes, client_told, round_stored, round_turn, store_answered, store_outs, to_servers, told_round, top_told}
use Rattle.far_model.specs.Events.{Keeping, can_recover, delivers, does_order, handled, happens, is_enabled, keeping_of, restarts, ticks}
use Rattle.far_model.specs.Evictions.{Eviction, after_store, removing, waits_job}
use Rattle.far_model.specs.Members.{Each}
use Rattle.far_model.specs.Parties.{Turn, idle, to_party}
use Rattle.far_model.specs.Rounds.{Round, asks_tops, has_told, telling_at}
use Rattle.far_model.specs.Runs.{IsRun, run}
use Rattle.far_model.specs.State.{State, opening}
use Rattle.far_invariants.specs.Recoveries.{IsNoRecovery, RecoversAfter}
use Rattle.flight_laws.proofs.Lists.{by_test}
use Rattle.recovery_laws.proofs.Recovering.{can_recover_is}
use Rattle.recovery_laws.proofs.Rules.{wanted_calm, tick_calm, evict_calm, acknowledged_calm, peek_calm, removal_calm, begun_rule, part_rule, same_rule}

abbrev Anything : Record → Type 0
Anything r = Unit {0}

-- ---- whether there is a round

none_is : (o : Option Round) → is_some o ≡ false → o ≡ None
none_is None h = refl
none_is (Some r) h = absurd cc

module _ (config : Config) (c : ControllerState) where
  abbrev Same : Turn ControllerState → Type 0
  Same t = is_some t.state.round ≡ is_some c.round

  turned : (d : ControllerState) (r : Round) (out : List Out) → is_some (round_turn config d r out).state.round ≡ true
  turned d r out = by_test (λ (t : Turn ControllerState). is_some t.state.round ≡ true) (asks_tops r)
      (record { state = record d { round = Some (record r { asked = true }) }; out = out ++ to_servers 0 config.servers (TopAsk r.number); notes = [] })
      (record { state = record d { round = Some r }; out = out; notes = [] }) refl refl

  stored_same : (job : ℕ) (o : Option Round) → c.round ≡ o → Same (round_stored config c job o)
  stored_same job None e = refl
  stored_same job (Some r) e = by_test Same (nat_le r.first_job job && (nat_lt job c.next_job && not (nat_eq r.stores 0))) (round_turn config c (record r { stores = r.stores - 1 }) []) (idle c)
      (turned c (record r { stores = r.stores - 1 }) [] ∙ sym (ap is_some e)) refl

  answered_same : (job : ℕ) (o : Option Eviction) → Same (store_answered config c job o)
  answered_same job None = stored_same job c.round refl
  answered_same job (Some e) = by_test Same (waits_job job e) (record { state = record c { eviction = Some (removing e) }; out = to_party Switch (after_store e) ∷ []; notes = [] }) (round_stored config c job c.round)
      refl (stored_same job c.round refl)

  told_turn : (number caller total : ℕ) (item : Option Record) (r : Round) → is_some (round_turn config (record c { next_job = c.next_job + length (store_outs config c.next_job item) }) (told_round r caller total (length (store_outs config c.next_job item))) (store_outs config c.next_job item)).state.round ≡ true
  told_turn number caller total item r = turned (record c { next_job = c.next_job + length (store_outs config c.next_job item) }) (told_round r caller total (length (store_outs config c.next_job item))) (store_outs config c.next_job item)

  told_same : (number caller total : ℕ) (item : Option Record) (o : Option Round) → c.round ≡ o → Same (client_told config c number caller total item o)
  told_same number caller total item None e = refl
  told_same number caller total item (Some r) e = by_test Same (nat_eq r.number number && (nat_lt caller (length r.told) && not (has_told (telling_at r caller))))
      (round_turn config (record c { next_job = c.next_job + length (store_outs config c.next_job item) }) (told_round r caller total (length (store_outs config c.next_job item))) (store_outs config c.next_job item)) (idle c)
      (told_turn number caller total item r ∙ sym (ap is_some e)) refl

  top_same : (number server top : ℕ) (o : Option Round) → c.round ≡ o → Same (top_told config c number server top o)
  top_same number server top None e = refl
  top_same number server top (Some r) e = by_test Same (nat_eq r.number number && (r.asked && (nat_lt server (length r.tops) && not (is_some (slice_index_or r.tops server None)))))
      (record { state = record c { round = Some (record r { tops = slice_set r.tops server (Some top) }) }; out = []; notes = [] }) (idle c) (sym (ap is_some e)) refl

  takes_same : (p : Packet) → Same (controller_takes config c p)
  takes_same (Hot key) = ap is_some (wanted_calm Anything config c key).round
  takes_same (AdmitAck i tag) = ap is_some (acknowledged_calm Anything config c i tag).round
  takes_same (PeekAns i tag latest num body) = ap is_some (peek_calm Anything config c i tag latest num body c.eviction (λ e k w l. tt)).round
  takes_same (RemoveAns i tag done latest num body) = ap is_some (removal_calm Anything config c i tag done num body c.eviction (λ e k w l. tt)).round
  takes_same (SnapBegun id point) = ap is_some (begun_rule Anything config c id point c.job).round
  takes_same (SnapPart id i view) = ap is_some (part_rule Anything config c id i view c.job).round
  takes_same (SnapSame id i) = ap is_some (same_rule Anything config c id i c.job).round
  takes_same (Stored job) = answered_same job c.eviction
  takes_same (Told number caller total item) = told_same number caller total item c.round refl
  takes_same (TopIs number server top) = top_same number server top c.round refl
  takes_same _ = refl

handled_same : (plan : PlanView) (k : Keeping) (s : State) (rest : List Message) (to : Party) (p : Packet) → is_some (handled plan k s rest to p).controller.round ≡ is_some s.controller.round
handled_same plan k s rest (Client c) p = refl
handled_same plan k s rest Switch p = refl
handled_same plan k s rest (Server n) p = refl
handled_same plan k s rest Controller p = takes_same plan.config s.controller p

order_same : (plan : PlanView) (s : State) (o : Option Order) → is_some (does_order plan s o).controller.round ≡ is_some s.controller.round
order_same plan s None = refl
order_same plan s (Some (AdmitOrder step key)) = ap is_some (wanted_calm Anything plan.config s.controller key).round
order_same plan s (Some (EvictOrder step key)) = ap is_some (evict_calm Anything plan.config s.controller key).round
order_same plan s (Some (SnapOrder step)) = refl
order_same plan s (Some (StopOrder step)) = refl
order_same plan s (Some (StopAtOrder kind times)) = refl

-- only the beginning of a recovery and a restart change whether there is a round
stays_same : (plan : PlanView) (s : State) (e : Event) → IsNoRecovery e → e ≢ Restart → is_some (happens plan s e).controller.round ≡ is_some s.controller.round
stays_same plan s (Send c) h n = refl
stays_same plan s (Deliver i) h n = by (slice_get s.bag i)
  where
    by : (o : Option Message) → is_some (delivers plan (keeping_of s (Deliver i)) s i o).controller.round ≡ is_some s.controller.round
    by None = refl
    by (Some m) = handled_same plan (keeping_of s (Deliver i)) s (remove s.bag i) m.to m.packet
stays_same plan s Tick h n = by (tick s.controller) refl
  where
    by : (o : Option (Turn ControllerState)) → tick s.controller ≡ o → is_some (ticks s o).controller.round ≡ is_some s.controller.round
    by None e = refl
    by (Some t) e = ap is_some (tick_calm Anything plan.config s.controller t e).0.round
stays_same plan s Recover h n = absurd h
stays_same plan s Restart h n = absurd (n refl)
stays_same plan s (OrderOf j) h n = order_same plan s (slice_get plan.orders j)

pub is_restart : (e : Event) → (e ≡ Restart) ⊎ (e ≢ Restart)
is_restart (Send c) = inr (λ q. cc)
is_restart (Deliver i) = inr (λ q. cc)
is_restart Tick = inr (λ q. cc)
is_restart Recover = inr (λ q. cc)
is_restart Restart = inl refl
is_restart (OrderOf j) = inr (λ q. cc)

-- ---- before the first recovery

stays_none : (plan : PlanView) (s : State) (e : Event) → IsNoRecovery e → s.controller.round ≡ None → (happens plan s e).controller.round ≡ None
stays_none plan s e h none = go (is_restart e)
  where
    restarted_none : (o : Option ℕ) → (restarts plan (keeping_of s Restart) s o).controller.round ≡ None
    restarted_none None = none
    restarted_none (Some counter) = refl

    go : (e ≡ Restart) ⊎ (e ≢ Restart) → (happens plan s e).controller.round ≡ None
    go (inl is) = subst (λ (w : Event). (happens plan s w).controller.round ≡ None) (sym is) (restarted_none (ready s.controller))
    go (inr other) = none_is (happens plan s e).controller.round (stays_same plan s e h other ∙ ap is_some none)

run_none : (plan : PlanView) (s : State) (events : List Event) → Each IsNoRecovery events → s.controller.round ≡ None → (run plan s events).controller.round ≡ None
run_none plan s [] h none = none
run_none plan s (e ∷ es) h none = run_none plan (happens plan s e) es h.1 (stays_none plan s e h.0 none)

is_recovery : (e : Event) → (e ≡ Recover) ⊎ IsNoRecovery e
is_recovery (Send c) = inr tt
is_recovery (Deliver i) = inr tt
is_recovery Tick = inr tt
is_recovery Recover = inl refl
is_recovery Restart = inr tt
is_recovery (OrderOf j) = inr tt

-- a recovery in the list, and none after it
pub record HasRecovery (events : List Event) : Type 0 where
  pub before : List Event
  pub after : RecoversAfter events before

cases : (events : List Event) → Each IsNoRecovery events ⊎ HasRecovery events
cases [] = inl tt
cases (e ∷ es) = go (cases es) (is_recovery e)
  where
    go : Each IsNoRecovery es ⊎ HasRecovery es → (e ≡ Recover) ⊎ IsNoRecovery e → Each IsNoRecovery (e ∷ es) ⊎ HasRecovery (e ∷ es)
    go (inr h) k = inr (record { before = e ∷ h.before; after = record { since = h.after.since; none = h.after.none; are = ap (λ l. e ∷ l) h.after.are } })
    go (inl none) (inl is) = inr (record { before = []; after = record { since = es; none = none; are = ap (λ w. w ∷ es) is } })
    go (inl none) (inr k) = inl (k, none)

-- where a restart is possible a recovery began before
pub recovery_before : (plan : PlanView) (events : List Event) → is_some (ready (run plan (opening plan) events).controller) ≡ true → HasRecovery events
recovery_before plan events able = go (cases events)
  where
    go : Each IsNoRecovery events ⊎ HasRecovery events → HasRecovery events
    go (inr h) = h
    go (inl none) = absurd (let e = run_none plan (opening plan) events none refl in let k : is_some (ready_in None) ≡ true = subst (λ o. is_some (ready_in o) ≡ true) e able in cc)

-- ---- from a recovery to the restart

-- while a round is there no other begins, and before the restart it does not end
pub record RoundLasts (plan : PlanView) (s : State) (events : List Event) : Type 0 where
  pub there : is_some (run plan s events).controller.round ≡ true
  pub none : Each IsNoRecovery events

pub round_lasts : (plan : PlanView) (s : State) (events : List Event) → is_some s.controller.round ≡ true → IsRun plan s events → Each (λ (e : Event). e ≢ Restart) events → RoundLasts plan s events
round_lasts plan s [] there runs others = record { there = there; none = tt }
round_lasts plan s (e ∷ es) there runs others = go (is_recovery e) (λ kept. round_lasts plan (happens plan s e) es kept runs.1 others.1)
  where
    go : (e ≡ Recover) ⊎ IsNoRecovery e → (is_some (happens plan s e).controller.round ≡ true → RoundLasts plan (happens plan s e) es) → RoundLasts plan s (e ∷ es)
    go (inl is) more = absurd (let can : can_recover s ≡ true = subst (λ (w : Event). is_enabled plan s w ≡ true) is runs.0 in let k : is_some s.controller.round ≡ false = ap is_some (can_recover_is s can).no_round in let z : true ≡ false = sym there ∙ k in cc)
    go (inr k) more = let later = more (stays_same plan s e k others.0 ∙ there) in record { there = later.there; none = (k, later.none) }

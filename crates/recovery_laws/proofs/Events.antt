-- Every event keeps what holds across stops.
use Rattle.far_invariants.specs.Covers.{look}
use Rattle.std.proofs.Common.{◌≡◌, ℕ, ◌+◌, ◌<◌, ◌≤◌, ◌⊎◌, Bool, true, false, List, [], ◌∷◌, ◌++◌, append-nil, length, refl, sym, ap, ◌∙◌, subst, arith, eqb-true}
use Rattle.std.specs.Prelude.{Option, Some, None, slice_get, ◌&&◌, ◌||◌, not, nat_eq, nat_le, is_some}
use Rattle.std.specs.List.{remove}
use Rattle.std.proofs.lemmas.Bool.{and_parts}
use Rattle.far_base.specs.PlanView.{PlanView}
use Rattle.far_base.specs.declared.event.Event.{Event}
use Rattle.far_base.specs.declared.event.Event.TheVariants.{Send, Deliver, Tick, Recover, Restart, Order as OrderOf}
use Rattle.far_base.specs.declared.packet.Message.{Message}
use Rattle.far_base.specs.declared.packet.Packet.{Packet}
use Rattle.far_base.specs.declared.packet.Packet.TheVariants.{GetReq, WriteReq, GetFwd, WriteFwd, GetRep, WriteRep, GetAns, WriteAns, Hot, Admit, AdmitAck, Peek, PeekAns, Remove, RemoveAns, SnapStart, SnapBegun, SnapRead, SnapPart, SnapSame, SnapFrom, Store, Stored, Release, Ask, Told, TopAsk, TopIs}
use Rattle.far_base.specs.declared.party.Party.{Party}
use Rattle.far_base.specs.declared.party.Party.TheVariants.{Client, Switch, Server, Controller}
use Rattle.far_base.specs.declared.plan.Order.{Order}
use Rattle.far_base.specs.declared.plan.Order.TheVariants.{Admit as AdmitOrder, Evict as EvictOrder, Snap as SnapOrder, Stop as StopOrder, StopAt as StopAtOrder}
use Rattle.far_base.specs.declared.record.Record.{Record}
use Rattle.far_base.specs.declared.log.LogEntry.TheVariants.{Stopped}
use Rattle.far_model.specs.Controller.{ControllerState, tick, wanted, evict_key, start_snapshot, start_recovery, ready, ready_in, client_told, store_answered, top_told, peek_answered, removal_answered, acknowledged, snapshot_begun, part_came, same_came}
use Rattle.far_model.specs.Events.{Keeping, can_deliver, can_recover, choices, client_turn, controller_turn, delivers, does_order, handled, happens, happens_with, is_enabled, is_order_due, is_order_enabled, is_possible, is_switch, keeping_of, recovers, reply_at, reply_in, reply_to, restarts, sends, server_turn, stops, switch_turn, ticks, all_listed}
use Rattle.far_model.specs.KeyedRecords.{found}
use Rattle.far_model.specs.Kept.{kept_records, records_in}
use Rattle.far_model.specs.Members.{Among, is_empty}
use Rattle.far_model.specs.Parties.{Turn, idle, messages_from}
use Rattle.far_model.specs.Pass.{pass, passed_out, pass_notes}
use Rattle.far_invariants.specs.Past.{Past, remembers}
use Rattle.far_model.specs.Rounds.{Round, ready_counter}
use Rattle.far_model.specs.Servers.{get_reply, write_reply, record_of, server_keeps, server_reply, top_of}
use Rattle.far_model.specs.Passes.{pass_count}
use Rattle.far_model.specs.State.{State, client_at, records_at}
use Rattle.far_model.specs.View.{entry_place, server_of}
use Rattle.far_model.proofs.Members.{among_at}
use Rattle.far_model.specs.Snapshots.{view_records}
use Rattle.far_invariants.specs.StopNeeds.{IsAskedWell, Needs, IsGenuine}
use Rattle.far_invariants.specs.Recoveries.{last_or, recovered_last}
use Rattle.far_invariants.specs.Stops.{IsDrawnJob, InRound, IsUnderWay, Stops, Carried}
use Rattle.recovery_laws.proofs.Asking.{send_idles, release_idles, ask_idles}
use Rattle.recovery_laws.proofs.Counting.{RoundGoesOn, round_is, told_goes_on, stored_goes_on, top_goes_on}
use Rattle.recovery_laws.proofs.Passes.{IsCalmKind, passes_calm, pass_calm, write_step}
use Rattle.recovery_laws.proofs.Quiet.{Idles, idles_step}
use Rattle.recovery_laws.proofs.Recovering.{CanRecover, can_recover_is, begins, begins_waiting, numbered_from}
use Rattle.recovery_laws.proofs.Restarting.{IsReady, ready_is, restart_step}
use Rattle.recovery_laws.proofs.RoundSteps.{round_step}
use Rattle.recovery_laws.proofs.Rules.{IsRule, IsCalmRule, rule_step, calm_snapshot, job_snapshot, IsJobTurn, wanted_calm, tick_calm, evict_calm, snapshot_calm, acknowledged_calm, peek_calm, removal_calm, stored_calm, stored_rule, told_rule, top_rule, recovery_rule, begun_rule, part_rule, same_rule}
use Rattle.recovery_laws.proofs.Steps.{Nothing, Its, leaves_all, leaves_taken, HasArrived, IsLight, light_gone, calm_step, stops_step, client_absorbed}
use Rattle.recovery_laws.proofs.Storing.{store_idles, top_idles}
use Rattle.recovery_laws.proofs.Turns.{send_calm, answered_calm, ask_calm, release_step, kept_step, same_server_calm, given_calm}

-- ---- deliveries

runs_to : (running : Bool) (to : Party) → (running || not (is_switch to)) ≡ true → to ≡ Switch → running ≡ true
runs_to true to h e = refl
runs_to false to h e = absurd (let f : not (is_switch to) ≡ false = ap (λ w. not (is_switch w)) e in let g : true ≡ false = sym h ∙ f in cc)

module _ (plan : PlanView) (kept : List Record) (s : State) (i : ℕ) (stops_s : Stops plan kept s) (needs : Needs plan s) (records : List Record) where
  module _ (x : Message) (at : slice_get s.bag i ≡ Some x) where
    there : Among x s.bag
    there = among_at x s.bag i at

    -- a round that is under way stays so, where the controller's part is untouched
    idling : (t : State) (new : List Message) → t.controller ≡ s.controller → ((r : Round) → InRound plan kept s r → Idles plan kept (Its x) [] s t (remove s.bag i) new r) → (r : Round) → t.controller.round ≡ Some r → IsUnderWay plan kept t r
    idling t new same f r e =
        let u : IsUnderWay plan kept s r = stops_s.round r (ap (λ (c : ControllerState). c.round) (sym same) ∙ e) in
        record { goes = round_step plan kept (Its x) s t (remove s.bag i) new r r u.goes (idles_step plan kept (Its x) [] s t (remove s.bag i) new r u.goes (f r u.goes)); waits = u.waits }

    -- no round is under way where the switch runs, or where a message of its is on its way
    running_round : s.running ≡ true → (t : State) → t.controller.round ≡ s.controller.round → (r : Round) → t.controller.round ≡ Some r → IsUnderWay plan kept t r
    running_round runs t same r e = absurd (let f = (stops_s.round r (sym same ∙ e)).goes.stopped in let clash : true ≡ false = sym runs ∙ f in cc)

    switch_round : x.from ≡ Switch → (t : State) → t.controller.round ≡ s.controller.round → (r : Round) → t.controller.round ≡ Some r → IsUnderWay plan kept t r
    switch_round from t same r e = absurd (
        let f = (stops_s.round r (sym same ∙ e)).goes.silent x there in
        let t : is_switch x.from ≡ true = ap is_switch from in
        let clash : true ≡ false = sym t ∙ f in cc)

    at_switch : (p : Packet) → x.packet ≡ p → IsCalmKind p → IsLight p → s.running ≡ true → Stops plan kept (switch_turn s (remove s.bag i) p (pass s.switch p))
    at_switch p is kind light runs =
        let t : State = switch_turn s (remove s.bag i) p (pass s.switch p) in
        let new : List Message = messages_from Switch (passed_out (pass s.switch p)) in
        let calm = passes_calm plan s p kind (subst (IsAskedWell plan s) is (needs.owed.asked x there)) in
        stops_step plan kept kept (Its x) s t (remove s.bag i) new stops_s (calm_step plan kept (Its x) (pass_notes p (pass s.switch p)) s t (remove s.bag i) new stops_s
        (pass_calm plan kept s i x p (pass s.switch p) at (subst IsLight (sym is) light) runs stops_s calm)) (running_round runs t refl)

    at_controller : (t : Turn ControllerState) → IsLight x.packet → IsRule (IsGenuine plan s) s.controller t → ((key : List ℕ) (num : ℕ) → Rattle.far_invariants.specs.Covers.IsAbsorbed plan s.log key num → Rattle.far_invariants.specs.Covers.IsInSnapshot s key num → Rattle.far_invariants.specs.Covers.IsAtServer plan s key num ⊎ Rattle.far_invariants.specs.Covers.Covers (Rattle.far_model.specs.Snapshots.view_records t.state.last.views) key num)
        → RoundGoesOn plan kept (controller_turn s (remove s.bag i) t) → Stops plan kept (controller_turn s (remove s.bag i) t)
    at_controller t light rule snapshot round =
        stops_step plan kept kept (Its x) s (controller_turn s (remove s.bag i) t) (remove s.bag i) (messages_from Controller t.out) stops_s
        (rule_step plan kept (Its x) s (remove s.bag i) t s.done stops_s (leaves_taken s i x at) (light_gone plan s (controller_turn s (remove s.bag i) t) x light) rule snapshot) round

    calm_controller : (t : Turn ControllerState) → x.from ≡ Switch → IsLight x.packet → IsCalmRule (IsGenuine plan s) s.controller t → Stops plan kept (controller_turn s (remove s.bag i) t)
    calm_controller t from light calm = at_controller t light calm.rule (calm_snapshot plan s t calm.last) (λ r e. switch_round from (controller_turn s (remove s.bag i) t) calm.round r e)

    job_controller : (t : Turn ControllerState) → x.from ≡ Switch → IsLight x.packet → IsJobTurn (IsGenuine plan s) plan.config s.controller (Rattle.far_invariants.specs.StopNeeds.next_job s.controller x.packet) t → Stops plan kept (controller_turn s (remove s.bag i) t)
    job_controller t from light job = at_controller t light job.rule (job_snapshot plan s x.packet t (needs.owed.completes x there) job.last) (λ r e. switch_round from (controller_turn s (remove s.bag i) t) job.round r e)

    number_below : (r : Round) → s.controller.round ≡ Some r → r.number < s.controller.next_round
    number_below r e = let n = (stops_s.round r e).goes.number in omega (arith, n)

    told_at : (number caller total : ℕ) (item : Option Record) → x.packet ≡ Told number caller total item → Stops plan kept (controller_turn s (remove s.bag i) (client_told plan.config s.controller number caller total item s.controller.round))
    told_at number caller total item is =
        let rule = told_rule (IsGenuine plan s) plan.config s.controller number caller total item s.controller.round (λ y e. subst (λ o. Carried (IsGenuine plan s) (Told number caller total o)) e (subst (Carried (IsGenuine plan s)) is (stops_s.carries x there))) number_below in
        at_controller (client_told plan.config s.controller number caller total item s.controller.round) (subst IsLight (sym is) tt) rule.0 (calm_snapshot plan s (client_told plan.config s.controller number caller total item s.controller.round) rule.1) (by s.controller.round refl)
      where
        by : (o : Option Round) → s.controller.round ≡ o → RoundGoesOn plan kept (controller_turn s (remove s.bag i) (client_told plan.config s.controller number caller total item o))
        by None e = λ q k. absurd (let clash = sym e ∙ k in cc)
        by (Some r) e = told_goes_on plan kept s i x at r (stops_s.round r e).goes (stops_s.round r e).waits number caller total item is e

    stored_at : (job : ℕ) → x.packet ≡ Stored job → Stops plan kept (controller_turn s (remove s.bag i) (store_answered plan.config s.controller job s.controller.eviction))
    stored_at job is =
        let rule = stored_rule (IsGenuine plan s) plan.config s.controller job s.controller.eviction number_below in
        at_controller (store_answered plan.config s.controller job s.controller.eviction) (subst IsLight (sym is) tt) rule.0 (calm_snapshot plan s (store_answered plan.config s.controller job s.controller.eviction) rule.1) (by s.controller.round refl)
      where
        by : (o : Option Round) → s.controller.round ≡ o → RoundGoesOn plan kept (controller_turn s (remove s.bag i) (store_answered plan.config s.controller job s.controller.eviction))
        by None e = λ q k. absurd (let clash = sym e ∙ sym (stored_calm (IsGenuine plan s) plan.config s.controller job s.controller.eviction e).round ∙ k in cc)
        by (Some r) e = stored_goes_on plan kept s i x at r (stops_s.round r e).goes (stops_s.round r e).waits job is (subst (IsDrawnJob s.controller) is (stops_s.drawn x there)) e

    top_at : (number server top : ℕ) → x.packet ≡ TopIs number server top → Stops plan kept (controller_turn s (remove s.bag i) (top_told plan.config s.controller number server top s.controller.round))
    top_at number server top is =
        let rule = top_rule (IsGenuine plan s) plan.config s.controller number server top s.controller.round in
        at_controller (top_told plan.config s.controller number server top s.controller.round) (subst IsLight (sym is) tt) rule.0 (calm_snapshot plan s (top_told plan.config s.controller number server top s.controller.round) rule.1) (by s.controller.round refl)
      where
        by : (o : Option Round) → s.controller.round ≡ o → RoundGoesOn plan kept (controller_turn s (remove s.bag i) (top_told plan.config s.controller number server top o))
        by None e = λ q k. absurd (let clash = sym e ∙ k in cc)
        by (Some r) e = top_goes_on plan kept s i x at r (stops_s.round r e).goes (stops_s.round r e).waits number server top is e

  -- the keepers' answer to this packet
  abbrev answering : Party → Packet → Keeping
  answering to p = record { reply = reply_at s to p; records = records }

  abbrev Kept : Party → Packet → Type 0
  Kept to p = Stops plan kept (handled plan (answering to p) s (remove s.bag i) to p)

  moved : (to : Party) (p : Packet) (w : Party) → to ≡ w → Kept w p → Kept to p
  moved to p w e h = subst (λ z. Kept z p) (sym e) h

  delivered : (from to : Party) (p : Packet) → slice_get s.bag i ≡ Some (record { from = from; to = to; packet = p }) → (s.running || not (is_switch to)) ≡ true → Kept to p
  delivered from to (GetReq caller op key) at can =
      let to_is = (needs.routed.messages _ (among_at _ s.bag i at)).target in
      moved to (GetReq caller op key) Switch to_is (at_switch _ at (GetReq caller op key) refl tt tt (runs_to s.running to can to_is))
  delivered from to (WriteReq caller op key body) at can =
      let to_is = (needs.routed.messages _ (among_at _ s.bag i at)).target in
      let runs = runs_to s.running to can to_is in
      moved to (WriteReq caller op key body) Switch to_is (stops_step plan kept kept (Its (record { from = from; to = to; packet = WriteReq caller op key body })) s _ (remove s.bag i) _ stops_s
      (write_step plan kept s i _ at runs stops_s needs caller op key body refl (entry_place key s.switch)) (running_round _ at runs _ refl))
  delivered from to (GetRep caller op key tag num body) at can =
      let to_is = (needs.routed.messages _ (among_at _ s.bag i at)).target in
      moved to (GetRep caller op key tag num body) Switch to_is (at_switch _ at (GetRep caller op key tag num body) refl tt tt (runs_to s.running to can to_is))
  delivered from to (WriteRep caller op key num body) at can =
      let to_is = (needs.routed.messages _ (among_at _ s.bag i at)).target in
      moved to (WriteRep caller op key num body) Switch to_is (at_switch _ at (WriteRep caller op key num body) refl tt tt (runs_to s.running to can to_is))
  delivered from to (Admit epoch slot key tag) at can =
      let to_is = (needs.routed.messages _ (among_at _ s.bag i at)).target in
      moved to (Admit epoch slot key tag) Switch to_is (at_switch _ at (Admit epoch slot key tag) refl tt tt (runs_to s.running to can to_is))
  delivered from to (Peek epoch slot tag) at can =
      let to_is = (needs.routed.messages _ (among_at _ s.bag i at)).target in
      moved to (Peek epoch slot tag) Switch to_is (at_switch _ at (Peek epoch slot tag) refl tt tt (runs_to s.running to can to_is))
  delivered from to (Remove epoch slot tag latest num) at can =
      let to_is = (needs.routed.messages _ (among_at _ s.bag i at)).target in
      moved to (Remove epoch slot tag latest num) Switch to_is (at_switch _ at (Remove epoch slot tag latest num) refl tt tt (runs_to s.running to can to_is))
  delivered from to (SnapStart epoch id) at can =
      let to_is = (needs.routed.messages _ (among_at _ s.bag i at)).target in
      moved to (SnapStart epoch id) Switch to_is (at_switch _ at (SnapStart epoch id) refl tt tt (runs_to s.running to can to_is))
  delivered from to (SnapFrom epoch id base) at can =
      let to_is = (needs.routed.messages _ (among_at _ s.bag i at)).target in
      moved to (SnapFrom epoch id base) Switch to_is (at_switch _ at (SnapFrom epoch id base) refl tt tt (runs_to s.running to can to_is))
  delivered from to (SnapRead epoch id slot) at can =
      let to_is = (needs.routed.messages _ (among_at _ s.bag i at)).target in
      moved to (SnapRead epoch id slot) Switch to_is (at_switch _ at (SnapRead epoch id slot) refl tt tt (runs_to s.running to can to_is))
  delivered from to (GetFwd caller op key tag) at can =
      let travels = needs.routed.messages _ (among_at _ s.bag i at) in
      let n : ℕ = server_of plan.config key in
      moved to (GetFwd caller op key tag) (Server n) travels.target (stops_step plan kept kept (Its (record { from = from; to = to; packet = GetFwd caller op key tag })) s _ (remove s.bag i) _ stops_s
      (calm_step plan kept (Its (record { from = from; to = to; packet = GetFwd caller op key tag })) [] s _ (remove s.bag i) _ stops_s (same_server_calm plan kept s i _ at stops_s needs n (GetFwd caller op key tag) (get_reply caller op key tag (found (records_at s n) key)) refl tt tt tt tt)) (switch_round _ at travels.source _ refl))
  delivered from to (WriteFwd caller op key num body) at can =
      let travels = needs.routed.messages _ (among_at _ s.bag i at) in
      let x : Message = record { from = from; to = to; packet = WriteFwd caller op key num body } in
      let r : Record = record_of key num body in
      let n : ℕ = server_of plan.config key in
      let asked : IsAskedWell plan s (WriteFwd caller op key num body) = needs.owed.asked _ (among_at _ s.bag i at) in
      moved to (WriteFwd caller op key num body) (Server n) travels.target (stops_step plan kept kept (Its x) s _ (remove s.bag i) _ stops_s
      (calm_step plan kept (Its x) [] s _ (remove s.bag i) _ stops_s (given_calm plan kept s i x at stops_s needs r (WriteFwd caller op key num body) (write_reply caller op key (found (Rattle.far_model.specs.Servers.stored (records_at s n) (record_of key num body)) key)) refl
      (λ m g t h. subst (λ (w : Message). HasArrived plan s t w.packet) (sym g) (subst (λ q. num ≤ (look plan t q).num) (sym asked) h)) tt tt tt)) (switch_round x at travels.source _ refl))
  delivered from to (Store job item) at can =
      let travels = needs.routed.messages _ (among_at _ s.bag i at) in
      let x : Message = record { from = from; to = to; packet = Store job item } in
      let n : ℕ = server_of plan.config item.key in
      let drawn : IsDrawnJob s.controller (Store job item) = stops_s.drawn _ (among_at _ s.bag i at) in
      moved to (Store job item) (Server n) travels.target (stops_step plan kept kept (Its x) s _ (remove s.bag i) _ stops_s
      (calm_step plan kept (Its x) [] s _ (remove s.bag i) _ stops_s (given_calm plan kept s i x at stops_s needs item (Store job item) (Stored job) refl
      (λ m g t h. subst (λ (w : Message). HasArrived plan s t w.packet) (sym g) tt) tt drawn tt)) (idling x at _ _ refl (λ r h. store_idles plan kept s i x at needs job item refl r h)))
  delivered from to (TopAsk round) at can =
      let travels = needs.routed.messages _ (among_at _ s.bag i at) in
      let x : Message = record { from = from; to = to; packet = TopAsk round } in
      let n : ℕ = travels.target.server in
      let drawn : IsDrawnJob s.controller (TopAsk round) = stops_s.drawn _ (among_at _ s.bag i at) in
      moved to (TopAsk round) (Server n) travels.target.is (stops_step plan kept kept (Its x) s _ (remove s.bag i) _ stops_s
      (calm_step plan kept (Its x) [] s _ (remove s.bag i) _ stops_s (same_server_calm plan kept s i x at stops_s needs n (TopAsk round) (TopIs round n (top_of (records_at s n))) refl tt tt drawn tt)) (idling x at _ _ refl (λ r h. top_idles plan kept s i x at needs round n refl travels.target.is r h)))
  delivered from to (GetAns caller op key num body near) at can =
      let travels = needs.routed.messages _ (among_at _ s.bag i at) in
      let x : Message = record { from = from; to = to; packet = GetAns caller op key num body near } in
      moved to (GetAns caller op key num body near) (Client caller) travels.target (stops_step plan kept kept (Its x) s _ (remove s.bag i) [] stops_s
      (calm_step plan kept (Its x) _ s _ (remove s.bag i) [] stops_s (answered_calm plan kept s i x at stops_s needs caller op tt)) (switch_round x at travels.source _ refl))
  delivered from to (WriteAns caller op key num k) at can =
      let travels = needs.routed.messages _ (among_at _ s.bag i at) in
      let x : Message = record { from = from; to = to; packet = WriteAns caller op key num k } in
      moved to (WriteAns caller op key num k) (Client caller) travels.target (stops_step plan kept kept (Its x) s _ (remove s.bag i) [] stops_s
      (kept_step plan kept s i x at stops_s needs caller op key num k refl) (switch_round x at travels.source _ refl))
  delivered from to (Release point) at can =
      let travels = needs.routed.messages _ (among_at _ s.bag i at) in
      let x : Message = record { from = from; to = to; packet = Release point } in
      let c : ℕ = travels.target.client in
      let within : c < length s.clients = (let w = travels.target.within in let e = needs.routed.clients in omega (arith, w, e)) in
      moved to (Release point) (Client c) travels.target.is (stops_step plan kept kept (Its x) s _ (remove s.bag i) [] stops_s
      (release_step plan kept s i x at stops_s needs c point refl within) (idling x at _ [] refl (λ r h. release_idles plan s i c point x at refl within kept r needs (λ d q a. client_absorbed plan s q (stops_s.of_answers d q a)) h)))
  delivered from to (Ask round) at can =
      let travels = needs.routed.messages _ (among_at _ s.bag i at) in
      let x : Message = record { from = from; to = to; packet = Ask round } in
      let c : ℕ = travels.target.client in
      moved to (Ask round) (Client c) travels.target.is (stops_step plan kept kept (Its x) s _ (remove s.bag i) _ stops_s
      (calm_step plan kept (Its x) [] s _ (remove s.bag i) _ stops_s (ask_calm plan kept s i x at stops_s needs c round refl)) (idling x at _ _ refl (λ r h. ask_idles plan kept s i c round x at refl travels.target.is travels.target.within r h)))
  delivered from to (Hot key) at can =
      let travels = needs.routed.messages _ (among_at _ s.bag i at) in
      moved to (Hot key) Controller travels.target (calm_controller _ at (idle (wanted key s.controller)) travels.source tt (wanted_calm (IsGenuine plan s) plan.config s.controller key))
  delivered from to (AdmitAck slot tag) at can =
      let travels = needs.routed.messages _ (among_at _ s.bag i at) in
      moved to (AdmitAck slot tag) Controller travels.target (calm_controller _ at (acknowledged s.controller slot tag) travels.source tt (acknowledged_calm (IsGenuine plan s) plan.config s.controller slot tag))
  delivered from to (PeekAns slot tag latest num body) at can =
      let travels = needs.routed.messages _ (among_at _ s.bag i at) in
      moved to (PeekAns slot tag latest num body) Controller travels.target (calm_controller _ at (peek_answered plan.config s.controller slot tag latest num body s.controller.eviction) travels.source tt (peek_calm (IsGenuine plan s) plan.config s.controller slot tag latest num body s.controller.eviction (needs.owed.shown _ (among_at _ s.bag i at))))
  delivered from to (RemoveAns slot tag done latest num body) at can =
      let travels = needs.routed.messages _ (among_at _ s.bag i at) in
      moved to (RemoveAns slot tag done latest num body) Controller travels.target (calm_controller _ at (removal_answered plan.config s.controller slot tag done num body s.controller.eviction) travels.source tt (removal_calm (IsGenuine plan s) plan.config s.controller slot tag done num body s.controller.eviction (needs.owed.shown _ (among_at _ s.bag i at))))
  delivered from to (SnapBegun id point) at can =
      let travels = needs.routed.messages _ (among_at _ s.bag i at) in
      moved to (SnapBegun id point) Controller travels.target (job_controller _ at (snapshot_begun plan.config s.controller id point s.controller.job) travels.source tt (begun_rule (IsGenuine plan s) plan.config s.controller id point s.controller.job))
  delivered from to (SnapPart id slot view) at can =
      let travels = needs.routed.messages _ (among_at _ s.bag i at) in
      moved to (SnapPart id slot view) Controller travels.target (job_controller _ at (part_came plan.config s.controller id slot view s.controller.job) travels.source tt (part_rule (IsGenuine plan s) plan.config s.controller id slot view s.controller.job))
  delivered from to (SnapSame id slot) at can =
      let travels = needs.routed.messages _ (among_at _ s.bag i at) in
      moved to (SnapSame id slot) Controller travels.target (job_controller _ at (same_came plan.config s.controller id slot s.controller.job) travels.source tt (same_rule (IsGenuine plan s) plan.config s.controller id slot s.controller.job))
  delivered from to (Stored job) at can =
      let travels = needs.routed.messages _ (among_at _ s.bag i at) in
      moved to (Stored job) Controller travels.target (stored_at _ at job refl)
  delivered from to (Told number caller total item) at can =
      let travels = needs.routed.messages _ (among_at _ s.bag i at) in
      moved to (Told number caller total item) Controller travels.target (told_at _ at number caller total item refl)
  delivered from to (TopIs number server top) at can =
      let travels = needs.routed.messages _ (among_at _ s.bag i at) in
      moved to (TopIs number server top) Controller travels.target (top_at _ at number server top refl)

-- ---- a sending

pub sent : (plan : PlanView) (kept : List Record) (s : State) (c : ℕ) → Stops plan kept s → Stops plan kept (sends plan s c)
sent plan kept s c h = stops_step plan kept kept Nothing s (sends plan s c) s.bag new h (calm_step plan kept Nothing notes s (sends plan s c) s.bag new h (send_calm plan kept s c (client_at s c).left h)) (λ r e.
    let u : IsUnderWay plan kept s r = h.round r e in
    let k : InRound plan kept s r = u.goes in
    record { goes = round_step plan kept Nothing s (sends plan s c) s.bag new r r k (idles_step plan kept Nothing notes s (sends plan s c) s.bag new r k (send_idles plan kept s r c (client_at s c).left k)); waits = u.waits })
  where
    new : List Message
    new = messages_from (Client c) (Rattle.far_model.specs.Events.next_sent plan.ops c (client_at s c) (client_at s c).left).out

    notes : List Rattle.far_base.specs.declared.log.LogEntry.LogEntry
    notes = (Rattle.far_model.specs.Events.next_sent plan.ops c (client_at s c) (client_at s c).left).notes

-- ---- what the controller does by itself

-- outside a round
calm_rule_step : (plan : PlanView) (kept : List Record) (s : State) (t : Turn ControllerState) (d : ℕ) → Stops plan kept s → s.controller.round ≡ None → IsCalmRule (IsGenuine plan s) s.controller t → Stops plan kept (record (controller_turn s s.bag t) { done = d })
calm_rule_step plan kept s t d h none calm = stops_step plan kept kept Nothing s (record (controller_turn s s.bag t) { done = d }) s.bag (messages_from Controller t.out) h
    (rule_step plan kept Nothing s s.bag t d h (leaves_all s) (λ m g. absurd g) calm.rule (calm_snapshot plan s t calm.last))
    (λ r e. absurd (let clash = sym none ∙ sym calm.round ∙ e in cc))

pub ticked : (plan : PlanView) (kept : List Record) (s : State) → Stops plan kept s → (o : Option (Turn ControllerState)) → tick s.controller ≡ o → Stops plan kept (ticks s o)
ticked plan kept s h None e = h
ticked plan kept s h (Some t) e = let k = tick_calm (IsGenuine plan s) plan.config s.controller t e in calm_rule_step plan kept s t s.done h k.1 k.0

pub recovered : (plan : PlanView) (kept : List Record) (s : State) → Stops plan kept s → Needs plan s → can_recover s ≡ true → Stops plan (records_in (kept_records s)) (recovers plan s)
recovered plan kept s h needs e =
    let rule = recovery_rule (IsGenuine plan s) plan.config s.controller (λ y a. needs.owed.snapshot y (numbered_from (view_records s.controller.last.views) y a)) in
    let can : CanRecover s = can_recover_is s e in
    stops_step plan kept (records_in (kept_records s)) Nothing s (recovers plan s) s.bag (messages_from Controller (start_recovery plan.config s.controller).out) h
    (rule_step plan kept Nothing s s.bag (start_recovery plan.config s.controller) s.done h (leaves_all s) (λ m g. absurd g) rule.0 (calm_snapshot plan s (start_recovery plan.config s.controller) rule.1))
    (round_is plan (records_in (kept_records s)) (recovers plan s) _ refl (begins plan kept s h needs can) (begins_waiting plan kept s h needs can).waits)

-- ---- a stop

stopped : (plan : PlanView) (kept : List Record) (s : State) (d : ℕ) → Stops plan kept s → s.running ≡ true → Stops plan kept (record (stops plan s) { done = d })
stopped plan kept s d h runs = stops_step plan kept kept Nothing s after s.bag [] h (calm_step plan kept Nothing (Stopped ∷ []) s after s.bag [] h (record {
  leaves = leaves_all s;
  bag = sym (append-nil s.bag);
  gone = λ m g. absurd g;
  new_is = λ m a. absurd a;
  new_carries = λ m a. absurd a;
  log = refl;
  notes_are = (tt, tt);
  running = λ r. absurd (let clash : false ≡ true = r in cc);
  more = λ key. omega arith;
  servers = h.servers;
  preserved = λ c. refl;
  released = λ c. refl;
  last = refl;
  steps = omega arith;
  jobs = omega arith;
  rounds = omega arith;
})) (λ r e. absurd (let f = (h.round r e).goes.stopped in let clash : true ≡ false = sym runs ∙ f in cc))
  where
    after : State
    after = record (stops plan s) { done = d }

-- ---- orders

none_of : {X : Type 0} → (o : Option X) → not (is_some o) ≡ true → o ≡ None
none_of None h = refl
none_of (Some x) h = absurd cc

ordered : (plan : PlanView) (kept : List Record) (s : State) (d : ℕ) → Stops plan kept s → (o : Option Order) → is_order_due s o ≡ true → Stops plan kept (record (does_order plan s o) { done = d })
ordered plan kept s d h None due = absurd cc
ordered plan kept s d h (Some (AdmitOrder step key)) due =
    let possible = (and_parts (not (is_some s.controller.round)) (nat_le step s.steps || is_empty (choices s)) due).0 in
    calm_rule_step plan kept s (idle (wanted key s.controller)) d h (none_of s.controller.round possible) (wanted_calm (IsGenuine plan s) plan.config s.controller key)
ordered plan kept s d h (Some (EvictOrder step key)) due =
    let possible = (and_parts (s.running && (not (is_some s.controller.eviction) && not (is_some s.controller.round))) (nat_le step s.steps || is_empty (choices s)) due).0 in
    let rest = (and_parts s.running (not (is_some s.controller.eviction) && not (is_some s.controller.round)) possible).1 in
    calm_rule_step plan kept s (evict_key key s.controller) d h (none_of s.controller.round (and_parts (not (is_some s.controller.eviction)) (not (is_some s.controller.round)) rest).1) (evict_calm (IsGenuine plan s) plan.config s.controller key)
ordered plan kept s d h (Some (SnapOrder step)) due =
    let possible = (and_parts (s.running && (not (is_some s.controller.job) && not (is_some s.controller.round))) (nat_le step s.steps || is_empty (choices s)) due).0 in
    let rest = (and_parts s.running (not (is_some s.controller.job) && not (is_some s.controller.round)) possible).1 in
    calm_rule_step plan kept s (start_snapshot s.controller) d h (none_of s.controller.round (and_parts (not (is_some s.controller.job)) (not (is_some s.controller.round)) rest).1) (snapshot_calm (IsGenuine plan s) plan.config s.controller)
ordered plan kept s d h (Some (StopOrder step)) due =
    stopped plan kept s d h (and_parts s.running (nat_le step s.steps || is_empty (choices s)) due).0
ordered plan kept s d h (Some (StopAtOrder kind times)) due =
    stopped plan kept s d h (and_parts s.running (nat_le times (pass_count s.passes kind) || is_empty (choices s)) due).0

-- ---- a restart

-- what a restart has: a round that is ready
pub record CanRestart (s : State) : Type 0 where
  pub round : Round
  pub is : s.controller.round ≡ Some round
  pub counter : ℕ
  pub settled : IsReady round counter
  pub says : ready s.controller ≡ Some counter

pub can_restart_is : (s : State) → is_some (ready s.controller) ≡ true → CanRestart s
can_restart_is s e = go s.controller.round refl e
  where
    by : (r : Round) → s.controller.round ≡ Some r → (o : Option ℕ) → ready_counter r ≡ o → is_some o ≡ true → CanRestart s
    by r k None q e = absurd cc
    by r k (Some counter) q e = record { round = r; is = k; counter = counter; settled = ready_is r counter q; says = ap ready_in k ∙ q }

    go : (o : Option Round) → s.controller.round ≡ o → is_some (ready_in o) ≡ true → CanRestart s
    go None k e = absurd cc
    go (Some r) k e = by r k (ready_counter r) refl e

-- ---- every event

pub last_more : {X : Type 0} → (d : X) (xs : List X) (x : X) → last_or d (xs ++ x ∷ []) ≡ x
last_more d [] x = refl
last_more d (y ∷ ys) x = last_more y ys x

pub same_last : (p : Past) → records_in (last_or [] (p.recoveries ++ [])) ≡ recovered_last p
same_last p = ap (λ l. records_in (last_or [] l)) (append-nil p.recoveries)

pub every_event : (plan : PlanView) (p : Past) (s : State) (e : Event) → Stops plan (recovered_last p) s → Needs plan s → is_enabled plan s e ≡ true → Stops plan (recovered_last (remembers s p e)) (happens plan s e)
every_event plan p s (Send c) h needs able = subst (λ k. Stops plan k (sends plan s c)) (sym (same_last p)) (sent plan (recovered_last p) s c h)
every_event plan p s (Deliver i) h needs able = subst (λ k. Stops plan k (happens plan s (Deliver i))) (sym (same_last p)) (by (slice_get s.bag i) refl able)
  where
    by : (o : Option Message) → slice_get s.bag i ≡ o → Rattle.far_model.specs.Events.can_deliver_some s.running o ≡ true → Stops plan (recovered_last p) (delivers plan (record { reply = reply_to s o; records = all_listed s.servers }) s i o)
    by None e k = absurd cc
    by (Some m) e k = delivered plan (recovered_last p) s i h needs (all_listed s.servers) m.from m.to m.packet e k
every_event plan p s Tick h needs able = subst (λ k. Stops plan k (ticks s (tick s.controller))) (sym (same_last p)) (ticked plan (recovered_last p) s h (tick s.controller) refl)
every_event plan p s Recover h needs able = subst (λ k. Stops plan (records_in k) (recovers plan s)) (sym (last_more [] p.recoveries (kept_records s))) (recovered plan (recovered_last p) s h needs able)
every_event plan p s Restart h needs able =
    let can : CanRestart s = can_restart_is s able in
    subst (λ k. Stops plan k (happens plan s Restart)) (sym (same_last p)) (subst (λ o. Stops plan (recovered_last p) (restarts plan (keeping_of s Restart) s o)) (sym can.says)
    (restart_step plan (recovered_last p) s (keeping_of s Restart) can.round can.counter h needs (h.round can.round can.is).goes can.settled))
every_event plan p s (OrderOf j) h needs able =
    let parts = and_parts (nat_eq j s.done) (is_order_enabled plan s) able in
    let same : j ≡ s.done = eqb-true j s.done parts.0 in
    subst (λ k. Stops plan k (happens plan s (OrderOf j))) (sym (same_last p)) (ordered plan (recovered_last p) s (s.done + 1) h (slice_get plan.orders j) (subst (λ n. is_order_due s (slice_get plan.orders n) ≡ true) (sym same) parts.1))

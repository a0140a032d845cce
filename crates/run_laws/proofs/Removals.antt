-- What a removal takes away and what was stored its server has, in every state of a run: by every event.
use Rattle.std.proofs.Common.{◌≡◌, ℕ, zero, suc, ◌+◌, ◌≤◌, ◌<◌, ◌⊎◌, inl, inr, Bool, true, false, not, List, [], ◌∷◌, ◌++◌, length, append-nil, refl, sym, ap, ◌∙◌, subst, arith, eqb-true}
use Rattle.std.specs.Prelude.{Option, None, Some, if◌then◌else◌, ◌&&◌, nat_eq, nat_le, nat_lt, is_some, get_or, set, slice_get, slice_set, slice_index_or, ◌-◌}
use Rattle.std.proofs.lemmas.List.{set-get_or}
use Rattle.std.specs.List.{remove}
use Rattle.std.proofs.lemmas.Option.{same_Some}
use Rattle.far_base.specs.Limits.{IsPlan}
use Rattle.far_base.specs.PlanView.{PlanView}
use Rattle.far_base.specs.declared.event.Event.{Event}
use Rattle.far_base.specs.declared.event.Event.TheVariants.{Send, Deliver, Tick, Recover, Restart, Order as OrderOf}
use Rattle.far_base.specs.declared.packet.Message.{Message}
use Rattle.far_base.specs.declared.packet.Out.{Out}
use Rattle.far_base.specs.declared.packet.Packet.{Packet}
use Rattle.far_base.specs.declared.packet.Packet.TheVariants.{GetReq, WriteReq, GetFwd, WriteFwd, GetRep, WriteRep, GetAns, WriteAns, Hot, Admit, AdmitAck, Peek, PeekAns, Remove, RemoveAns, SnapStart, SnapBegun, SnapRead, SnapPart, Store, Stored, Release, Ask, Told, TopAsk, TopIs, SnapSame, SnapFrom}
use Rattle.far_base.specs.declared.party.Party.{Party}
use Rattle.far_base.specs.declared.party.Party.TheVariants.{Client, Switch, Server, Controller}
use Rattle.far_base.specs.declared.plan.Order.{Order}
use Rattle.far_base.specs.declared.plan.Order.TheVariants.{Admit as AdmitOrder, Evict as EvictOrder, Snap as SnapOrder, Stop as StopOrder, StopAt as StopAtOrder}
use Rattle.far_base.specs.declared.record.Record.{Record}
use Rattle.far_invariants.specs.Covers.{look}
use Rattle.far_invariants.specs.DrawnTags.{WasDrawn}
use Rattle.far_invariants.specs.Evictions.{EvictionPacketIs}
use Rattle.far_invariants.specs.Flights.{IsRouted, IsFrom}
use Rattle.far_invariants.specs.Holds.{Holds}
use Rattle.far_invariants.specs.Past.{Past}
use Rattle.far_model.specs.Controller.{ControllerState, tick, tick_wants, tick_want, tick_free, tick_room, makes_room, admits_want, wanted, evict_key, evict_held, evicts, evicts_on, ready, acknowledged, acked_state, with_state, client_told, top_told, round_stored, round_turn, told_round, store_outs, store_answered, peek_answered, removal_answered, drop_want_if, first_want_dropped, start_recovery, snapshot_stores, stores_of, to_clients, to_servers}
use Rattle.far_model.specs.Events.{happens, is_enabled, handled, delivers, can_deliver_some, ticks, does_order, is_order_due, keeping_of, server_turn, controller_turn, restarts, reply_to, reply_message, sends, next_sent, stops, is_order_enabled}
use Rattle.far_model.specs.Evictions.{Eviction, Next, after_peek, after_removal, after_store, begins_eviction, first_place, is_admitting, key_in, tag_in, holds_key, has_key, is_free, state_at, victim, hand_after, waits_for, waits_job, TRIES}
use Rattle.far_model.specs.Evictions.Next.{Send as SendNext, Store as StoreNext, Done, Kept}
use Rattle.far_model.specs.Members.{Among, Each}
use Rattle.far_model.specs.Parties.{Turn, idle, messages_from, to_party}
use Rattle.far_model.specs.Rounds.{Round, asks_tops, has_told, telling_at}
use Rattle.far_model.specs.Servers.{server_reply, stored, record_of}
use Rattle.far_model.specs.State.{State, opening, records_at}
use Rattle.far_model.specs.View.{server_of}
use Rattle.far_model.proofs.Members.{among_append, among_append_left, among_append_right, among_at, among_remove, pairs_among}
use Rattle.flight_laws.proofs.Lists.{by_test}
use Rattle.record_laws.proofs.Snapshots.{calm_turn, idle_calm, wanted_calm, want_dropped_calm, start_calm, begun_calm, part_calm, same_calm}
use Rattle.eviction_laws.proofs.Calming.{IsApart, wanted_apart, begun_apart, part_apart, same_apart_job}
use Rattle.eviction_laws.proofs.Storing.{covers_item, more_at}
use Rattle.run_laws.proofs.Holding.{evictions_need}
use Rattle.run_laws.proofs.Sending.{IsCovered, IsNew, JobsFrom, Moves, WasTaken, calm_moves, client_other, is_removal, no_jobs, other_moves, switch_other, turn_moves}

module _ (plan : PlanView) (past : Past) (s : State) (valid : IsPlan plan) (h : Holds plan past s) where
  pub below : (m : Message) → Among m s.bag → (job : ℕ) (item : Record) → m.packet ≡ Store job item → job < s.controller.next_job
  below m a job item is = (subst (λ w. EvictionPacketIs plan (Rattle.far_invariants.specs.Evictions.written_in plan) s w) is (h.evictions.packets m a)).below

  abbrev Goes : State → Type 0
  Goes t = Moves plan past.drawn s t

  abbrev New : State → Packet → Type 0
  New t p = IsNew plan past.drawn s t p

  some_server : 0 < plan.config.servers
  some_server = (evictions_need plan past s valid h).some_server

  -- ---- a turn of the controller

  module _ (rest : List Message) (rests : (m : Message) → Among m rest → Among m s.bag) (done : ℕ) where
    abbrev turned : Turn ControllerState → State
    turned t = record (controller_turn s rest t) { done = done }

    turns : (t : Turn ControllerState) → s.controller.next_job ≤ t.state.next_job → JobsFrom s.controller.next_job t.out → Each (λ (o : Out). New (turned t) o.packet) t.out → Goes (turned t)
    turns t jobs from each = turn_moves plan past.drawn s (turned t) below rest rests t.out refl refl jobs from each

    silent : (t : Turn ControllerState) → t.out ≡ [] → s.controller.next_job ≤ t.state.next_job → Goes (turned t)
    silent t none jobs = turns t jobs (subst (JobsFrom s.controller.next_job) (sym none) tt) (subst (Each (λ (o : Out). New (turned t) o.packet)) (sym none) tt)

    idles : Goes (turned (idle s.controller))
    idles = silent (idle s.controller) refl (omega arith)

    calms : (t : Turn ControllerState) → Rattle.record_laws.proofs.Snapshots.IsCalmTurn s.controller t → IsApart s.controller t.state → Goes (turned t)
    calms t calm apart = calm_moves plan past.drawn s (turned t) below rest rests (messages_from Controller t.out) (calm_turn s rest t done calm) apart

    -- the next step of an eviction: a store is new, and at most an outdated slot is removed
    evicts_next : (e : Eviction) (next : Next) → ((packet : Packet) → next ≡ SendNext packet → (is_removal packet ≡ false) ⊎ ((t : State) → New t packet × (JobsFrom s.controller.next_job (to_party Switch packet ∷ [])))) → Goes (turned (evicts_on plan.config s.controller e next))
    evicts_next e (SendNext packet) sends_it = go (sends_it packet refl)
      where
        t : Turn ControllerState
        t = evicts_on plan.config s.controller e (SendNext packet)

        go : (is_removal packet ≡ false) ⊎ ((u : State) → New u packet × (JobsFrom s.controller.next_job (to_party Switch packet ∷ []))) → Goes (turned t)
        go (inl off) = turns t (omega arith) (no_jobs s.controller.next_job t.out (off, tt)) (Rattle.run_laws.proofs.Sending.other_new plan past.drawn s (turned t) packet off, tt)
        go (inr f) = turns t (omega arith) (f (turned t)).1 ((f (turned t)).0, tt)
    evicts_next e (StoreNext item) sends_it = turns (evicts_on plan.config s.controller e (StoreNext item)) (omega arith) (omega arith, tt) ((omega arith, omega arith), tt)
    evicts_next e (Done tries) sends_it = silent (evicts_on plan.config s.controller e (Done tries)) refl (omega arith)
    evicts_next e (Kept tries last) sends_it = silent (evicts_on plan.config s.controller e (Kept tries last)) refl (by_test (λ (c : ControllerState). s.controller.next_job ≤ c.next_job) e.for_want _ _ (omega arith) (omega arith))

    peek_answer : (i tag : ℕ) (latest : Bool) (num : ℕ) (body : Option (List ℕ)) (o : Option Eviction) → Goes (turned (peek_answered plan.config s.controller i tag latest num body o))
    peek_answer i tag latest num body None = idles
    peek_answer i tag latest num body (Some e) = by_test (λ t. Goes (turned t)) (waits_for Rattle.far_base.specs.declared.slot_state.Due.TheVariants.Peeked i tag e) (evicts_on plan.config s.controller e (after_peek e latest num body)) (idle s.controller)
        (shown latest) idles
      where
        shown : (b : Bool) → Goes (turned (evicts_on plan.config s.controller e (after_peek e b num body)))
        shown true = evicts_next e (after_peek e true num body) (λ packet is. absurd cc)
        shown false = evicts_next e (after_peek e false num body) (λ packet is. inr (λ t. by packet t is))
          where
            sent : Next → Packet → Packet
            sent (SendNext q) p = q
            sent _ p = p

            by : (packet : Packet) (t : State) → after_peek e false num body ≡ SendNext packet → New t packet × JobsFrom s.controller.next_job (to_party Switch packet ∷ [])
            by packet t is = subst (λ q. New t q × JobsFrom s.controller.next_job (to_party Switch q ∷ [])) (ap (λ n. sent n packet) is) ((λ on. absurd cc), (tt, tt))

    removal_answer : (i tag : ℕ) (gone : Bool) (num : ℕ) (body : Option (List ℕ)) (o : Option Eviction) → Goes (turned (removal_answered plan.config s.controller i tag gone num body o))
    removal_answer i tag gone num body None = idles
    removal_answer i tag gone num body (Some e) = by_test (λ t. Goes (turned t)) (waits_for Rattle.far_base.specs.declared.slot_state.Due.TheVariants.Removed i tag e) (evicts_on plan.config s.controller e (after_removal e gone num body)) (idle s.controller)
        (shown gone (nat_eq e.tries TRIES)) idles
      where
        shown : (b c : Bool) → Goes (turned (evicts_on plan.config s.controller e (if b then Done e.tries else (if c then Kept TRIES (Rattle.far_model.specs.Evictions.shown_item e num body) else StoreNext (Rattle.far_model.specs.Evictions.shown_item e num body)))))
        shown true c = evicts_next e (Done e.tries) (λ packet is. absurd cc)
        shown false true = evicts_next e (Kept TRIES (Rattle.far_model.specs.Evictions.shown_item e num body)) (λ packet is. absurd cc)
        shown false false = evicts_next e (StoreNext (Rattle.far_model.specs.Evictions.shown_item e num body)) (λ packet is. absurd cc)

    -- a turn in a round: new stores, and perhaps the question for the tops
    tops_other : (n more number : ℕ) → Each (λ (o : Out). is_removal o.packet ≡ false) (to_servers n more (TopAsk number))
    tops_other n zero number = tt
    tops_other n (suc more) number = (refl, tops_other (suc n) more number)

    round_turns : (c : ControllerState) (r : Round) (item : Option Record) → c.next_job ≡ s.controller.next_job + length (store_outs plan.config s.controller.next_job item)
        → Goes (turned (round_turn plan.config c r (store_outs plan.config s.controller.next_job item)))
    round_turns c r item jobs = by_test (λ t. Goes (turned t)) (asks_tops r) asked more (asks item jobs) (tells item jobs)
      where
        asked : Turn ControllerState
        asked = record { state = record c { round = Some (record r { asked = true }) }; out = store_outs plan.config s.controller.next_job item ++ to_servers 0 plan.config.servers (TopAsk r.number); notes = [] }

        more : Turn ControllerState
        more = record { state = record c { round = Some r }; out = store_outs plan.config s.controller.next_job item; notes = [] }

        tops : Each (λ (o : Out). is_removal o.packet ≡ false) (to_servers 0 plan.config.servers (TopAsk r.number))
        tops = tops_other 0 plan.config.servers r.number

        news : (t : State) → Each (λ (o : Out). New t o.packet) (to_servers 0 plan.config.servers (TopAsk r.number))
        news t = Rattle.far_model.proofs.Members.each_from_among (λ (o : Out). New t o.packet) (to_servers 0 plan.config.servers (TopAsk r.number)) (λ o a. Rattle.run_laws.proofs.Sending.other_new plan past.drawn s t o.packet
            (Rattle.far_model.proofs.Members.each_among (λ (o : Out). is_removal o.packet ≡ false) o (to_servers 0 plan.config.servers (TopAsk r.number)) tops a))

        asks : (i : Option Record) → c.next_job ≡ s.controller.next_job + length (store_outs plan.config s.controller.next_job i) → Goes (turned (record { state = record c { round = Some (record r { asked = true }) }; out = store_outs plan.config s.controller.next_job i ++ to_servers 0 plan.config.servers (TopAsk r.number); notes = [] }))
        asks None e =
            let t : Turn ControllerState = record { state = record c { round = Some (record r { asked = true }) }; out = to_servers 0 plan.config.servers (TopAsk r.number); notes = [] } in
            turns t (omega (arith, e)) (no_jobs s.controller.next_job _ tops) (news (turned t))
        asks (Some x) e =
            let t : Turn ControllerState = record { state = record c { round = Some (record r { asked = true }) }; out = to_party (Server (server_of plan.config x.key)) (Store s.controller.next_job x) ∷ to_servers 0 plan.config.servers (TopAsk r.number); notes = [] } in
            turns t (omega (arith, e)) (omega arith, no_jobs (suc s.controller.next_job) _ tops) ((omega arith, omega (arith, e)), news (turned t))

        tells : (i : Option Record) → c.next_job ≡ s.controller.next_job + length (store_outs plan.config s.controller.next_job i) → Goes (turned (record { state = record c { round = Some r }; out = store_outs plan.config s.controller.next_job i; notes = [] }))
        tells None e = silent (record { state = record c { round = Some r }; out = []; notes = [] }) refl (omega (arith, e))
        tells (Some x) e =
            let t : Turn ControllerState = record { state = record c { round = Some r }; out = to_party (Server (server_of plan.config x.key)) (Store s.controller.next_job x) ∷ []; notes = [] } in
            turns t (omega (arith, e)) (omega arith, tt) ((omega arith, omega (arith, e)), tt)

    stored_in_round : (job : ℕ) (o : Option Round) → Goes (turned (round_stored plan.config s.controller job o))
    stored_in_round job None = idles
    stored_in_round job (Some r) = by_test (λ t. Goes (turned t)) (nat_le r.first_job job && (nat_lt job s.controller.next_job && not (nat_eq r.stores 0))) (round_turn plan.config s.controller (record r { stores = r.stores - 1 }) []) (idle s.controller)
        (round_turns s.controller (record r { stores = r.stores - 1 }) None (omega arith)) idles

    told_in_round : (number caller total : ℕ) (item : Option Record) (o : Option Round) → Goes (turned (client_told plan.config s.controller number caller total item o))
    told_in_round number caller total item None = idles
    told_in_round number caller total item (Some r) = by_test (λ t. Goes (turned t)) (nat_eq r.number number && (nat_lt caller (length r.told) && not (has_told (telling_at r caller))))
        (round_turn plan.config (record s.controller { next_job = s.controller.next_job + length (store_outs plan.config s.controller.next_job item) }) (told_round r caller total (length (store_outs plan.config s.controller.next_job item))) (store_outs plan.config s.controller.next_job item)) (idle s.controller)
        (round_turns (record s.controller { next_job = s.controller.next_job + length (store_outs plan.config s.controller.next_job item) }) (told_round r caller total (length (store_outs plan.config s.controller.next_job item))) item refl) idles

    top_in_round : (number server top : ℕ) (o : Option Round) → Goes (turned (top_told plan.config s.controller number server top o))
    top_in_round number server top None = idles
    top_in_round number server top (Some r) = by_test (λ t. Goes (turned t)) (nat_eq r.number number && (r.asked && (nat_lt server (length r.tops) && not (is_some (slice_index_or r.tops server None)))))
        topped (idle s.controller) (silent topped refl (omega arith)) idles
      where
        topped : Turn ControllerState
        topped = record { state = record s.controller { round = Some (record r { tops = slice_set r.tops server (Some top) }) }; out = []; notes = [] }

    -- what was stored for the eviction may be removed: its tag was drawn for its key, whose server has the number
    stored_answer : (m : Message) → Among m s.bag → (job : ℕ) → m.packet ≡ Stored job → (o : Option Eviction) → s.controller.eviction ≡ o → Goes (turned (store_answered plan.config s.controller job o))
    stored_answer m a job is None none = stored_in_round job s.controller.round
    stored_answer m a job is (Some e) some = go (waits_job job e) refl
      where
        removes : Turn ControllerState
        removes = record { state = record s.controller { eviction = Some (Rattle.far_model.specs.Evictions.removing e) }; out = to_party Switch (after_store e) ∷ []; notes = [] }

        go : (b : Bool) → waits_job job e ≡ b → Goes (turned (if b then removes else round_stored plan.config s.controller job s.controller.round))
        go false off = stored_in_round job s.controller.round
        go true on =
            let its = h.evictions.some e some in
            let done_now = (subst (λ w. EvictionPacketIs plan (Rattle.far_invariants.specs.Evictions.written_in plan) s w) is (h.evictions.packets m a)).mine e some on in
            let was : WasDrawn past.drawn e.tag e.key e.slot s.controller.epoch = h.drawn.states e.slot e.key e.tag (subst (λ w. Rattle.far_invariants.specs.Slots.IsGiven e.key e.tag w) (sym its.state) (refl, refl)) in
            turns removes (omega arith) (tt, tt) ((λ latest. record { key = e.key; slot = e.slot; epoch = s.controller.epoch; was = was; covered = done_now.0 }), tt)

  -- ---- a message is delivered

  module _ (i : ℕ) where
    abbrev rest : List Message
    rest = remove s.bag i

    rests : (m : Message) → Among m rest → Among m s.bag
    rests m a = among_remove m s.bag i a

    abbrev after : Party → Packet → State
    after to p = handled plan (keeping_of s (Deliver i)) s rest to p

    -- clients and the switch send nothing of removals
    at_switch : (from : Party) (p : Packet) → IsRouted plan (after Switch p) → Goes (after Switch p)
    at_switch from p routed = other_moves plan past.drawn s (after Switch p) below rest rests _ refl (λ key. omega arith) (omega arith) (λ m a. others m a)
      where
        outs : List Out
        outs = Rattle.far_model.specs.Pass.passed_out (Rattle.far_model.specs.Pass.pass s.switch p)

        others : (m : Message) → Among m (messages_from Switch outs) → is_removal m.packet ≡ false
        others m a =
            let q = Rattle.far_model.proofs.Members.among_map_from (λ (o : Out). record { from = Switch; to = o.to; packet = o.packet }) m outs a in
            switch_other m.packet (subst (λ w. IsFrom m.packet w) (ap (λ (w : Message). w.from) q.2) (routed.messages m (among_append_right m rest (messages_from Switch outs) a)).source)

    at_client : (c : ℕ) (p : Packet) → IsRouted plan (after (Client c) p) → Goes (after (Client c) p)
    at_client c p routed = other_moves plan past.drawn s (after (Client c) p) below rest rests _ refl (λ key. omega arith) (omega arith) (λ m a. others m a)
      where
        outs : List Out
        outs = (Rattle.far_model.specs.Clients.client_takes plan.ops c (Rattle.far_model.specs.State.client_at s c) p).out

        others : (m : Message) → Among m (messages_from (Client c) outs) → is_removal m.packet ≡ false
        others m a =
            let q = Rattle.far_model.proofs.Members.among_map_from (λ (o : Out). record { from = Client c; to = o.to; packet = o.packet }) m outs a in
            client_other c m.packet (subst (λ w. IsFrom m.packet w) (ap (λ (w : Message). w.from) q.2) (routed.messages m (among_append_right m rest (messages_from (Client c) outs) a)).source)

    -- a server answers; where it stored, its number is no smaller than the record's
    at_server : (n : ℕ) (p q : Packet) → is_removal q ≡ false → ((key : List ℕ) → (look plan s key).num ≤ (look plan (server_turn s n rest p (Some q)) key).num) → Goes (server_turn s n rest p (Some q))
    at_server n p q off more = other_moves plan past.drawn s (server_turn s n rest p (Some q)) below rest rests (reply_message n (Some q)) refl more (omega arith) (λ m a. others m a)
      where
        others : (m : Message) → Among m (reply_message n (Some q)) → is_removal m.packet ≡ false
        others m (inl e) = ap (λ (w : Message). is_removal w.packet) e ∙ off
        others m (inr a) = absurd a

    same_servers : (n : ℕ) (q : Packet) (p : Packet) → Rattle.far_model.specs.Servers.server_keeps (records_at s n) p ≡ records_at s n → (key : List ℕ) → (look plan s key).num ≤ (look plan (server_turn s n rest p (Some q)) key).num
    same_servers n q p same key =
        let servers : set s.servers n (Rattle.far_model.specs.Servers.server_keeps (records_at s n) p) ≡ s.servers = ap (set s.servers n) same ∙ set-get_or s.servers n [] in
        let e = ap (λ (l : List (List Record)). (Rattle.far_model.specs.KeyedRecords.found (get_or l (server_of plan.config key) []) key).num) servers in
        omega (arith, e)

    stores : (from to : Party) (job : ℕ) (item : Record) → slice_get s.bag i ≡ Some (record { from = from; to = to; packet = Store job item })
        → Goes (server_turn s (server_of plan.config item.key) rest (Store job item) (Some (Stored job)))
    stores from to job item at = record {
      more = more_at plan s some_server h.flight.routed.servers item t refl;
      jobs = omega arith;
      news = λ m a. elim (split m a) [
        | inl b ↦ inl (rests m b)
        | inr b ↦ inr (new m b)
      ];
      apart = λ m n a c k x y from is e. elim (split m a) [
        | inl b ↦ absurd (let low = below m (rests m b) k x is in omega (arith, low, from))
        | inr b ↦ absurd (not_stored m b k x is)
      ];
    }
      where
        t : State
        t = server_turn s (server_of plan.config item.key) rest (Store job item) (Some (Stored job))

        split : (m : Message) → Among m t.bag → Among m rest ⊎ Among m (reply_message (server_of plan.config item.key) (Some (Stored job)))
        split m a = among_append m rest (reply_message (server_of plan.config item.key) (Some (Stored job))) a

        taken : WasTaken plan s t job
        taken = record { item = item; message = _; there = among_at _ s.bag i at; is = refl; covered = covers_item plan s some_server h.flight.routed.servers item t refl }

        new : (m : Message) → Among m (reply_message (server_of plan.config item.key) (Some (Stored job))) → New t m.packet
        new m (inl e) = subst (λ (w : Message). New t w.packet) (sym e) taken
        new m (inr a) = absurd a

        not_stored : (m : Message) → Among m (reply_message (server_of plan.config item.key) (Some (Stored job))) → (k : ℕ) (x : Record) → m.packet ≡ Store k x → ⊥
        not_stored m (inl e) k x is = let clash : Stored job ≡ Store k x = sym (ap (λ (w : Message). w.packet) e) ∙ is in cc
        not_stored m (inr a) k x is = absurd a

    delivered : (from to : Party) (p : Packet) → slice_get s.bag i ≡ Some (record { from = from; to = to; packet = p }) → IsRouted plan (after to p) → Goes (after to p)
    delivered from to p at routed = go p at (h.flight.routed.messages _ (among_at _ s.bag i at)).target routed
      where
        switched : (p : Packet) → to ≡ Switch → IsRouted plan (after to p) → Goes (after to p)
        switched p goes r = subst (λ w. IsRouted plan (after w p) → Goes (after w p)) (sym goes) (at_switch from p) r

        told : (p : Packet) (c : ℕ) → to ≡ Client c → IsRouted plan (after to p) → Goes (after to p)
        told p c goes r = subst (λ w. IsRouted plan (after w p) → Goes (after w p)) (sym goes) (at_client c p) r

        controlled : (p : Packet) → to ≡ Controller → Goes (after Controller p) → Goes (after to p)
        controlled p goes m = subst (λ w. Goes (after w p)) (sym goes) m

        read_answer : (caller op : ℕ) (key : List ℕ) (tag : ℕ) → Packet
        read_answer caller op key tag = Rattle.far_model.specs.Servers.get_reply caller op key tag (Rattle.far_model.specs.KeyedRecords.found (records_at s (server_of plan.config key)) key)

        write_answer : (caller op : ℕ) (key : List ℕ) (num : ℕ) (body : Option (List ℕ)) → Packet
        write_answer caller op key num body = Rattle.far_model.specs.Servers.write_reply caller op key (Rattle.far_model.specs.KeyedRecords.found (stored (records_at s (server_of plan.config key)) (record_of key num body)) key)

        top_answer : (n number : ℕ) → Packet
        top_answer n number = TopIs number n (Rattle.far_model.specs.Servers.top_of (records_at s n))

        served : (n : ℕ) (p q : Packet) → slice_get s.bag i ≡ Some (record { from = from; to = to; packet = p }) → to ≡ Server n → server_reply n (records_at s n) p ≡ Some q → Goes (server_turn s n rest p (Some q)) → Goes (after to p)
        served n p q at goes answer m =
            let reply : (keeping_of s (Deliver i)).reply ≡ Some q = ap (reply_to s) at ∙ ap (λ w. Rattle.far_model.specs.Events.reply_at s w p) goes ∙ answer in
            subst (λ w. Goes (after w p)) (sym goes) (subst (λ o. Goes (server_turn s n rest p o)) (sym reply) m)

        go : (p : Packet) → slice_get s.bag i ≡ Some (record { from = from; to = to; packet = p }) → Rattle.far_invariants.specs.Flights.IsFor plan.config p to → IsRouted plan (after to p) → Goes (after to p)
        go (GetReq caller op key) at goes r = switched (GetReq caller op key) goes r
        go (WriteReq caller op key body) at goes r = switched (WriteReq caller op key body) goes r
        go (GetRep caller op key tag num body) at goes r = switched (GetRep caller op key tag num body) goes r
        go (WriteRep caller op key num body) at goes r = switched (WriteRep caller op key num body) goes r
        go (Admit epoch j key tag) at goes r = switched (Admit epoch j key tag) goes r
        go (Peek own j tag) at goes r = switched (Peek own j tag) goes r
        go (Remove own j tag latest num) at goes r = switched (Remove own j tag latest num) goes r
        go (SnapStart epoch id) at goes r = switched (SnapStart epoch id) goes r
        go (SnapFrom epoch id base) at goes r = switched (SnapFrom epoch id base) goes r
        go (SnapRead epoch id j) at goes r = switched (SnapRead epoch id j) goes r
        go (GetAns caller op key num body near) at goes r = told (GetAns caller op key num body near) caller goes r
        go (WriteAns caller op key num kept) at goes r = told (WriteAns caller op key num kept) caller goes r
        go (Release point) at goes r = told (Release point) goes.client goes.is r
        go (Ask number) at goes r = told (Ask number) goes.client goes.is r
        go (GetFwd caller op key tag) at goes r = served (server_of plan.config key) (GetFwd caller op key tag) (read_answer caller op key tag) at goes refl
            (at_server (server_of plan.config key) (GetFwd caller op key tag) (read_answer caller op key tag) refl (same_servers (server_of plan.config key) (read_answer caller op key tag) (GetFwd caller op key tag) refl))
        go (WriteFwd caller op key num body) at goes r = served (server_of plan.config key) (WriteFwd caller op key num body) (write_answer caller op key num body) at goes refl
            (at_server (server_of plan.config key) (WriteFwd caller op key num body) (write_answer caller op key num body) refl (λ other. more_at plan s some_server h.flight.routed.servers (record_of key num body) (server_turn s (server_of plan.config key) rest (WriteFwd caller op key num body) (Some (write_answer caller op key num body))) refl other))
        go (Store job item) at goes r = served (server_of plan.config item.key) (Store job item) (Stored job) at goes refl (stores from to job item at)
        go (TopAsk number) at goes r = served goes.server (TopAsk number) (top_answer goes.server number) at goes.is refl
            (at_server goes.server (TopAsk number) (top_answer goes.server number) refl (same_servers goes.server (top_answer goes.server number) (TopAsk number) refl))
        go (Hot key) at goes r = controlled (Hot key) goes (calms rest rests s.done (idle (wanted key s.controller)) (wanted_calm s.controller key) (wanted_apart s.controller key))
        go (AdmitAck j tag) at goes r = controlled (AdmitAck j tag) goes (by_test (λ t. Goes (turned rest rests s.done t)) (is_admitting tag (state_at s.controller.slots j)) _ (idle s.controller)
            (silent rest rests s.done (record { state = with_state s.controller j (acked_state (state_at s.controller.slots j)); out = []; notes = Rattle.far_base.specs.declared.log.LogEntry.TheVariants.Admitted j (key_in (state_at s.controller.slots j)) tag ∷ [] }) refl (omega arith)) (idles rest rests s.done))
        go (PeekAns j tag latest num body) at goes r = controlled (PeekAns j tag latest num body) goes (peek_answer rest rests s.done j tag latest num body s.controller.eviction)
        go (RemoveAns j tag gone latest num body) at goes r = controlled (RemoveAns j tag gone latest num body) goes (removal_answer rest rests s.done j tag gone num body s.controller.eviction)
        go (SnapBegun id point) at goes r = controlled (SnapBegun id point) goes (calms rest rests s.done (Rattle.far_model.specs.Controller.snapshot_begun plan.config s.controller id point s.controller.job) (begun_calm plan.config s.controller id point s.controller.job) (begun_apart plan.config s.controller id point s.controller.job))
        go (SnapPart id j view) at goes r = controlled (SnapPart id j view) goes (calms rest rests s.done (Rattle.far_model.specs.Controller.part_came plan.config s.controller id j view s.controller.job) (part_calm plan.config s.controller id j view s.controller.job) (part_apart plan.config s.controller id j view s.controller.job))
        go (SnapSame id j) at goes r = controlled (SnapSame id j) goes (calms rest rests s.done (Rattle.far_model.specs.Controller.same_came plan.config s.controller id j s.controller.job) (same_calm plan.config s.controller id j s.controller.job) (same_apart_job plan.config s.controller id j s.controller.job))
        go (Stored job) at goes r = controlled (Stored job) goes (stored_answer rest rests s.done (record { from = from; to = to; packet = Stored job }) (among_at (record { from = from; to = to; packet = Stored job }) s.bag i at) job refl s.controller.eviction refl)
        go (Told number caller total item) at goes r = controlled (Told number caller total item) goes (told_in_round rest rests s.done number caller total item s.controller.round)
        go (TopIs number server top) at goes r = controlled (TopIs number server top) goes (top_in_round rest rests s.done number server top s.controller.round)

    pub delivers_moves : (o : Option Message) → slice_get s.bag i ≡ o → can_deliver_some s.running o ≡ true → IsRouted plan (delivers plan (keeping_of s (Deliver i)) s i o) → Goes (delivers plan (keeping_of s (Deliver i)) s i o)
    delivers_moves None at can routed = absurd cc
    delivers_moves (Some m) at can routed = delivered m.from m.to m.packet at routed

  -- ---- other events

  all : (m : Message) → Among m s.bag → Among m s.bag
  all m a = a

  -- an eviction begins with a look
  looks : (c : ControllerState) (for_want : Bool) (j done : ℕ) → c.next_job ≡ s.controller.next_job → Goes (turned s.bag all done (evicts c for_want j))
  looks c for_want j done jobs = turns s.bag all done (evicts c for_want j) (omega (arith, jobs)) (tt, tt) (tt, tt)

  tick_moves : (o : Option (Turn ControllerState)) → tick s.controller ≡ o → is_some o ≡ true → Goes (ticks s o)
  tick_moves None e can = absurd cc
  tick_moves (Some t) e can = in_round (is_some s.controller.round) e
    where
      goes : (u : Turn ControllerState) → Some u ≡ Some t → Goes (turned s.bag all s.done u) → Goes (controller_turn s s.bag t)
      goes u k m = subst (λ w. Goes (controller_turn s s.bag w)) (same_Some u t k) m

      room : (o : Option ℕ) → tick_room s.controller o ≡ Some t → Goes (controller_turn s s.bag t)
      room None k = absurd cc
      room (Some j) k = started (is_some s.controller.eviction) k
        where
          started : (b : Bool) → (if b then None else Some (makes_room s.controller j)) ≡ Some t → Goes (controller_turn s s.bag t)
          started true k = absurd cc
          started false k = goes (makes_room s.controller j) k (looks (record s.controller { hand = hand_after j s.controller.slots }) true j s.done refl)

      free : (key : List ℕ) → (o : Option ℕ) → tick_free s.controller key o ≡ Some t → Goes (controller_turn s s.bag t)
      free key None k = room (victim s.controller.hand s.controller.slots) k
      free key (Some j) k = goes (admits_want s.controller key j) k (turns s.bag all s.done (admits_want s.controller key j) (omega arith) (tt, tt) (tt, tt))

      want : (key : List ℕ) → (o : Option ℕ) → tick_want s.controller key o ≡ Some t → Goes (controller_turn s s.bag t)
      want key None k = free key (first_place is_free s.controller.slots) k
      want key (Some j) k = goes (idle (first_want_dropped s.controller)) k (silent s.bag all s.done (idle (first_want_dropped s.controller)) refl (omega arith))

      wants : (keys : List (List ℕ)) → tick_wants s.controller keys ≡ Some t → Goes (controller_turn s s.bag t)
      wants [] k = absurd cc
      wants (key ∷ keys) k = want key (first_place (has_key key) s.controller.slots) k

      in_round : (b : Bool) → (if b then None else tick_wants s.controller s.controller.wants) ≡ Some t → Goes (controller_turn s s.bag t)
      in_round true k = absurd cc
      in_round false k = wants s.controller.wants k

  -- a state that has the same messages, servers and jobs
  same_moves : (t : State) → t.bag ≡ s.bag → t.servers ≡ s.servers → s.controller.next_job ≤ t.controller.next_job → Goes t
  same_moves t bag servers jobs = other_moves plan past.drawn s t below s.bag all [] (bag ∙ sym (append-nil s.bag))
      (λ key. let n = ap (λ l. (look plan (record s { servers = l }) key).num) servers in omega (arith, n)) jobs (λ m a. absurd a)

  order_moves : (o : Option Order) → is_order_due s o ≡ true → (done : ℕ) → Goes (record (does_order plan s o) { done = done })
  order_moves None due done = absurd cc
  order_moves (Some (AdmitOrder step key)) due done = calms s.bag all done (idle (wanted key s.controller)) (wanted_calm s.controller key) (wanted_apart s.controller key)
  order_moves (Some (EvictOrder step key)) due done = go (first_place (holds_key key) s.controller.slots)
    where
      go : (o : Option ℕ) → Goes (record (controller_turn s s.bag (evict_held s.controller o)) { done = done })
      go None = idles s.bag all done
      go (Some j) = looks s.controller false j done refl
  order_moves (Some (SnapOrder step)) due done = calms s.bag all done (Rattle.far_model.specs.Controller.start_snapshot s.controller) (start_calm s.controller) (record { eviction = refl; round = refl; jobs = refl })
  order_moves (Some (StopOrder step)) due done = same_moves (record (stops plan s) { done = done }) refl refl (omega arith)
  order_moves (Some (StopAtOrder kind times)) due done = same_moves (record (stops plan s) { done = done }) refl refl (omega arith)

  -- the records of the snapshot are stored under the next jobs
  asks_other : (n more number : ℕ) → Each (λ (o : Out). is_removal o.packet ≡ false) (to_clients n more (Ask number))
  asks_other n zero number = tt
  asks_other n (suc more) number = (refl, asks_other (suc n) more number)

  jobs_after : (n : ℕ) (outs more : List Out) → Each (λ (o : Out). is_removal o.packet ≡ false) outs → JobsFrom n more → JobsFrom n (outs ++ more)
  jobs_after n [] more h k = k
  jobs_after n (o ∷ outs) more h k = go o.packet h.0 (jobs_after n outs more h.1 k)
    where
      go : (p : Packet) → is_removal p ≡ false → JobsFrom n (outs ++ more) → JobsFrom n (record { to = o.to; packet = p } ∷ (outs ++ more))
      go (Store job item) off later = absurd cc
      go _ off later = (tt, later)

  stores_from : (job : ℕ) (rs : List Record) → JobsFrom job (stores_of plan.config job rs)
  stores_from job [] = tt
  stores_from job (r ∷ rs) = (omega arith, stores_from (suc job) rs)

  stores_new : (t : State) (job : ℕ) (rs : List Record) → s.controller.next_job ≤ job → job + length rs ≤ t.controller.next_job → Each (λ (o : Out). New t o.packet) (stores_of plan.config job rs)
  stores_new t job [] low high = tt
  stores_new t job (r ∷ rs) low high = ((low, omega (arith, high)), stores_new t (suc job) rs (omega (arith, low)) (omega (arith, high)))

  each_joined : (P : Out → Type 0) (xs ys : List Out) → Each P xs → Each P ys → Each P (xs ++ ys)
  each_joined P [] ys a b = b
  each_joined P (x ∷ xs) ys a b = (a.0, each_joined P xs ys a.1 b)

  recover_moves : Goes (controller_turn s s.bag (start_recovery plan.config s.controller))
  recover_moves = turns s.bag all s.done (start_recovery plan.config s.controller) (omega arith)
      (jobs_after s.controller.next_job asks (stores_of plan.config s.controller.next_job items) asked (stores_from s.controller.next_job items))
      (each_joined (λ (o : Out). New t o.packet) asks (stores_of plan.config s.controller.next_job items) (Rattle.far_model.proofs.Members.each_from_among (λ (o : Out). New t o.packet) asks (λ o a. Rattle.run_laws.proofs.Sending.other_new plan past.drawn s t o.packet
      (Rattle.far_model.proofs.Members.each_among (λ (o : Out). is_removal o.packet ≡ false) o asks asked a))) (stores_new t s.controller.next_job items (omega arith) (omega arith)))
    where
      items : List Record
      items = snapshot_stores s.controller

      t : State
      t = controller_turn s s.bag (start_recovery plan.config s.controller)

      asks : List Out
      asks = to_clients 0 plan.config.clients (Ask s.controller.next_round)

      asked : Each (λ (o : Out). is_removal o.packet ≡ false) asks
      asked = asks_other 0 plan.config.clients s.controller.next_round

  restart_moves : (o : Option ℕ) → ready s.controller ≡ o → is_some o ≡ true → Goes (restarts plan (keeping_of s Restart) s o)
  restart_moves None is can = absurd cc
  restart_moves (Some counter) is can = same_moves (restarts plan (keeping_of s Restart) s (Some counter)) refl refl (omega arith)

  send_moves : (c : ℕ) → IsRouted plan (sends plan s c) → Goes (sends plan s c)
  send_moves c routed = other_moves plan past.drawn s (sends plan s c) below s.bag all (messages_from (Client c) outs) refl (λ key. omega arith) (omega arith) others
    where
      outs : List Out
      outs = (next_sent plan.ops c (Rattle.far_model.specs.State.client_at s c) (Rattle.far_model.specs.State.client_at s c).left).out

      others : (m : Message) → Among m (messages_from (Client c) outs) → is_removal m.packet ≡ false
      others m a =
          let q = Rattle.far_model.proofs.Members.among_map_from (λ (o : Out). record { from = Client c; to = o.to; packet = o.packet }) m outs a in
          client_other c m.packet (subst (λ w. IsFrom m.packet w) (ap (λ (w : Message). w.from) q.2) (routed.messages m (among_append_right m s.bag (messages_from (Client c) outs) a)).source)

  pub event_moves : (e : Event) → is_enabled plan s e ≡ true → IsRouted plan (happens plan s e) → Goes (happens plan s e)
  event_moves (Send c) can routed = send_moves c routed
  event_moves (Deliver i) can routed = delivers_moves i (slice_get s.bag i) refl can routed
  event_moves Tick can routed = tick_moves (tick s.controller) refl can
  event_moves Recover can routed = recover_moves
  event_moves Restart can routed = restart_moves (ready s.controller) refl can
  event_moves (OrderOf j) can routed =
      let first = Rattle.record_laws.proofs.Slots.both (nat_eq j s.done) (is_order_enabled plan s) can in
      order_moves (slice_get plan.orders j) (ap (λ n. is_order_due s (slice_get plan.orders n)) (eqb-true j s.done first.0) ∙ first.1) (s.done + 1)

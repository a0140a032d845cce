-- The controller, the clients and the servers tell no number that was not drawn; every event and every run.
use Rattle.std.proofs.Common.{◌≡◌, ℕ, zero, suc, ◌+◌, ◌-◌, ◌≤◌, ◌⊎◌, inl, inr, Bool, true, false, true≢false, cond, not, ◌&&◌, nat_eq, nat_lt, nat_le, max, List, [], ◌∷◌, ◌++◌, length, replicate, map, set, refl, sym, ◌∙◌, subst, arith, le_trans}
use Rattle.std.specs.Prelude.{Option, None, Some, is_some, slice_get, slice_index_or, slice_set}
use Rattle.std.specs.List.{list_all, remove}
use Rattle.std.proofs.lemmas.Option.{none-some, same_Some}
use Rattle.far_base.specs.PlanView.{PlanView}
use Rattle.far_base.specs.declared.event.Event.{Event}
use Rattle.far_base.specs.declared.event.Event.TheVariants.{Send, Deliver, Tick, Recover, Restart, Order as OrderOf}
use Rattle.far_base.specs.declared.log.LogEntry.{LogEntry}
use Rattle.far_base.specs.declared.log.LogEntry.TheVariants.{Numbered, Recovered, Stopped}
use Rattle.far_base.specs.declared.log.LogLine.{LogLine}
use Rattle.far_base.specs.declared.packet.Message.{Message}
use Rattle.far_base.specs.declared.packet.Out.{Out}
use Rattle.far_base.specs.declared.packet.Packet.{Packet}
use Rattle.far_base.specs.declared.packet.Packet.TheVariants.{GetReq, WriteReq, GetFwd, WriteFwd, GetRep, WriteRep, GetAns, WriteAns, Hot, AdmitAck, PeekAns, RemoveAns, SnapBegun, SnapPart, Store, Stored, Release, Ask, Told, TopAsk, TopIs, SnapSame, SnapFrom, SnapStart}
use Rattle.far_base.specs.declared.party.Party.{Party}
use Rattle.far_base.specs.declared.party.Party.TheVariants.{Client, Switch, Server, Controller}
use Rattle.far_base.specs.declared.plan.OpLine.{OpLine}
use Rattle.far_base.specs.declared.plan.Order.{Order}
use Rattle.far_base.specs.declared.plan.Order.TheVariants.{Admit as AdmitOrder, Evict as EvictOrder, Snap as SnapOrder, Stop as StopOrder, StopAt as StopAtOrder}
use Rattle.far_base.specs.declared.record.Record.{Record}
use Rattle.far_base.specs.declared.slot_state.Due.TheVariants.{Peeked, Removed}
use Rattle.far_model.specs.Clients.{ClientState, answered_record, client_takes, line_of, request, tells, tells_each}
use Rattle.far_model.specs.Controller.{ControllerState, acknowledged, client_told, controller_takes, evict_held, evict_key, evicts, evicts_on, job_turn, makes_room, numbered_records, part_came, peek_answered, ready, ready_in, removal_answered, round_stored, round_turn, snapshot_begun, snapshot_stores, start_recovery, start_snapshot, store_answered, store_outs, stores_of, tick, tick_free, tick_room, tick_want, tick_wants, to_clients, to_servers, told_round, top_told, wanted, same_came, same_part, is_last_present}
use Rattle.far_model.specs.Events.{Keeping, client_turn, controller_turn, delivers, does_order, handled, happens_with, next_sent, recovery_items, reply_message, restarts, server_turn, stops, switch_turn, ticks}
use Rattle.far_model.specs.Evictions.{Eviction, Send, Store as StoreNext, Kept, TRIES, after_peek, after_removal, first_place, hand_after, has_key, holds_key, is_admitting, is_free, shown_item, state_at, victim, waits_for, waits_job}
use Rattle.far_model.specs.KeyedRecords.{found}
use Rattle.far_model.specs.Log.{is_read}
use Rattle.far_model.specs.Members.{Among, Each}
use Rattle.far_model.specs.Parties.{Turn, idle, messages_from, to_party}
use Rattle.far_model.specs.Pass.{pass, pass_notes, passed_out}
use Rattle.far_model.specs.Replies.{IsReplyTo, KeptEvent, RepliesAt, RepliesToMessage, run_with, ceiling_at, ceiling_by, ceiling_after, ReplyWithin, AnswersWithin, AnswersMessageWithin, ceiling_with, KeepersAnswer, IsRunWith}
use Rattle.far_model.specs.Rounds.{Round, asks_tops, greatest_top, has_told, telling_at}
use Rattle.far_model.specs.Servers.{record_of, server_keeps, stored, put_number, reply_number}
use Rattle.far_model.specs.Snapshots.{Job, SnapshotView, has_begun, has_part, is_whole, number_or_none, part_reads, view_in, view_records, with_same}
use Rattle.far_model.specs.State.{State, client_at, clients_from, line_at, nobody, noted, now, opening, records_at}
use Rattle.far_model.specs.View.{empty_slot}
use Rattle.far_model.proofs.Members.{among_append, among_at, among_remove}
use Rattle.flight_laws.proofs.Lists.{all_set, get_or-replicate_default, by_test}
use Rattle.far_invariants.specs.DrawnNumbers.{ClientWithin, ControllerWithin, EvictionWithin, JobWithin, NumbersAreDrawn, NumbersWithin, RecordsWithin, RoundWithin, ViewsWithin, begun_number, drawn_count, is_numbering, mark_number, number_in, number_of, part_number}
use Rattle.flight_laws.proofs.Counts.{count_append, count_cons}
use Rattle.flight_laws.proofs.Moves.{sent_is}
use Rattle.flight_laws.proofs.Numbers.{each_more, filter_within, is_write, pass_within, put_within}
use Rattle.flight_laws.proofs.Passes.{tested}

-- ---- turns of the controller

pub record TurnWithin (n : ℕ) (t : Turn ControllerState) : Type 0 where
  pub state : ControllerWithin n t.state
  pub outs : Each (λ (o : Out). number_in o.packet ≤ n) t.out

each_set : {A : Type 0} (f : A → ℕ) (n : ℕ) (xs : List A) (i : ℕ) (x : A) → f x ≤ n → Each (λ y. f y ≤ n) xs → Each (λ y. f y ≤ n) (set xs i x)
each_set f n [] zero x b h = tt
each_set f n [] (suc i) x b h = tt
each_set f n (y ∷ ys) zero x b h = (b, h.1)
each_set f n (y ∷ ys) (suc i) x b h = (h.0, each_set f n ys i x b h.1)

each_both : (n : ℕ) (xs ys : List Out) → Each (λ (o : Out). number_in o.packet ≤ n) xs → Each (λ (o : Out). number_in o.packet ≤ n) ys → Each (λ (o : Out). number_in o.packet ≤ n) (xs ++ ys)
each_both n [] ys h k = k
each_both n (x ∷ xs) ys h k = (h.0, each_both n xs ys h.1 k)

module _ (plan : PlanView) (n : ℕ) where
  clients_within : (p : Packet) → number_in p ≤ n → (i more : ℕ) → Each (λ (o : Out). number_in o.packet ≤ n) (to_clients i more p)
  clients_within p b i zero = tt
  clients_within p b i (suc more) = (b, clients_within p b (suc i) more)

  servers_within : (p : Packet) → number_in p ≤ n → (i more : ℕ) → Each (λ (o : Out). number_in o.packet ≤ n) (to_servers i more p)
  servers_within p b i zero = tt
  servers_within p b i (suc more) = (b, servers_within p b (suc i) more)

  reads_within : (epoch id i : ℕ) (parts : List (Option (Option Record))) → Each (λ (o : Out). number_in o.packet ≤ n) (part_reads epoch id i parts)
  reads_within epoch id i [] = tt
  reads_within epoch id i (part ∷ parts) = tested (Each (λ (o : Out). number_in o.packet ≤ n)) (is_some part) _ _ (λ e. reads_within epoch id (suc i) parts) (λ e. (omega arith, reads_within epoch id (suc i) parts))

  stores_within : (job : ℕ) (items : List Record) → RecordsWithin n items → Each (λ (o : Out). number_in o.packet ≤ n) (stores_of plan.config job items)
  stores_within job [] h = tt
  stores_within job (r ∷ rs) h = (h.0, stores_within (suc job) rs h.1)

  views_within : (views : List (Option Record)) → ViewsWithin n views → RecordsWithin n (view_records views)
  views_within [] h = tt
  views_within (None ∷ views) h = views_within views h.1
  views_within (Some r ∷ views) h = (h.0, views_within views h.1)

  numbered_within : (items : List Record) → RecordsWithin n items → RecordsWithin n (numbered_records items)
  numbered_within [] h = tt
  numbered_within (r ∷ rs) h = tested (RecordsWithin n) (nat_eq r.num 0) _ _ (λ e. numbered_within rs h.1) (λ e. (h.0, numbered_within rs h.1))

  completed_within : (parts : List (Option (Option Record))) → Each (λ part. part_number part ≤ n) parts → ViewsWithin n (map view_in parts)
  completed_within [] h = tt
  completed_within (None ∷ parts) h = (omega arith, completed_within parts h.1)
  completed_within (Some view ∷ parts) h = (h.0, completed_within parts h.1)

  new_parts : (k : ℕ) → Each (λ part. part_number part ≤ n) (replicate k None)
  new_parts zero = tt
  new_parts (suc k) = (omega arith, new_parts k)

  new_tops : (k : ℕ) → Each (λ top. begun_number top ≤ n) (replicate k None)
  new_tops zero = tt
  new_tops (suc k) = (omega arith, new_tops k)

  top_within : (tops : List (Option ℕ)) → Each (λ top. begun_number top ≤ n) tops → greatest_top tops ≤ n
  top_within [] h = omega arith
  top_within (None ∷ tops) h = top_within tops h.1
  top_within (Some top ∷ tops) h = let a = h.0 in let b = top_within tops h.1 in omega (arith, a, b)

  point_within : (o : Option ℕ) → begun_number o ≤ n → number_or_none o ≤ n
  point_within None b = b
  point_within (Some p) b = b

  module _ (c : ControllerState) (h : ControllerWithin n c) where
    idle_in : TurnWithin n (idle c)
    idle_in = record { state = h; outs = tt }

    -- the eviction and what is sent change
    eviction_in : (d : ControllerState) (o : Option Eviction) (out : List Out) (notes : List LogEntry) → d.eviction ≡ o → EvictionWithin n o → d.job ≡ c.job → d.last ≡ c.last → d.round ≡ c.round → Each (λ (o : Out). number_in o.packet ≤ n) out → TurnWithin n (record { state = d; out = out; notes = notes })
    eviction_in d o out notes e b job last round outs = record {
      state = record { eviction = subst (EvictionWithin n) (sym e) b; job = subst (JobWithin n) (sym job) h.job; point = subst (λ (l : SnapshotView). l.point ≤ n) (sym last) h.point; views = subst (λ (l : SnapshotView). ViewsWithin n l.views) (sym last) h.views; round = subst (RoundWithin n) (sym round) h.round };
      outs = outs;
    }

    same_in : (d : ControllerState) (out : List Out) (notes : List LogEntry) → d.eviction ≡ c.eviction → d.job ≡ c.job → d.last ≡ c.last → d.round ≡ c.round → Each (λ (o : Out). number_in o.packet ≤ n) out → TurnWithin n (record { state = d; out = out; notes = notes })
    same_in d out notes e job last round outs = eviction_in d c.eviction out notes e h.eviction job last round outs

    wanted_in : (key : List ℕ) → TurnWithin n (idle (wanted key c))
    wanted_in key = tested (λ z. TurnWithin n (idle z)) (is_some c.round) _ _ (λ e. idle_in) (λ e. same_in _ [] [] refl refl refl refl tt)

    evicts_in : (hand : ℕ) (for_want : Bool) (i : ℕ) → TurnWithin n (evicts (record c { hand = hand }) for_want i)
    evicts_in hand for_want i = eviction_in _ _ _ [] refl (omega arith) refl refl refl (omega arith, tt)

    abbrev IfIn : Option (Turn ControllerState) → Type 0
    IfIn None = Unit {0}
    IfIn (Some t) = TurnWithin n t

    room_in : (o : Option ℕ) → IfIn (tick_room c o)
    room_in None = tt
    room_in (Some i) = tested IfIn (is_some c.eviction) None (Some (makes_room c i)) (λ e. tt) (λ e. evicts_in (hand_after i c.slots) true i)

    free_in : (key : List ℕ) (o : Option ℕ) → IfIn (tick_free c key o)
    free_in key None = room_in (victim c.hand c.slots)
    free_in key (Some i) = same_in _ _ [] refl refl refl refl (omega arith, tt)

    want_in : (key : List ℕ) (o : Option ℕ) → IfIn (tick_want c key o)
    want_in key None = free_in key (first_place is_free c.slots)
    want_in key (Some i) = same_in _ [] [] refl refl refl refl tt

    wants_in : (keys : List (List ℕ)) → IfIn (tick_wants c keys)
    wants_in [] = tt
    wants_in (key ∷ keys) = want_in key (first_place (has_key key) c.slots)

    tick_in : (t : Turn ControllerState) → tick c ≡ Some t → TurnWithin n t
    tick_in t e = subst IfIn e (tested IfIn (is_some c.round) None (tick_wants c c.wants) (λ x. tt) (λ x. wants_in c.wants))

    evict_in : (key : List ℕ) → TurnWithin n (evict_key key c)
    evict_in key = go (first_place (holds_key key) c.slots)
      where
        go : (o : Option ℕ) → TurnWithin n (evict_held c o)
        go None = idle_in
        go (Some i) = evicts_in c.hand false i

    acked_in : (i tag : ℕ) → TurnWithin n (acknowledged c i tag)
    acked_in i tag = tested (TurnWithin n) (is_admitting tag (state_at c.slots i)) _ (idle c) (λ e. same_in _ [] _ refl refl refl refl tt) (λ e. idle_in)

    store_in : (e : Eviction) (item : Record) → item.num ≤ n → TurnWithin n (evicts_on plan.config c e (StoreNext item))
    store_in e item b = eviction_in _ _ _ [] refl b refl refl refl (b, tt)

    kept_in : (e : Eviction) (last : Record) (b : Bool) → TurnWithin n (evicts_on plan.config c (record e { for_want = b }) (Kept TRIES last))
    kept_in e last true = eviction_in _ None [] _ refl tt refl refl refl tt
    kept_in e last false = eviction_in _ None [] _ refl tt refl refl refl tt

    peek_in : (i tag : ℕ) (latest : Bool) (num : ℕ) (body : Option (List ℕ)) → num ≤ n → (o : Option Eviction) → c.eviction ≡ o → TurnWithin n (peek_answered plan.config c i tag latest num body o)
    peek_in i tag latest num body b None is = idle_in
    peek_in i tag latest num body b (Some e) is = tested (TurnWithin n) (waits_for Peeked i tag e) _ (idle c) (λ w. go latest) (λ w. idle_in)
      where
        mine : e.item.num ≤ n
        mine = subst (EvictionWithin n) is h.eviction

        go : (l : Bool) → TurnWithin n (evicts_on plan.config c e (after_peek e l num body))
        go true = store_in e (shown_item e num body) b
        go false = eviction_in _ _ _ [] refl mine refl refl refl (omega arith, tt)

    removal_in : (i tag : ℕ) (done : Bool) (num : ℕ) (body : Option (List ℕ)) → num ≤ n → (o : Option Eviction) → TurnWithin n (removal_answered plan.config c i tag done num body o)
    removal_in i tag done num body b None = idle_in
    removal_in i tag done num body b (Some e) = tested (TurnWithin n) (waits_for Removed i tag e) _ (idle c) (λ w. go done) (λ w. idle_in)
      where
        go : (d : Bool) → TurnWithin n (evicts_on plan.config c e (after_removal e d num body))
        go true = eviction_in _ None [] _ refl tt refl refl refl tt
        go false = tested (λ x. TurnWithin n (evicts_on plan.config c e x)) (nat_eq e.tries TRIES) (Kept TRIES (shown_item e num body)) (StoreNext (shown_item e num body)) (λ z. kept_in e (shown_item e num body) e.for_want) (λ z. store_in e (shown_item e num body) b)

    job_in : (job : Job) (out : List Out) → JobWithin n (Some job) → Each (λ (o : Out). number_in o.packet ≤ n) out → TurnWithin n (job_turn plan.config c job out)
    job_in job out j outs = tested (TurnWithin n) (is_whole job) _ _
        (λ e. record { state = record { eviction = h.eviction; job = tt; point = point_within job.begun j.0; views = completed_within job.parts j.1; round = h.round }; outs = clients_within (Release (number_or_none job.begun)) (point_within job.begun j.0) 0 plan.config.clients })
        (λ e. record { state = record { eviction = h.eviction; job = j; point = h.point; views = h.views; round = h.round }; outs = outs })

    begun_in : (id point : ℕ) → point ≤ n → (o : Option Job) → c.job ≡ o → TurnWithin n (snapshot_begun plan.config c id point o)
    begun_in id point b None is = idle_in
    begun_in id point b (Some job) is = tested (TurnWithin n) (nat_eq job.id id && not (has_begun job)) _ (idle c) (λ e. job_in (record job { begun = Some point }) _ (b, (subst (JobWithin n) is h.job).1) (reads_within c.epoch id 0 job.parts)) (λ e. idle_in)

    part_in : (id i : ℕ) (view : Option Record) → number_of view ≤ n → (o : Option Job) → c.job ≡ o → TurnWithin n (part_came plan.config c id i view o)
    part_in id i view b None is = idle_in
    part_in id i view b (Some job) is = tested (TurnWithin n) (nat_eq job.id id && (nat_lt i (length job.parts) && not (has_part job i))) _ (idle c)
        (λ e. let j = subst (JobWithin n) is h.job in job_in (record job { parts = slice_set job.parts i (Some view) }) [] (j.0, each_set part_number n job.parts i (Some view) b j.1) tt) (λ e. idle_in)

    views_at : (views : List (Option Record)) (i : ℕ) (view : Option Record) → ViewsWithin n views → slice_get views i ≡ Some view → number_of view ≤ n
    views_at [] i view v e = absurd cc
    views_at (x ∷ xs) zero view v e = subst (λ w. number_of w ≤ n) (same_Some x view e) v.0
    views_at (x ∷ xs) (suc i) view v e = views_at xs i view v.1 e

    snap_same_in : (id i : ℕ) (o : Option Job) → c.job ≡ o → TurnWithin n (same_came plan.config c id i o)
    snap_same_in id i None is = idle_in
    snap_same_in id i (Some job) is = go (slice_get c.last.views i) refl
      where
        go : (v : Option (Option Record)) → slice_get c.last.views i ≡ v → TurnWithin n (same_part plan.config c id i job v)
        go None q = idle_in
        go (Some view) q = tested (TurnWithin n) (nat_eq job.id id && (nat_lt i (length job.parts) && not (has_part job i))) _ (idle c)
            (λ e. let j = subst (JobWithin n) is h.job in job_in (with_same job i view) [] (j.0, each_set part_number n job.parts i (Some view) (views_at c.last.views i view h.views q) j.1) tt) (λ e. idle_in)

    round_in : (d : ControllerState) (r : Round) (out : List Out) → d.eviction ≡ c.eviction → d.job ≡ c.job → d.last ≡ c.last → RoundWithin n (Some r) → Each (λ (o : Out). number_in o.packet ≤ n) out → TurnWithin n (round_turn plan.config d r out)
    round_in d r out e job last b outs = tested (TurnWithin n) (asks_tops r) _ _
        (λ x. record {
          state = record { eviction = subst (EvictionWithin n) (sym e) h.eviction; job = subst (JobWithin n) (sym job) h.job; point = subst (λ (l : SnapshotView). l.point ≤ n) (sym last) h.point; views = subst (λ (l : SnapshotView). ViewsWithin n l.views) (sym last) h.views; round = b };
          outs = each_both n out _ outs (servers_within (TopAsk r.number) (omega arith) 0 plan.config.servers);
        })
        (λ x. record { state = record { eviction = subst (EvictionWithin n) (sym e) h.eviction; job = subst (JobWithin n) (sym job) h.job; point = subst (λ (l : SnapshotView). l.point ≤ n) (sym last) h.point; views = subst (λ (l : SnapshotView). ViewsWithin n l.views) (sym last) h.views; round = b }; outs = outs })

    told_in : (number caller total : ℕ) (item : Option Record) → number_of item ≤ n → (o : Option Round) → c.round ≡ o → TurnWithin n (client_told plan.config c number caller total item o)
    told_in number caller total item b None is = idle_in
    told_in number caller total item b (Some r) is = tested (TurnWithin n) (nat_eq r.number number && (nat_lt caller (length r.told) && not (has_told (telling_at r caller)))) _ (idle c)
        (λ e. round_in (record c { next_job = c.next_job + length (store_outs plan.config c.next_job item) }) (told_round r caller total (length (store_outs plan.config c.next_job item))) (store_outs plan.config c.next_job item) refl refl refl (subst (RoundWithin n) is h.round) (outs item b)) (λ e. idle_in)
      where
        outs : (item : Option Record) → number_of item ≤ n → Each (λ (o : Out). number_in o.packet ≤ n) (store_outs plan.config c.next_job item)
        outs None b = tt
        outs (Some r) b = (b, tt)

    stored_in : (job : ℕ) (o : Option Round) → c.round ≡ o → TurnWithin n (round_stored plan.config c job o)
    stored_in job None is = idle_in
    stored_in job (Some r) is = tested (TurnWithin n) (nat_le r.first_job job && (nat_lt job c.next_job && not (nat_eq r.stores 0))) _ (idle c) (λ e. round_in c (record r { stores = r.stores - 1 }) [] refl refl refl (subst (RoundWithin n) is h.round) tt) (λ e. idle_in)

    answered_in : (job : ℕ) (o : Option Eviction) → c.eviction ≡ o → TurnWithin n (store_answered plan.config c job o)
    answered_in job None is = stored_in job c.round refl
    answered_in job (Some e) is = let b : e.item.num ≤ n = subst (EvictionWithin n) is h.eviction in
        tested (TurnWithin n) (waits_job job e) _ (round_stored plan.config c job c.round) (λ w. eviction_in _ _ _ [] refl b refl refl refl (b, tt)) (λ w. stored_in job c.round refl)

    top_in : (number server top : ℕ) → top ≤ n → (o : Option Round) → c.round ≡ o → TurnWithin n (top_told plan.config c number server top o)
    top_in number server top b None is = idle_in
    top_in number server top b (Some r) is = tested (TurnWithin n) (nat_eq r.number number && (r.asked && (nat_lt server (length r.tops) && not (is_some (slice_index_or r.tops server None))))) _ (idle c)
        (λ e. record { state = record { eviction = h.eviction; job = h.job; point = h.point; views = h.views; round = each_set begun_number n r.tops server (Some top) b (subst (RoundWithin n) is h.round) }; outs = tt }) (λ e. idle_in)

    takes_in : (p : Packet) → number_in p ≤ n → TurnWithin n (controller_takes plan.config c p)
    takes_in (Hot key) b = wanted_in key
    takes_in (AdmitAck i tag) b = acked_in i tag
    takes_in (PeekAns i tag latest num body) b = peek_in i tag latest num body b c.eviction refl
    takes_in (RemoveAns i tag done latest num body) b = removal_in i tag done num body b c.eviction
    takes_in (SnapBegun id point) b = begun_in id point b c.job refl
    takes_in (SnapPart id i view) b = part_in id i view b c.job refl
    takes_in (SnapSame id i) b = snap_same_in id i c.job refl
    takes_in (Stored job) b = answered_in job c.eviction refl
    takes_in (Told number caller total item) b = told_in number caller total item b c.round refl
    takes_in (TopIs number server top) b = top_in number server top b c.round refl
    takes_in _ b = idle_in

    recovery_in : TurnWithin n (start_recovery plan.config c)
    recovery_in = record {
      state = record { eviction = tt; job = tt; point = h.point; views = h.views; round = new_tops plan.config.servers };
      outs = each_both n _ _ (clients_within (Ask c.next_round) (omega arith) 0 plan.config.clients) (stores_within c.next_job (snapshot_stores c) (numbered_within (view_records c.last.views) (views_within c.last.views h.views)));
    }

    snapshot_in : TurnWithin n (start_snapshot c)
    snapshot_in = record { state = record { eviction = h.eviction; job = (omega arith, new_parts (length c.slots)); point = h.point; views = h.views; round = h.round }; outs = (by_test (λ p. number_in p ≤ n) (is_last_present c) (SnapFrom c.epoch c.next_id c.last.id) (SnapStart c.epoch c.next_id) (omega arith) (omega arith), tt) }

-- ---- states

pub within_more : (n m ceiling : ℕ) (s : State) → n ≤ m → NumbersWithin n ceiling s → NumbersWithin m ceiling s
within_more n m ceiling s b h = record {
  counter = le_trans h.counter b;
  ceiling_too = le_trans h.ceiling_too b;
  slots = λ i. le_trans (h.slots i) b;
  marks = λ i. le_trans (h.marks i) b;
  packets = λ x a. le_trans (h.packets x a) b;
  clients = λ c. record { released = le_trans (h.clients c).released b; preserved = each_more (λ (r : Record). r.num) n m _ b (h.clients c).preserved };
  servers = λ k. each_more (λ (r : Record). r.num) n m _ b (h.servers k);
  controller = record {
    eviction = eviction s.controller.eviction h.controller.eviction;
    job = job s.controller.job h.controller.job;
    point = le_trans h.controller.point b;
    views = each_more number_of n m _ b h.controller.views;
    round = round s.controller.round h.controller.round;
  };
}
  where
    eviction : (o : Option Eviction) → EvictionWithin n o → EvictionWithin m o
    eviction None e = tt
    eviction (Some x) e = le_trans e b

    job : (o : Option Job) → JobWithin n o → JobWithin m o
    job None e = tt
    job (Some x) e = (le_trans e.0 b, each_more part_number n m x.parts b e.1)

    round : (o : Option Round) → RoundWithin n o → RoundWithin m o
    round None e = tt
    round (Some r) e = each_more begun_number n m r.tops b e

outs_within : (n : ℕ) (outs : List Out) (o : Out) → Each (λ (o : Out). number_in o.packet ≤ n) outs → Among o outs → number_in o.packet ≤ n
outs_within n [] o h a = absurd a
outs_within n (x ∷ xs) o h (inl e) = subst (λ (w : Out). number_in w.packet ≤ n) (sym e) h.0
outs_within n (x ∷ xs) o h (inr a) = outs_within n xs o h.1 a

module _ (plan : PlanView) (n ceiling : ℕ) (s : State) (h : NumbersWithin n ceiling s) (rest : List Message) (members : (x : Message) → Among x rest → Among x s.bag) where
  bag_within : (from : Party) (outs : List Out) → ((o : Out) → Among o outs → number_in o.packet ≤ n) → (x : Message) → Among x (rest ++ messages_from from outs) → number_in x.packet ≤ n
  bag_within from outs f x a = by (among_append x rest (messages_from from outs) a)
    where
      by : Among x rest ⊎ Among x (messages_from from outs) → number_in x.packet ≤ n
      by (inl b) = h.packets x (members x b)
      by (inr b) = let o = sent_is from outs x b in subst (λ (w : Message). number_in w.packet ≤ n) (sym o.2) (f o.0 o.1)

  pub control_in : (t : Turn ControllerState) → TurnWithin n t → NumbersWithin n ceiling (controller_turn s rest t)
  control_in t w = record { counter = h.counter; ceiling_too = h.ceiling_too; slots = h.slots; marks = h.marks; packets = bag_within Controller t.out (λ o a. outs_within n t.out o w.outs a); clients = h.clients; servers = h.servers; controller = w.state }

  client_in : (c : ℕ) (t : Turn ClientState) → ClientWithin n t.state → ((o : Out) → Among o t.out → number_in o.packet ≤ n) → NumbersWithin n ceiling (client_turn s c rest t)
  client_in c t w f = record { counter = h.counter; ceiling_too = h.ceiling_too; slots = h.slots; marks = h.marks; packets = bag_within (Client c) t.out f; clients = λ d. all_set (ClientWithin n) s.clients c t.state nobody w h.clients d; servers = h.servers; controller = h.controller }

  tells_in : (round c total : ℕ) (items : List Record) → RecordsWithin n items → (o : Out) → Among o (tells_each round c total items) → number_in o.packet ≤ n
  tells_in round c total [] b o a = absurd a
  tells_in round c total (r ∷ rs) b o (inl e) = subst (λ (w : Out). number_in w.packet ≤ n) (sym e) b.0
  tells_in round c total (r ∷ rs) b o (inr a) = tells_in round c total rs b.1 o a

  takes_client : (c : ℕ) (p : Packet) → number_in p ≤ n → ClientWithin n (client_takes plan.ops c (client_at s c) p).state × ((o : Out) → Among o (client_takes plan.ops c (client_at s c) p).out → number_in o.packet ≤ n)
  takes_client c (GetAns caller op key num body near) b = (record { released = (h.clients c).released; preserved = (h.clients c).preserved }, λ o a. absurd a)
  takes_client c (WriteAns caller op key num stored) b = (
    tested (ClientWithin n) (stored && nat_lt (client_at s c).released num) _ _
        (λ e. record { released = (h.clients c).released; preserved = put_within n (answered_record plan.ops op num) (client_at s c).preserved b (h.clients c).preserved })
        (λ e. record { released = (h.clients c).released; preserved = (h.clients c).preserved }),
    λ o a. absurd a,
  )
  takes_client c (Release point) b = (record { released = (let l = (h.clients c).released in omega (arith, l, b)); preserved = filter_within n _ (client_at s c).preserved (h.clients c).preserved }, λ o a. absurd a)
  takes_client c (Ask round) b = (h.clients c, go (client_at s c).preserved (h.clients c).preserved)
    where
      go : (items : List Record) → RecordsWithin n items → (o : Out) → Among o (tells round c items) → number_in o.packet ≤ n
      go [] b o (inl e) = subst (λ (w : Out). number_in w.packet ≤ n) (sym e) (omega arith)
      go [] b o (inr a) = absurd a
      go (r ∷ rs) b o a = tells_in round c (length (r ∷ rs)) (r ∷ rs) b o a
  takes_client c _ b = (h.clients c, λ o a. absurd a)

  pub client_event : (c : ℕ) (p : Packet) → number_in p ≤ n → NumbersWithin n ceiling (client_turn s c rest (client_takes plan.ops c (client_at s c) p))
  client_event c p b = let t = takes_client c p b in client_in c (client_takes plan.ops c (client_at s c) p) t.0 t.1

  keeps_in : (records : List Record) (p : Packet) → RecordsWithin n records → number_in p ≤ n → RecordsWithin n (server_keeps records p)
  keeps_in records (WriteFwd caller op key num body) r b = tested (RecordsWithin n) (nat_lt (found records key).num num) _ _ (λ e. put_within n (record_of key num body) records b r) (λ e. r)
  keeps_in records (Store job item) r b = tested (RecordsWithin n) (nat_lt (found records item.key).num item.num) _ _ (λ e. put_within n item records b r) (λ e. r)
  keeps_in records _ r b = r

  put_in : (p : Packet) → number_in p ≤ n → put_number p ≤ n
  put_in (WriteFwd caller op key num body) b = b
  put_in (Store job item) b = b
  put_in _ b = omega arith

  pub server_in : (k : ℕ) (p : Packet) (reply : Option Packet) → number_in p ≤ n → ((q : Packet) → reply ≡ Some q → number_in q ≤ n) → NumbersWithin n (max ceiling (put_number p)) (server_turn s k rest p reply)
  server_in k p reply b f = record {
    counter = h.counter;
    ceiling_too = (let c = h.ceiling_too in let q = put_in p b in omega (arith, c, q));
    slots = h.slots;
    marks = h.marks;
    packets = λ x a. by reply f x (among_append x rest (reply_message k reply) a);
    clients = h.clients;
    servers = λ d. all_set (RecordsWithin n) s.servers k (server_keeps (records_at s k) p) [] (keeps_in (records_at s k) p (h.servers k) b) h.servers d;
    controller = h.controller;
  }
    where
      by : (reply : Option Packet) → ((q : Packet) → reply ≡ Some q → number_in q ≤ n) → (x : Message) → Among x rest ⊎ Among x (reply_message k reply) → number_in x.packet ≤ n
      by r f x (inl a) = h.packets x (members x a)
      by None f x (inr a) = absurd a
      by (Some q) f x (inr (inl e)) = subst (λ (w : Message). number_in w.packet ≤ n) (sym e) (f q refl)
      by (Some q) f x (inr (inr a)) = absurd a

  pub switch_in : (p : Packet) → number_in p ≤ n → (is_write p ≡ true → s.switch.counter + 1 ≤ n) → NumbersWithin n ceiling (switch_turn s rest p (pass s.switch p))
  switch_in p b w = let r = pass_within n s.switch h.counter h.slots h.marks p b w in
      record { counter = r.counter; ceiling_too = h.ceiling_too; slots = r.slots; marks = r.marks; packets = bag_within Switch (passed_out (pass s.switch p)) r.outs; clients = h.clients; servers = h.servers; controller = h.controller }

-- ---- the log

log_more : (s : State) (notes : List LogEntry) → drawn_count s.log ≤ drawn_count (noted s notes)
log_more s notes = let e = count_append (λ (l : LogLine). is_numbering l.entry) s.log (map (line_at (now s)) notes) in omega (arith, e)

log_numbered : (s : State) (op num : ℕ) (notes : List LogEntry) → drawn_count s.log + 1 ≤ drawn_count (noted s (Numbered op num ∷ notes))
log_numbered s op num notes =
    let f = λ (l : LogLine). is_numbering l.entry in
    let e = count_append f s.log (map (line_at (now s)) (Numbered op num ∷ notes)) in
    let c = count_cons f (line_at (now s) (Numbered op num)) (map (line_at (now s)) notes) in
    omega (arith, e, c)

-- a reply tells what its number is
reply_is : (k n : ℕ) (p q : Packet) (reply : Option Packet) → IsReplyTo k p reply → reply ≡ Some q → reply_number q ≤ n → number_in q ≤ n
reply_is k n (GetFwd caller op key tag) q reply h e b = let z : GetRep caller op key tag h.num h.body ≡ q = same_Some _ _ (sym h.is ∙ e) in subst (λ w. number_in w ≤ n) z (subst (λ w. reply_number w ≤ n) (sym z) b)
reply_is k n (WriteFwd caller op key num body) q reply h e b = let z : WriteRep caller op key h.num h.body ≡ q = same_Some _ _ (sym h.is ∙ e) in subst (λ w. number_in w ≤ n) z (subst (λ w. reply_number w ≤ n) (sym z) b)
reply_is k n (Store job item) q reply h e b = let z : Stored job ≡ q = same_Some _ _ (sym h ∙ e) in subst (λ w. number_in w ≤ n) z (omega arith)
reply_is k n (TopAsk round) q reply h e b = let z : TopIs round k h.top ≡ q = same_Some _ _ (sym h.is ∙ e) in subst (λ w. number_in w ≤ n) z (subst (λ w. reply_number w ≤ n) (sym z) b)
reply_is k n _ q reply h e b = absurd (none-some q (sym h ∙ e))

-- ---- every event

with_log : (n ceiling : ℕ) (t : State) → NumbersWithin n ceiling t → n ≤ drawn_count t.log → NumbersAreDrawn ceiling t
with_log n ceiling t h b = within_more n (drawn_count t.log) ceiling t b h

module _ (plan : PlanView) (k : Keeping) (ceiling : ℕ) (s : State) (h : NumbersAreDrawn ceiling s) (rest : List Message) (members : (x : Message) → Among x rest → Among x s.bag) where
  at_switch : (p : Packet) → number_in p ≤ drawn_count s.log → NumbersAreDrawn ceiling (switch_turn s rest p (pass s.switch p))
  at_switch (WriteReq caller op key body) b =
      let p : Packet = WriteReq caller op key body in
      let m : ℕ = drawn_count s.log + 1 in
      let old = within_more (drawn_count s.log) m ceiling s (omega arith) h in
      with_log m ceiling (switch_turn s rest (WriteReq caller op key body) (pass s.switch (WriteReq caller op key body))) (switch_in plan m ceiling s old rest members (WriteReq caller op key body) (omega arith) (λ e. let c = h.counter in omega (arith, c)))
      (log_numbered s op (pass s.switch (WriteReq caller op key body)).view.counter _)
  at_switch p b = with_log (drawn_count s.log) ceiling (switch_turn s rest p (pass s.switch p)) (switch_in plan (drawn_count s.log) ceiling s h rest members p b (λ e. absurd (true≢false (sym e)))) (log_more s (pass_notes p (pass s.switch p)))

  handled_in : (to : Party) (p : Packet) → number_in p ≤ drawn_count s.log → RepliesAt to p k.reply → AnswersWithin (ceiling_at to p ceiling) to k.reply → NumbersAreDrawn (ceiling_at to p ceiling) (handled plan k s rest to p)
  handled_in (Client c) p b ans within = with_log (drawn_count s.log) ceiling _ (client_event plan (drawn_count s.log) ceiling s h rest members c p b) (log_more s (client_takes plan.ops c (client_at s c) p).notes)
  handled_in Switch p b ans within = at_switch p b
  handled_in Controller p b ans within = with_log (drawn_count s.log) ceiling _ (control_in plan (drawn_count s.log) ceiling s h rest members (controller_takes plan.config s.controller p) (takes_in plan (drawn_count s.log) s.controller h.controller p b)) (log_more s (controller_takes plan.config s.controller p).notes)
  handled_in (Server i) p b ans within = with_log (drawn_count s.log) (max ceiling (put_number p)) _
      (server_in plan (drawn_count s.log) ceiling s h rest members i p k.reply b (λ q e. reply_is i (drawn_count s.log) p q k.reply ans e
      (let w : reply_number q ≤ max ceiling (put_number p) = subst (ReplyWithin (max ceiling (put_number p))) e within in let c = h.ceiling_too in let z = put_below p b in omega (arith, w, c, z))))
      (log_more s [])
    where
      put_below : (p : Packet) → number_in p ≤ drawn_count s.log → put_number p ≤ drawn_count s.log
      put_below (WriteFwd caller op key num body) b = b
      put_below (Store job item) b = b
      put_below _ b = omega arith

same_bag : (s : State) (x : Message) → Among x s.bag → Among x s.bag
same_bag s x a = a

order_in : (plan : PlanView) (ceiling : ℕ) (s : State) (o : Option Order) → NumbersAreDrawn ceiling s → NumbersAreDrawn ceiling (does_order plan s o)
order_in plan ceiling s None h = h
order_in plan ceiling s (Some (AdmitOrder step key)) h = with_log (drawn_count s.log) ceiling (controller_turn s s.bag (idle (wanted key s.controller))) (control_in plan (drawn_count s.log) ceiling s h s.bag (same_bag s) (idle (wanted key s.controller)) (wanted_in plan (drawn_count s.log) s.controller h.controller key)) (log_more s [])
order_in plan ceiling s (Some (EvictOrder step key)) h = with_log (drawn_count s.log) ceiling (controller_turn s s.bag (evict_key key s.controller)) (control_in plan (drawn_count s.log) ceiling s h s.bag (same_bag s) (evict_key key s.controller) (evict_in plan (drawn_count s.log) s.controller h.controller key)) (log_more s (evict_key key s.controller).notes)
order_in plan ceiling s (Some (SnapOrder step)) h = with_log (drawn_count s.log) ceiling (controller_turn s s.bag (start_snapshot s.controller)) (control_in plan (drawn_count s.log) ceiling s h s.bag (same_bag s) (start_snapshot s.controller) (snapshot_in plan (drawn_count s.log) s.controller h.controller)) (log_more s [])
order_in plan ceiling s (Some (StopOrder step)) h = with_log (drawn_count s.log) ceiling (stops plan s) (record {
  counter = omega arith;
  ceiling_too = h.ceiling_too;
  slots = λ i. subst (λ x. x.num ≤ drawn_count s.log) (sym (get_or-replicate_default plan.config.slots i empty_slot)) (omega arith);
  marks = λ i. subst (λ m. mark_number m ≤ drawn_count s.log) (sym (get_or-replicate_default plan.config.slots i None)) (omega arith);
  packets = h.packets;
  clients = h.clients;
  servers = h.servers;
  controller = h.controller;
}) (log_more s (Stopped ∷ []))
order_in plan ceiling s (Some (StopAtOrder kind times)) h = with_log (drawn_count s.log) ceiling (stops plan s) (record {
  counter = omega arith;
  ceiling_too = h.ceiling_too;
  slots = λ i. subst (λ x. x.num ≤ drawn_count s.log) (sym (get_or-replicate_default plan.config.slots i empty_slot)) (omega arith);
  marks = λ i. subst (λ m. mark_number m ≤ drawn_count s.log) (sym (get_or-replicate_default plan.config.slots i None)) (omega arith);
  packets = h.packets;
  clients = h.clients;
  servers = h.servers;
  controller = h.controller;
}) (log_more s (Stopped ∷ []))

pub step_in : (plan : PlanView) (k : Keeping) (ceiling : ℕ) (s : State) (e : Event) → NumbersAreDrawn ceiling s → KeepersAnswer ceiling s e k → NumbersAreDrawn (ceiling_after s e ceiling) (happens_with plan k s e)
step_in plan k ceiling s (Send c) h ans = go (client_at s c).left
  where
    request_in : (b : Bool) (op : ℕ) (line : OpLine) → number_in (cond b (GetReq c op line.key) (WriteReq c op line.key line.body)) ≤ drawn_count s.log
    request_in true op line = omega arith
    request_in false op line = omega arith

    go : (left : List ℕ) → NumbersAreDrawn ceiling (client_turn s c s.bag (next_sent plan.ops c (client_at s c) left))
    go [] = with_log (drawn_count s.log) ceiling (client_turn s c s.bag (next_sent plan.ops c (client_at s c) [])) (client_in plan (drawn_count s.log) ceiling s h s.bag (same_bag s) c (next_sent plan.ops c (client_at s c) []) (h.clients c) (λ o a. absurd a)) (log_more s [])
    go (op ∷ left) = with_log (drawn_count s.log) ceiling (client_turn s c s.bag (next_sent plan.ops c (client_at s c) (op ∷ left))) (client_in plan (drawn_count s.log) ceiling s h s.bag (same_bag s) c (next_sent plan.ops c (client_at s c) (op ∷ left)) (record { released = (h.clients c).released; preserved = (h.clients c).preserved }) (λ o a. one o a)) (log_more s (next_sent plan.ops c (client_at s c) (op ∷ left)).notes)
      where
        one : (o : Out) → Among o (to_party Switch (request c op (line_of plan.ops op)) ∷ []) → number_in o.packet ≤ drawn_count s.log
        one o (inl e) = subst (λ (w : Out). number_in w.packet ≤ drawn_count s.log) (sym e) (request_in (is_read (line_of plan.ops op).op) op (line_of plan.ops op))
        one o (inr a) = absurd a
step_in plan k ceiling s (Deliver i) h ans = go (slice_get s.bag i) refl ans.kind ans.within
  where
    go : (o : Option Message) → slice_get s.bag i ≡ o → RepliesToMessage o k.reply → AnswersMessageWithin (ceiling_by o ceiling) o k.reply → NumbersAreDrawn (ceiling_by o ceiling) (delivers plan k s i o)
    go None e r w = h
    go (Some m) e r w = handled_in plan k ceiling s h (remove s.bag i) (λ x a. among_remove x s.bag i a) m.to m.packet (h.packets m (among_at m s.bag i e)) r w
step_in plan k ceiling s Tick h ans = go (tick s.controller) refl
  where
    go : (o : Option (Turn ControllerState)) → tick s.controller ≡ o → NumbersAreDrawn ceiling (ticks s o)
    go None e = h
    go (Some t) e = with_log (drawn_count s.log) ceiling (controller_turn s s.bag t) (control_in plan (drawn_count s.log) ceiling s h s.bag (same_bag s) t (tick_in plan (drawn_count s.log) s.controller h.controller t e)) (log_more s t.notes)
step_in plan k ceiling s Recover h ans = with_log (drawn_count s.log) ceiling (controller_turn s s.bag (start_recovery plan.config s.controller)) (control_in plan (drawn_count s.log) ceiling s h s.bag (same_bag s) (start_recovery plan.config s.controller) (recovery_in plan (drawn_count s.log) s.controller h.controller)) (log_more s [])
step_in plan k ceiling s Restart h ans = go (ready s.controller) refl
  where
    counter_in : (o : Option Round) (counter : ℕ) → RoundWithin (drawn_count s.log) o → ready_in o ≡ Some counter → counter ≤ drawn_count s.log
    counter_in None counter b e = absurd (none-some counter e)
    counter_in (Some r) counter b e = by ((r.asked && list_all is_some r.tops) && (list_all has_told r.told && nat_eq r.stores 0)) e
      where
        by : (t : Bool) → cond t (Some (greatest_top r.tops)) None ≡ Some counter → counter ≤ drawn_count s.log
        by true z = subst (λ n. n ≤ drawn_count s.log) (same_Some (greatest_top r.tops) counter z) (top_within plan (drawn_count s.log) r.tops b)
        by false z = absurd (none-some counter z)

    go : (o : Option ℕ) → ready s.controller ≡ o → NumbersAreDrawn ceiling (restarts plan k s o)
    go None e = h
    go (Some counter) e = with_log (drawn_count s.log) ceiling (restarts plan k s (Some counter)) (record {
      counter = counter_in s.controller.round counter h.controller.round e;
      ceiling_too = h.ceiling_too;
      slots = λ i. subst (λ x. x.num ≤ drawn_count s.log) (sym (get_or-replicate_default plan.config.slots i empty_slot)) (omega arith);
      marks = λ i. subst (λ m. mark_number m ≤ drawn_count s.log) (sym (get_or-replicate_default plan.config.slots i None)) (omega arith);
      packets = h.packets;
      clients = h.clients;
      servers = h.servers;
      controller = record { eviction = h.controller.eviction; job = h.controller.job; point = h.controller.point; views = h.controller.views; round = tt };
    }) (log_more s (Recovered counter (length k.records) ∷ recovery_items k.records))
step_in plan k ceiling s (OrderOf j) h ans =
    let d = order_in plan ceiling s (slice_get plan.orders j) h in
    record { counter = d.counter; ceiling_too = d.ceiling_too; slots = d.slots; marks = d.marks; packets = d.packets; clients = d.clients; servers = d.servers; controller = d.controller }

pub opens_in : (plan : PlanView) → NumbersAreDrawn 0 (opening plan)
opens_in plan = record {
  counter = omega arith;
  ceiling_too = omega arith;
  slots = λ i. subst (λ x. x.num ≤ 0) (sym (get_or-replicate_default plan.config.slots i empty_slot)) (omega arith);
  marks = λ i. subst (λ m. mark_number m ≤ 0) (sym (get_or-replicate_default plan.config.slots i None)) (omega arith);
  packets = λ m a. absurd a;
  clients = λ c. clients plan.ops 0 plan.config.clients c;
  servers = λ i. subst (RecordsWithin 0) (sym (get_or-replicate_default plan.config.servers i [])) tt;
  controller = record { eviction = tt; job = tt; point = omega arith; views = tt; round = tt };
}
  where
    clients : (ops : List OpLine) (n more c : ℕ) → ClientWithin 0 (slice_index_or (clients_from ops n more) c nobody)
    clients ops n zero c = record { released = omega arith; preserved = tt }
    clients ops n (suc more) zero = record { released = omega arith; preserved = tt }
    clients ops n (suc more) (suc c) = clients ops (suc n) more c

pub run_in : (plan : PlanView) (ceiling : ℕ) (s : State) (events : List KeptEvent) → NumbersAreDrawn ceiling s → IsRunWith plan ceiling s events → NumbersAreDrawn (ceiling_with plan ceiling s events) (run_with plan s events)
run_in plan ceiling s [] h r = h
run_in plan ceiling s (e ∷ es) h r = run_in plan (ceiling_after s e.event ceiling) (happens_with plan e.keeping s e.event) es (step_in plan e.keeping ceiling s e.event h r.1) r.2

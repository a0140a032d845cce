-- What the controller sends: no removal of a latest slot but upon the answer to a store.
use Rattle.std.proofs.Common.{cond, true≢false, inl, inr, ◌⊎◌, sym, ◌∙◌, ◌≡◌, ℕ, zero, suc, ◌+◌, ◌-◌, ◌≤◌, ◌<◌, Bool, true, false, not, ◌&&◌, nat_eq, nat_le, nat_lt, List, [], ◌∷◌, ◌++◌, length, refl, subst, arith}
use Rattle.std.specs.Prelude.{slice_get, Option, None, Some, is_some, slice_index_or, slice_set}
use Rattle.far_base.specs.declared.packet.Out.{Out}
use Rattle.far_base.specs.declared.packet.Packet.{Packet}
use Rattle.far_base.specs.declared.packet.Packet.TheVariants.{Hot, AdmitAck, PeekAns, Remove, RemoveAns, SnapBegun, SnapRead, SnapPart, Stored, Release, Ask, Told, TopAsk, TopIs, SnapStart, SnapSame, SnapFrom}
use Rattle.far_base.specs.declared.party.Party.TheVariants.{Client, Switch, Server}
use Rattle.far_base.specs.declared.plan.Config.{Config}
use Rattle.far_base.specs.declared.record.Record.{Record}
use Rattle.far_base.specs.declared.slot_state.Due.TheVariants.{Over, Peeked, Removed, Stored as StoredDue}
use Rattle.far_model.specs.Controller.{ControllerState, to_clients, to_servers, store_of, first_want_dropped, admits_want, evicts, makes_room, tick, tick_room, tick_free, tick_want, tick_wants, evict_held, evict_key, acknowledged, evicts_on, peek_answered, removal_answered, start_snapshot, completes, job_turn, snapshot_begun, part_came, same_part, same_came, is_last_present, stores_of, snapshot_stores, start_recovery, store_outs, round_turn, told_round, client_told, round_stored, store_answered, top_told, controller_takes, wanted}
use Rattle.far_model.specs.Evictions.{Eviction, after_store, is_due, removing, Send, Store as StoreNext, Kept, is_free, has_key, holds_key, is_admitting, first_place, state_at, victim, after_peek, after_removal, waits_for, waits_job, TRIES, shown_item, hand_after}
use Rattle.far_model.specs.Members.{Among, Each}
use Rattle.far_model.specs.Parties.{Turn, idle, to_party}
use Rattle.far_model.specs.Rounds.{Round, asks_tops, has_told, telling_at}
use Rattle.far_model.specs.Snapshots.{Job, has_begun, has_part, is_whole, with_same, completed, part_reads}
use Rattle.far_base.specs.declared.slot_state.Due.{Due}
use Rattle.far_model.proofs.Members.{each_among}
use Rattle.model_laws.specs.Removals.{AsksNoLatestRemoval, IsUponStored, is_latest_removal}
use Rattle.std.proofs.lemmas.Bool.{eqb-true}

-- what holds of both branches
by_test : {A : Type 0} (P : A → Type 0) (b : Bool) (x y : A) → P x → P y → P (cond b x y)
by_test P true x y p q = p
by_test P false x y p q = q

abbrev pub IsClean : Out → Type 0
IsClean out = is_latest_removal out.packet ≡ false

abbrev pub is_stored : Packet → Bool
is_stored (Stored job) = true
is_stored _ = false

pub each_append : {A : Type 0} (P : A → Type 0) (xs ys : List A) → Each P xs → Each P ys → Each P (xs ++ ys)
each_append P [] ys h k = k
each_append P (x ∷ xs) ys h k = (h.0, each_append P xs ys h.1 k)

-- a turn of the controller asks to remove no latest slot
pub record Rules (t : Turn ControllerState) : Type 0 where
  pub out : Each (IsClean) t.out

module _ (config : Config) where
  -- ---- lists of messages

  clients_told : (n more : ℕ) (p : Packet) → ((c : ℕ) → c < config.clients → IsClean (to_party (Client c) p)) → n + more ≤ config.clients → Each (IsClean) (to_clients n more p)
  clients_told n zero p h le = tt
  clients_told n (suc more) p h le = (h n (omega arith), clients_told (suc n) more p h (omega arith))

  servers_told : (n more : ℕ) (p : Packet) → ((c : ℕ) → c < config.servers → IsClean (to_party (Server c) p)) → n + more ≤ config.servers → Each (IsClean) (to_servers n more p)
  servers_told n zero p h le = tt
  servers_told n (suc more) p h le = (h n (omega arith), servers_told (suc n) more p h (omega arith))

  store_control : (job : ℕ) (item : Record) → IsClean (store_of config job item)
  store_control job item = refl

  stores_control : (job : ℕ) (items : List Record) → Each (IsClean) (stores_of config job items)
  stores_control job [] = tt
  stores_control job (r ∷ rs) = (store_control job r, stores_control (suc job) rs)

  reads_control : (epoch id i : ℕ) (parts : List (Option (Option Record))) → Each (IsClean) (part_reads epoch id i parts)
  reads_control epoch id i [] = tt
  reads_control epoch id i (part ∷ parts) = by_test (Each (IsClean)) (is_some part) (part_reads epoch id (suc i) parts) (to_party Switch (SnapRead epoch id i) ∷ part_reads epoch id (suc i) parts)
      (reads_control epoch id (suc i) parts) (refl, reads_control epoch id (suc i) parts)

  -- ---- wants and evictions

  pub idle_rules : (c : ControllerState) → Rules (idle c)
  idle_rules c = record { out = tt }

  evicts_rules : (c : ControllerState) (for_want : Bool) (i : ℕ) → Rules (evicts c for_want i)
  evicts_rules c for_want i = record { out = (refl, tt) }

  admits_rules : (c : ControllerState) (key : List ℕ) (i : ℕ) → Rules (admits_want c key i)
  admits_rules c key i = record { out = (refl, tt) }

  -- a tick that can happen
  abbrev RulesIfSome : Option (Turn ControllerState) → Type 0
  RulesIfSome None = Unit {0}
  RulesIfSome (Some t) = Rules t

  room_rules : (c : ControllerState) (o : Option ℕ) → RulesIfSome (tick_room c o)
  room_rules c None = tt
  room_rules c (Some i) = by_test RulesIfSome (is_some c.eviction) None (Some (makes_room c i)) tt (evicts_rules (record c { hand = hand_after i c.slots }) true i)

  free_rules : (c : ControllerState) (key : List ℕ) (o : Option ℕ) → RulesIfSome (tick_free c key o)
  free_rules c key None = room_rules c (victim c.hand c.slots)
  free_rules c key (Some i) = admits_rules c key i

  want_rules : (c : ControllerState) (key : List ℕ) (o : Option ℕ) → RulesIfSome (tick_want c key o)
  want_rules c key None = free_rules c key (first_place is_free c.slots)
  want_rules c key (Some i) = idle_rules (first_want_dropped c)

  wants_rules : (c : ControllerState) (keys : List (List ℕ)) → RulesIfSome (tick_wants c keys)
  wants_rules c [] = tt
  wants_rules c (key ∷ keys) = want_rules c key (first_place (has_key key) c.slots)

  tick_if_rules : (c : ControllerState) → RulesIfSome (tick c)
  tick_if_rules c = by_test RulesIfSome (is_some c.round) None (tick_wants c c.wants) tt (wants_rules c c.wants)

  pub tick_rules : (c : ControllerState) (t : Turn ControllerState) → tick c ≡ Some t → Rules t
  tick_rules c t e = subst RulesIfSome e (tick_if_rules c)

  held_rules : (c : ControllerState) (o : Option ℕ) → Rules (evict_held c o)
  held_rules c None = idle_rules c
  held_rules c (Some i) = evicts_rules c false i

  pub evict_rules : (key : List ℕ) (c : ControllerState) → Rules (evict_key key c)
  evict_rules key c = held_rules c (first_place (holds_key key) c.slots)

  acknowledged_rules : (c : ControllerState) (i tag : ℕ) → Rules (acknowledged c i tag)
  acknowledged_rules c i tag = by_test (Rules) (is_admitting tag (state_at c.slots i)) _ (idle c) (record { out = tt }) (idle_rules c)

  removal_sent : (c : ControllerState) (e : Eviction) (epoch i tag num : ℕ) → Rules (evicts_on config c e (Send (Remove epoch i tag false num)))
  removal_sent c e epoch i tag num = record { out = (refl, tt) }

  store_sent : (c : ControllerState) (e : Eviction) (item : Record) → Rules (evicts_on config c e (StoreNext item))
  store_sent c e item = record { out = (store_control c.next_job item, tt) }

  peeked_rules : (c : ControllerState) (e : Eviction) (latest : Bool) (num : ℕ) (body : Option (List ℕ)) → Rules (evicts_on config c e (after_peek e latest num body))
  peeked_rules c e true num body = store_sent c e (shown_item e num body)
  peeked_rules c e false num body = removal_sent c e e.epoch e.slot e.tag 0

  peek_rules : (c : ControllerState) (i tag : ℕ) (latest : Bool) (num : ℕ) (body : Option (List ℕ)) (o : Option Eviction) → Rules (peek_answered config c i tag latest num body o)
  peek_rules c i tag latest num body None = idle_rules c
  peek_rules c i tag latest num body (Some e) = by_test (Rules) (waits_for Peeked i tag e) (evicts_on config c e (after_peek e latest num body)) (idle c) (peeked_rules c e latest num body) (idle_rules c)

  removed_rules : (c : ControllerState) (e : Eviction) (done : Bool) (num : ℕ) (body : Option (List ℕ)) → Rules (evicts_on config c e (after_removal e done num body))
  removed_rules c e true num body = record { out = tt }
  removed_rules c e false num body = by_test (λ n. Rules (evicts_on config c e n)) (nat_eq e.tries TRIES) (Kept TRIES (shown_item e num body)) (StoreNext (shown_item e num body)) (record { out = tt }) (store_sent c e (shown_item e num body))

  removal_rules : (c : ControllerState) (i tag : ℕ) (done : Bool) (num : ℕ) (body : Option (List ℕ)) (o : Option Eviction) → Rules (removal_answered config c i tag done num body o)
  removal_rules c i tag done num body None = idle_rules c
  removal_rules c i tag done num body (Some e) = by_test (Rules) (waits_for Removed i tag e) (evicts_on config c e (after_removal e done num body)) (idle c) (removed_rules c e done num body) (idle_rules c)

  -- ---- snapshots

  pub snapshot_rules : (c : ControllerState) → Rules (start_snapshot c)
  snapshot_rules c = record { out = (by_test (λ p. IsClean (to_party Switch p)) (is_last_present c) (SnapFrom c.epoch c.next_id c.last.id) (SnapStart c.epoch c.next_id) (refl) (refl), tt) }

  release_control : (point c : ℕ) → c < config.clients → IsClean (to_party (Client c) (Release point))
  release_control point c h = refl

  job_rules : (c : ControllerState) (job : Job) (out : List Out) → Each (IsClean) out → Rules (job_turn config c job out)
  job_rules c job out h = by_test (Rules) (is_whole job) (completes config c (completed job) job.sames) _
      (record { out = clients_told 0 config.clients (Release (completed job).point) (release_control (completed job).point) (omega arith) }) (record { out = h })

  begun_rules : (c : ControllerState) (id point : ℕ) (o : Option Job) → Rules (snapshot_begun config c id point o)
  begun_rules c id point None = idle_rules c
  begun_rules c id point (Some job) = by_test (Rules) (nat_eq job.id id && not (has_begun job)) _ (idle c)
      (job_rules c (record job { begun = Some point }) (part_reads c.epoch id 0 job.parts) (reads_control c.epoch id 0 job.parts)) (idle_rules c)

  part_rules : (c : ControllerState) (id i : ℕ) (view : Option Record) (o : Option Job) → Rules (part_came config c id i view o)
  part_rules c id i view None = idle_rules c
  part_rules c id i view (Some job) = by_test (Rules) (nat_eq job.id id && (nat_lt i (length job.parts) && not (has_part job i))) _ (idle c) (job_rules c (record job { parts = slice_set job.parts i (Some view) }) [] tt) (idle_rules c)

  same_rules : (c : ControllerState) (id i : ℕ) (o : Option Job) → Rules (same_came config c id i o)
  same_rules c id i None = idle_rules c
  same_rules c id i (Some job) = go (slice_get c.last.views i)
    where
      go : (o : Option (Option Record)) → Rules (same_part config c id i job o)
      go None = idle_rules c
      go (Some view) = by_test (Rules) (nat_eq job.id id && (nat_lt i (length job.parts) && not (has_part job i))) (job_turn config c (with_same job i view) []) (idle c) (job_rules c (with_same job i view) [] tt) (idle_rules c)

  -- ---- rounds

  ask_control : (round c : ℕ) → c < config.clients → IsClean (to_party (Client c) (Ask round))
  ask_control round c h = refl

  top_control : (round c : ℕ) → c < config.servers → IsClean (to_party (Server c) (TopAsk round))
  top_control round c h = refl

  pub recovery_rules : (c : ControllerState) → Rules (start_recovery config c)
  recovery_rules c = record { out = each_append (IsClean) (to_clients 0 config.clients (Ask c.next_round)) (stores_of config c.next_job (snapshot_stores c)) (clients_told 0 config.clients (Ask c.next_round) (ask_control c.next_round) (omega arith)) (stores_control c.next_job (snapshot_stores c)) }

  round_rules : (c : ControllerState) (r : Round) (out : List Out) → Each (IsClean) out → Rules (round_turn config c r out)
  round_rules c r out h = by_test (Rules) (asks_tops r) _ _
      (record { out = each_append (IsClean) out (to_servers 0 config.servers (TopAsk r.number)) h (servers_told 0 config.servers (TopAsk r.number) (top_control r.number) (omega arith)) })
      (record { out = h })

  store_outs_control : (job : ℕ) (item : Option Record) → Each (IsClean) (store_outs config job item)
  store_outs_control job None = tt
  store_outs_control job (Some item) = (store_control job item, tt)

  told_rules : (c : ControllerState) (number caller total : ℕ) (item : Option Record) (o : Option Round) → Rules (client_told config c number caller total item o)
  told_rules c number caller total item None = idle_rules c
  told_rules c number caller total item (Some r) = by_test (Rules) (nat_eq r.number number && (nat_lt caller (length r.told) && not (has_told (telling_at r caller)))) _ (idle c)
      (round_rules (record c { next_job = c.next_job + length (store_outs config c.next_job item) }) (told_round r caller total (length (store_outs config c.next_job item))) (store_outs config c.next_job item) (store_outs_control c.next_job item)) (idle_rules c)

  stored_rules : (c : ControllerState) (job : ℕ) (o : Option Round) → Rules (round_stored config c job o)
  stored_rules c job None = idle_rules c
  stored_rules c job (Some r) = by_test (Rules) (nat_le r.first_job job && (nat_lt job c.next_job && not (nat_eq r.stores 0))) _ (idle c) (round_rules c (record r { stores = r.stores - 1 }) [] tt) (idle_rules c)

  top_rules : (c : ControllerState) (number server top : ℕ) (o : Option Round) → Rules (top_told config c number server top o)
  top_rules c number server top None = idle_rules c
  top_rules c number server top (Some r) = by_test (Rules) (nat_eq r.number number && (r.asked && (nat_lt server (length r.tops) && not (is_some (slice_index_or r.tops server None))))) _ (idle c) (record { out = tt }) (idle_rules c)

  -- ---- packets

  pub takes_rules : (c : ControllerState) (p : Packet) → is_stored p ≡ false → Rules (controller_takes config c p)
  takes_rules c (Hot key) other = idle_rules (wanted key c)
  takes_rules c (AdmitAck i tag) other = acknowledged_rules c i tag
  takes_rules c (PeekAns i tag latest num body) other = peek_rules c i tag latest num body c.eviction
  takes_rules c (RemoveAns i tag done latest num body) other = removal_rules c i tag done num body c.eviction
  takes_rules c (SnapBegun id point) other = begun_rules c id point c.job
  takes_rules c (SnapPart id i view) other = part_rules c id i view c.job
  takes_rules c (SnapSame id i) other = same_rules c id i c.job
  takes_rules c (Stored job) stored = absurd (true≢false stored)
  takes_rules c (Told number caller total item) other = told_rules c number caller total item c.round
  takes_rules c (TopIs number server top) other = top_rules c number server top c.round
  takes_rules c _ other = idle_rules c

  -- ---- the answer to a store

  both : (a b : Bool) → (a && b) ≡ true → (a ≡ true) × (b ≡ true)
  both true true h = (refl, refl)
  both true false h = absurd (true≢false (sym h))
  both false b h = absurd (true≢false (sym h))

  due_stored : (d : Due) → is_due d StoredDue ≡ true → d ≡ StoredDue
  due_stored StoredDue h = refl
  due_stored Peeked h = absurd (true≢false (sym h))
  due_stored Removed h = absurd (true≢false (sym h))
  due_stored Over h = absurd (true≢false (sym h))

  clean : {P : Type 0} (outs : List Out) (out : Out) → Each IsClean outs → Among out outs → is_latest_removal out.packet ≡ true → P
  clean outs out h a k = absurd (true≢false (sym k ∙ each_among IsClean out outs h a))

  stored_answer : (c : ControllerState) (job : ℕ) (out : Out) (o : Option Eviction) → c.eviction ≡ o → Among out (store_answered config c job o).out → is_latest_removal out.packet ≡ true → IsUponStored c (Stored job) out
  stored_answer c job out None e a k = clean _ out (stored_rules c job c.round).out a k
  stored_answer c job out (Some v) e a k = go (waits_job job v) refl a
    where
      one : waits_job job v ≡ true → (out ≡ to_party Switch (after_store v)) ⊎ ⊥ → IsUponStored c (Stored job) out
      one w (inl same) =
          let b = both (is_due v.due StoredDue) (nat_eq v.job job) w in
          record { job = job; is = refl; eviction = v; under = e; waits = due_stored v.due b.0; own = eqb-true v.job job b.1; asks = same }
      one w (inr none) = absurd none

      go : (b : Bool) → waits_job job v ≡ b → Among out (cond b (record { state = record c { eviction = Some (removing v) }; out = to_party Switch (after_store v) ∷ []; notes = [] }) (round_stored config c job c.round)).out → IsUponStored c (Stored job) out
      go true w m = one w m
      go false w m = clean _ out (stored_rules c job c.round).out m k

  pub upon_stored : (c : ControllerState) (packet : Packet) (out : Out) → Among out (controller_takes config c packet).out → is_latest_removal out.packet ≡ true → IsUponStored c packet out
  upon_stored c (Stored job) out a k = stored_answer c job out c.eviction refl a k
  upon_stored c packet out a k = clean (controller_takes config c packet).out out (takes_rules c packet refl).out a k

pub asks_none : (t : Turn ControllerState) → Rules t → AsksNoLatestRemoval t.out
asks_none t h out a = each_among IsClean out t.out h.out a

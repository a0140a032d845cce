-- How much a turn of the controller sends and notes.
use Rattle.std.proofs.Common.{◌≡◌, ℕ, zero, suc, ◌+◌, ◌-◌, ◌<◌, ◌≤◌, Bool, true, false, cond, List, [], ◌∷◌, ◌++◌, length, map, take, refl, sym, ap, ◌∙◌, Some, None, get_or, append_assoc, arith, length-append}
use Rattle.std.proofs.lemmas.List.{length-set, length-take}
use Rattle.std.specs.Prelude.{Option, is_some, nat_eq, nat_le, nat_lt, not, slice_get, slice_index_or, slice_set, ◌&&◌}
use Rattle.far_base.specs.declared.packet.Out.{Out}
use Rattle.far_base.specs.declared.packet.Packet.{Packet}
use Rattle.far_base.specs.declared.packet.Packet.TheVariants.{Hot, AdmitAck, PeekAns, RemoveAns, SnapBegun, SnapPart, SnapSame, Stored, Told, TopIs, Release, Ask, TopAsk}
use Rattle.far_base.specs.declared.log.LogEntry.{LogEntry}
use Rattle.far_base.specs.declared.log.LogEntry.TheVariants.{Admitted, SnapItem}
use Rattle.far_base.specs.declared.party.Party.TheVariants.{Switch}
use Rattle.far_base.specs.declared.plan.Config.{Config}
use Rattle.far_base.specs.declared.record.Record.{Record}
use Rattle.far_base.specs.declared.slot_state.Due.TheVariants.{Peeked, Removed}
use Rattle.far_model.specs.Controller.{ControllerState, acked_state, acknowledged, client_told, completes, controller_takes, drop_want_if, evict_held, evicts_on, job_turn, makes_room, numbered_records, part_came, peek_answered, removal_answered, round_stored, round_turn, same_came, same_part, snapshot_begun, snapshot_stores, store_answered, store_outs, stores_of, tick_free, tick_room, tick_want, tick_wants, to_clients, to_servers, told_round, top_told, with_state}
use Rattle.far_model.specs.Evictions.{Eviction, Next, Send, Store, Done, Kept, after_peek, after_removal, first_place, has_key, holds_key, is_admitting, is_free, key_in, state_at, victim, waits_for, waits_job, after_store, removing}
use Rattle.far_model.specs.Parties.{Turn, idle, to_party}
use Rattle.far_model.specs.Rounds.{Round, asks_tops, has_told, telling_at}
use Rattle.far_model.specs.Snapshots.{Job, completed, has_begun, has_part, is_whole, part_reads, view_in, view_items, view_records, with_part, with_same}
use Rattle.far_base.proofs.Taken.{taken}
use Rattle.far_world.specs.Tasks.{FitsConfig, IsSmall, task_turn, tick_turn}
use Rattle.far_world.specs.declared.tasks.Task.{Task}
use Rattle.far_world.specs.declared.tasks.Task.TheVariants.{Take, Tick, Recover, Want, Evict, Snap}

-- ---- lengths

length_clients : (n k : ℕ) (packet : Packet) → length (to_clients n k packet) ≡ k
length_clients n zero packet = refl
length_clients n (suc k) packet = ap suc (length_clients (suc n) k packet)

length_servers : (n k : ℕ) (packet : Packet) → length (to_servers n k packet) ≡ k
length_servers n zero packet = refl
length_servers n (suc k) packet = ap suc (length_servers (suc n) k packet)

length_reads : (epoch id i : ℕ) (parts : List (Option (Option Record))) → length (part_reads epoch id i parts) ≤ length parts
length_reads epoch id i [] = omega arith
length_reads epoch id i (None ∷ parts) = omega (arith, length_reads epoch id (suc i) parts)
length_reads epoch id i (Some part ∷ parts) = omega (arith, length_reads epoch id (suc i) parts)

length_items : (i : ℕ) (views : List (Option Record)) → length (view_items i views) ≤ length views
length_items i [] = omega arith
length_items i (None ∷ views) = omega (arith, length_items (suc i) views)
length_items i (Some item ∷ views) = omega (arith, length_items (suc i) views)

length_records : (views : List (Option Record)) → length (view_records views) ≤ length views
length_records [] = omega arith
length_records (None ∷ views) = omega (arith, length_records views)
length_records (Some item ∷ views) = omega (arith, length_records views)

length_numbered : (rs : List Record) → length (numbered_records rs) ≤ length rs
length_numbered [] = omega arith
length_numbered (r ∷ rs) = go (nat_eq r.num 0) (length_numbered rs)
  where
    go : (b : Bool) → length (numbered_records rs) ≤ length rs → length (cond b (numbered_records rs) (r ∷ numbered_records rs)) ≤ suc (length rs)
    go true h = omega (arith, h)
    go false h = omega (arith, h)

length_stores : (config : Config) (job : ℕ) (rs : List Record) → length (stores_of config job rs) ≡ length rs
length_stores config job [] = refl
length_stores config job (r ∷ rs) = ap suc (length_stores config (suc job) rs)

length_views : (parts : List (Option (Option Record))) → length (map view_in parts) ≡ length parts
length_views [] = refl
length_views (part ∷ parts) = ap suc (length_views parts)

-- ---- turns

module _ (config : Config) where
  small_if : (b : Bool) (t u : Turn ControllerState) → IsSmall config t → IsSmall config u → IsSmall config (cond b t u)
  small_if true t u h k = h
  small_if false t u h k = k

  small_idle : (c : ControllerState) → length c.last.views ≤ config.slots → IsSmall config (idle c)
  small_idle c h = record { outs = omega arith; noted = omega arith; views = h }

  -- one packet or none, one note or none, and the same snapshot
  small_one : (t : Turn ControllerState) → length t.out ≤ 1 → length t.notes ≤ 1 → length t.state.last.views ≤ config.slots → IsSmall config t
  small_one t a b h = record { outs = omega (arith, a); noted = omega (arith, b); views = h }

  small_evicts_on : (c : ControllerState) (e : Eviction) (next : Next) → length c.last.views ≤ config.slots → IsSmall config (evicts_on config c e next)
  small_evicts_on c e (Send packet) h = small_one (evicts_on config c e (Send packet)) (omega arith) (omega arith) h
  small_evicts_on c e (Store item) h = small_one (evicts_on config c e (Store item)) (omega arith) (omega arith) h
  small_evicts_on c e (Done tries) h = small_one (evicts_on config c e (Done tries)) (omega arith) (omega arith) h
  small_evicts_on c e (Kept tries last) h = go e.for_want
    where
      go : (b : Bool) → IsSmall config (record (evicts_on config c e (Kept tries last)) { state = drop_want_if b (evicts_on config c (record e { for_want = false }) (Kept tries last)).state })
      go true = record { outs = omega arith; noted = omega arith; views = h }
      go false = record { outs = omega arith; noted = omega arith; views = h }

  small_peek : (c : ControllerState) (i tag : ℕ) (latest : Bool) (num : ℕ) (body : Option (List ℕ)) (e : Option Eviction) → length c.last.views ≤ config.slots → IsSmall config (peek_answered config c i tag latest num body e)
  small_peek c i tag latest num body None h = small_idle c h
  small_peek c i tag latest num body (Some e) h = small_if (waits_for Peeked i tag e) (evicts_on config c e (after_peek e latest num body)) (idle c) (small_evicts_on c e (after_peek e latest num body) h) (small_idle c h)

  small_removal : (c : ControllerState) (i tag : ℕ) (done : Bool) (num : ℕ) (body : Option (List ℕ)) (e : Option Eviction) → length c.last.views ≤ config.slots → IsSmall config (removal_answered config c i tag done num body e)
  small_removal c i tag done num body None h = small_idle c h
  small_removal c i tag done num body (Some e) h = small_if (waits_for Removed i tag e) (evicts_on config c e (after_removal e done num body)) (idle c) (small_evicts_on c e (after_removal e done num body) h) (small_idle c h)

  small_job : (c : ControllerState) (job : Job) (out : List Out) → length c.last.views ≤ config.slots → length job.parts ≡ config.slots → length out ≤ config.slots → IsSmall config (job_turn config c job out)
  small_job c job out h n few = small_if (is_whole job) (completes config c (completed job) job.sames) (record { state = record c { job = Some job }; out = out; notes = [] })
      (record {
        outs = omega (arith, length_clients 0 config.clients (Release (completed job).point));
        noted = omega (arith, length_items 0 (map view_in job.parts), length_views job.parts, n);
        views = omega (arith, length_views job.parts, n);
      })
      (record { outs = omega (arith, few); noted = omega arith; views = h })

  small_begun : (c : ControllerState) (id point : ℕ) (job : Option Job) → length c.last.views ≤ config.slots → ((j : Job) → job ≡ Some j → length j.parts ≡ config.slots) → IsSmall config (snapshot_begun config c id point job)
  small_begun c id point None h n = small_idle c h
  small_begun c id point (Some job) h n = small_if (nat_eq job.id id && not (has_begun job)) (job_turn config c (record job { begun = Some point }) (part_reads c.epoch id 0 job.parts)) (idle c)
      (small_job c (record job { begun = Some point }) (part_reads c.epoch id 0 job.parts) h (n job refl) (omega (arith, length_reads c.epoch id 0 job.parts, n job refl)))
      (small_idle c h)

  small_part : (c : ControllerState) (id i : ℕ) (view : Option Record) (job : Option Job) → length c.last.views ≤ config.slots → ((j : Job) → job ≡ Some j → length j.parts ≡ config.slots) → IsSmall config (part_came config c id i view job)
  small_part c id i view None h n = small_idle c h
  small_part c id i view (Some job) h n = small_if (nat_eq job.id id && (nat_lt i (length job.parts) && not (has_part job i))) (job_turn config c (with_part job i view) []) (idle c)
      (small_job c (with_part job i view) [] h (length-set job.parts i (Some view) ∙ n job refl) (omega arith)) (small_idle c h)

  small_same_part : (c : ControllerState) (id i : ℕ) (job : Job) (view : Option (Option Record)) → length c.last.views ≤ config.slots → length job.parts ≡ config.slots → IsSmall config (same_part config c id i job view)
  small_same_part c id i job None h n = small_idle c h
  small_same_part c id i job (Some view) h n = small_if (nat_eq job.id id && (nat_lt i (length job.parts) && not (has_part job i))) (job_turn config c (with_same job i view) []) (idle c)
      (small_job c (with_same job i view) [] h (length-set job.parts i (Some view) ∙ n) (omega arith)) (small_idle c h)

  small_same : (c : ControllerState) (id i : ℕ) (job : Option Job) → length c.last.views ≤ config.slots → ((j : Job) → job ≡ Some j → length j.parts ≡ config.slots) → IsSmall config (same_came config c id i job)
  small_same c id i None h n = small_idle c h
  small_same c id i (Some job) h n = small_same_part c id i job (slice_get c.last.views i) h (n job refl)

  small_round : (c : ControllerState) (r : Round) (out : List Out) → length c.last.views ≤ config.slots → length out ≤ 1 → IsSmall config (round_turn config c r out)
  small_round c r out h few = small_if (asks_tops r) (record { state = record c { round = Some (record r { asked = true }) }; out = out ++ to_servers 0 config.servers (TopAsk r.number); notes = [] }) (record { state = record c { round = Some r }; out = out; notes = [] })
      (record { outs = omega (arith, length-append out (to_servers 0 config.servers (TopAsk r.number)), length_servers 0 config.servers (TopAsk r.number), few); noted = omega arith; views = h })
      (record { outs = omega (arith, few); noted = omega arith; views = h })

  few_stores : (job : ℕ) (item : Option Record) → length (store_outs config job item) ≤ 1
  few_stores job None = omega arith
  few_stores job (Some item) = omega arith

  small_told : (c : ControllerState) (number caller total : ℕ) (item : Option Record) (r : Option Round) → length c.last.views ≤ config.slots → IsSmall config (client_told config c number caller total item r)
  small_told c number caller total item None h = small_idle c h
  small_told c number caller total item (Some r) h = let new = length (store_outs config c.next_job item) in
      small_if (nat_eq r.number number && (nat_lt caller (length r.told) && not (has_told (telling_at r caller))))
      (round_turn config (record c { next_job = c.next_job + new }) (told_round r caller total new) (store_outs config c.next_job item)) (idle c)
      (small_round (record c { next_job = c.next_job + new }) (told_round r caller total new) (store_outs config c.next_job item) h (few_stores c.next_job item)) (small_idle c h)

  small_round_stored : (c : ControllerState) (job : ℕ) (r : Option Round) → length c.last.views ≤ config.slots → IsSmall config (round_stored config c job r)
  small_round_stored c job None h = small_idle c h
  small_round_stored c job (Some r) h = small_if (nat_le r.first_job job && (nat_lt job c.next_job && not (nat_eq r.stores 0))) (round_turn config c (record r { stores = r.stores - 1 }) []) (idle c)
      (small_round c (record r { stores = r.stores - 1 }) [] h (omega arith)) (small_idle c h)

  small_stored : (c : ControllerState) (job : ℕ) (e : Option Eviction) → length c.last.views ≤ config.slots → IsSmall config (store_answered config c job e)
  small_stored c job None h = small_round_stored c job c.round h
  small_stored c job (Some e) h = small_if (waits_job job e) (record { state = record c { eviction = Some (removing e) }; out = to_party Switch (after_store e) ∷ []; notes = [] }) (round_stored config c job c.round)
      (record { outs = omega arith; noted = omega arith; views = h }) (small_round_stored c job c.round h)

  small_top : (c : ControllerState) (number server top : ℕ) (r : Option Round) → length c.last.views ≤ config.slots → IsSmall config (top_told config c number server top r)
  small_top c number server top None h = small_idle c h
  small_top c number server top (Some r) h = small_if (nat_eq r.number number && (r.asked && (nat_lt server (length r.tops) && not (is_some (slice_index_or r.tops server None)))))
      (record { state = record c { round = Some (record r { tops = slice_set r.tops server (Some top) }) }; out = []; notes = [] }) (idle c)
      (record { outs = omega arith; noted = omega arith; views = h }) (small_idle c h)

  small_acked : (c : ControllerState) (i tag : ℕ) → length c.last.views ≤ config.slots → IsSmall config (acknowledged c i tag)
  small_acked c i tag h = small_if (is_admitting tag (state_at c.slots i)) (record { state = with_state c i (acked_state (state_at c.slots i)); out = []; notes = Admitted i (key_in (state_at c.slots i)) tag ∷ [] }) (idle c)
      (record { outs = omega arith; noted = omega arith; views = h }) (small_idle c h)

  small_wanted : (b : Bool) (key : List ℕ) (c : ControllerState) → length c.last.views ≤ config.slots → IsSmall config (idle (cond b c (record c { wants = c.wants ++ key ∷ [] })))
  small_wanted true key c h = small_idle c h
  small_wanted false key c h = record { outs = omega arith; noted = omega arith; views = h }

  small_takes : (c : ControllerState) (packet : Packet) → FitsConfig config c → IsSmall config (controller_takes config c packet)
  small_takes c (Hot key) f = small_wanted (is_some c.round) key c f.views
  small_takes c (AdmitAck i tag) f = small_acked c i tag f.views
  small_takes c (PeekAns i tag latest num body) f = small_peek c i tag latest num body c.eviction f.views
  small_takes c (RemoveAns i tag done latest num body) f = small_removal c i tag done num body c.eviction f.views
  small_takes c (SnapBegun id point) f = small_begun c id point c.job f.views f.parts
  small_takes c (SnapPart id i view) f = small_part c id i view c.job f.views f.parts
  small_takes c (SnapSame id i) f = small_same c id i c.job f.views f.parts
  small_takes c (Stored job) f = small_stored c job c.eviction f.views
  small_takes c (Told number caller total item) f = small_told c number caller total item c.round f.views
  small_takes c (TopIs number server top) f = small_top c number server top c.round f.views
  small_takes c _ f = small_idle c f.views

  small_tick_room : (c : ControllerState) (i : Option ℕ) → length c.last.views ≤ config.slots → IsSmall config (tick_turn c (tick_room c i))
  small_tick_room c None h = small_idle c h
  small_tick_room c (Some i) h = go (is_some c.eviction)
    where
      go : (b : Bool) → IsSmall config (tick_turn c (cond b None (Some (makes_room c i))))
      go true = small_idle c h
      go false = record { outs = omega arith; noted = omega arith; views = h }

  small_tick_free : (c : ControllerState) (key : List ℕ) (i : Option ℕ) → length c.last.views ≤ config.slots → IsSmall config (tick_turn c (tick_free c key i))
  small_tick_free c key None h = small_tick_room c (victim c.hand c.slots) h
  small_tick_free c key (Some i) h = record { outs = omega arith; noted = omega arith; views = h }

  small_tick_want : (c : ControllerState) (key : List ℕ) (i : Option ℕ) → length c.last.views ≤ config.slots → IsSmall config (tick_turn c (tick_want c key i))
  small_tick_want c key None h = small_tick_free c key (first_place is_free c.slots) h
  small_tick_want c key (Some i) h = record { outs = omega arith; noted = omega arith; views = h }

  small_tick_wants : (c : ControllerState) (wants : List (List ℕ)) → length c.last.views ≤ config.slots → IsSmall config (tick_turn c (tick_wants c wants))
  small_tick_wants c [] h = small_idle c h
  small_tick_wants c (key ∷ keys) h = small_tick_want c key (first_place (has_key key) c.slots) h

  small_tick : (b : Bool) (c : ControllerState) → length c.last.views ≤ config.slots → IsSmall config (tick_turn c (cond b None (tick_wants c c.wants)))
  small_tick true c h = small_idle c h
  small_tick false c h = small_tick_wants c c.wants h

  small_evict : (c : ControllerState) (i : Option ℕ) → length c.last.views ≤ config.slots → IsSmall config (evict_held c i)
  small_evict c None h = small_idle c h
  small_evict c (Some i) h = record { outs = omega arith; noted = omega arith; views = h }

  pub small_task : (c : ControllerState) (task : Task) → FitsConfig config c → IsSmall config (task_turn config c task)
  small_task c (Take packet) f = small_takes c packet.now f
  small_task c Tick f = small_tick (is_some c.round) c f.views
  small_task c Recover f = record {
    outs = omega (arith, length-append (to_clients 0 config.clients (Ask c.next_round)) (stores_of config c.next_job (snapshot_stores c)), length_clients 0 config.clients (Ask c.next_round), length_stores config c.next_job (snapshot_stores c), length_numbered (view_records c.last.views), length_records c.last.views, f.views);
    noted = omega arith;
    views = f.views;
  }
  small_task c (Want key) f = small_wanted (is_some c.round) key c f.views
  small_task c (Evict key) f = small_evict c (first_place (holds_key key) c.slots) f.views
  small_task c Snap f = record { outs = omega arith; noted = omega arith; views = f.views }

-- ---- the records of views

records_append : (xs ys : List (Option Record)) → view_records (xs ++ ys) ≡ view_records xs ++ view_records ys
records_append [] ys = refl
records_append (None ∷ xs) ys = records_append xs ys
records_append (Some x ∷ xs) ys = ap (λ (rs : List Record). x ∷ rs) (records_append xs ys)

items_append : (i : ℕ) (xs ys : List (Option Record)) → view_items i (xs ++ ys) ≡ view_items i xs ++ view_items (i + length xs) ys
items_append i [] ys = let z : i + 0 ≡ i = omega arith in rw z refl
items_append i (None ∷ xs) ys = let e : i + suc (length xs) ≡ suc i + length xs = omega arith in rw e (items_append (suc i) xs ys)
items_append i (Some x ∷ xs) ys = let e : i + suc (length xs) ≡ suc i + length xs = omega arith in rw e (ap (λ (es : List LogEntry). SnapItem i x ∷ es) (items_append (suc i) xs ys))

pub records_on : (xs : List (Option Record)) (i : ℕ) (x : Option Record) → slice_get xs i ≡ Some x → view_records (take (i + 1) xs) ≡ view_records (take i xs) ++ view_records (x ∷ [])
records_on xs i x h = rw (taken xs i x h) (records_append (take i xs) (x ∷ []))

pub items_on : (xs : List (Option Record)) (i : ℕ) (x : Option Record) → i < length xs → slice_get xs i ≡ Some x → view_items 0 (take (i + 1) xs) ≡ view_items 0 (take i xs) ++ view_items i (x ∷ [])
items_on xs i x less h =
    let n : 0 + length (take i xs) ≡ i = omega (arith, length-take i xs) in
    rw (taken xs i x h, items_append 0 (take i xs) (x ∷ []), n) refl

pub there_is : {A : Type 0} → (xs : List A) (i : ℕ) (x : A) → i < length xs → x ≡ get_or xs i x → slice_get xs i ≡ Some x
there_is [] i x less e = absurd (omega arith)
there_is (y ∷ ys) zero x less e = ap Some (sym e)
there_is (y ∷ ys) (suc i) x less e = there_is ys i x (omega arith) e

pub counts_some : (xs : List (Option Record)) (i : ℕ) (x : Option Record) (count n : ℕ) → i < length xs → x ≡ get_or xs i x → is_some x ≡ true → count ≡ length (view_records (take i xs)) → n ≡ count + 1
    → n ≡ length (view_records (take (i + 1) xs))
counts_some xs i None count n less e some before now = absurd cc
counts_some xs i (Some r) count n less e some before now =
    rw (records_on xs i (Some r) (there_is xs i (Some r) less e)) (omega (arith, before, now, length-append (view_records (take i xs)) (r ∷ [])))

pub counts_none : (xs : List (Option Record)) (i : ℕ) (x : Option Record) (count n : ℕ) → i < length xs → x ≡ get_or xs i x → is_some x ≡ false → count ≡ length (view_records (take i xs)) → n ≡ count
    → n ≡ length (view_records (take (i + 1) xs))
counts_none xs i (Some r) count n less e none before now = absurd cc
counts_none xs i None count n less e none before now =
    rw (records_on xs i None (there_is xs i None less e)) (omega (arith, before, now, length-append (view_records (take i xs)) []))

pub items_more : (xs : List (Option Record)) (i : ℕ) (x : Option Record) (old before now : List LogEntry) → i < length xs → x ≡ get_or xs i x → before ≡ old ++ view_items 0 (take i xs) → now ≡ before ++ view_items i (x ∷ [])
    → now ≡ old ++ view_items 0 (take (i + 1) xs)
items_more xs i x old before now less e h k =
    rw (items_on xs i x less (there_is xs i x less e)) (k ∙ (ap (λ (es : List LogEntry). es ++ view_items i (x ∷ [])) h ∙ append_assoc old (view_items 0 (take i xs)) (view_items i (x ∷ []))))

-- After which packets the first want can be served exactly where it could be before.
use Rattle.std.proofs.Common.{◌≡◌, ℕ, zero, suc, ◌+◌, ◌-◌, Bool, true, false, cond, not, ◌||◌, ◌&&◌, nat_eq, nat_le, nat_lt, List, [], ◌∷◌, ◌++◌, length, refl, sym, ap, ◌∙◌}
use Rattle.std.specs.Prelude.{Option, None, Some, is_some, slice_get, slice_index_or, slice_set}
use Rattle.far_base.specs.declared.log.LogEntry.TheVariants.{Admitted}
use Rattle.far_base.specs.declared.packet.Out.{Out}
use Rattle.far_base.specs.declared.packet.Packet.{Packet}
use Rattle.far_base.specs.declared.packet.Packet.TheVariants.{Hot, AdmitAck, PeekAns, Remove, SnapBegun, SnapPart, SnapSame, Stored, Told, TopIs, TopAsk}
use Rattle.far_base.specs.declared.party.Party.TheVariants.{Switch}
use Rattle.far_base.specs.declared.plan.Config.{Config}
use Rattle.far_base.specs.declared.record.Record.{Record}
use Rattle.far_base.specs.declared.slot_state.Due.TheVariants.{Peeked}
use Rattle.far_base.specs.declared.slot_state.SlotState.{SlotState}
use Rattle.far_base.specs.declared.slot_state.SlotState.TheVariants.{Free, Admitting, Held, Evicting}
use Rattle.far_model.specs.Controller.{ControllerState, acked_state, acknowledged, client_told, completes, controller_takes, evicts_on, job_turn, part_came, peek_answered, round_stored, round_turn, same_came, same_part, snapshot_begun, store_answered, store_outs, tick, to_servers, told_round, top_told, wanted, with_state}
use Rattle.far_model.specs.Evictions.{Eviction, Send, Store, after_store, first_place, has_key, is_admitting, is_free, key_in, removing, shown_item, state_at, victim, waits_for, waits_job}
use Rattle.far_model.specs.Parties.{Turn, idle, to_party}
use Rattle.far_model.specs.Rounds.{Round, asks_tops, has_told, telling_at}
use Rattle.far_model.specs.Snapshots.{Job, completed, has_begun, has_part, is_whole, part_reads, with_part, with_same}
use Rattle.far_model.specs.View.{next_place}
use Rattle.controller_core.proofs.Ticks.{not_ready, ready_is, room_is}
use Rattle.controller_core.specs.Staying.{leaves_first_want}
use Rattle.controller_core.specs.Wants.{first_want}

-- ---- what the service of the first want depends on

abbrev can_serve : (round evicting free held there : Bool) → Bool
can_serve round evicting free held there = not round && (free || ((not evicting && held) || there))

abbrev can_serve_want : ControllerState → Option (List ℕ) → Bool
can_serve_want c None = false
can_serve_want c (Some key) = can_serve (is_some c.round) (is_some c.eviction) (is_some (first_place is_free c.slots)) (is_some (victim c.hand c.slots)) (is_some (first_place (has_key key) c.slots))

served : (c : ControllerState) → is_some (tick c) ≡ can_serve_want c (first_want c.wants)
served c = go (first_want c.wants) refl
  where
    go : (o : Option (List ℕ)) → first_want c.wants ≡ o → is_some (tick c) ≡ can_serve_want c o
    go None h = not_ready c h
    go (Some key) h = ready_is c key h ∙ ap (λ (b : Bool). not (is_some c.round) && (is_some (first_place is_free c.slots) || (b || is_some (first_place (has_key key) c.slots)))) (room_is c (victim c.hand c.slots))

-- a state that differs in nothing that the first want waits for
record Stays (c d : ControllerState) : Type 0 where
  round : is_some d.round ≡ is_some c.round
  eviction : is_some d.eviction ≡ is_some c.eviction
  slots : d.slots ≡ c.slots
  hand : d.hand ≡ c.hand
  wants : d.wants ≡ c.wants

same : (c : ControllerState) → Stays c c
same c = record { round = refl; eviction = refl; slots = refl; hand = refl; wants = refl }

stays_ticks : (c d : ControllerState) → Stays c d → is_some (tick d) ≡ is_some (tick c)
stays_ticks c d h = served d ∙ (rw (h.wants) (go (first_want c.wants)) ∙ sym (served c))
  where
    go : (o : Option (List ℕ)) → can_serve_want d o ≡ can_serve_want c o
    go None = refl
    go (Some key) = rw (h.round, h.eviction, h.slots, h.hand) refl

-- ---- the turns that leave it

module _ (config : Config) (c : ControllerState) where
  stays_if : (b : Bool) (t u : Turn ControllerState) → Stays c t.state → Stays c u.state → Stays c (cond b t u).state
  stays_if true t u h k = h
  stays_if false t u h k = k

  job_stays : (job : Job) (out : List Out) → Stays c (job_turn config c job out).state
  job_stays job out = stays_if (is_whole job) (completes config c (completed job) job.sames) (record { state = record c { job = Some job }; out = out; notes = [] })
      (record { round = refl; eviction = refl; slots = refl; hand = refl; wants = refl })
      (record { round = refl; eviction = refl; slots = refl; hand = refl; wants = refl })

  begun_stays : (id point : ℕ) (o : Option Job) → Stays c (snapshot_begun config c id point o).state
  begun_stays id point None = same c
  begun_stays id point (Some job) = stays_if (nat_eq job.id id && not (has_begun job)) (job_turn config c (record job { begun = Some point }) (part_reads c.epoch id 0 job.parts)) (idle c)
      (job_stays (record job { begun = Some point }) (part_reads c.epoch id 0 job.parts)) (same c)

  part_stays : (id i : ℕ) (view : Option Record) (o : Option Job) → Stays c (part_came config c id i view o).state
  part_stays id i view None = same c
  part_stays id i view (Some job) = stays_if (nat_eq job.id id && (nat_lt i (length job.parts) && not (has_part job i))) (job_turn config c (with_part job i view) []) (idle c)
      (job_stays (with_part job i view) []) (same c)

  same_part_stays : (id i : ℕ) (job : Job) (o : Option (Option Record)) → Stays c (same_part config c id i job o).state
  same_part_stays id i job None = same c
  same_part_stays id i job (Some view) = stays_if (nat_eq job.id id && (nat_lt i (length job.parts) && not (has_part job i))) (job_turn config c (with_same job i view) []) (idle c)
      (job_stays (with_same job i view) []) (same c)

  same_stays : (id i : ℕ) (o : Option Job) → Stays c (same_came config c id i o).state
  same_stays id i None = same c
  same_stays id i (Some job) = same_part_stays id i job (slice_get c.last.views i)

  -- an eviction that has looked at its slot goes on
  peek_stays : (i tag : ℕ) (latest : Bool) (num : ℕ) (body : Option (List ℕ)) (o : Option Eviction) → c.eviction ≡ o → Stays c (peek_answered config c i tag latest num body o).state
  peek_stays i tag latest num body None h = same c
  peek_stays i tag latest num body (Some e) h = stays_if (waits_for Peeked i tag e) (evicts_on config c e (cond latest (Store (shown_item e num body)) (Send (Remove e.epoch e.slot e.tag false 0)))) (idle c) (go latest) (same c)
    where
      go : (b : Bool) → Stays c (evicts_on config c e (cond b (Store (shown_item e num body)) (Send (Remove e.epoch e.slot e.tag false 0)))).state
      go true = record { round = refl; eviction = sym (ap is_some h); slots = refl; hand = refl; wants = refl }
      go false = record { round = refl; eviction = sym (ap is_some h); slots = refl; hand = refl; wants = refl }

  -- a round goes on
  round_stays : (n : ℕ) (r : Round) (out : List Out) → is_some c.round ≡ true → Stays c (round_turn config (record c { next_job = n }) r out).state
  round_stays n r out h = stays_if (asks_tops r) (record { state = record c { next_job = n; round = Some (record r { asked = true }) }; out = out ++ to_servers 0 config.servers (TopAsk r.number); notes = [] }) (record { state = record c { next_job = n; round = Some r }; out = out; notes = [] })
      (record { round = sym h; eviction = refl; slots = refl; hand = refl; wants = refl })
      (record { round = sym h; eviction = refl; slots = refl; hand = refl; wants = refl })

  told_stays : (number caller total : ℕ) (item : Option Record) (o : Option Round) → c.round ≡ o → Stays c (client_told config c number caller total item o).state
  told_stays number caller total item None h = same c
  told_stays number caller total item (Some r) h =
      let new = length (store_outs config c.next_job item) in
      stays_if (nat_eq r.number number && (nat_lt caller (length r.told) && not (has_told (telling_at r caller)))) (round_turn config (record c { next_job = c.next_job + new }) (told_round r caller total new) (store_outs config c.next_job item)) (idle c)
      (round_stays (c.next_job + new) (told_round r caller total new) (store_outs config c.next_job item) (ap is_some h)) (same c)

  stored_stays : (job : ℕ) (o : Option Round) → c.round ≡ o → Stays c (round_stored config c job o).state
  stored_stays job None h = same c
  stored_stays job (Some r) h = stays_if (nat_le r.first_job job && (nat_lt job c.next_job && not (nat_eq r.stores 0))) (round_turn config c (record r { stores = r.stores - 1 }) []) (idle c)
      (round_stays c.next_job (record r { stores = r.stores - 1 }) [] (ap is_some h)) (same c)

  -- an eviction that has stored its record goes on
  answered_stays : (job : ℕ) (o : Option Eviction) → c.eviction ≡ o → Stays c (store_answered config c job o).state
  answered_stays job None h = stored_stays job c.round refl
  answered_stays job (Some e) h = stays_if (waits_job job e) (record { state = record c { eviction = Some (removing e) }; out = to_party Switch (after_store e) ∷ []; notes = [] }) (round_stored config c job c.round)
      (record { round = refl; eviction = sym (ap is_some h); slots = refl; hand = refl; wants = refl }) (stored_stays job c.round refl)

  top_stays : (number server top : ℕ) (o : Option Round) → c.round ≡ o → Stays c (top_told config c number server top o).state
  top_stays number server top None h = same c
  top_stays number server top (Some r) h = stays_if (nat_eq r.number number && (r.asked && (nat_lt server (length r.tops) && not (is_some (slice_index_or r.tops server None))))) (record { state = record c { round = Some (record r { tops = slice_set r.tops server (Some top) }) }; out = []; notes = [] }) (idle c)
      (record { round = sym (ap is_some h); eviction = refl; slots = refl; hand = refl; wants = refl }) (same c)

-- ---- a slot that is newly held

set_alike : (p : SlotState → Bool) (slots : List SlotState) (i : ℕ) (new : SlotState) → p new ≡ p (state_at slots i) → first_place p (slice_set slots i new) ≡ first_place p slots
set_alike p [] i new h = refl
set_alike p (s ∷ slots) zero new h = rw h refl
set_alike p (s ∷ slots) (suc i) new h = ap (λ (o : Option ℕ). cond (p s) (Some 0) (next_place o)) (set_alike p slots i new h)

acked_free : (tag : ℕ) (s : SlotState) → is_admitting tag s ≡ true → is_free (acked_state s) ≡ is_free s
acked_free tag Free h = absurd cc
acked_free tag (Admitting key own) h = refl
acked_free tag (Held key own) h = absurd cc
acked_free tag (Evicting key own) h = absurd cc

acked_key : (tag : ℕ) (key : List ℕ) (s : SlotState) → is_admitting tag s ≡ true → has_key key (acked_state s) ≡ has_key key s
acked_key tag key Free h = absurd cc
acked_key tag key (Admitting other own) h = refl
acked_key tag key (Held other own) h = absurd cc
acked_key tag key (Evicting other own) h = absurd cc

-- no victim is sought while an eviction is under way
held_stays : (c : ControllerState) (i tag : ℕ) → is_admitting tag (state_at c.slots i) ≡ true → is_some c.eviction ≡ true → is_some (tick (with_state c i (acked_state (state_at c.slots i)))) ≡ is_some (tick c)
held_stays c i tag h busy = served (with_state c i new) ∙ (go (first_want c.wants) ∙ sym (served c))
  where
    new : SlotState
    new = acked_state (state_at c.slots i)

    by : (round evicting free held other there : Bool) → evicting ≡ true → can_serve round evicting free other there ≡ can_serve round evicting free held there
    by round true free held other there e = refl
    by round false free held other there e = absurd cc

    go : (o : Option (List ℕ)) → can_serve_want (with_state c i new) o ≡ can_serve_want c o
    go None = refl
    go (Some key) = rw (set_alike is_free c.slots i new (acked_free tag (state_at c.slots i) h), set_alike (has_key key) c.slots i new (acked_key tag key (state_at c.slots i) h))
        (by (is_some c.round) (is_some c.eviction) (is_some (first_place is_free c.slots)) (is_some (victim c.hand c.slots)) (is_some (victim c.hand (slice_set c.slots i new))) (is_some (first_place (has_key key) c.slots)) busy)

acked_stays : (c : ControllerState) (i tag : ℕ) → is_some c.eviction ≡ true → is_some (tick (acknowledged c i tag).state) ≡ is_some (tick c)
acked_stays c i tag busy = go (is_admitting tag (state_at c.slots i)) refl
  where
    go : (b : Bool) → is_admitting tag (state_at c.slots i) ≡ b → is_some (tick (cond b (record { state = with_state c i (acked_state (state_at c.slots i)); out = []; notes = Admitted i (key_in (state_at c.slots i)) tag ∷ [] }) (idle c)).state) ≡ is_some (tick c)
    go true h = held_stays c i tag h busy
    go false h = refl

-- ---- a further want

first_on : (wants : List (List ℕ)) (key : List ℕ) → is_some (first_want wants) ≡ true → first_want (wants ++ key ∷ []) ≡ first_want wants
first_on [] key h = absurd cc
first_on (want ∷ wants) key h = refl

more_stays : (c : ControllerState) (key : List ℕ) → is_some (first_want c.wants) ≡ true → is_some (tick (record c { wants = c.wants ++ key ∷ [] })) ≡ is_some (tick c)
more_stays c key h = served (record c { wants = c.wants ++ key ∷ [] }) ∙ (rw (first_on c.wants key h) (go (first_want c.wants)) ∙ sym (served c))
  where
    go : (o : Option (List ℕ)) → can_serve_want (record c { wants = c.wants ++ key ∷ [] }) o ≡ can_serve_want c o
    go None = refl
    go (Some want) = refl

want_stays : (c : ControllerState) (key : List ℕ) → (is_some c.round || is_some (first_want c.wants)) ≡ true → is_some (tick (wanted key c)) ≡ is_some (tick c)
want_stays c key h = go (is_some c.round) h
  where
    go : (b : Bool) → (b || is_some (first_want c.wants)) ≡ true → is_some (tick (cond b c (record c { wants = c.wants ++ key ∷ [] }))) ≡ is_some (tick c)
    go true h = refl
    go false h = more_stays c key h

-- ---- the law

pub first_want_stays : (config : Config) (c : ControllerState) (packet : Packet) → leaves_first_want c packet ≡ true → is_some (tick (controller_takes config c packet).state) ≡ is_some (tick c)
first_want_stays config c (Hot key) h = want_stays c key h
first_want_stays config c (AdmitAck i tag) h = acked_stays c i tag h
first_want_stays config c (PeekAns i tag latest num body) h = stays_ticks c _ (peek_stays config c i tag latest num body c.eviction refl)
first_want_stays config c (SnapBegun id point) h = stays_ticks c _ (begun_stays config c id point c.job)
first_want_stays config c (SnapPart id i view) h = stays_ticks c _ (part_stays config c id i view c.job)
first_want_stays config c (SnapSame id i) h = stays_ticks c _ (same_stays config c id i c.job)
first_want_stays config c (Stored job) h = stays_ticks c _ (answered_stays config c job c.eviction refl)
first_want_stays config c (Told number caller total item) h = stays_ticks c _ (told_stays config c number caller total item c.round refl)
first_want_stays config c (TopIs number server top) h = stays_ticks c _ (top_stays config c number server top c.round refl)
first_want_stays config c _ h = absurd cc

-- Turns of the controller.
use Rattle.far_invariants.proofs.Noted.{member}
use Rattle.std.proofs.Common.{◌≡◌, ℕ, zero, suc, ◌+◌, ◌-◌, ◌<◌, ◌≤◌, ◌⊎◌, inl, inr, Bool, true, false, List, [], ◌∷◌, ◌++◌, length, refl, sym, subst, arith}
use Rattle.std.specs.Prelude.{Option, Some, None, slice_index_or, slice_set, slice_get, if◌then◌else◌, ◌&&◌, not, nat_eq, nat_le, nat_lt, is_some}
use Rattle.std.proofs.lemmas.Option.{same_Some}
use Rattle.far_base.specs.PlanView.{PlanView}
use Rattle.far_base.specs.declared.log.LogEntry.{LogEntry}
use Rattle.far_base.specs.declared.log.LogLine.{LogLine}
use Rattle.far_base.specs.declared.log.LogEntry.TheVariants.{Numbered, Emitted, Admitted, Kept as KeptNote}
use Rattle.far_base.specs.declared.packet.Message.{Message}
use Rattle.far_base.specs.declared.packet.Out.{Out}
use Rattle.far_base.specs.declared.packet.Packet.{Packet}
use Rattle.far_base.specs.declared.packet.Packet.TheVariants.{Remove, SnapStart, SnapFrom, SnapRead, Store, Stored, Release, Ask, Told, TopAsk, TopIs}
use Rattle.far_base.specs.declared.party.Party.TheVariants.{Switch, Controller}
use Rattle.far_base.specs.declared.plan.Config.{Config}
use Rattle.far_base.specs.declared.record.Record.{Record}
use Rattle.far_base.specs.declared.slot_state.SlotState.TheVariants.{Held}
use Rattle.far_base.specs.declared.slot_state.Due.TheVariants.{Peeked, Removed}
use Rattle.far_model.specs.Controller.{ControllerState, with_state, to_clients, to_servers, wanted, first_want_dropped, admits_want, evicts, makes_room, tick_room, tick_free, tick_want, tick_wants, tick, evict_held, evict_key, acked_state, acknowledged, drop_want_if, evicts_on, peek_answered, removal_answered, start_snapshot, completes, job_turn, snapshot_begun, part_came, same_part, same_came, is_last_present, stores_of, snapshot_stores, start_recovery, store_outs, round_turn, told_round, client_told, round_stored, store_answered, top_told}
use Rattle.far_model.specs.Events.{controller_turn}
use Rattle.far_model.specs.Evictions.{Eviction, Send, Store as StoreNext, Done, Kept, TRIES, after_peek, after_removal, after_store, first_place, has_key, hand_after, holds_key, is_free, is_admitting, key_in, removing, shown_item, state_at, victim, waits_for, waits_job}
use Rattle.far_invariants.specs.Covers.{IsAtServer, Covers, IsInSnapshot, IsAbsorbed}
use Rattle.far_model.specs.Members.{Among, Each}
use Rattle.far_model.specs.Parties.{Turn, idle, messages_from, to_party}
use Rattle.far_model.specs.Rounds.{Round, has_told, asks_tops, telling_at}
use Rattle.far_model.specs.Snapshots.{Job, has_begun, has_part, is_whole, completed, part_reads, view_items, view_records, with_part, with_same}
use Rattle.far_model.specs.State.{State}
use Rattle.far_model.proofs.Members.{among_map_from, each_among}
use Rattle.flight_laws.proofs.Lists.{by_test}
use Rattle.far_invariants.specs.StopNeeds.{CompletesSafely, next_job, begun_job, part_job, same_job, same_view_job, IsGenuine}
use Rattle.far_invariants.specs.Stops.{Outlives, IsDrawnJob, Stops, Carried}
use Rattle.recovery_laws.proofs.Steps.{Leaves, Step, HasArrived, IsQuiet, IsUnkept, unkept_newest, same_newest, same_preserved, same_above, quiet_numbered, quiet_absorbed, quiet_differ, unkept_answer}

-- a note of the controller
abbrev pub IsRuleNote : LogEntry → Type 0
IsRuleNote (Numbered op num) = ⊥
IsRuleNote (Emitted op num body near) = ⊥
IsRuleNote _ = Unit {0}

rule_note_quiet : (log : List LogLine) (e : LogEntry) → IsRuleNote e → IsQuiet log e
rule_note_quiet log (Numbered op num) h = h
rule_note_quiet log (Emitted op num body near) h = absurd h
rule_note_quiet log _ h = tt

-- what the controller sends is of jobs and rounds that it has drawn
abbrev pub OutDrawn : (Record → Type 0) → ControllerState → Out → Type 0
OutDrawn P c o = IsUnkept o.packet × IsDrawnJob c o.packet × Carried P o.packet

pub record IsRule (P : Record → Type 0) (c : ControllerState) (t : Turn ControllerState) : Type 0 where
  pub jobs : c.next_job ≤ t.state.next_job
  pub rounds : c.next_round ≤ t.state.next_round
  pub notes : Each IsRuleNote t.notes
  pub out : Each (OutDrawn P t.state) t.out

-- and nothing changes of the last snapshot and of the round
pub record IsCalmRule (P : Record → Type 0) (c : ControllerState) (t : Turn ControllerState) : Type 0 where
  pub rule : IsRule P c t
  pub last : t.state.last ≡ c.last
  pub round : t.state.round ≡ c.round

each_part : {A : Type 0} (P Q : A → Type 0) (xs : List A) → ((x : A) → P x → Q x) → Each P xs → Each Q xs
each_part P Q [] f h = tt
each_part P Q (x ∷ xs) f h = (f x h.0, each_part P Q xs f h.1)

each_append : {A : Type 0} (P : A → Type 0) (xs ys : List A) → Each P xs → Each P ys → Each P (xs ++ ys)
each_append P [] ys h k = k
each_append P (x ∷ xs) ys h k = (h.0, each_append P xs ys h.1 k)

pub rule_step : (plan : PlanView) (kept : List Record) (Gone : Message → Type 0) (s : State) (rest : List Message) (t : Turn ControllerState) (d : ℕ) → Stops plan kept s → Leaves Gone s rest
    → ((m : Message) → Gone m → HasArrived plan s (record (controller_turn s rest t) { done = d }) m.packet) → IsRule (IsGenuine plan s) s.controller t
    → ((key : List ℕ) (num : ℕ) → IsAbsorbed plan s.log key num → IsInSnapshot s key num → IsAtServer plan s key num ⊎ Covers (view_records t.state.last.views) key num)
    → Step plan Gone s (record (controller_turn s rest t) { done = d }) rest (messages_from Controller t.out)
rule_step plan kept Gone s rest t d h leaves gone f snapshot = record {
  leaves = leaves;
  bag = refl;
  gone = gone;
  new_newest = λ m a. unkept_newest after m.packet (new m a).0;
  new_drawn = λ m a. (new m a).1;
  log = λ l a. member s after t.notes refl l a;
  differ = quiet_differ plan s after t.notes refl quiet h.differ (λ r. (r, omega arith));
  numbered = λ at op num a. inl (quiet_numbered plan s after t.notes refl quiet at op num a);
  absorbed = λ key num a. inl (quiet_absorbed plan s after t.notes refl quiet key num a);
  more = λ key. omega arith;
  servers = h.servers;
  snapshot = λ key num a b. moved key num (snapshot key num a b);
  preserved = λ key num a b. inr (inr (inl (same_preserved plan s after (λ c. refl) key num b)));
  still = λ m a b. same_newest plan s after (λ c. refl) m.packet b;
  above = same_above plan s after (λ c. refl) (λ c. refl) h.preserved;
  new_answers = λ m a. unkept_answer after m.packet (new m a).0;
  new_carries = λ m a. (new m a).2;
  clients = λ c r a. inl a;
  steps = omega arith;
  jobs = f.jobs;
  rounds = f.rounds;
}
  where
    after : State
    after = record (controller_turn s rest t) { done = d }

    quiet : Each (IsQuiet s.log) t.notes
    quiet = each_part IsRuleNote (IsQuiet s.log) t.notes (rule_note_quiet s.log) f.notes

    new : (m : Message) → Among m (messages_from Controller t.out) → IsUnkept m.packet × IsDrawnJob t.state m.packet × Carried (IsGenuine plan s) m.packet
    new m a = let p = among_map_from (λ (o : Out). record { from = Controller; to = o.to; packet = o.packet }) m t.out a in subst (λ (w : Message). IsUnkept w.packet × IsDrawnJob t.state w.packet × Carried (IsGenuine plan s) w.packet) (sym p.2) (each_among (OutDrawn (IsGenuine plan s) t.state) p.0 t.out f.out p.1)

    moved : (key : List ℕ) (num : ℕ) → IsAtServer plan s key num ⊎ Covers (view_records t.state.last.views) key num → Outlives plan after key num
    moved key num (inl b) = inl b
    moved key num (inr c) = inr (inl c)

pub calm_snapshot : (plan : PlanView) (s : State) (t : Turn ControllerState) → t.state.last ≡ s.controller.last → (key : List ℕ) (num : ℕ) → IsAbsorbed plan s.log key num → IsInSnapshot s key num → IsAtServer plan s key num ⊎ Covers (view_records t.state.last.views) key num
calm_snapshot plan s t e key num a b = inr (subst (λ (v : Rattle.far_model.specs.Snapshots.SnapshotView). Covers (view_records v.views) key num) (sym e) b)

-- ---- the rules

pub idle_calm : (P : Record → Type 0) (c : ControllerState) → IsCalmRule P c (idle c)
idle_calm P c = record { rule = record { jobs = omega arith; rounds = omega arith; notes = tt; out = tt }; last = refl; round = refl }

module _ (P : Record → Type 0) (config : Config) where
  pub wanted_calm : (c : ControllerState) (key : List ℕ) → IsCalmRule P c (idle (wanted key c))
  wanted_calm c key = by_test (λ w. IsCalmRule P c (idle w)) (is_some c.round) c (record c { wants = c.wants ++ key ∷ [] }) (idle_calm P c)
      (record { rule = record { jobs = omega arith; rounds = omega arith; notes = tt; out = tt }; last = refl; round = refl })

  evicts_calm : (c d : ControllerState) (for_want : Bool) (i : ℕ) → d.last ≡ c.last → d.round ≡ c.round → d.next_job ≡ c.next_job → d.next_round ≡ c.next_round → IsCalmRule P c (evicts d for_want i)
  evicts_calm c d for_want i last round jobs rounds = record { rule = record { jobs = omega (arith, jobs); rounds = omega (arith, rounds); notes = tt; out = ((tt, tt, tt), tt) }; last = last; round = round }

  room_calm : (c : ControllerState) (o : Option ℕ) (t : Turn ControllerState) → tick_room c o ≡ Some t → IsCalmRule P c t
  room_calm c None t e = absurd cc
  room_calm c (Some i) t e = go (is_some c.eviction) e
    where
      go : (b : Bool) → (if b then None else Some (makes_room c i)) ≡ Some t → IsCalmRule P c t
      go true k = absurd cc
      go false k = subst (IsCalmRule P c) (same_Some (makes_room c i) t k) (evicts_calm c (record c { hand = hand_after i c.slots }) true i refl refl refl refl)

  free_calm : (c : ControllerState) (key : List ℕ) (o : Option ℕ) (t : Turn ControllerState) → tick_free c key o ≡ Some t → IsCalmRule P c t
  free_calm c key None t e = room_calm c (victim c.hand c.slots) t e
  free_calm c key (Some i) t e = subst (IsCalmRule P c) (same_Some (admits_want c key i) t e) (record { rule = record { jobs = omega arith; rounds = omega arith; notes = tt; out = ((tt, tt, tt), tt) }; last = refl; round = refl })

  want_calm : (c : ControllerState) (key : List ℕ) (o : Option ℕ) (t : Turn ControllerState) → tick_want c key o ≡ Some t → IsCalmRule P c t
  want_calm c key (Some i) t e = subst (IsCalmRule P c) (same_Some (idle (first_want_dropped c)) t e) (record { rule = record { jobs = omega arith; rounds = omega arith; notes = tt; out = tt }; last = refl; round = refl })
  want_calm c key None t e = free_calm c key (first_place is_free c.slots) t e

  wants_calm : (c : ControllerState) (wants : List (List ℕ)) (t : Turn ControllerState) → tick_wants c wants ≡ Some t → IsCalmRule P c t
  wants_calm c [] t e = absurd cc
  wants_calm c (key ∷ keys) t e = want_calm c key (first_place (has_key key) c.slots) t e

  -- a tick is made outside a round alone
  pub tick_calm : (c : ControllerState) (t : Turn ControllerState) → tick c ≡ Some t → IsCalmRule P c t × (c.round ≡ None)
  tick_calm c t e = go c.round refl e
    where
      go : (o : Option Round) → c.round ≡ o → (if is_some o then None else tick_wants c c.wants) ≡ Some t → IsCalmRule P c t × (c.round ≡ None)
      go (Some r) q k = absurd cc
      go None q k = (wants_calm c c.wants t k, q)

  pub evict_calm : (c : ControllerState) (key : List ℕ) → IsCalmRule P c (evict_key key c)
  evict_calm c key = go (first_place (holds_key key) c.slots)
    where
      go : (o : Option ℕ) → IsCalmRule P c (evict_held c o)
      go None = idle_calm P c
      go (Some i) = evicts_calm c c false i refl refl refl refl

  pub snapshot_calm : (c : ControllerState) → IsCalmRule P c (start_snapshot c)
  snapshot_calm c = record { rule = record { jobs = omega arith; rounds = omega arith; notes = tt; out = (by_test (λ p. OutDrawn P (start_snapshot c).state (to_party Switch p)) (is_last_present c) (SnapFrom c.epoch c.next_id c.last.id) (SnapStart c.epoch c.next_id) (tt, tt, tt) (tt, tt, tt), tt) }; last = refl; round = refl }

  pub acknowledged_calm : (c : ControllerState) (i tag : ℕ) → IsCalmRule P c (acknowledged c i tag)
  acknowledged_calm c i tag = by_test (IsCalmRule P c) (is_admitting tag (state_at c.slots i)) (record { state = with_state c i (acked_state (state_at c.slots i)); out = []; notes = Admitted i (key_in (state_at c.slots i)) tag ∷ [] }) (idle c)
      (record { rule = record { jobs = omega arith; rounds = omega arith; notes = (tt, tt); out = tt }; last = refl; round = refl }) (idle_calm P c)

  -- ---- evictions

  removal_sent : (c : ControllerState) (e : Eviction) (epoch i tag : ℕ) (latest : Bool) (num : ℕ) → IsCalmRule P c (evicts_on config c e (Send (Remove epoch i tag latest num)))
  removal_sent c e epoch i tag latest num = record { rule = record { jobs = omega arith; rounds = omega arith; notes = tt; out = ((tt, tt, tt), tt) }; last = refl; round = refl }

  store_sent : (c : ControllerState) (e : Eviction) (item : Record) → P item → IsCalmRule P c (evicts_on config c e (StoreNext item))
  store_sent c e item k = record { rule = record { jobs = omega arith; rounds = omega arith; notes = tt; out = ((tt, omega arith, k), tt) }; last = refl; round = refl }

  done_calm : (c : ControllerState) (e : Eviction) (tries : ℕ) → IsCalmRule P c (evicts_on config c e (Done tries))
  done_calm c e tries = record { rule = record { jobs = omega arith; rounds = omega arith; notes = (tt, tt); out = tt }; last = refl; round = refl }

  kept_calm : (c : ControllerState) (e : Eviction) (tries : ℕ) (last : Record) → IsCalmRule P c (evicts_on config c e (Kept tries last))
  kept_calm c e tries last = go e.for_want
    where
      base : ControllerState
      base = record (with_state c e.slot (Held e.key e.tag)) { eviction = None }

      go : (b : Bool) → IsCalmRule P c (record { state = drop_want_if b (record (with_state c e.slot (Held e.key e.tag)) { eviction = None }); out = []; notes = KeptNote e.slot e.key last.num ∷ [] })
      go true = record { rule = record { jobs = omega arith; rounds = omega arith; notes = (tt, tt); out = tt }; last = refl; round = refl }
      go false = record { rule = record { jobs = omega arith; rounds = omega arith; notes = (tt, tt); out = tt }; last = refl; round = refl }

  peeked_calm : (c : ControllerState) (e : Eviction) (latest : Bool) (num : ℕ) (body : Option (List ℕ)) → (latest ≡ true → P (shown_item e num body)) → IsCalmRule P c (evicts_on config c e (after_peek e latest num body))
  peeked_calm c e true num body k = store_sent c e (shown_item e num body) (k refl)
  peeked_calm c e false num body k = removal_sent c e e.epoch e.slot e.tag false 0

  pub peek_calm : (c : ControllerState) (i tag : ℕ) (latest : Bool) (num : ℕ) (body : Option (List ℕ)) (o : Option Eviction) → ((e : Eviction) → o ≡ Some e → waits_for Peeked i tag e ≡ true → latest ≡ true → P (shown_item e num body)) → IsCalmRule P c (peek_answered config c i tag latest num body o)
  peek_calm c i tag latest num body None k = idle_calm P c
  peek_calm c i tag latest num body (Some e) k = go (waits_for Peeked i tag e) refl
    where
      go : (b : Bool) → waits_for Peeked i tag e ≡ b → IsCalmRule P c (if b then evicts_on config c e (after_peek e latest num body) else idle c)
      go true w = peeked_calm c e latest num body (k e refl w)
      go false w = idle_calm P c

  removed_calm : (c : ControllerState) (e : Eviction) (done : Bool) (num : ℕ) (body : Option (List ℕ)) → (done ≡ false → P (shown_item e num body)) → IsCalmRule P c (evicts_on config c e (after_removal e done num body))
  removed_calm c e true num body k = done_calm c e e.tries
  removed_calm c e false num body k = by_test (λ n. IsCalmRule P c (evicts_on config c e n)) (nat_eq e.tries TRIES) (Kept TRIES (shown_item e num body)) (StoreNext (shown_item e num body)) (kept_calm c e TRIES (shown_item e num body)) (store_sent c e (shown_item e num body) (k refl))

  pub removal_calm : (c : ControllerState) (i tag : ℕ) (done : Bool) (num : ℕ) (body : Option (List ℕ)) (o : Option Eviction) → ((e : Eviction) → o ≡ Some e → waits_for Removed i tag e ≡ true → done ≡ false → P (shown_item e num body)) → IsCalmRule P c (removal_answered config c i tag done num body o)
  removal_calm c i tag done num body None k = idle_calm P c
  removal_calm c i tag done num body (Some e) k = go (waits_for Removed i tag e) refl
    where
      go : (b : Bool) → waits_for Removed i tag e ≡ b → IsCalmRule P c (if b then evicts_on config c e (after_removal e done num body) else idle c)
      go true w = removed_calm c e done num body (k e refl w)
      go false w = idle_calm P c

  -- ---- outside a round nothing of one counts

  pub stored_calm : (c : ControllerState) (job : ℕ) (o : Option Eviction) → c.round ≡ None → IsCalmRule P c (store_answered config c job o)
  stored_calm c job None none = subst (λ r. IsCalmRule P c (round_stored config c job r)) (sym none) (idle_calm P c)
  stored_calm c job (Some e) none = by_test (IsCalmRule P c) (waits_job job e) (record { state = record c { eviction = Some (removing e) }; out = to_party Switch (after_store e) ∷ []; notes = [] }) (round_stored config c job c.round)
      (record { rule = record { jobs = omega arith; rounds = omega arith; notes = tt; out = ((tt, tt, tt), tt) }; last = refl; round = refl })
      (subst (λ r. IsCalmRule P c (round_stored config c job r)) (sym none) (idle_calm P c))

  -- ---- a round

  tops_drawn : (c : ControllerState) (n more number : ℕ) → number < c.next_round → Each (OutDrawn P c) (to_servers n more (TopAsk number))
  tops_drawn c n zero number h = tt
  tops_drawn c n (suc more) number h = ((tt, h, tt), tops_drawn c (suc n) more number h)

  round_rule : (c d : ControllerState) (r : Round) (out : List Out) → c.next_job ≤ d.next_job → c.next_round ≤ d.next_round → d.last ≡ c.last → r.number < d.next_round → Each (OutDrawn P d) out → IsRule P c (round_turn config d r out) × ((round_turn config d r out).state.last ≡ c.last)
  round_rule c d r out jobs rounds last below h = by_test (λ (t : Turn ControllerState). IsRule P c t × (t.state.last ≡ c.last)) (asks_tops r)
      (record { state = record d { round = Some (record r { asked = true }) }; out = out ++ to_servers 0 config.servers (TopAsk r.number); notes = [] }) (record { state = record d { round = Some r }; out = out; notes = [] })
      (record { jobs = jobs; rounds = rounds; notes = tt; out = each_part (OutDrawn P d) (OutDrawn P (record d { round = Some (record r { asked = true }) })) (out ++ to_servers 0 config.servers (TopAsk r.number)) (λ o k. drawn_same d (Some (record r { asked = true })) o k) (each_append (OutDrawn P d) out (to_servers 0 config.servers (TopAsk r.number)) h (tops_drawn d 0 config.servers r.number below)) }, last)
      (record { jobs = jobs; rounds = rounds; notes = tt; out = each_part (OutDrawn P d) (OutDrawn P (record d { round = Some r })) out (λ o k. drawn_same d (Some r) o k) h }, last)
    where
      same : (d : ControllerState) (q : Option Round) (p : Packet) → IsDrawnJob d p → IsDrawnJob (record d { round = q }) p
      same d q (Store job item) k = k
      same d q (Stored job) k = k
      same d q (Ask round) k = k
      same d q (Told round caller total item) k = k
      same d q (TopAsk round) k = k
      same d q (TopIs round server top) k = k
      same d q _ k = tt

      drawn_same : (d : ControllerState) (q : Option Round) (o : Out) → OutDrawn P d o → OutDrawn P (record d { round = q }) o
      drawn_same d q o k = (k.0, same d q o.packet k.1, k.2)

  told_out : (c : ControllerState) (item : Option Record) → ((y : Record) → item ≡ Some y → P y) → Each (OutDrawn P (record c { next_job = c.next_job + length (store_outs config c.next_job item) })) (store_outs config c.next_job item)
  told_out c None k = tt
  told_out c (Some item) k = ((tt, omega arith, k item refl), tt)

  pub told_rule : (c : ControllerState) (number caller total : ℕ) (item : Option Record) (o : Option Round) → ((y : Record) → item ≡ Some y → P y) → ((r : Round) → o ≡ Some r → r.number < c.next_round) → IsRule P c (client_told config c number caller total item o) × ((client_told config c number caller total item o).state.last ≡ c.last)
  told_rule c number caller total item None k h = ((idle_calm P c).rule, refl)
  told_rule c number caller total item (Some r) k h = by_test (λ (t : Turn ControllerState). IsRule P c t × (t.state.last ≡ c.last)) (nat_eq r.number number && (nat_lt caller (length r.told) && not (has_told (telling_at r caller))))
      (round_turn config (record c { next_job = c.next_job + length (store_outs config c.next_job item) }) (told_round r caller total (length (store_outs config c.next_job item))) (store_outs config c.next_job item)) (idle c)
      (round_rule c (record c { next_job = c.next_job + length (store_outs config c.next_job item) }) (told_round r caller total (length (store_outs config c.next_job item))) (store_outs config c.next_job item) (omega arith) (omega arith) refl (h r refl) (told_out c item k))
      ((idle_calm P c).rule, refl)

  counted_rule : (c : ControllerState) (job : ℕ) (o : Option Round) → ((r : Round) → o ≡ Some r → r.number < c.next_round) → IsRule P c (round_stored config c job o) × ((round_stored config c job o).state.last ≡ c.last)
  counted_rule c job None h = ((idle_calm P c).rule, refl)
  counted_rule c job (Some r) h = by_test (λ (t : Turn ControllerState). IsRule P c t × (t.state.last ≡ c.last)) (nat_le r.first_job job && (nat_lt job c.next_job && not (nat_eq r.stores 0)))
      (round_turn config c (record r { stores = r.stores - 1 }) []) (idle c)
      (round_rule c c (record r { stores = r.stores - 1 }) [] (omega arith) (omega arith) refl (h r refl) tt)
      ((idle_calm P c).rule, refl)

  pub stored_rule : (c : ControllerState) (job : ℕ) (o : Option Eviction) → ((r : Round) → c.round ≡ Some r → r.number < c.next_round) → IsRule P c (store_answered config c job o) × ((store_answered config c job o).state.last ≡ c.last)
  stored_rule c job None h = counted_rule c job c.round h
  stored_rule c job (Some e) h = by_test (λ (t : Turn ControllerState). IsRule P c t × (t.state.last ≡ c.last)) (waits_job job e) (record { state = record c { eviction = Some (removing e) }; out = to_party Switch (after_store e) ∷ []; notes = [] }) (round_stored config c job c.round)
      (record { jobs = omega arith; rounds = omega arith; notes = tt; out = ((tt, tt, tt), tt) }, refl)
      (counted_rule c job c.round h)

  pub top_rule : (c : ControllerState) (number server top : ℕ) (o : Option Round) → IsRule P c (top_told config c number server top o) × ((top_told config c number server top o).state.last ≡ c.last)
  top_rule c number server top None = ((idle_calm P c).rule, refl)
  top_rule c number server top (Some r) = by_test (λ (t : Turn ControllerState). IsRule P c t × (t.state.last ≡ c.last)) (nat_eq r.number number && (r.asked && (nat_lt server (length r.tops) && not (is_some (slice_index_or r.tops server None)))))
      (record { state = record c { round = Some (record r { tops = slice_set r.tops server (Some top) }) }; out = []; notes = [] }) (idle c)
      (record { jobs = omega arith; rounds = omega arith; notes = tt; out = tt }, refl)
      ((idle_calm P c).rule, refl)

  asks_drawn : (d : ControllerState) (n more number : ℕ) → number < d.next_round → Each (OutDrawn P d) (to_clients n more (Ask number))
  asks_drawn d n zero number h = tt
  asks_drawn d n (suc more) number h = ((tt, h, tt), asks_drawn d (suc n) more number h)

  stores_drawn : (d : ControllerState) (job : ℕ) (items : List Record) → ((y : Record) → Among y items → P y) → job + length items ≤ d.next_job → Each (OutDrawn P d) (stores_of config job items)
  stores_drawn d job [] k h = tt
  stores_drawn d job (y ∷ ys) k h = ((tt, omega (arith, h), k y (inl refl)), stores_drawn d (suc job) ys (λ z a. k z (inr a)) (omega (arith, h)))

  pub recovery_rule : (c : ControllerState) → ((y : Record) → Among y (snapshot_stores c) → P y) → IsRule P c (start_recovery config c) × ((start_recovery config c).state.last ≡ c.last)
  recovery_rule c k = (
    record {
      jobs = omega arith;
      rounds = omega arith;
      notes = tt;
      out = each_append (OutDrawn P (start_recovery config c).state) (to_clients 0 config.clients (Ask c.next_round)) (stores_of config c.next_job (snapshot_stores c))
          (asks_drawn (start_recovery config c).state 0 config.clients c.next_round (omega arith)) (stores_drawn (start_recovery config c).state c.next_job (snapshot_stores c) k (omega arith));
    },
    refl,
  )

  -- ---- snapshots

  reads_drawn : (d : ControllerState) (epoch id i : ℕ) (parts : List (Option (Option Record))) → Each (OutDrawn P d) (part_reads epoch id i parts)
  reads_drawn d epoch id i [] = tt
  reads_drawn d epoch id i (part ∷ parts) = by_test (Each (OutDrawn P d)) (is_some part) (part_reads epoch id (suc i) parts) (to_party Switch (SnapRead epoch id i) ∷ part_reads epoch id (suc i) parts)
      (reads_drawn d epoch id (suc i) parts) ((tt, tt, tt), reads_drawn d epoch id (suc i) parts)

  releases_drawn : (d : ControllerState) (n more point : ℕ) → Each (OutDrawn P d) (to_clients n more (Release point))
  releases_drawn d n zero point = tt
  releases_drawn d n (suc more) point = ((tt, tt, tt), releases_drawn d (suc n) more point)

  items_rule : (i : ℕ) (views : List (Option Record)) → Each IsRuleNote (view_items i views)
  items_rule i [] = tt
  items_rule i (None ∷ views) = items_rule (suc i) views
  items_rule i (Some item ∷ views) = (tt, items_rule (suc i) views)

  -- the last snapshot is as it was, or is the job that has become whole
  pub record IsJobTurn (c : ControllerState) (next : Option Job) (t : Turn ControllerState) : Type 0 where
    pub rule : IsRule P c t
    pub round : t.state.round ≡ c.round
    pub last : (t.state.last ≡ c.last) ⊎ ((job : Job) × (next ≡ Some job) × (is_whole job ≡ true) × (t.state.last ≡ completed job))

  calm_job : (c : ControllerState) (next : Option Job) (t : Turn ControllerState) → IsCalmRule P c t → IsJobTurn c next t
  calm_job c next t h = record { rule = h.rule; round = h.round; last = inl h.last }

  job_rule : (c : ControllerState) (job : Job) (out : List Out) → Each (OutDrawn P (record c { job = Some job })) out → IsJobTurn c (Some job) (job_turn config c job out)
  job_rule c job out h = go (is_whole job) refl
    where
      go : (b : Bool) → is_whole job ≡ b → IsJobTurn c (Some job) (if b then completes config c (completed job) job.sames else record { state = record c { job = Some job }; out = out; notes = [] })
      go true e = record {
        rule = record { jobs = omega arith; rounds = omega arith; notes = (tt, items_rule 0 (completed job).views); out = releases_drawn (record c { job = None; last = completed job; last_epoch = c.epoch }) 0 config.clients (completed job).point };
        round = refl;
        last = inr (job, refl, e, refl);
      }
      go false e = record { rule = record { jobs = omega arith; rounds = omega arith; notes = tt; out = h }; round = refl; last = inl refl }

  pub begun_rule : (c : ControllerState) (id point : ℕ) (o : Option Job) → IsJobTurn c (begun_job id point o) (snapshot_begun config c id point o)
  begun_rule c id point None = calm_job c None (idle c) (idle_calm P c)
  begun_rule c id point (Some job) = go (nat_eq job.id id && not (has_begun job))
    where
      go : (b : Bool) → IsJobTurn c (if b then Some (record job { begun = Some point }) else None) (if b then job_turn config c (record job { begun = Some point }) (part_reads c.epoch id 0 job.parts) else idle c)
      go true = job_rule c (record job { begun = Some point }) (part_reads c.epoch id 0 job.parts) (reads_drawn (record c { job = Some (record job { begun = Some point }) }) c.epoch id 0 job.parts)
      go false = calm_job c None (idle c) (idle_calm P c)

  pub part_rule : (c : ControllerState) (id i : ℕ) (view : Option Record) (o : Option Job) → IsJobTurn c (part_job id i view o) (part_came config c id i view o)
  part_rule c id i view None = calm_job c None (idle c) (idle_calm P c)
  part_rule c id i view (Some job) = go (nat_eq job.id id && (nat_lt i (length job.parts) && not (has_part job i)))
    where
      go : (b : Bool) → IsJobTurn c (if b then Some (with_part job i view) else None) (if b then job_turn config c (with_part job i view) [] else idle c)
      go true = job_rule c (with_part job i view) [] tt
      go false = calm_job c None (idle c) (idle_calm P c)

  same_part_rule : (c : ControllerState) (id i : ℕ) (job : Job) (o : Option (Option Record)) → IsJobTurn c (same_view_job id i job o) (same_part config c id i job o)
  same_part_rule c id i job None = calm_job c None (idle c) (idle_calm P c)
  same_part_rule c id i job (Some view) = go (nat_eq job.id id && (nat_lt i (length job.parts) && not (has_part job i)))
    where
      go : (b : Bool) → IsJobTurn c (if b then Some (with_same job i view) else None) (if b then job_turn config c (with_same job i view) [] else idle c)
      go true = job_rule c (with_same job i view) [] tt
      go false = calm_job c None (idle c) (idle_calm P c)

  pub same_rule : (c : ControllerState) (id i : ℕ) (o : Option Job) → IsJobTurn c (same_job c.last id i o) (same_came config c id i o)
  same_rule c id i None = calm_job c None (idle c) (idle_calm P c)
  same_rule c id i (Some job) = same_part_rule c id i job (slice_get c.last.views i)

-- what the last snapshot covered, the new one or a server does
pub job_snapshot : (plan : PlanView) (s : State) (packet : Packet) (t : Turn ControllerState) → CompletesSafely plan s packet → (t.state.last ≡ s.controller.last) ⊎ ((job : Job) × (next_job s.controller packet ≡ Some job) × (is_whole job ≡ true) × (t.state.last ≡ completed job))
    → (key : List ℕ) (num : ℕ) → IsAbsorbed plan s.log key num → IsInSnapshot s key num → IsAtServer plan s key num ⊎ Covers (view_records t.state.last.views) key num
job_snapshot plan s packet t safe (inl e) key num a b = calm_snapshot plan s t e key num a b
job_snapshot plan s packet t safe (inr p) key num a b = go (safe p.0 p.1 p.2 key num a b)
  where
    go : IsAtServer plan s key num ⊎ Covers (view_records (completed p.0).views) key num → IsAtServer plan s key num ⊎ Covers (view_records t.state.last.views) key num
    go (inl c) = inl c
    go (inr c) = inr (subst (λ (v : Rattle.far_model.specs.Snapshots.SnapshotView). Covers (view_records v.views) key num) (sym p.3) c)

-- A turn of the controller lowers the work.
use Rattle.far_invariants.specs.Slots.{IsGiven}
use Rattle.std.proofs.Common.{◌≡◌, ◌≢◌, ℕ, zero, suc, ◌+◌, ◌-◌, ◌*◌, ◌≤◌, ◌<◌, Bool, true, false, true≢false, cond, not, ◌&&◌, nat_eq, nat_le, nat_lt, eqb-true, eq-eqb, ne_eqb, List, [], ◌∷◌, ◌++◌, length, drop, set, refl, sym, ap, ◌∙◌, subst, arith}
use Rattle.std.specs.Prelude.{Option, None, Some, is_some, slice_index_or, slice_set, slice_get}
use Rattle.std.specs.List.{count_by, list_all, sum_by}
use Rattle.std.proofs.lemmas.List.{map-append}
use Rattle.std.proofs.lemmas.Bool.{and_parts, eqb-false}
use Rattle.std.proofs.lemmas.List.Sums.{sum_by-append, sum_by-cons}
use Rattle.far_base.specs.PlanView.{PlanView}
use Rattle.far_base.specs.declared.packet.Message.{Message}
use Rattle.far_base.specs.declared.packet.Out.{Out}
use Rattle.far_base.specs.declared.packet.Packet.{Packet}
use Rattle.far_base.specs.declared.packet.Packet.TheVariants.{GetReq, WriteReq, GetFwd, WriteFwd, GetRep, WriteRep, GetAns, WriteAns, Hot, Admit, AdmitAck, Peek, PeekAns, Remove, RemoveAns, SnapStart, SnapBegun, SnapRead, SnapPart, Store, Stored, Release, Ask, Told, TopAsk, TopIs, SnapFrom, SnapSame}
use Rattle.far_base.specs.declared.party.Party.{Party}
use Rattle.far_base.specs.declared.party.Party.TheVariants.{Client, Switch, Server, Controller}
use Rattle.far_base.specs.declared.record.Record.{Record}
use Rattle.far_base.specs.declared.slot_state.SlotState.{SlotState}
use Rattle.far_base.specs.declared.slot_state.SlotState.TheVariants.{Free, Admitting, Held, Evicting}
use Rattle.far_base.specs.declared.slot_state.Due.{Due}
use Rattle.far_base.specs.declared.slot_state.Due.TheVariants.{Peeked, Stored as StoredDue, Removed, Over}
use Rattle.far_model.specs.Controller.{ControllerState, opening_controller, to_clients, to_servers, wanted, evicts, acked_state, acknowledged, evicts_on, peek_answered, removal_answered, start_snapshot, completes, job_turn, snapshot_begun, part_came, store_outs, round_turn, told_round, client_told, round_stored, store_answered, top_told, controller_takes, with_state, is_evicting_job, same_came, same_part, is_last_present}
use Rattle.far_model.specs.Evictions.{Eviction, Send, Store as StoreNext, Done, Kept, is_due, is_free, is_held, is_admitting, state_at, key_in, tag_in, begins_eviction, peek_of, after_peek, after_store, after_removal, shown_item, waits_for, waits_job, storing, removing, TRIES}
use Rattle.far_invariants.specs.Flights.{IsFor, Subject, OfOperation, OfAdmission, OfEviction, OfJob, OfSnapshot, OfRound, OfNone, subject}
use Rattle.far_model.specs.Members.{Among}
use Rattle.far_model.specs.Parties.{Turn, idle, to_party, messages_from}
use Rattle.far_model.specs.Rounds.{Round, asks_tops, has_told, telling_at}
use Rattle.far_model.specs.Snapshots.{Job, SnapshotView, has_begun, has_part, is_whole, completed, part_reads, with_same, new_job}
use Rattle.far_model.specs.Work.{message_weight, packet_weight, wants_weight, room, job_weight, round_weight, is_peeking, is_removing, tries_of, told_weight, is_for_want}
use Rattle.far_model.specs.View.{server_of}
use Rattle.far_invariants.specs.InFlight.{EvictionIs, TriesFit, is_own}
use Rattle.far_invariants.specs.Sizes.{PartsFit}
use Rattle.flight_laws.proofs.Counts.{sum_same}
use Rattle.flight_laws.proofs.Passes.{tested}
use Rattle.flight_laws.proofs.Weights.{wants_room, wants_append, wants_served, free_count_same, free_count_more}
use Rattle.flight_laws.proofs.Lists.{by_test}

-- ---- what a packet weighs that no eviction waits for

abbrev pub plain_weight : PlanView → Message → ℕ
plain_weight plan m = packet_weight plan (opening_controller plan.config) m.to m.packet

pub same_weight : (plan : PlanView) (c d : ControllerState) (to : Party) (p : Packet) → c.eviction ≡ d.eviction → packet_weight plan c to p ≡ packet_weight plan d to p
same_weight plan c d to (Peek epoch i tag) e = ap (λ o. cond {A = ℕ} (is_peeking i tag o) 14 2) e
same_weight plan c d to (PeekAns i tag latest num body) e = ap (λ o. cond {A = ℕ} (is_peeking i tag o) 13 1) e
same_weight plan c d to (Remove epoch i tag latest num) e = ap (λ o. cond {A = ℕ} (is_removing i tag o) (14 - 4 * tries_of o) 2) e
same_weight plan c d to (RemoveAns i tag done latest num body) e = ap (λ o. cond {A = ℕ} (is_removing i tag o) (13 - 4 * tries_of o) 1) e
same_weight plan c d to (Store job item) e = ap (λ o. cond {A = ℕ} (is_evicting_job job o) (12 - 4 * tries_of o) 2) e
same_weight plan c d to (Stored job) e = ap (λ o. cond {A = ℕ} (is_evicting_job job o) (11 - 4 * tries_of o) 1) e
same_weight plan c d to _ e = refl

and_off : (a b : Bool) → b ≡ false → a && b ≡ false
and_off true b e = e
and_off false b e = refl

-- a packet that is not the eviction's own weighs what it would without one
pub stranger_weight : (plan : PlanView) (c : ControllerState) (e : Eviction) (to : Party) (p : Packet) → c.eviction ≡ Some e → is_own e (subject p) ≡ false → packet_weight plan c to p ≡ packet_weight plan (opening_controller plan.config) to p
stranger_weight plan c e to (Peek epoch i tag) h off = ap (λ o. cond {A = ℕ} (is_peeking i tag o) 14 2) h ∙ ap (λ b. cond {A = ℕ} b 14 2) (and_off (is_due e.due Peeked) (nat_eq e.slot i && nat_eq e.tag tag) off)
stranger_weight plan c e to (PeekAns i tag latest num body) h off = ap (λ o. cond {A = ℕ} (is_peeking i tag o) 13 1) h ∙ ap (λ b. cond {A = ℕ} b 13 1) (and_off (is_due e.due Peeked) (nat_eq e.slot i && nat_eq e.tag tag) off)
stranger_weight plan c e to (Remove epoch i tag latest num) h off = ap (λ o. cond {A = ℕ} (is_removing i tag o) (14 - 4 * tries_of o) 2) h ∙ ap (λ b. cond {A = ℕ} b (14 - 4 * e.tries) 2) (and_off (is_due e.due Removed) (nat_eq e.slot i && nat_eq e.tag tag) off)
stranger_weight plan c e to (RemoveAns i tag done latest num body) h off = ap (λ o. cond {A = ℕ} (is_removing i tag o) (13 - 4 * tries_of o) 1) h ∙ ap (λ b. cond {A = ℕ} b (13 - 4 * e.tries) 1) (and_off (is_due e.due Removed) (nat_eq e.slot i && nat_eq e.tag tag) off)
stranger_weight plan c e to (Store job item) h off = ap (λ o. cond {A = ℕ} (is_evicting_job job o) (12 - 4 * tries_of o) 2) h ∙ ap (λ b. cond {A = ℕ} b (12 - 4 * e.tries) 2) off
stranger_weight plan c e to (Stored job) h off = ap (λ o. cond {A = ℕ} (is_evicting_job job o) (11 - 4 * tries_of o) 1) h ∙ ap (λ b. cond {A = ℕ} b (11 - 4 * e.tries) 1) off
stranger_weight plan c e to _ h off = refl

-- all messages are strangers to the eviction that is there
abbrev pub AllStrange : Option Eviction → List Message → Type 0
AllStrange None bag = Unit {0}
AllStrange (Some e) bag = (m : Message) → Among m bag → is_own e (subject m.packet) ≡ false

pub strange_sum : (plan : PlanView) (c : ControllerState) (bag : List Message) → AllStrange c.eviction bag → sum_by (message_weight plan c) bag ≡ sum_by (plain_weight plan) bag
strange_sum plan c bag = go c.eviction refl
  where
    go : (o : Option Eviction) → c.eviction ≡ o → AllStrange o bag → sum_by (message_weight plan c) bag ≡ sum_by (plain_weight plan) bag
    go None h s = sum_same (message_weight plan c) (plain_weight plan) bag (λ m a. same_weight plan c (opening_controller plan.config) m.to m.packet h)
    go (Some e) h s = sum_same (message_weight plan c) (plain_weight plan) bag (λ m a. stranger_weight plan c e m.to m.packet h (s m a))

-- ---- turns

-- what the controller has to do besides its messages
abbrev pub own_weight : PlanView → ControllerState → ℕ
own_weight plan c = wants_weight (room c) c.wants + job_weight plan c + round_weight plan c.round

-- the turn lowers the work, and a round stays under way or not
pub record ControlLowers (plan : PlanView) (c : ControllerState) (rest : List Message) (w : ℕ) (t : Turn ControllerState) : Type 0 where
  pub less : suc (sum_by (message_weight plan t.state) rest + sum_by (message_weight plan t.state) (messages_from Controller t.out) + own_weight plan t.state) ≤ w + sum_by (message_weight plan c) rest + own_weight plan c
  pub round : is_some t.state.round ≡ is_some c.round

-- what a turn may rely on
pub record Facts (plan : PlanView) (c : ControllerState) (rest : List Message) (p : Packet) : Type 0 where
  pub eviction : (e : Eviction) → c.eviction ≡ Some e → EvictionIs c e × (is_own e (subject p) ≡ true → AllStrange (Some e) rest)
  pub jobs : (m : Message) (job : ℕ) → Among m rest → subject m.packet ≡ OfJob job → job < c.next_job
  pub states : length c.slots ≡ plan.config.slots
  pub parts : PartsFit plan.config.slots c.job

pub storing_strange : (e : Eviction) (next : ℕ) (item : Record) (rest : List Message) → AllStrange (Some e) rest → ((m : Message) (job : ℕ) → Among m rest → subject m.packet ≡ OfJob job → job < next) → AllStrange (Some (storing next item e)) rest
storing_strange e next item rest strange jobs m a = go (subject m.packet) refl (strange m a)
  where
    go : (sub : Subject) → subject m.packet ≡ sub → is_own e sub ≡ false → is_own (storing next item e) sub ≡ false
    go (OfEviction i tag) k h = h
    go (OfJob job) k h = ne_eqb next job (λ same. let b = jobs m job a k in omega (arith, b, same))
    go (OfOperation caller op) k h = refl
    go (OfAdmission slot tag) k h = refl
    go (OfSnapshot id) k h = refl
    go (OfRound round) k h = refl
    go OfNone k h = refl

pub removing_strange : (e : Eviction) (rest : List Message) → AllStrange (Some e) rest → AllStrange (Some (removing e)) rest
removing_strange e rest strange m a = go (subject m.packet) (strange m a)
  where
    go : (sub : Subject) → is_own e sub ≡ false → is_own (removing e) sub ≡ false
    go (OfEviction i tag) h = h
    go (OfJob job) h = refl
    go (OfOperation caller op) h = refl
    go (OfAdmission slot tag) h = refl
    go (OfSnapshot id) h = refl
    go (OfRound round) h = refl
    go OfNone h = refl

module _ (plan : PlanView) (rest : List Message) where
  abbrev outs : Turn ControllerState → ℕ
  outs t = sum_by (message_weight plan t.state) (messages_from Controller t.out)

  -- a turn that leaves the eviction as it is
  pub same_turn : (c : ControllerState) (w : ℕ) (t : Turn ControllerState) → t.state.eviction ≡ c.eviction → suc (outs t + own_weight plan t.state) ≤ w + own_weight plan c → is_some t.state.round ≡ is_some c.round → ControlLowers plan c rest w t
  same_turn c w t same less round =
      let e = sum_same (message_weight plan t.state) (message_weight plan c) rest (λ m a. same_weight plan t.state c m.to m.packet same) in
      record { less = omega (arith, e, less); round = round }

  -- one that changes it while nothing else on its way belongs to it
  new_turn : (c : ControllerState) (w : ℕ) (t : Turn ControllerState) → AllStrange c.eviction rest → AllStrange t.state.eviction rest → suc (outs t + own_weight plan t.state) ≤ w + own_weight plan c → is_some t.state.round ≡ is_some c.round → ControlLowers plan c rest w t
  new_turn c w t old new less round =
      record { less = omega (arith, strange_sum plan c rest old, strange_sum plan t.state rest new, less); round = round }

  pub idle_turn : (c : ControllerState) (w : ℕ) → 1 ≤ w → ControlLowers plan c rest w (idle c)
  idle_turn c w h = same_turn c w (idle c) refl (omega (arith, h)) refl

  -- ---- wants and admissions

  pub wanted_lowers : (c : ControllerState) (key : List ℕ) → ControlLowers plan c rest 19 (idle (wanted key c))
  wanted_lowers c key = tested (λ z. ControlLowers plan c rest 19 (idle z)) (is_some c.round) c (record c { wants = c.wants ++ key ∷ [] })
      (λ e. idle_turn c 19 (omega arith))
      (λ e. same_turn c 19 (idle (record c { wants = c.wants ++ key ∷ [] })) refl (omega (arith, wants_append (room c) c.wants key)) refl)

  admitting_busy : (tag : ℕ) (st : SlotState) → is_admitting tag st ≡ true → is_free st ≡ false
  admitting_busy tag Free h = absurd (true≢false (sym h))
  admitting_busy tag (Admitting key own) h = refl
  admitting_busy tag (Held key own) h = refl
  admitting_busy tag (Evicting key own) h = refl

  acked_lowers : (c : ControllerState) (i tag : ℕ) → ControlLowers plan c rest 1 (acknowledged c i tag)
  acked_lowers c i tag = tested (ControlLowers plan c rest 1) (is_admitting tag (state_at c.slots i)) _ (idle c)
      (λ e. let busy = free_count_same c.slots i (acked_state (state_at c.slots i)) (admitting_busy tag (state_at c.slots i) e) refl in
      let same : own_weight plan (with_state c i (acked_state (state_at c.slots i))) ≡ own_weight plan c = ap (λ n. wants_weight (n + cond {A = ℕ} (is_for_want c.eviction) 1 0) c.wants + job_weight plan c + round_weight plan c.round) busy in
      same_turn c 1 _ refl (omega (arith, same)) refl)
      (λ e. idle_turn c 1 (omega arith))

  -- ---- evictions

  pub due_is : (a b : Due) → is_due a b ≡ true → a ≡ b
  due_is Peeked Peeked h = refl
  due_is StoredDue StoredDue h = refl
  due_is Removed Removed h = refl
  due_is Over Over h = refl
  due_is Peeked StoredDue h = absurd (true≢false (sym h))
  due_is Peeked Removed h = absurd (true≢false (sym h))
  due_is Peeked Over h = absurd (true≢false (sym h))
  due_is StoredDue Peeked h = absurd (true≢false (sym h))
  due_is StoredDue Removed h = absurd (true≢false (sym h))
  due_is StoredDue Over h = absurd (true≢false (sym h))
  due_is Removed Peeked h = absurd (true≢false (sym h))
  due_is Removed StoredDue h = absurd (true≢false (sym h))
  due_is Removed Over h = absurd (true≢false (sym h))
  due_is Over Peeked h = absurd (true≢false (sym h))
  due_is Over StoredDue h = absurd (true≢false (sym h))
  due_is Over Removed h = absurd (true≢false (sym h))

  removal_weighs : (c : ControllerState) (e : Eviction) (epoch : ℕ) (latest : Bool) (num : ℕ) → packet_weight plan (record c { eviction = Some (removing e) }) Switch (Remove epoch e.slot e.tag latest num) ≡ 14 - 4 * (e.tries + 1)
  removal_weighs c e epoch latest num = ap (λ b. cond {A = ℕ} b (14 - 4 * (e.tries + 1)) 2) (ap (λ b. b && nat_eq e.tag e.tag) (eq-eqb e.slot e.slot refl) ∙ eq-eqb e.tag e.tag refl)

  store_weighs : (c : ControllerState) (e : Eviction) (job : ℕ) (item : Record) (to : Party) → packet_weight plan (record c { eviction = Some (storing job item e); next_job = c.next_job + 1 }) to (Store job item) ≡ 12 - 4 * e.tries
  store_weighs c e job item to = ap (λ b. cond {A = ℕ} b (12 - 4 * e.tries) 2) (eq-eqb job job refl)

  removes_on : (c : ControllerState) (e : Eviction) (w epoch : ℕ) (latest : Bool) (num : ℕ) → AllStrange (Some e) rest → e.tries ≤ 2 → suc (14 - 4 * (e.tries + 1)) ≤ w
      → ControlLowers plan (record c { eviction = Some e }) rest w (evicts_on plan.config (record c { eviction = Some e }) e (Send (Remove epoch e.slot e.tag latest num)))
  removes_on c e w epoch latest num strange few less = new_turn (record c { eviction = Some e }) w _ strange (removing_strange e rest strange) (omega (arith, removal_weighs c e epoch latest num, less)) refl

  stores_on : (c : ControllerState) (e : Eviction) (w : ℕ) (item : Record) → AllStrange (Some e) rest → ((m : Message) (job : ℕ) → Among m rest → subject m.packet ≡ OfJob job → job < c.next_job) → suc (12 - 4 * e.tries) ≤ w
      → ControlLowers plan (record c { eviction = Some e }) rest w (evicts_on plan.config (record c { eviction = Some e }) e (StoreNext item))
  stores_on c e w item strange jobs less = new_turn (record c { eviction = Some e }) w _ strange (storing_strange e c.next_job item rest strange jobs) (omega (arith, store_weighs c e c.next_job item (Server (server_of plan.config item.key)), less)) refl

  peek_due : (c : ControllerState) (e : Eviction) (w : ℕ) (latest : Bool) (num : ℕ) (body : Option (List ℕ)) → AllStrange (Some e) rest → ((m : Message) (job : ℕ) → Among m rest → subject m.packet ≡ OfJob job → job < c.next_job) → e.tries ≡ 0 → 13 ≤ w
      → ControlLowers plan (record c { eviction = Some e }) rest w (evicts_on plan.config (record c { eviction = Some e }) e (after_peek e latest num body))
  peek_due c e w true num body strange jobs none h = stores_on c e w (shown_item e num body) strange jobs (omega (arith, none, h))
  peek_due c e w false num body strange jobs none h = removes_on c e w e.epoch false 0 strange (omega (arith, none)) (omega (arith, none, h))

  parts_of : (a b : Bool) → (a && b) ≡ true → (a ≡ true) × (b ≡ true)
  parts_of a b h = and_parts a b h

  peek_lowers : (c : ControllerState) (i tag : ℕ) (latest : Bool) (num : ℕ) (body : Option (List ℕ)) (o : Option Eviction) → Facts plan (record c { eviction = o }) rest (PeekAns i tag latest num body)
      → ControlLowers plan (record c { eviction = o }) rest (packet_weight plan (record c { eviction = o }) Controller (PeekAns i tag latest num body)) (peek_answered plan.config (record c { eviction = o }) i tag latest num body o)
  peek_lowers c i tag latest num body None f = idle_turn (record c { eviction = None }) 1 (omega arith)
  peek_lowers c i tag latest num body (Some e) f = go (waits_for Peeked i tag e) refl
    where
      c' : ControllerState
      c' = record c { eviction = Some e }

      go : (b : Bool) → waits_for Peeked i tag e ≡ b → ControlLowers plan (record c { eviction = Some e }) rest (cond {A = ℕ} b 13 1) (cond b (evicts_on plan.config (record c { eviction = Some e }) e (after_peek e latest num body)) (idle (record c { eviction = Some e })))
      go true h =
          let p = parts_of _ _ h in
          let none : e.tries ≡ 0 = subst (λ d. TriesFit d e.tries) (due_is e.due Peeked p.0) ((f.eviction e refl).0).tries in
          peek_due c e 13 latest num body ((f.eviction e refl).1 p.1) f.jobs none (omega arith)
      go false h = idle_turn (record c { eviction = Some e }) 1 (omega arith)

  -- the slot is free, or stays
  frees_on : (c : ControllerState) (e : Eviction) (w : ℕ) → AllStrange (Some e) rest → state_at c.slots e.slot ≡ Evicting e.key e.tag → 1 ≤ w
      → ControlLowers plan (record c { eviction = Some e }) rest w (evicts_on plan.config (record c { eviction = Some e }) e (Done e.tries))
  frees_on c e w strange state h =
      let more = free_count_more c.slots e.slot (ap is_free state) in
      let n : ℕ = count_by is_free c.slots in
      let less : (b : Bool) → wants_weight (count_by is_free (set c.slots e.slot Free) + 0) c.wants ≤ wants_weight (n + cond {A = ℕ} b 1 0) c.wants = λ (b : Bool). wants_room (n + cond {A = ℕ} b 1 0) (count_by is_free (set c.slots e.slot Free) + 0) c.wants (bound b n more) in
      new_turn (record c { eviction = Some e }) w _ strange tt (let l = less e.for_want in omega (arith, l, h)) refl
    where
      bound : (b : Bool) (n : ℕ) → count_by is_free (set c.slots e.slot Free) ≡ suc n → n + cond {A = ℕ} b 1 0 ≤ count_by is_free (set c.slots e.slot Free) + 0
      bound true n more = omega (arith, more)
      bound false n more = omega (arith, more)

  keeps_on : (c : ControllerState) (e : Eviction) (last : Record) (w : ℕ) → AllStrange (Some e) rest → state_at c.slots e.slot ≡ Evicting e.key e.tag → 1 ≤ w
      → ControlLowers plan (record c { eviction = Some e }) rest w (evicts_on plan.config (record c { eviction = Some e }) e (Kept TRIES last))
  keeps_on c e last w strange state h = go e.for_want
    where
      same : count_by is_free (set c.slots e.slot (Held e.key e.tag)) ≡ count_by is_free c.slots
      same = free_count_same c.slots e.slot (Held e.key e.tag) (ap is_free state) refl

      go : (b : Bool) → ControlLowers plan (record c { eviction = Some (record e { for_want = b }) }) rest w (evicts_on plan.config (record c { eviction = Some (record e { for_want = b }) }) (record e { for_want = b }) (Kept TRIES last))
      go true =
          let less = wants_served (count_by is_free c.slots) c.wants in
          let a : wants_weight (count_by is_free (set c.slots e.slot (Held e.key e.tag)) + 0) (drop 1 c.wants) ≡ wants_weight (count_by is_free c.slots) (drop 1 c.wants) = ap (λ n. wants_weight n (drop 1 c.wants)) (omega (arith, same)) in
          let b : wants_weight (count_by is_free c.slots + 1) c.wants ≡ wants_weight (suc (count_by is_free c.slots)) c.wants = ap (λ n. wants_weight n c.wants) (omega arith) in
          new_turn (record c { eviction = Some (record e { for_want = true }) }) w _ strange tt (omega (arith, a, b, less, h)) refl
      go false =
          let a : wants_weight (count_by is_free (set c.slots e.slot (Held e.key e.tag)) + 0) c.wants ≡ wants_weight (count_by is_free c.slots + 0) c.wants = ap (λ n. wants_weight (n + 0) c.wants) same in
          new_turn (record c { eviction = Some (record e { for_want = false }) }) w _ strange tt (omega (arith, a, h)) refl

  removal_due : (c : ControllerState) (e : Eviction) (done : Bool) (num : ℕ) (body : Option (List ℕ)) → AllStrange (Some e) rest → ((m : Message) (job : ℕ) → Among m rest → subject m.packet ≡ OfJob job → job < c.next_job)
      → state_at c.slots e.slot ≡ Evicting e.key e.tag → 1 ≤ e.tries → e.tries ≤ 3
      → ControlLowers plan (record c { eviction = Some e }) rest (13 - 4 * e.tries) (evicts_on plan.config (record c { eviction = Some e }) e (after_removal e done num body))
  removal_due c e true num body strange jobs state some few = frees_on c e (13 - 4 * e.tries) strange state (omega (arith, few))
  removal_due c e false num body strange jobs state some few = go (nat_eq e.tries 3) refl
    where
      go : (b : Bool) → nat_eq e.tries 3 ≡ b → ControlLowers plan (record c { eviction = Some e }) rest (13 - 4 * e.tries) (evicts_on plan.config (record c { eviction = Some e }) e (cond b (Kept TRIES (shown_item e num body)) (StoreNext (shown_item e num body))))
      go true h = keeps_on c e (shown_item e num body) (13 - 4 * e.tries) strange state (omega (arith, few))
      go false h = stores_on c e (13 - 4 * e.tries) (shown_item e num body) strange jobs (let n : e.tries ≢ 3 = eqb-false e.tries 3 h in omega (arith, few, n))

  removal_lowers : (c : ControllerState) (i tag : ℕ) (done latest : Bool) (num : ℕ) (body : Option (List ℕ)) (o : Option Eviction) → Facts plan (record c { eviction = o }) rest (RemoveAns i tag done latest num body)
      → ControlLowers plan (record c { eviction = o }) rest (packet_weight plan (record c { eviction = o }) Controller (RemoveAns i tag done latest num body)) (removal_answered plan.config (record c { eviction = o }) i tag done num body o)
  removal_lowers c i tag done latest num body None f = idle_turn (record c { eviction = None }) 1 (omega arith)
  removal_lowers c i tag done latest num body (Some e) f = go (waits_for Removed i tag e) refl
    where
      go : (b : Bool) → waits_for Removed i tag e ≡ b → ControlLowers plan (record c { eviction = Some e }) rest (cond {A = ℕ} b (13 - 4 * e.tries) 1) (cond b (evicts_on plan.config (record c { eviction = Some e }) e (after_removal e done num body)) (idle (record c { eviction = Some e })))
      go true h =
          let p = parts_of _ _ h in
          let is = (f.eviction e refl).0 in
          let tries : (1 ≤ e.tries) × (e.tries ≤ 3) = subst (λ d. TriesFit d e.tries) (due_is e.due Removed p.0) is.tries in
          removal_due c e done num body ((f.eviction e refl).1 p.1) f.jobs is.state tries.0 tries.1
      go false h = idle_turn (record c { eviction = Some e }) 1 (omega arith)

  -- ---- lists of messages

  releases_weigh : (c : ControllerState) (point n more : ℕ) → sum_by (message_weight plan c) (messages_from Controller (to_clients n more (Release point))) ≡ more
  releases_weigh c point n zero = refl
  releases_weigh c point n (suc more) = sum_by-cons (message_weight plan c) (record { from = Controller; to = Client n; packet = Release point }) (messages_from Controller (to_clients (suc n) more (Release point)))
      ∙ omega (arith, releases_weigh c point (suc n) more)

  tops_weigh : (c : ControllerState) (number n more : ℕ) → sum_by (message_weight plan c) (messages_from Controller (to_servers n more (TopAsk number))) ≡ 2 * more
  tops_weigh c number n zero = refl
  tops_weigh c number n (suc more) = sum_by-cons (message_weight plan c) (record { from = Controller; to = Server n; packet = TopAsk number }) (messages_from Controller (to_servers (suc n) more (TopAsk number)))
      ∙ omega (arith, tops_weigh c number (suc n) more)

  reads_weigh : (c : ControllerState) (epoch id i : ℕ) (parts : List (Option (Option Record))) → sum_by (message_weight plan c) (messages_from Controller (part_reads epoch id i parts)) ≤ length parts
  reads_weigh c epoch id i [] = omega arith
  reads_weigh c epoch id i (part ∷ parts) = go (is_some part) (reads_weigh c epoch id (suc i) parts)
    where
      go : (b : Bool) → sum_by (message_weight plan c) (messages_from Controller (part_reads epoch id (suc i) parts)) ≤ length parts
          → sum_by (message_weight plan c) (messages_from Controller (cond b (part_reads epoch id (suc i) parts) (to_party Switch (SnapRead epoch id i) ∷ part_reads epoch id (suc i) parts))) ≤ suc (length parts)
      go true h = omega (arith, h)
      go false h = let s = sum_by-cons (message_weight plan c) (record { from = Controller; to = Switch; packet = SnapRead epoch id i }) (messages_from Controller (part_reads epoch id (suc i) parts)) in omega (arith, h, s)

  -- ---- snapshots

  completes_lowers : (c : ControllerState) (job : Job) (w : ℕ) (s : SnapshotView) (sames : ℕ) → 1 ≤ w → ControlLowers plan (record c { job = Some job }) rest w (completes plan.config (record c { job = Some job }) s sames)
  completes_lowers c job w s sames h = same_turn (record c { job = Some job }) w _ refl (omega (arith, releases_weigh (record c { job = None; last = s; last_epoch = c.epoch }) s.point 0 plan.config.clients, h)) refl

  -- the job goes on with what is asked, or is whole
  job_lowers : (c : ControllerState) (job next : Job) (w : ℕ) (out : List Out) → 1 ≤ w → ((d : ControllerState) → suc (sum_by (message_weight plan d) (messages_from Controller out)) ≤ w) → ControlLowers plan (record c { job = Some job }) rest w (job_turn plan.config (record c { job = Some job }) next out)
  job_lowers c job next w out h less = tested (ControlLowers plan (record c { job = Some job }) rest w) (is_whole next) _ _
      (λ e. completes_lowers c job w (completed next) next.sames h)
      (λ e. let l = less (record c { job = Some next }) in same_turn (record c { job = Some job }) w _ refl (omega (arith, l)) refl)

  begun_lowers : (c : ControllerState) (id point : ℕ) (o : Option Job) → PartsFit plan.config.slots o → ControlLowers plan (record c { job = o }) rest (plan.config.slots + 1) (snapshot_begun plan.config (record c { job = o }) id point o)
  begun_lowers c id point None f = idle_turn (record c { job = None }) _ (omega arith)
  begun_lowers c id point (Some job) f = tested (ControlLowers plan (record c { job = Some job }) rest (plan.config.slots + 1)) (nat_eq job.id id && not (has_begun job)) _ _
      (λ e. job_lowers c job (record job { begun = Some point }) (plan.config.slots + 1) (part_reads c.epoch id 0 job.parts) (omega arith) (λ d. omega (arith, reads_weigh d c.epoch id 0 job.parts, f)))
      (λ e. idle_turn (record c { job = Some job }) _ (omega arith))

  part_lowers : (c : ControllerState) (id i : ℕ) (view : Option Record) (o : Option Job) → ControlLowers plan (record c { job = o }) rest 1 (part_came plan.config (record c { job = o }) id i view o)
  part_lowers c id i view None = idle_turn (record c { job = None }) 1 (omega arith)
  part_lowers c id i view (Some job) = tested (ControlLowers plan (record c { job = Some job }) rest 1) (nat_eq job.id id && (nat_lt i (length job.parts) && not (has_part job i))) _ _
      (λ e. job_lowers c job (record job { parts = slice_set job.parts i (Some view) }) 1 [] (omega arith) (λ d. omega arith))
      (λ e. idle_turn (record c { job = Some job }) 1 (omega arith))

  same_lowers : (c : ControllerState) (id i : ℕ) (o : Option Job) → ControlLowers plan (record c { job = o }) rest 1 (same_came plan.config (record c { job = o }) id i o)
  same_lowers c id i None = idle_turn (record c { job = None }) 1 (omega arith)
  same_lowers c id i (Some job) = go (slice_get c.last.views i)
    where
      go : (v : Option (Option Record)) → ControlLowers plan (record c { job = Some job }) rest 1 (same_part plan.config (record c { job = Some job }) id i job v)
      go None = idle_turn (record c { job = Some job }) 1 (omega arith)
      go (Some view) = tested (ControlLowers plan (record c { job = Some job }) rest 1) (nat_eq job.id id && (nat_lt i (length job.parts) && not (has_part job i))) _ _
          (λ e. job_lowers c job (with_same job i view) 1 [] (omega arith) (λ d. omega arith))
          (λ e. idle_turn (record c { job = Some job }) 1 (omega arith))

  starts_lowers : (c : ControllerState) → c.job ≡ None → (p : Packet) → packet_weight plan (record c { job = Some (new_job c.next_id (length c.slots)); next_id = c.next_id + 1 }) Switch p ≡ 2 * plan.config.slots + 2
      → ControlLowers plan c rest (2 * plan.config.slots + plan.config.clients + 3) (record { state = record c { job = Some (new_job c.next_id (length c.slots)); next_id = c.next_id + 1 }; out = to_party Switch p ∷ []; notes = [] })
  starts_lowers c none p weighs = let before : job_weight plan c ≡ 0 = ap (λ o. cond {A = ℕ} (is_some o) plan.config.clients 0) none in same_turn c _ (record { state = record c { job = Some (new_job c.next_id (length c.slots)); next_id = c.next_id + 1 }; out = to_party Switch p ∷ []; notes = [] }) refl (omega (arith, before, weighs)) refl

  pub snapshot_lowers : (c : ControllerState) → c.job ≡ None → ControlLowers plan c rest (2 * plan.config.slots + plan.config.clients + 3) (start_snapshot c)
  snapshot_lowers c none = by_test (λ p. ControlLowers plan c rest (2 * plan.config.slots + plan.config.clients + 3) (record { state = record c { job = Some (new_job c.next_id (length c.slots)); next_id = c.next_id + 1 }; out = to_party Switch p ∷ []; notes = [] })) (is_last_present c) (SnapFrom c.epoch c.next_id c.last.id) (SnapStart c.epoch c.next_id)
      (starts_lowers c none (SnapFrom c.epoch c.next_id c.last.id) refl) (starts_lowers c none (SnapStart c.epoch c.next_id) refl)

  -- ---- rounds, in which there is no eviction

  -- what is told or stored: the round asks for the tops, or goes on
  round_lowers : (c : ControllerState) (r next : Round) (w : ℕ) (out : List Out) → next.asked ≡ r.asked → suc (sum_by (message_weight plan c) (messages_from Controller out)) ≤ w → ControlLowers plan (record c { round = Some r }) rest w (round_turn plan.config (record c { round = Some r }) next out)
  round_lowers c r next w out same less = tested (ControlLowers plan (record c { round = Some r }) rest w) (asks_tops next) _ _ asks goes
    where
      out_same : (d : ControllerState) → d.eviction ≡ c.eviction → sum_by (message_weight plan d) (messages_from Controller out) ≡ sum_by (message_weight plan c) (messages_from Controller out)
      out_same d e = sum_same (message_weight plan d) (message_weight plan c) (messages_from Controller out) (λ m a. same_weight plan d c m.to m.packet e)

      not_asked : (b : Bool) → not b && (list_all has_told next.told && nat_eq next.stores 0) ≡ true → b ≡ false
      not_asked true h = absurd (true≢false (sym h))
      not_asked false h = refl

      asks : asks_tops next ≡ true → ControlLowers plan (record c { round = Some r }) rest w (record { state = record c { round = Some (record next { asked = true }) }; out = out ++ to_servers 0 plan.config.servers (TopAsk next.number); notes = [] })
      asks h =
          let d : ControllerState = record c { round = Some (record next { asked = true }) } in
          let off : r.asked ≡ false = sym same ∙ not_asked next.asked h in
          let before : round_weight plan (Some r) ≡ 2 * plan.config.servers + 1 = ap (λ b. cond {A = ℕ} b 1 (2 * plan.config.servers + 1)) off in
          let both : sum_by (message_weight plan d) (messages_from Controller (out ++ to_servers 0 plan.config.servers (TopAsk next.number))) ≡ sum_by (message_weight plan d) (messages_from Controller out) + sum_by (message_weight plan d) (messages_from Controller (to_servers 0 plan.config.servers (TopAsk next.number)))
          = ap (sum_by (message_weight plan d)) (map-append (λ (o : Out). record { from = Controller; to = o.to; packet = o.packet }) out (to_servers 0 plan.config.servers (TopAsk next.number))) ∙ sum_by-append (message_weight plan d) (messages_from Controller out) (messages_from Controller (to_servers 0 plan.config.servers (TopAsk next.number))) in
          same_turn (record c { round = Some r }) w _ refl (omega (arith, before, both, out_same d refl, tops_weigh d next.number 0 plan.config.servers, less)) refl

      goes : asks_tops next ≡ false → ControlLowers plan (record c { round = Some r }) rest w (record { state = record c { round = Some next }; out = out; notes = [] })
      goes h =
          let d : ControllerState = record c { round = Some next } in
          let weights : round_weight plan (Some next) ≡ round_weight plan (Some r) = ap (λ b. cond {A = ℕ} b 1 (2 * plan.config.servers + 1)) same in
          same_turn (record c { round = Some r }) w _ refl (omega (arith, weights, out_same d refl, less)) refl

  store_outs_weigh : (c : ControllerState) (job : ℕ) (item : Option Record) → c.eviction ≡ None → suc (sum_by (message_weight plan c) (messages_from Controller (store_outs plan.config job item))) ≤ told_weight item
  store_outs_weigh c job None e = omega arith
  store_outs_weigh c job (Some item) e =
      let w = same_weight plan c (opening_controller plan.config) (Server (server_of plan.config item.key)) (Store job item) e in omega (arith, w)

  told_lowers : (c : ControllerState) (number caller total : ℕ) (item : Option Record) (o : Option Round) → ((r : Round) → o ≡ Some r → c.eviction ≡ None) → 1 ≤ told_weight item
      → ControlLowers plan (record c { round = o }) rest (told_weight item) (client_told plan.config (record c { round = o }) number caller total item o)
  told_lowers c number caller total item None calm h = idle_turn (record c { round = None }) _ h
  told_lowers c number caller total item (Some r) calm h = tested (ControlLowers plan (record c { round = Some r }) rest (told_weight item)) (nat_eq r.number number && (nat_lt caller (length r.told) && not (has_told (telling_at r caller)))) _ _
      (λ e. round_told (round_lowers (record c { next_job = c.next_job + length (store_outs plan.config c.next_job item) }) r (told_round r caller total (length (store_outs plan.config c.next_job item))) (told_weight item) (store_outs plan.config c.next_job item) refl
      (store_outs_weigh (record c { next_job = c.next_job + length (store_outs plan.config c.next_job item) }) c.next_job item (calm r refl))))
      (λ e. idle_turn (record c { round = Some r }) _ h)
    where
      -- the next job weighs nothing
      round_told : {t : Turn ControllerState} → ControlLowers plan (record c { next_job = c.next_job + length (store_outs plan.config c.next_job item); round = Some r }) rest (told_weight item) t → ControlLowers plan (record c { round = Some r }) rest (told_weight item) t
      round_told {t} l =
          let same = sum_same (message_weight plan (record c { next_job = c.next_job + length (store_outs plan.config c.next_job item); round = Some r })) (message_weight plan (record c { round = Some r })) rest (λ m a. same_weight plan (record c { next_job = c.next_job + length (store_outs plan.config c.next_job item); round = Some r }) (record c { round = Some r }) m.to m.packet refl) in
          record { less = let l' = l.less in omega (arith, l', same); round = l.round }

  stored_lowers : (c : ControllerState) (job : ℕ) (o : Option Round) → ControlLowers plan (record c { round = o }) rest 1 (round_stored plan.config (record c { round = o }) job o)
  stored_lowers c job None = idle_turn (record c { round = None }) 1 (omega arith)
  stored_lowers c job (Some r) = tested (ControlLowers plan (record c { round = Some r }) rest 1) (nat_le r.first_job job && (nat_lt job c.next_job && not (nat_eq r.stores 0))) _ _
      (λ e. round_lowers c r (record r { stores = r.stores - 1 }) 1 [] refl (omega arith))
      (λ e. idle_turn (record c { round = Some r }) 1 (omega arith))

  answered_lowers : (c : ControllerState) (job : ℕ) (o : Option Eviction) → Facts plan (record c { eviction = o }) rest (Stored job)
      → ControlLowers plan (record c { eviction = o }) rest (packet_weight plan (record c { eviction = o }) Controller (Stored job)) (store_answered plan.config (record c { eviction = o }) job o)
  answered_lowers c job None f = stored_lowers (record c { eviction = None }) job c.round
  answered_lowers c job (Some e) f = go (waits_job job e) refl
    where
      go : (b : Bool) → waits_job job e ≡ b → ControlLowers plan (record c { eviction = Some e }) rest (cond {A = ℕ} b (11 - 4 * e.tries) 1)
          (cond b (record { state = record c { eviction = Some (removing e) }; out = to_party Switch (after_store e) ∷ []; notes = [] }) (round_stored plan.config (record c { eviction = Some e }) job c.round))
      go true h =
          let p = parts_of _ _ h in
          let is = (f.eviction e refl).0 in
          let few : e.tries ≤ 2 = subst (λ d. TriesFit d e.tries) (due_is e.due StoredDue p.0) is.tries in
          removes_on c e (11 - 4 * e.tries) e.epoch true e.item.num ((f.eviction e refl).1 h) few (omega (arith, few))
      go false h = stored_lowers (record c { eviction = Some e }) job c.round

  top_lowers : (c : ControllerState) (number server top : ℕ) (o : Option Round) → ControlLowers plan (record c { round = o }) rest 1 (top_told plan.config (record c { round = o }) number server top o)
  top_lowers c number server top None = idle_turn (record c { round = None }) 1 (omega arith)
  top_lowers c number server top (Some r) = tested (ControlLowers plan (record c { round = Some r }) rest 1) (nat_eq r.number number && (r.asked && (nat_lt server (length r.tops) && not (is_some (slice_index_or r.tops server None))))) _ _
      (λ e. same_turn (record c { round = Some r }) 1 _ refl (omega arith) refl)
      (λ e. idle_turn (record c { round = Some r }) 1 (omega arith))

  -- ---- every packet to the controller

  pub takes_lowers : (c : ControllerState) (p : Packet) → Facts plan c rest p → ((r : Round) → c.round ≡ Some r → c.eviction ≡ None) → IsFor plan.config p Controller → ControlLowers plan c rest (packet_weight plan c Controller p) (controller_takes plan.config c p)
  takes_lowers c (Hot key) f calm goes = wanted_lowers c key
  takes_lowers c (AdmitAck i tag) f calm goes = acked_lowers c i tag
  takes_lowers c (PeekAns i tag latest num body) f calm goes = peek_lowers c i tag latest num body c.eviction f
  takes_lowers c (RemoveAns i tag done latest num body) f calm goes = removal_lowers c i tag done latest num body c.eviction f
  takes_lowers c (SnapBegun id point) f calm goes = begun_lowers c id point c.job f.parts
  takes_lowers c (SnapPart id i view) f calm goes = part_lowers c id i view c.job
  takes_lowers c (SnapSame id i) f calm goes = same_lowers c id i c.job
  takes_lowers c (SnapFrom epoch id base) f calm goes = absurd cc
  takes_lowers c (Stored job) f calm goes = answered_lowers c job c.eviction f
  takes_lowers c (Told number caller total item) f calm goes = told_lowers c number caller total item c.round calm (some item)
    where
      some : (item : Option Record) → 1 ≤ told_weight item
      some None = omega arith
      some (Some r) = omega arith
  takes_lowers c (TopIs number server top) f calm goes = top_lowers c number server top c.round
  takes_lowers c (GetReq caller op key) f calm goes = absurd cc
  takes_lowers c (WriteReq caller op key body) f calm goes = absurd cc
  takes_lowers c (GetFwd caller op key tag) f calm goes = absurd cc
  takes_lowers c (WriteFwd caller op key num body) f calm goes = absurd cc
  takes_lowers c (GetRep caller op key tag num body) f calm goes = absurd cc
  takes_lowers c (WriteRep caller op key num body) f calm goes = absurd cc
  takes_lowers c (GetAns caller op key num body near) f calm goes = absurd cc
  takes_lowers c (WriteAns caller op key num kept) f calm goes = absurd cc
  takes_lowers c (Admit epoch i key tag) f calm goes = absurd cc
  takes_lowers c (Peek epoch i tag) f calm goes = absurd cc
  takes_lowers c (Remove epoch i tag latest num) f calm goes = absurd cc
  takes_lowers c (SnapStart epoch id) f calm goes = absurd cc
  takes_lowers c (SnapRead epoch id i) f calm goes = absurd cc
  takes_lowers c (Store job item) f calm goes = absurd cc
  takes_lowers c (Release point) f calm goes = let e = goes.is in absurd cc
  takes_lowers c (Ask round) f calm goes = let e = goes.is in absurd cc
  takes_lowers c (TopAsk round) f calm goes = let e = goes.is in absurd cc

  -- ---- ticks and the order to evict

  -- with no eviction under way, no packet of one has a tag that a slot has
  abbrev pub NoneOf : ControllerState → Type 0
  NoneOf c = (m : Message) (i tag : ℕ) (key : List ℕ) → Among m rest → subject m.packet ≡ OfEviction i tag → IsGiven key tag (state_at c.slots i) → ⊥

  pub held_given : (st : SlotState) → is_held st ≡ true → IsGiven (key_in st) (tag_in st) st
  held_given Free h = absurd (true≢false (sym h))
  held_given (Admitting key tag) h = absurd (true≢false (sym h))
  held_given (Held key tag) h = (refl, refl)
  held_given (Evicting key tag) h = absurd (true≢false (sym h))

  held_busy : (st : SlotState) → is_held st ≡ true → is_free st ≡ false
  held_busy Free h = absurd (true≢false (sym h))
  held_busy (Admitting key tag) h = refl
  held_busy (Held key tag) h = refl
  held_busy (Evicting key tag) h = refl

  pub begins_strange : (c : ControllerState) (i : ℕ) (for_want : Bool) → NoneOf c → is_held (state_at c.slots i) ≡ true → AllStrange (Some (begins_eviction c.epoch i (key_in (state_at c.slots i)) (tag_in (state_at c.slots i)) for_want)) rest
  begins_strange c i for_want none held m a = go (subject m.packet) refl
    where
      st : SlotState
      st = state_at c.slots i

      at : (j tag : ℕ) → subject m.packet ≡ OfEviction j tag → (b : Bool) → nat_eq i j && nat_eq (tag_in (state_at c.slots i)) tag ≡ b → b ≡ false
      at j tag k false h = refl
      at j tag k true h =
          let p = and_parts _ _ h in
          let same : OfEviction j tag ≡ OfEviction i (tag_in (state_at c.slots i)) = λ z. OfEviction (sym (eqb-true i j p.0) z) (sym (eqb-true (tag_in (state_at c.slots i)) tag p.1) z) in
          absurd (none m i (tag_in (state_at c.slots i)) (key_in (state_at c.slots i)) a (k ∙ same) (held_given (state_at c.slots i) held))

      go : (sub : Subject) → subject m.packet ≡ sub → is_own (begins_eviction c.epoch i (key_in (state_at c.slots i)) (tag_in (state_at c.slots i)) for_want) sub ≡ false
      go (OfEviction j tag) k = at j tag k (nat_eq i j && nat_eq (tag_in (state_at c.slots i)) tag) refl
      go (OfJob job) k = refl
      go (OfOperation caller op) k = refl
      go (OfAdmission slot tag) k = refl
      go (OfSnapshot id) k = refl
      go (OfRound round) k = refl
      go OfNone k = refl

  peek_weighs : (c : ControllerState) (e : Eviction) → e.due ≡ Peeked → c.eviction ≡ Some e → packet_weight plan c Switch (peek_of e) ≡ 14
  peek_weighs c e due is = ap (λ o. cond {A = ℕ} (is_peeking e.slot e.tag o) 14 2) is ∙ ap (λ d. cond {A = ℕ} (is_due d Peeked && (nat_eq e.slot e.slot && nat_eq e.tag e.tag)) 14 2) due
      ∙ ap (λ b. cond {A = ℕ} b 14 2) (ap (λ b. b && nat_eq e.tag e.tag) (eq-eqb e.slot e.slot refl) ∙ eq-eqb e.tag e.tag refl)

  -- an eviction by order
  pub orders_lower : (c : ControllerState) (i : ℕ) → NoneOf c → is_held (state_at c.slots i) ≡ true → ControlLowers plan (record c { eviction = None }) rest 15 (evicts (record c { eviction = None }) false i)
  orders_lower c i none held =
      let e : Eviction = begins_eviction c.epoch i (key_in (state_at c.slots i)) (tag_in (state_at c.slots i)) false in
      let same = free_count_same c.slots i (Evicting e.key e.tag) (held_busy (state_at c.slots i) held) refl in
      let wants : wants_weight (count_by is_free (set c.slots i (Evicting e.key e.tag)) + 0) c.wants ≡ wants_weight (count_by is_free c.slots + 0) c.wants = ap (λ n. wants_weight (n + 0) c.wants) same in
      let peek = peek_weighs (record (with_state c i (Evicting e.key e.tag)) { eviction = Some e }) e refl refl in
      new_turn (record c { eviction = None }) 15 (evicts (record c { eviction = None }) false i) tt (begins_strange c i false none held) (omega (arith, wants, peek)) refl

  -- one that makes room for a want, where no slot is free
  pub room_lowers : (c : ControllerState) (i hand : ℕ) (key : List ℕ) (keys : List (List ℕ)) → NoneOf c → is_held (state_at c.slots i) ≡ true → count_by is_free c.slots ≡ 0
      → ControlLowers plan (record c { eviction = None; wants = key ∷ keys }) rest 0 (evicts (record c { eviction = None; wants = key ∷ keys; hand = hand }) true i)
  room_lowers c i hand key keys none held full =
      let e : Eviction = begins_eviction c.epoch i (key_in (state_at c.slots i)) (tag_in (state_at c.slots i)) true in
      let same = free_count_same c.slots i (Evicting e.key e.tag) (held_busy (state_at c.slots i) held) refl in
      let after : wants_weight (count_by is_free (set c.slots i (Evicting e.key e.tag)) + 1) (key ∷ keys) ≡ wants_weight 1 (key ∷ keys) = (let n : count_by is_free (set c.slots i (Evicting e.key e.tag)) + 1 ≡ 1 = omega (arith, same, full) in ap (λ n. wants_weight n (key ∷ keys)) n) in
      let before : wants_weight (count_by is_free c.slots + 0) (key ∷ keys) ≡ wants_weight 0 (key ∷ keys) = (let n : count_by is_free c.slots + 0 ≡ 0 = omega (arith, full) in ap (λ n. wants_weight n (key ∷ keys)) n) in
      let peek = peek_weighs (record (with_state c i (Evicting e.key e.tag)) { eviction = Some e; wants = key ∷ keys; hand = hand }) e refl refl in
      new_turn (record c { eviction = None; wants = key ∷ keys }) 0 (evicts (record c { eviction = None; wants = key ∷ keys; hand = hand }) true i) tt (begins_strange c i true none held) (omega (arith, after, before, peek)) refl

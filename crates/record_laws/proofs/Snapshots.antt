-- Hot keys, wants and snapshots: calm steps.
use Rattle.std.proofs.Common.{◌≡◌, ℕ, zero, suc, inl, inr, true, not, List, [], ◌∷◌, ◌++◌, length, refl, ap, ◌∙◌}
use Rattle.std.specs.Prelude.{Option, Some, None, ◌&&◌, nat_eq, nat_lt, is_some, slice_set, slice_get}
use Rattle.far_base.specs.declared.packet.Message.{Message}
use Rattle.far_base.specs.declared.packet.Out.{Out}
use Rattle.far_base.specs.declared.packet.Packet.{Packet}
use Rattle.far_base.specs.declared.packet.Packet.TheVariants.{SnapStart, SnapRead, Release, SnapPart, SnapSame, SnapFrom}
use Rattle.far_base.specs.declared.party.Party.TheVariants.{Client, Switch, Controller}
use Rattle.far_base.specs.declared.plan.Config.{Config}
use Rattle.far_base.specs.declared.record.Record.{Record}
use Rattle.far_model.specs.Clients.{ClientState, released_to}
use Rattle.far_model.specs.Controller.{ControllerState, wanted, first_want_dropped, to_clients, start_snapshot, snapshot_begun, part_came, job_turn, completes, is_last_present, same_part, same_came}
use Rattle.far_model.specs.Events.{controller_turn, switch_turn, client_turn}
use Rattle.far_model.specs.Members.{Among, Each}
use Rattle.far_model.specs.Parties.{Turn, idle, messages_from, to_party}
use Rattle.far_model.specs.Pass.{Passed, pass, dropped, starts_snapshot, reads_part, with_taken, part_of, is_slot_there, passed_out, pass_notes, is_as_before, emitted_note, part_packet}
use Rattle.far_model.specs.Snapshots.{Job, has_begun, has_part, is_whole, completed, part_reads, view_items, with_same}
use Rattle.far_model.specs.State.{State, client_at, nobody}
use Rattle.far_model.specs.View.{SwitchView, is_taken, held_record, slot_at}
use Rattle.far_model.proofs.Members.{among_map_from, each_among}
use Rattle.flight_laws.proofs.Lists.{by_test, set_field}
use Rattle.record_laws.proofs.Calm.{is_plain, IsCalm}
use Rattle.record_laws.proofs.Controls.{IsControlNote}

abbrev pub IsPlainOut : Out → Type 0
IsPlainOut o = is_plain o.packet ≡ true

-- ---- the controller

-- a turn that changes no slot state, and sends plain packets
pub record IsCalmTurn (c : ControllerState) (t : Turn ControllerState) : Type 0 where
  pub epoch : t.state.epoch ≡ c.epoch
  pub states : t.state.slots ≡ c.slots
  pub tags : t.state.next_tag ≡ c.next_tag
  pub plain : Each IsPlainOut t.out
  pub notes_are : Each IsControlNote t.notes

pub calm_turn : (s : State) (rest : List Message) (t : Turn ControllerState) (done : ℕ) → IsCalmTurn s.controller t → IsCalm t.notes s (record (controller_turn s rest t) { done = done }) rest (messages_from Controller t.out)
calm_turn s rest t done c = record {
  bag = refl;
  plain = λ m a. let p = among_map_from (λ (o : Out). record { from = Controller; to = o.to; packet = o.packet }) m t.out a in ap (λ (w : Message). is_plain w.packet) p.2 ∙ each_among IsPlainOut p.0 t.out c.plain p.1;
  log = refl;
  notes_are = c.notes_are;
  steps = refl;
  running = refl;
  config = refl;
  switch_epoch = refl;
  counter = refl;
  bound = refl;
  slots = refl;
  servers = refl;
  waits = λ d. refl;
  left = λ d. refl;
  epoch = c.epoch;
  states = c.states;
  tags = c.tags;
}

pub idle_calm : (c : ControllerState) → IsCalmTurn c (idle c)
idle_calm c = record { epoch = refl; states = refl; tags = refl; plain = tt; notes_are = tt }

pub want_dropped_calm : (c : ControllerState) → IsCalmTurn c (idle (first_want_dropped c))
want_dropped_calm c = record { epoch = refl; states = refl; tags = refl; plain = tt; notes_are = tt }

pub wanted_calm : (c : ControllerState) (key : List ℕ) → IsCalmTurn c (idle (wanted key c))
wanted_calm c key = by_test (λ w. IsCalmTurn c (idle w)) (is_some c.round) c (record c { wants = c.wants ++ key ∷ [] }) (idle_calm c) (record { epoch = refl; states = refl; tags = refl; plain = tt; notes_are = tt })

pub start_calm : (c : ControllerState) → IsCalmTurn c (start_snapshot c)
start_calm c = record { epoch = refl; states = refl; tags = refl; plain = (by_test (λ p. is_plain p ≡ true) (is_last_present c) (SnapFrom c.epoch c.next_id c.last.id) (SnapStart c.epoch c.next_id) refl refl, tt); notes_are = tt }

reads_plain : (epoch id i : ℕ) (parts : List (Option (Option Record))) → Each IsPlainOut (part_reads epoch id i parts)
reads_plain epoch id i [] = tt
reads_plain epoch id i (part ∷ parts) = by_test (Each IsPlainOut) (is_some part) (part_reads epoch id (suc i) parts) (to_party Switch (SnapRead epoch id i) ∷ part_reads epoch id (suc i) parts)
    (reads_plain epoch id (suc i) parts) (refl, reads_plain epoch id (suc i) parts)

released_plain : (n more point : ℕ) → Each IsPlainOut (to_clients n more (Release point))
released_plain n zero point = tt
released_plain n (suc more) point = (refl, released_plain (suc n) more point)

items_control : (i : ℕ) (views : List (Option Record)) → Each IsControlNote (view_items i views)
items_control i [] = tt
items_control i (None ∷ views) = items_control (suc i) views
items_control i (Some item ∷ views) = (tt, items_control (suc i) views)

job_calm : (config : Config) (c : ControllerState) (job : Job) (out : List Out) → Each IsPlainOut out → IsCalmTurn c (job_turn config c job out)
job_calm config c job out plain = by_test (IsCalmTurn c) (is_whole job) (completes config c (completed job) job.sames) (record { state = record c { job = Some job }; out = out; notes = [] })
    (record { epoch = refl; states = refl; tags = refl; plain = released_plain 0 config.clients (completed job).point; notes_are = (tt, items_control 0 (completed job).views) })
    (record { epoch = refl; states = refl; tags = refl; plain = plain; notes_are = tt })

pub begun_calm : (config : Config) (c : ControllerState) (id point : ℕ) (o : Option Job) → IsCalmTurn c (snapshot_begun config c id point o)
begun_calm config c id point None = idle_calm c
begun_calm config c id point (Some job) = by_test (IsCalmTurn c) (nat_eq job.id id && not (has_begun job)) (job_turn config c (record job { begun = Some point }) (part_reads c.epoch id 0 job.parts)) (idle c)
    (job_calm config c (record job { begun = Some point }) (part_reads c.epoch id 0 job.parts) (reads_plain c.epoch id 0 job.parts)) (idle_calm c)

pub part_calm : (config : Config) (c : ControllerState) (id i : ℕ) (view : Option Record) (o : Option Job) → IsCalmTurn c (part_came config c id i view o)
part_calm config c id i view None = idle_calm c
part_calm config c id i view (Some job) = by_test (IsCalmTurn c) (nat_eq job.id id && (nat_lt i (length job.parts) && not (has_part job i))) (job_turn config c (record job { parts = slice_set job.parts i (Some view) }) []) (idle c)
    (job_calm config c (record job { parts = slice_set job.parts i (Some view) }) [] tt) (idle_calm c)

pub same_calm : (config : Config) (c : ControllerState) (id i : ℕ) (o : Option Job) → IsCalmTurn c (same_came config c id i o)
same_calm config c id i None = idle_calm c
same_calm config c id i (Some job) = go (slice_get c.last.views i)
  where
    go : (o : Option (Option Record)) → IsCalmTurn c (same_part config c id i job o)
    go None = idle_calm c
    go (Some view) = by_test (IsCalmTurn c) (nat_eq job.id id && (nat_lt i (length job.parts) && not (has_part job i))) (job_turn config c (with_same job i view) []) (idle c) (job_calm config c (with_same job i view) [] tt) (idle_calm c)

-- ---- the switch

abbrev pub IsCalmPass : State → List Message → Packet → Passed → Type 0
IsCalmPass s rest packet p = IsCalm (pass_notes packet p) s (switch_turn s rest packet p) rest (messages_from Switch (passed_out p))

-- what such a pass leaves of the switch
abbrev IsStill : SwitchView → SwitchView → Type 0
IsStill v w = (w.config ≡ v.config) × (w.epoch ≡ v.epoch) × (w.counter ≡ v.counter) × (w.bound ≡ v.bound) × (w.slots ≡ v.slots)

-- a pass that leaves slots, keys and counter, and sends and notes nothing of an operation
still_calm : (s : State) (rest : List Message) (packet : Packet) (p : Passed) → IsStill s.switch p.view → ((m : Message) → Among m (messages_from Switch (passed_out p)) → is_plain m.packet ≡ true) → Each IsControlNote (pass_notes packet p) → IsCalmPass s rest packet p
still_calm s rest packet p still plain notes = record {
  bag = refl;
  plain = plain;
  log = refl;
  notes_are = notes;
  steps = refl;
  running = refl;
  config = still.0;
  switch_epoch = still.1;
  counter = still.2;
  bound = still.3;
  slots = still.4;
  servers = refl;
  waits = λ d. refl;
  left = λ d. refl;
  epoch = refl;
  states = refl;
  tags = refl;
}

drop_calm : (s : State) (rest : List Message) (packet : Packet) → Each IsControlNote (pass_notes packet (dropped s.switch)) → IsCalmPass s rest packet (dropped s.switch)
drop_calm s rest packet notes = still_calm s rest packet (dropped s.switch) (refl, refl, refl, refl, refl) (λ m a. absurd a) notes

one_plain : (m : Message) → is_plain m.packet ≡ true → (n : Message) → Among n (m ∷ []) → is_plain n.packet ≡ true
one_plain m h n (inl e) = ap (λ (w : Message). is_plain w.packet) e ∙ h
one_plain m h n (inr a) = absurd a

-- a snapshot begins: the switch takes its number and what it differs from
begins_calm : (s : State) (rest : List Message) (packet : Packet) (id base : ℕ) → Each IsControlNote (pass_notes packet (starts_snapshot s.switch id base)) → IsCalmPass s rest packet (starts_snapshot s.switch id base)
begins_calm s rest packet id base notes = still_calm s rest packet (starts_snapshot s.switch id base) (refl, refl, refl, refl, refl) (one_plain _ refl) notes

pub snap_start_calm : (s : State) (rest : List Message) (epoch id : ℕ) → IsCalmPass s rest (SnapStart epoch id) (pass s.switch (SnapStart epoch id))
snap_start_calm s rest epoch id = by_test (IsCalmPass s rest (SnapStart epoch id)) (nat_eq epoch s.switch.epoch) (starts_snapshot s.switch id 0) (dropped s.switch)
    (begins_calm s rest (SnapStart epoch id) id 0 tt) (drop_calm s rest (SnapStart epoch id) tt)

pub snap_from_calm : (s : State) (rest : List Message) (epoch id base : ℕ) → IsCalmPass s rest (SnapFrom epoch id base) (pass s.switch (SnapFrom epoch id base))
snap_from_calm s rest epoch id base = by_test (IsCalmPass s rest (SnapFrom epoch id base)) (nat_eq epoch s.switch.epoch) (starts_snapshot s.switch id base) (dropped s.switch)
    (begins_calm s rest (SnapFrom epoch id base) id base tt) (drop_calm s rest (SnapFrom epoch id base) tt)

-- the part of a slot leaves
abbrev part_leaves : State → ℕ → Passed
part_leaves s i = record { view = with_taken s.switch i (held_record (slot_at s.switch i)); first = part_of s.switch i; second = None }

either_part : (P : Packet → Type 0) (s : State) (i : ℕ) → P (SnapSame s.switch.snap i) → P (SnapPart s.switch.snap i (held_record (slot_at s.switch i))) → P (part_packet s.switch i)
either_part P s i = by_test P (is_as_before s.switch i) (SnapSame s.switch.snap i) (SnapPart s.switch.snap i (held_record (slot_at s.switch i)))

pub snap_read_calm : (s : State) (rest : List Message) (epoch id i : ℕ) → IsCalmPass s rest (SnapRead epoch id i) (pass s.switch (SnapRead epoch id i))
snap_read_calm s rest epoch id i = by_test (IsCalmPass s rest (SnapRead epoch id i)) (is_slot_there s.switch epoch i) (reads_part s.switch id i) (dropped s.switch)
    (by_test (IsCalmPass s rest (SnapRead epoch id i)) (nat_eq id s.switch.snap && not (is_taken s.switch i)) (part_leaves s i) (dropped s.switch)
    (still_calm s rest (SnapRead epoch id i) (part_leaves s i) (refl, refl, refl, refl, refl) (one_plain _ (either_part (λ p. is_plain p ≡ true) s i refl refl)) (either_part (λ p. Each IsControlNote (emitted_note p)) s i tt tt))
    (drop_calm s rest (SnapRead epoch id i) tt))
    (drop_calm s rest (SnapRead epoch id i) tt)

-- ---- a client

-- a turn of a client that waits for the same and has the same to send, and sends plain packets
pub client_calm : (s : State) (rest : List Message) (c : ℕ) (state : ClientState) (out : List Out) → state.waits ≡ (client_at s c).waits → state.left ≡ (client_at s c).left → Each IsPlainOut out
    → IsCalm [] s (client_turn s c rest (record { state = state; out = out; notes = [] })) rest (messages_from (Client c) out)
client_calm s rest c state out waits left plain = record {
  bag = refl;
  plain = λ m a. let p = among_map_from (λ (o : Out). record { from = Client c; to = o.to; packet = o.packet }) m out a in ap (λ (w : Message). is_plain w.packet) p.2 ∙ each_among IsPlainOut p.0 out plain p.1;
  log = refl;
  notes_are = tt;
  steps = refl;
  running = refl;
  config = refl;
  switch_epoch = refl;
  counter = refl;
  bound = refl;
  slots = refl;
  servers = refl;
  waits = λ d. set_field (λ (w : ClientState). w.waits) s.clients c state nobody waits d;
  left = λ d. set_field (λ (w : ClientState). w.left) s.clients c state nobody left d;
  epoch = refl;
  states = refl;
  tags = refl;
}

pub release_calm : (s : State) (rest : List Message) (c point : ℕ) → IsCalm [] s (client_turn s c rest (record { state = released_to point (client_at s c); out = []; notes = [] })) rest []
release_calm s rest c point = client_calm s rest c (released_to point (client_at s c)) [] refl refl tt

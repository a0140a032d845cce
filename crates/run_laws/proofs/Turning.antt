-- Turns of the controller that change no slot's state: snapshots, wants, stores, and all packets of a round.
use Rattle.far_invariants.specs.Operations.{OperationsStand}
use Rattle.std.proofs.Common.{◌≡◌, ℕ, zero, suc, ◌+◌, ◌⊎◌, inl, inr, Bool, true, false, List, [], ◌∷◌, ◌++◌, length, refl, sym, ◌∙◌, arith}
use Rattle.std.specs.Prelude.{Option, Some, None, ◌&&◌, not, if◌then◌else◌, nat_eq, nat_le, nat_lt, slice_set, slice_index_or, is_some}
use Rattle.far_base.specs.PlanView.{PlanView}
use Rattle.far_base.specs.declared.packet.Message.{Message}
use Rattle.far_base.specs.declared.packet.Out.{Out}
use Rattle.far_base.specs.declared.packet.Packet.{Packet}
use Rattle.far_base.specs.declared.packet.Packet.TheVariants.{GetReq, WriteReq, GetFwd, WriteFwd, GetRep, WriteRep, GetAns, WriteAns, Admit, AdmitAck, Remove, TopAsk}
use Rattle.far_base.specs.declared.party.Party.TheVariants.{Controller, Switch}
use Rattle.far_base.specs.declared.plan.Config.{Config}
use Rattle.far_base.specs.declared.record.Record.{Record}
use Rattle.far_base.specs.declared.slot_state.Due.TheVariants.{Peeked}
use Rattle.far_model.specs.Controller.{ControllerState, client_told, evicts_on, peek_answered, round_stored, round_turn, store_answered, store_outs, told_round, to_servers, top_told}
use Rattle.far_model.specs.Events.{controller_turn}
use Rattle.far_model.specs.Evictions.{Eviction, after_peek, after_store, removing, shown_item, waits_for, waits_job}
use Rattle.far_model.specs.Evictions.Next.{Send, Store as StoreNext}
use Rattle.far_model.specs.Members.{Among, Each}
use Rattle.far_model.specs.Parties.{Turn, idle, messages_from, to_party}
use Rattle.far_model.specs.Rounds.{Round, asks_tops, has_told, telling_at}
use Rattle.far_model.specs.State.{State}
use Rattle.far_model.proofs.Members.{among_append}
use Rattle.flight_laws.proofs.Lists.{by_test}
use Rattle.record_laws.proofs.Calm.{IsRest, is_plain}
use Rattle.record_laws.proofs.Controls.{IsControlNote, each_to}
use Rattle.record_laws.proofs.Seats.{count_append, count_none, is_admission_packet, SameBag, unchanged_slots}
use Rattle.record_laws.proofs.Snapshots.{IsCalmTurn, IsPlainOut}
use Rattle.eviction_laws.proofs.Steady.{is_steady, steady_none, turn_keeps}
use Rattle.far_invariants.specs.Seated.{Seated}
use Rattle.run_laws.proofs.Seating.{seated_last}
use Rattle.run_laws.proofs.Stopping.{each_append, IsSteadyOut, outs_steady}

pub record IsStill (c : ControllerState) (t : Turn ControllerState) : Type 0 where
  pub epoch : t.state.epoch ≡ c.epoch
  pub states : t.state.slots ≡ c.slots
  pub tags : t.state.next_tag ≡ c.next_tag
  pub round : t.state.round ≡ None → c.round ≡ None
  pub steady : Each IsSteadyOut t.out
  pub notes_are : Each IsControlNote t.notes

pub plain_steady : (p : Packet) → is_plain p ≡ true → is_steady p ≡ true
plain_steady (GetReq caller op key) h = absurd cc
plain_steady (WriteReq caller op key body) h = absurd cc
plain_steady (GetFwd caller op key tag) h = absurd cc
plain_steady (WriteFwd caller op key num body) h = absurd cc
plain_steady (GetRep caller op key tag num body) h = absurd cc
plain_steady (WriteRep caller op key num body) h = absurd cc
plain_steady (GetAns caller op key num body near) h = absurd cc
plain_steady (WriteAns caller op key num kept) h = absurd cc
plain_steady (Admit epoch i key tag) h = absurd cc
plain_steady (AdmitAck i tag) h = absurd cc
plain_steady _ h = refl

pub calm_still : (c : ControllerState) (t : Turn ControllerState) → IsCalmTurn c t → t.state.round ≡ c.round → IsStill c t
calm_still c t h same = record {
  epoch = h.epoch;
  states = h.states;
  tags = h.tags;
  round = λ e. sym same ∙ e;
  steady = each_to IsPlainOut IsSteadyOut t.out (λ o p. plain_steady o.packet p) h.plain;
  notes_are = h.notes_are;
}

pub idle_still : (c : ControllerState) → IsStill c (idle c)
idle_still c = record { epoch = refl; states = refl; tags = refl; round = λ e. e; steady = tt; notes_are = tt }

-- ---- evictions

pub peek_still : (config : Config) (c : ControllerState) (i tag : ℕ) (latest : Bool) (num : ℕ) (body : Option (List ℕ)) (o : Option Eviction) → IsStill c (peek_answered config c i tag latest num body o)
peek_still config c i tag latest num body None = idle_still c
peek_still config c i tag latest num body (Some e) = by_test (IsStill c) (waits_for Peeked i tag e) (evicts_on config c e (after_peek e latest num body)) (idle c) (go latest) (idle_still c)
  where
    go : (b : Bool) → IsStill c (evicts_on config c e (if b then StoreNext (shown_item e num body) else Send (Remove e.epoch e.slot e.tag false 0)))
    go true = record { epoch = refl; states = refl; tags = refl; round = λ x. x; steady = (refl, tt); notes_are = tt }
    go false = record { epoch = refl; states = refl; tags = refl; round = λ x. x; steady = (refl, tt); notes_are = tt }

pub store_still : (config : Config) (c : ControllerState) (e : Eviction) (item : Record) → IsStill c (evicts_on config c e (StoreNext item))
store_still config c e item = record { epoch = refl; states = refl; tags = refl; round = λ x. x; steady = (refl, tt); notes_are = tt }

-- ---- a round

tops_steady : (n more number : ℕ) → Each IsSteadyOut (to_servers n more (TopAsk number))
tops_steady n zero number = tt
tops_steady n (suc more) number = (refl, tops_steady (suc n) more number)

round_still : (config : Config) (c d : ControllerState) (r : Round) (out : List Out) → d.epoch ≡ c.epoch → d.slots ≡ c.slots → d.next_tag ≡ c.next_tag → Each IsSteadyOut out → IsStill c (round_turn config d r out)
round_still config c d r out epoch states tags steady = by_test (IsStill c) (asks_tops r)
    (record { state = record d { round = Some (record r { asked = true }) }; out = out ++ to_servers 0 config.servers (TopAsk r.number); notes = [] })
    (record { state = record d { round = Some r }; out = out; notes = [] })
    (record { epoch = epoch; states = states; tags = tags; round = λ e. absurd cc; steady = each_append IsSteadyOut out (to_servers 0 config.servers (TopAsk r.number)) steady (tops_steady 0 config.servers r.number); notes_are = tt })
    (record { epoch = epoch; states = states; tags = tags; round = λ e. absurd cc; steady = steady; notes_are = tt })

outs_store : (config : Config) (job : ℕ) (item : Option Record) → Each IsSteadyOut (store_outs config job item)
outs_store config job None = tt
outs_store config job (Some r) = (refl, tt)

pub told_still : (config : Config) (c : ControllerState) (number caller total : ℕ) (item : Option Record) (o : Option Round) → IsStill c (client_told config c number caller total item o)
told_still config c number caller total item None = idle_still c
told_still config c number caller total item (Some r) = by_test (IsStill c) (nat_eq r.number number && (nat_lt caller (length r.told) && not (has_told (telling_at r caller))))
    (round_turn config (record c { next_job = c.next_job + length (store_outs config c.next_job item) }) (told_round r caller total (length (store_outs config c.next_job item))) (store_outs config c.next_job item)) (idle c)
    (round_still config c (record c { next_job = c.next_job + length (store_outs config c.next_job item) }) (told_round r caller total (length (store_outs config c.next_job item))) (store_outs config c.next_job item) refl refl refl (outs_store config c.next_job item))
    (idle_still c)

pub round_stored_still : (config : Config) (c : ControllerState) (job : ℕ) (o : Option Round) → IsStill c (round_stored config c job o)
round_stored_still config c job None = idle_still c
round_stored_still config c job (Some r) = by_test (IsStill c) (nat_le r.first_job job && (nat_lt job c.next_job && not (nat_eq r.stores 0)))
    (round_turn config c (record r { stores = Rattle.std.specs.Prelude.◌-◌ r.stores 1 }) []) (idle c)
    (round_still config c c (record r { stores = Rattle.std.specs.Prelude.◌-◌ r.stores 1 }) [] refl refl refl tt) (idle_still c)

pub stored_still : (config : Config) (c : ControllerState) (job : ℕ) (o : Option Eviction) → IsStill c (store_answered config c job o)
stored_still config c job None = round_stored_still config c job c.round
stored_still config c job (Some e) = by_test (IsStill c) (waits_job job e) (record { state = record c { eviction = Some (removing e) }; out = to_party Switch (after_store e) ∷ []; notes = [] }) (round_stored config c job c.round)
    (record { epoch = refl; states = refl; tags = refl; round = λ x. x; steady = (refl, tt); notes_are = tt }) (round_stored_still config c job c.round)

pub top_still : (config : Config) (c : ControllerState) (number server top : ℕ) (o : Option Round) → IsStill c (top_told config c number server top o)
top_still config c number server top None = idle_still c
top_still config c number server top (Some r) = by_test (IsStill c) (nat_eq r.number number && (r.asked && (nat_lt server (length r.tops) && not (is_some (slice_index_or r.tops server None)))))
    (record { state = record c { round = Some (record r { tops = slice_set r.tops server (Some top) }) }; out = []; notes = [] }) (idle c)
    (record { epoch = refl; states = refl; tags = refl; round = λ x. absurd cc; steady = tt; notes_are = tt }) (idle_still c)

-- ---- such a turn keeps everything

module _ (plan : PlanView) (s : State) (rest : List Message) (turn : Turn ControllerState) (done : ℕ) (r : IsRest s rest) (still : IsStill s.controller turn) where
  abbrev after : State
  after = record (controller_turn s rest turn) { done = done }

  pub still_bag : SameBag s (record (controller_turn s rest turn) { done = done })
  still_bag = record {
    news = λ m a. news m (among_append m rest (messages_from Controller turn.out) a);
    count = λ p none.
        let more = count_append (λ (m : Message). p m.packet) rest (messages_from Controller turn.out) in
        let nothing = count_none (λ (m : Message). p m.packet) (messages_from Controller turn.out) (λ n a. none n.packet (steady_none n.packet (outs_steady turn.out still.steady n a))) in
        let kept = r.count p none in
        omega (arith, more, nothing, kept);
  }
    where
      news : (m : Message) → Among m rest ⊎ Among m (messages_from Controller turn.out) → Among m s.bag ⊎ (is_admission_packet m.packet ≡ false)
      news m (inl a) = inl (r.among m a)
      news m (inr a) = inr (steady_none m.packet (outs_steady turn.out still.steady m a))

  pub still_sits : Seated plan s → Seated plan after
  still_sits h = seated_last plan s after h (record {
    running = refl;
    round = still.round;
    slots = unchanged_slots s.switch s.switch refl refl refl;
    epoch = still.epoch;
    states = still.states;
    tags = let e = still.tags in omega (arith, e);
    bag = still_bag;
  })

  pub still_keeps : OperationsStand plan s → OperationsStand plan after
  still_keeps k = turn_keeps plan s rest turn done k r.among (outs_steady turn.out still.steady) still.notes_are (let e = still.tags in omega (arith, e))

-- Snapshots, hot keys, wants and admissions leave evictions as they are.
use Rattle.far_invariants.specs.Covers.{look}
use Rattle.far_invariants.proofs.Noted.{member}
use Rattle.std.proofs.Common.{◌≡◌, ◌≢◌, ℕ, ◌⊎◌, inl, inr, Bool, true, false, List, [], ◌∷◌, ◌++◌, refl, sym, ap, ◌∙◌, arith}
use Rattle.std.specs.Prelude.{Option, Some, None, if◌then◌else◌, ◌&&◌, nat_eq, nat_lt, is_some, slice_get, slice_set}
use Rattle.std.specs.List.{remove}
use Rattle.std.proofs.lemmas.List.{get_or-set_same, get_or-set_other}
use Rattle.far_base.specs.PlanView.{PlanView}
use Rattle.far_base.specs.declared.log.LogEntry.{LogEntry}
use Rattle.far_base.specs.declared.log.LogEntry.TheVariants.{Admitted}
use Rattle.far_base.specs.declared.packet.Message.{Message}
use Rattle.far_base.specs.declared.packet.Out.{Out}
use Rattle.far_base.specs.declared.packet.Packet.{Packet}
use Rattle.far_base.specs.declared.packet.Packet.TheVariants.{Admit, AdmitAck, Peek, PeekAns, Remove, RemoveAns, Store, Stored}
use Rattle.far_base.specs.declared.party.Party.{Party}
use Rattle.far_base.specs.declared.party.Party.TheVariants.{Switch, Controller}
use Rattle.far_base.specs.declared.plan.Config.{Config}
use Rattle.far_base.specs.declared.record.Record.{Record}
use Rattle.far_base.specs.declared.slot_state.SlotState.{SlotState}
use Rattle.far_base.specs.declared.slot_state.SlotState.TheVariants.{Free, Admitting, Held, Evicting}
use Rattle.far_model.specs.Controller.{ControllerState, wanted, snapshot_begun, part_came, job_turn, completes, admits_want, acknowledged, acked_state, with_state, same_came, same_part}
use Rattle.far_model.specs.Events.{controller_turn, switch_turn}
use Rattle.far_model.specs.Evictions.{state_at, is_free, first_place, is_admitting, key_in}
use Rattle.far_invariants.specs.EvictionNeeds.{PacketNeeds, Needs}
use Rattle.far_model.specs.Members.{Among}
use Rattle.far_model.specs.Parties.{Turn, idle, messages_from}
use Rattle.far_model.specs.Pass.{Passed, admits, admitted, dropped, is_slot_there, sent_to, pass_notes, passed_out}
use Rattle.far_model.specs.Snapshots.{Job, has_begun, has_part, is_whole, completed, part_reads, with_same}
use Rattle.far_model.specs.State.{State}
use Rattle.far_model.specs.View.{SlotView, slot_at, empty_slot}
use Rattle.far_model.proofs.Members.{among_at}
use Rattle.flight_laws.proofs.Lists.{by_test}
use Rattle.record_laws.proofs.Admissions.{first_some, free_is}
use Rattle.record_laws.proofs.Calm.{is_plain, IsCalm}
use Rattle.record_laws.proofs.Seats.{SameOwner}
use Rattle.far_invariants.specs.Evictions.{Content, is_eviction_packet, is_eviction_of, EvictionPacketIs, EvictionsAre}
use Rattle.eviction_laws.proofs.Leaving.{SameEvictionBag, evictions_taken, evictions_grown, passes_leave, one_no}
use Rattle.eviction_laws.proofs.Looking.{there_same}
use Rattle.eviction_laws.proofs.Onward.{eviction_any, no_eviction_of, evictions_last}

pub plain_no : (p : Packet) → is_plain p ≡ true → is_eviction_packet p ≡ false
plain_no (Peek own i tag) h = absurd cc
plain_no (PeekAns i tag latest num body) h = absurd cc
plain_no (Remove own i tag latest num) h = absurd cc
plain_no (RemoveAns i tag done latest num body) h = absurd cc
plain_no (Store job item) h = absurd cc
plain_no (Stored job) h = absurd cc
plain_no _ h = refl

-- what a calm step has still to say of the controller
pub record IsApart (c d : ControllerState) : Type 0 where
  pub eviction : d.eviction ≡ c.eviction
  pub round : d.round ≡ c.round
  pub jobs : d.next_job ≡ c.next_job

pub same_apart : (c : ControllerState) → IsApart c c
same_apart c = record { eviction = refl; round = refl; jobs = refl }

pub calm_leaves : (plan : PlanView) {c : Content} (notes : List LogEntry) (s t : State) (rest new : List Message) → EvictionsAre plan c s → IsCalm notes s t rest new → IsApart s.controller t.controller → SameEvictionBag s t → EvictionsAre plan c t
calm_leaves plan notes s t rest new h c a bag = evictions_last plan s t h (passes_leave plan s t (record {
  onward = record {
    still = member s t notes c.log;
    past = let e = c.steps in omega (arith, e);
    more = λ key. let n = ap (λ servers. (look plan (record s { servers = servers }) key).num) c.servers in omega (arith, n);
  };
  running = λ e. sym c.running ∙ e;
  eviction = a.eviction;
  epoch = c.epoch;
  round = a.round;
  jobs = let e = a.jobs in omega (arith, e);
  states = c.states;
  owners = λ i. record {
    valid = ap (λ (l : List SlotView). (Rattle.std.specs.Prelude.slice_index_or l i empty_slot).valid) c.slots;
    key = ap (λ (l : List SlotView). (Rattle.std.specs.Prelude.slice_index_or l i empty_slot).key) c.slots;
    tag = ap (λ (l : List SlotView). (Rattle.std.specs.Prelude.slice_index_or l i empty_slot).tag) c.slots;
  };
  bag = bag;
}))

pub calm_taken : (plan : PlanView) {c : Content} (notes : List LogEntry) (s t : State) (i : ℕ) (m : Message) (new : List Message) → slice_get s.bag i ≡ Some m → is_eviction_packet m.packet ≡ false → EvictionsAre plan c s → IsCalm notes s t (remove s.bag i) new → IsApart s.controller t.controller → EvictionsAre plan c t
calm_taken plan notes s t i m new at off h c a = calm_leaves plan notes s t (remove s.bag i) new h c a (evictions_taken s t i m new at off c.bag (λ n b. plain_no n.packet (c.plain n b)))

pub calm_grown : (plan : PlanView) {c : Content} (notes : List LogEntry) (s t : State) (new : List Message) → EvictionsAre plan c s → IsCalm notes s t s.bag new → IsApart s.controller t.controller → EvictionsAre plan c t
calm_grown plan notes s t new h c a = calm_leaves plan notes s t s.bag new h c a (evictions_grown s t new c.bag (λ n b. plain_no n.packet (c.plain n b)))

-- ---- turns of the controller

pub wanted_apart : (c : ControllerState) (key : List ℕ) → IsApart c (wanted key c)
wanted_apart c key = by_test (IsApart c) (is_some c.round) c (record c { wants = c.wants ++ key ∷ [] }) (same_apart c) (record { eviction = refl; round = refl; jobs = refl })

job_apart : (config : Config) (c : ControllerState) (job : Job) (out : List Out) → IsApart c (job_turn config c job out).state
job_apart config c job out = by_test (λ (t : Turn ControllerState). IsApart c t.state) (is_whole job) (completes config c (completed job) job.sames) (record { state = record c { job = Some job }; out = out; notes = [] })
    (record { eviction = refl; round = refl; jobs = refl }) (record { eviction = refl; round = refl; jobs = refl })

pub begun_apart : (config : Config) (c : ControllerState) (id point : ℕ) (o : Option Job) → IsApart c (snapshot_begun config c id point o).state
begun_apart config c id point None = same_apart c
begun_apart config c id point (Some job) = by_test (λ (t : Turn ControllerState). IsApart c t.state) (nat_eq job.id id && Rattle.std.specs.Prelude.not (has_begun job))
    (job_turn config c (record job { begun = Some point }) (part_reads c.epoch id 0 job.parts)) (idle c)
    (job_apart config c (record job { begun = Some point }) (part_reads c.epoch id 0 job.parts)) (same_apart c)

pub part_apart : (config : Config) (c : ControllerState) (id i : ℕ) (view : Option Record) (o : Option Job) → IsApart c (part_came config c id i view o).state
part_apart config c id i view None = same_apart c
part_apart config c id i view (Some job) = by_test (λ (t : Turn ControllerState). IsApart c t.state) (nat_eq job.id id && (nat_lt i (Rattle.std.specs.Prelude.length job.parts) && Rattle.std.specs.Prelude.not (has_part job i)))
    (job_turn config c (record job { parts = slice_set job.parts i (Some view) }) []) (idle c)
    (job_apart config c (record job { parts = slice_set job.parts i (Some view) }) []) (same_apart c)

pub same_apart_job : (config : Config) (c : ControllerState) (id i : ℕ) (o : Option Job) → IsApart c (same_came config c id i o).state
same_apart_job config c id i None = same_apart c
same_apart_job config c id i (Some job) = go (slice_get c.last.views i)
  where
    go : (o : Option (Option Record)) → IsApart c (same_part config c id i job o).state
    go None = same_apart c
    go (Some view) = by_test (λ (t : Turn ControllerState). IsApart c t.state) (nat_eq job.id id && (nat_lt i (Rattle.std.specs.Prelude.length job.parts) && Rattle.std.specs.Prelude.not (has_part job i)))
        (job_turn config c (with_same job i view) []) (idle c)
        (job_apart config c (with_same job i view) []) (same_apart c)

-- ---- admissions

not_evicting : (st own : SlotState) (key : List ℕ) (tag : ℕ) → st ≡ own → ((k : List ℕ) (t : ℕ) → own ≡ Evicting k t → ⊥) → st ≡ Evicting key tag → ⊥
not_evicting st own key tag e off is = off key tag (sym e ∙ is)

pub want_leaves : (plan : PlanView) {c : Content} (s : State) → EvictionsAre plan c s → (key : List ℕ) (i : ℕ) → first_place is_free s.controller.slots ≡ Some i → EvictionsAre plan c (controller_turn s s.bag (admits_want s.controller key i))
want_leaves plan {c} s h key i free = evictions_last plan s t h (record {
  onward = record { still = member s t [] refl; past = omega arith; more = λ key. omega arith };
  running = λ e. e;
  eviction = refl;
  epoch = refl;
  round = refl;
  jobs = omega arith;
  evicted = λ j k tag e. others j (λ same. not_evicting (state_at s.controller.slots j) Free k tag (ap (state_at s.controller.slots) same ∙ was_free) (λ k t e. cc) e) ∙ e;
  no_more = λ j k tag e. sym (others j (λ same. not_evicting (state_at t.controller.slots j) (Admitting key s.controller.next_tag) k tag (ap (state_at t.controller.slots) same ∙ now_admitting) (λ k t e. cc) e)) ∙ e;
  owners = λ j k tag e. inl (record { valid = refl; key = refl; tag = refl });
  news = λ m a. go m (bag.news m a);
  count = bag.count (λ q. is_eviction_of s.controller.epoch s.controller.eviction q) (no_eviction_of s.controller.epoch s.controller.eviction);
})
  where
    t : State
    t = controller_turn s s.bag (admits_want s.controller key i)

    was_free : state_at s.controller.slots i ≡ Free
    was_free = free_is _ (first_some is_free s.controller.slots i Free free).1

    now_admitting : state_at t.controller.slots i ≡ Admitting key s.controller.next_tag
    now_admitting = get_or-set_same s.controller.slots i (Admitting key s.controller.next_tag) Free (first_some is_free s.controller.slots i Free free).0

    others : (j : ℕ) → j ≢ i → state_at t.controller.slots j ≡ state_at s.controller.slots j
    others j ne = get_or-set_other s.controller.slots i j (Admitting key s.controller.next_tag) Free ne

    bag : SameEvictionBag s t
    bag = evictions_grown s t _ refl (one_no _ refl)

    go : (m : Message) → Among m s.bag ⊎ (is_eviction_packet m.packet ≡ false) → Among m s.bag ⊎ EvictionPacketIs plan c t m.packet
    go m (inl a) = inl a
    go m (inr off) = inr (eviction_any plan c t m.packet off)

module _ (plan : PlanView) {c : Content} (s : State) (need : Needs plan c s) (v : EvictionsAre plan c s) (n : ℕ) (from to : Party) where
  pub admit_leaves : s.running ≡ true → (epoch i : ℕ) (key : List ℕ) (tag : ℕ) → slice_get s.bag n ≡ Some (record { from = from; to = to; packet = Admit epoch i key tag })
      → EvictionsAre plan c (switch_turn s (remove s.bag n) (Admit epoch i key tag) (if is_slot_there s.switch epoch i then admits s.switch i key tag else dropped s.switch))
  admit_leaves runs epoch i key tag at = go (is_slot_there s.switch epoch i) refl
    where
      leaves : (passed : Passed) → ((j : ℕ) (k : List ℕ) (t : ℕ) → state_at s.controller.slots j ≡ Evicting k t → SameOwner (slot_at passed.view j) (slot_at s.switch j)) → (outs : List Out) → passed_out passed ≡ outs
          → ((m : Message) → Among m (messages_from Switch outs) → is_eviction_packet m.packet ≡ false) → EvictionsAre plan c (switch_turn s (remove s.bag n) (Admit epoch i key tag) passed)
      leaves passed owners outs is none = evictions_last plan s t v (record {
        onward = record { still = member s t (pass_notes (Admit epoch i key tag) passed) refl; past = omega arith; more = λ key. omega arith };
        running = λ e. e;
        eviction = refl;
        epoch = refl;
        round = refl;
        jobs = omega arith;
        evicted = λ j k tag e. e;
        no_more = λ j k tag e. e;
        owners = λ j k t e. inl (owners j k t e);
        news = λ m a. kind m (bag.news m a);
        count = bag.count (λ q. is_eviction_of s.controller.epoch s.controller.eviction q) (no_eviction_of s.controller.epoch s.controller.eviction);
      })
        where
          t : State
          t = switch_turn s (remove s.bag n) (Admit epoch i key tag) passed

          bag : SameEvictionBag s t
          bag = evictions_taken s t n _ (messages_from Switch outs) at refl (ap (λ l. remove s.bag n ++ messages_from Switch l) is) none

          kind : (m : Message) → Among m s.bag ⊎ (is_eviction_packet m.packet ≡ false) → Among m s.bag ⊎ EvictionPacketIs plan c t m.packet
          kind m (inl a) = inl a
          kind m (inr off) = inr (eviction_any plan c t m.packet off)

      taken : is_slot_there s.switch epoch i ≡ true → (b : Bool) → (slot_at s.switch i).valid ≡ b
          → EvictionsAre plan c (switch_turn s (remove s.bag n) (Admit epoch i key tag) (record { view = (admits s.switch i key tag).view; first = if b then None else sent_to Controller (AdmitAck i tag); second = None }))
      taken on b e = kinds b
        where
          owners : (j : ℕ) (k : List ℕ) (t : ℕ) → state_at s.controller.slots j ≡ Evicting k t → SameOwner (slot_at (admits s.switch i key tag).view j) (slot_at s.switch j)
          owners j k t is =
              let its : PacketNeeds plan s (Admit epoch i key tag) = need.packets _ (among_at _ s.bag n at) in
              let state = its runs (there_same plan s need runs epoch i on) in
              let q = get_or-set_other s.switch.slots i j (admitted key tag (slot_at s.switch i)) empty_slot (λ same. not_evicting (state_at s.controller.slots j) (Admitting key tag) k t (ap (state_at s.controller.slots) same ∙ state) (λ k t e. cc) is) in
              record { valid = ap (λ (x : SlotView). x.valid) q; key = ap (λ (x : SlotView). x.key) q; tag = ap (λ (x : SlotView). x.tag) q }

          kinds : (u : Bool) → EvictionsAre plan c (switch_turn s (remove s.bag n) (Admit epoch i key tag) (record { view = (admits s.switch i key tag).view; first = if u then None else sent_to Controller (AdmitAck i tag); second = None }))
          kinds true = leaves (record { view = (admits s.switch i key tag).view; first = None; second = None }) owners [] refl (λ m a. absurd a)
          kinds false = leaves (record { view = (admits s.switch i key tag).view; first = sent_to Controller (AdmitAck i tag); second = None }) owners _ refl (one_no _ refl)

      go : (b : Bool) → is_slot_there s.switch epoch i ≡ b → EvictionsAre plan c (switch_turn s (remove s.bag n) (Admit epoch i key tag) (if b then admits s.switch i key tag else dropped s.switch))
      go true on = taken on (slot_at s.switch i).valid refl
      go false off = leaves (dropped s.switch) (λ j k t is. record { valid = refl; key = refl; tag = refl }) [] refl (λ m a. absurd a)

  pub ack_leaves : (i tag : ℕ) → slice_get s.bag n ≡ Some (record { from = from; to = to; packet = AdmitAck i tag })
      → EvictionsAre plan c (controller_turn s (remove s.bag n) (acknowledged s.controller i tag))
  ack_leaves i tag at = go (is_admitting tag (state_at s.controller.slots i))
    where
      its : PacketNeeds plan s (AdmitAck i tag)
      its = need.packets _ (among_at _ s.bag n at)

      leaves : (turn : Turn ControllerState) → turn.state.eviction ≡ s.controller.eviction → turn.state.epoch ≡ s.controller.epoch → turn.state.round ≡ s.controller.round → turn.state.next_job ≡ s.controller.next_job → turn.out ≡ []
          → ((j : ℕ) (k : List ℕ) (t : ℕ) → state_at s.controller.slots j ≡ Evicting k t → state_at turn.state.slots j ≡ Evicting k t)
          → ((j : ℕ) (k : List ℕ) (t : ℕ) → state_at turn.state.slots j ≡ Evicting k t → state_at s.controller.slots j ≡ Evicting k t)
          → EvictionsAre plan c (controller_turn s (remove s.bag n) turn)
      leaves turn eviction epoch round jobs none evicted no_more = evictions_last plan s t v (record {
        onward = record { still = member s t turn.notes refl; past = omega arith; more = λ key. omega arith };
        running = λ e. e;
        eviction = eviction;
        epoch = epoch;
        round = round;
        jobs = omega (arith, jobs);
        evicted = evicted;
        no_more = no_more;
        owners = λ j k tag e. inl (record { valid = refl; key = refl; tag = refl });
        news = λ m a. kind m (bag.news m a);
        count = bag.count (λ q. is_eviction_of s.controller.epoch s.controller.eviction q) (no_eviction_of s.controller.epoch s.controller.eviction);
      })
        where
          t : State
          t = controller_turn s (remove s.bag n) turn

          bag : SameEvictionBag s t
          bag = evictions_taken s t n _ [] at refl (ap (λ l. remove s.bag n ++ messages_from Controller l) none) (λ m a. absurd a)

          kind : (m : Message) → Among m s.bag ⊎ (is_eviction_packet m.packet ≡ false) → Among m s.bag ⊎ EvictionPacketIs plan c t m.packet
          kind m (inl a) = inl a
          kind m (inr off) = inr (eviction_any plan c t m.packet off)

      acked : SlotState
      acked = acked_state (state_at s.controller.slots i)

      its_slots : List SlotState
      its_slots = slice_set s.controller.slots i (acked_state (state_at s.controller.slots i))

      others : (j : ℕ) → j ≢ i → state_at (slice_set s.controller.slots i (acked_state (state_at s.controller.slots i))) j ≡ state_at s.controller.slots j
      others j ne = get_or-set_other s.controller.slots i j (acked_state (state_at s.controller.slots i)) Free ne

      now_held : state_at (slice_set s.controller.slots i (acked_state (state_at s.controller.slots i))) i ≡ Held its.0 tag
      now_held = get_or-set_same s.controller.slots i (acked_state (state_at s.controller.slots i)) Free (Rattle.record_laws.proofs.Arrivals.state_within s.controller.slots i its.0 tag its.1) ∙ ap acked_state its.1

      go : (b : Bool) → EvictionsAre plan c (controller_turn s (remove s.bag n) (if b then record { state = with_state s.controller i (acked_state (state_at s.controller.slots i)); out = []; notes = Admitted i (key_in (state_at s.controller.slots i)) tag ∷ [] } else idle s.controller))
      go true = leaves (record { state = with_state s.controller i (acked_state (state_at s.controller.slots i)); out = []; notes = Admitted i (key_in (state_at s.controller.slots i)) tag ∷ [] }) refl refl refl refl refl
          (λ j k t e. others j (λ same. not_evicting (state_at s.controller.slots j) (Admitting its.0 tag) k t (ap (state_at s.controller.slots) same ∙ its.1) (λ k t e. cc) e) ∙ e)
          (λ j k t e. sym (others j (λ same. not_evicting (state_at (slice_set s.controller.slots i (acked_state (state_at s.controller.slots i))) j) (Held its.0 tag) k t (ap (state_at (slice_set s.controller.slots i (acked_state (state_at s.controller.slots i)))) same ∙ now_held) (λ k t e. cc) e)) ∙ e)
      go false = leaves (idle s.controller) refl refl refl refl refl (λ j k t e. e) (λ j k t e. e)

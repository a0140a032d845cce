-- Admissions, evictions, snapshots and rounds: each that is under way has its packets on their way.
use Rattle.far_invariants.specs.Slots.{IsGiven, is_admission_of, admits_under, admission_count}
use Rattle.std.specs.Prelude.{◌≡◌, ℕ, ◌+◌, ◌<◌, ◌≤◌, max, ◌⊎◌, Bool, true, false, ◌&&◌, not, nat_eq, nat_le}
use Rattle.std.specs.Prelude.{if◌then◌else◌, List, [], length, slice_index_or, Option, None, Some, is_some}
use Rattle.std.specs.List.{count_by, list_all}
use Rattle.far_base.specs.PlanView.{PlanView}
use Rattle.far_base.specs.declared.packet.Message.{Message}
use Rattle.far_base.specs.declared.packet.Packet.{Packet}
use Rattle.far_base.specs.declared.packet.Packet.TheVariants.{Admit, AdmitAck, Peek, PeekAns, Remove, RemoveAns}
use Rattle.far_base.specs.declared.packet.Packet.TheVariants.{SnapStart, SnapRead, Ask, Told, TopAsk, TopIs, SnapFrom}
use Rattle.far_base.specs.declared.party.Party.{Party}
use Rattle.far_base.specs.declared.party.Party.TheVariants.{Client, Server}
use Rattle.far_base.specs.declared.slot_state.SlotState.TheVariants.{Free, Admitting, Evicting}
use Rattle.far_base.specs.declared.slot_state.Due.{Due}
use Rattle.far_base.specs.declared.slot_state.Due.TheVariants.{Peeked, Stored as StoredDue, Removed, Over}
use Rattle.far_model.specs.Controller.{ControllerState}
use Rattle.far_model.specs.Events.{is_switch}
use Rattle.far_model.specs.Evictions.{Eviction, is_due, state_at}
use Rattle.far_invariants.specs.Flights.{Subject, OfAdmission, OfEviction, OfJob, OfSnapshot, OfRound, subject}
use Rattle.far_model.specs.Members.{Among}
use Rattle.far_model.specs.Rounds.{Round, no_telling, has_told, telling_at, asks_tops}
use Rattle.far_model.specs.State.{State}
use Rattle.far_model.specs.View.{SwitchView, slot_at}

-- ---- epochs

-- a running switch has the controller's epoch, and no packet is of a later one
abbrev pub epoch_in : Packet → ℕ
epoch_in (Admit epoch i key tag) = epoch
epoch_in (Peek epoch i tag) = epoch
epoch_in (Remove epoch i tag latest num) = epoch
epoch_in (SnapStart epoch id) = epoch
epoch_in (SnapFrom epoch id base) = epoch
epoch_in (SnapRead epoch id i) = epoch
epoch_in _ = 0

pub record EpochsFit (s : State) : Type 0 where
  pub running : s.running ≡ true → s.switch.epoch ≡ s.controller.epoch
  pub sent : (m : Message) → Among m s.bag → epoch_in m.packet ≤ s.controller.epoch

-- ---- admissions

-- an admission of the controller's epoch is of a slot that is being admitted under its key and tag, and one that comes
-- back is too
abbrev pub AdmissionFits : ControllerState → Packet → Type 0
AdmissionFits c (Admit epoch i key tag) = c.round ≡ None → epoch ≡ c.epoch → state_at c.slots i ≡ Admitting key tag
AdmissionFits c (AdmitAck i tag) = (key : List ℕ) × (state_at c.slots i ≡ Admitting key tag)
AdmissionFits c _ = Unit {0}

-- at the switch it finds an empty slot, and leaves a valid one under its tag
abbrev pub AdmissionMeets : SwitchView → ℕ → Packet → Type 0
AdmissionMeets v epoch (Admit own i key tag) = own ≡ epoch → (slot_at v i).valid ≡ false
AdmissionMeets v epoch (AdmitAck i tag) = ((slot_at v i).valid ≡ true) × ((slot_at v i).tag ≡ tag)
AdmissionMeets v epoch _ = Unit {0}

pub record AdmissionsFly (s : State) : Type 0 where
  pub given : (i tag : ℕ) (key : List ℕ) → IsGiven key tag (state_at s.controller.slots i) → tag < s.controller.next_tag
  pub drawn : (m : Message) (i tag : ℕ) → Among m s.bag → subject m.packet ≡ OfAdmission i tag
      → tag < s.controller.next_tag
  pub fits : (m : Message) → Among m s.bag → AdmissionFits s.controller m.packet
  pub meets : s.running ≡ true → (m : Message) → Among m s.bag → AdmissionMeets s.switch s.controller.epoch m.packet
  pub one : s.controller.round ≡ None → (i : ℕ)
      → count_by (λ (m : Message). is_admission_of i s.controller.epoch m.packet) s.bag
      ≡ admission_count (state_at s.controller.slots i)
  pub once : (tag : ℕ) → count_by (λ (m : Message). admits_under tag m.packet) s.bag ≤ 1
  pub empty : s.running ≡ true → (i : ℕ) → state_at s.controller.slots i ≡ Free → (slot_at s.switch i).valid ≡ false

-- ---- evictions

-- whether a packet is the eviction's own: of its slot and tag, or of the job that it waits for
abbrev pub is_own : Eviction → Subject → Bool
is_own e (OfEviction i tag) = nat_eq e.slot i && nat_eq e.tag tag
is_own e (OfJob job) = is_due e.due StoredDue && nat_eq e.job job
is_own e _ = false

-- it is the one that the eviction waits for, or that leads to it
abbrev pub FitsDue : ℕ → Eviction → Packet → Type 0
FitsDue epoch e (Peek own i tag) = (e.due ≡ Peeked) × (own ≡ epoch)
FitsDue epoch e (PeekAns i tag latest num body) = e.due ≡ Peeked
FitsDue epoch e (Remove own i tag latest num) = (e.due ≡ Removed) × (own ≡ epoch)
FitsDue epoch e (RemoveAns i tag done latest num body) = e.due ≡ Removed
FitsDue epoch e _ = Unit {0}

-- the removals sent so far
abbrev pub TriesFit : Due → ℕ → Type 0
TriesFit Peeked tries = tries ≡ 0
TriesFit StoredDue tries = tries ≤ 2
TriesFit Removed tries = (1 ≤ tries) × (tries ≤ 3)
TriesFit Over tries = ⊥

pub record EvictionIs (c : ControllerState) (e : Eviction) : Type 0 where
  pub state : state_at c.slots e.slot ≡ Evicting e.key e.tag
  pub epoch : e.epoch ≡ c.epoch
  pub tries : TriesFit e.due e.tries
  pub job : e.due ≡ StoredDue → e.job < c.next_job

-- the eviction of the controller is of this slot and tag
pub record IsEvicted (c : ControllerState) (i tag : ℕ) : Type 0 where
  pub eviction : Eviction
  pub is : c.eviction ≡ Some eviction
  pub slot : eviction.slot ≡ i
  pub tag_is : eviction.tag ≡ tag

-- the own packet of the controller's eviction is there exactly once
abbrev pub OwnFlies : ControllerState → List Message → Option Eviction → Type 0
OwnFlies c bag None = Unit {0}
OwnFlies c bag (Some e) = EvictionIs c e × (count_by (λ (m : Message). is_own e (subject m.packet)) bag ≡ 1)
    × ((m : Message) → Among m bag → is_own e (subject m.packet) ≡ true → FitsDue c.epoch e m.packet)

-- a done removal that comes back left an empty slot
abbrev pub Emptied : SwitchView → ControllerState → Packet → Type 0
Emptied v c (RemoveAns i tag done latest num body) = done ≡ true → (key : List ℕ) → IsGiven key tag (state_at c.slots i)
    → (slot_at v i).valid ≡ false
Emptied v c _ = Unit {0}

pub record EvictionsFly (s : State) : Type 0 where
  pub tags : (m : Message) (i tag : ℕ) → Among m s.bag → subject m.packet ≡ OfEviction i tag
      → tag < s.controller.next_tag
  pub jobs : (m : Message) (job : ℕ) → Among m s.bag → subject m.packet ≡ OfJob job → job < s.controller.next_job
  -- a packet of an eviction under a tag that its slot still has is of the eviction that is under way
  pub owned : (m : Message) (i tag : ℕ) (key : List ℕ) → Among m s.bag → subject m.packet ≡ OfEviction i tag
      → IsGiven key tag (state_at s.controller.slots i) → IsEvicted s.controller i tag
  pub evicting : (i tag : ℕ) (key : List ℕ) → state_at s.controller.slots i ≡ Evicting key tag
      → IsEvicted s.controller i tag
  pub flies : OwnFlies s.controller s.bag s.controller.eviction
  pub emptied : s.running ≡ true → (m : Message) → Among m s.bag → Emptied s.switch s.controller m.packet

-- ---- snapshots

-- ids are drawn; that a job has its packets on their way is a law of snapshots
pub record SnapshotsFly (plan : PlanView) (s : State) : Type 0 where
  pub ids : (m : Message) (id : ℕ) → Among m s.bag → subject m.packet ≡ OfSnapshot id → id < s.controller.next_id
  pub snap : s.switch.snap < s.controller.next_id
  pub taken : (i : ℕ) → slice_index_or s.switch.taken i 0 < s.controller.next_id

-- ---- rounds

abbrev pub is_to_client : ℕ → Party → Bool
is_to_client c (Client n) = nat_eq n c
is_to_client c _ = false

abbrev pub is_to_server : ℕ → Party → Bool
is_to_server n (Server m) = nat_eq m n
is_to_server n _ = false

abbrev pub is_ask : ℕ → ℕ → Party → Packet → Bool
is_ask number c to (Ask round) = nat_eq round number && is_to_client c to
is_ask number c to _ = false

abbrev pub is_told : ℕ → ℕ → Packet → Bool
is_told number c (Told round caller total item) = nat_eq round number && nat_eq caller c
is_told number c _ = false

abbrev pub is_top : ℕ → ℕ → Party → Packet → Bool
is_top number n to (TopAsk round) = nat_eq round number && is_to_server n to
is_top number n to (TopIs round server top) = nat_eq round number && nat_eq server n
is_top number n to _ = false

-- a store of a job from this one on
abbrev pub is_job_from : ℕ → Subject → Bool
is_job_from first (OfJob job) = nat_le first job
is_job_from first _ = false

abbrev pub TotalIs : ℕ → Packet → Type 0
TotalIs total (Told round caller own item) = own ≡ total
TotalIs total _ = Unit {0}

-- a client that was asked and has not answered
pub record IsAsked (bag : List Message) (r : Round) (c : ℕ) : Type 0 where
  pub asked : count_by (λ (m : Message). is_ask r.number c m.to m.packet) bag ≡ 1
  pub told : count_by (λ (m : Message). is_told r.number c m.packet) bag ≡ 0
  pub none : telling_at r c ≡ no_telling

-- a client that has answered: of so many messages some came, and the others are on their way
pub record IsTelling (bag : List Message) (r : Round) (c : ℕ) : Type 0 where
  pub total : ℕ
  pub asked : count_by (λ (m : Message). is_ask r.number c m.to m.packet) bag ≡ 0
  pub told : count_by (λ (m : Message). is_told r.number c m.packet) bag + (telling_at r c).count ≡ max total 1
  pub same : (m : Message) → Among m bag → is_told r.number c m.packet ≡ true → TotalIs total m.packet
  pub known : (telling_at r c ≡ no_telling) ⊎ ((telling_at r c).total ≡ Some total)

abbrev pub due_top : Round → ℕ → ℕ
due_top r n = if r.asked && not (is_some (slice_index_or r.tops n None)) then 1 else 0

pub record RoundIs (plan : PlanView) (s : State) (r : Round) : Type 0 where
  pub running : s.running ≡ false
  pub quiet : (m : Message) → Among m s.bag → is_switch m.from ≡ false
  pub free : (i : ℕ) → state_at s.controller.slots i ≡ Free
  pub wants : s.controller.wants ≡ []
  pub eviction : s.controller.eviction ≡ None
  pub job : s.controller.job ≡ None
  pub number : r.number < s.controller.next_round
  pub first_job : r.first_job ≤ s.controller.next_job
  pub told_size : length r.told ≡ plan.config.clients
  pub tops_size : length r.tops ≡ plan.config.servers
  pub waits : asks_tops r ≡ false
  pub asked : r.asked ≡ true → (list_all has_told r.told ≡ true) × (r.stores ≡ 0)
  pub untold : r.asked ≡ false → (n : ℕ) → is_some (slice_index_or r.tops n None) ≡ false
  pub stores : count_by (λ (m : Message). is_job_from r.first_job (subject m.packet)) s.bag ≡ r.stores
  pub tellings : (c : ℕ) → c < plan.config.clients → IsAsked s.bag r c ⊎ IsTelling s.bag r c
  pub tops : (n : ℕ) → n < plan.config.servers
      → count_by (λ (m : Message). is_top r.number n m.to m.packet) s.bag ≡ due_top r n

abbrev pub RoundFlies : PlanView → State → Option Round → Type 0
RoundFlies plan s None = Unit {0}
RoundFlies plan s (Some r) = RoundIs plan s r

pub record RoundsFly (plan : PlanView) (s : State) : Type 0 where
  pub numbers : (m : Message) (number : ℕ) → Among m s.bag → subject m.packet ≡ OfRound number
      → number < s.controller.next_round
  pub round : RoundFlies plan s s.controller.round

-- The controller as contracts see it, and what holds of every controller.
use Rattle.std.specs.Prelude.{⊤, ◌≡◌, ℕ, ◌≤◌, List, length, Option, None, Some}
use Rattle.far_base.specs.Limits.{IsConfig}
use Rattle.far_base.specs.declared.plan.Config.{Config}
use Rattle.far_base.specs.declared.plan.TheConstants.{SLOT_LIMIT}
use Rattle.far_base.specs.declared.slot_state.SlotState.{SlotState}
use Rattle.far_base.specs.declared.slot_state.SlotState.TheVariants.{Evicting}
use Rattle.far_model.specs.Controller.{ControllerState}
use Rattle.far_model.specs.Evictions.{Eviction, state_at}
use Rattle.far_model.specs.Rounds.{Round}
use Rattle.far_model.specs.Snapshots.{Job, SnapshotView}

pub record ControllerView : Type 0 where
  pub config : Config
  pub state : ControllerState

abbrev pub at_state : ControllerView → ControllerState → ControllerView
at_state v c = record v { state = c }

-- the slot of the eviction is in the state for it
abbrev pub EvictsSlot : List SlotState → Option Eviction → Type 0
EvictsSlot slots None = ⊤
EvictsSlot slots (Some e) = state_at slots e.slot ≡ Evicting e.key e.tag

-- a job has a place for the part of each slot
abbrev pub HasPlaces : ℕ → Option Job → Type 0
HasPlaces count None = ⊤
HasPlaces count (Some job) = length job.parts ≡ count

-- no more stores of a round are under way than jobs were drawn
abbrev pub AreDrawn : ℕ → Option Round → Type 0
AreDrawn next_job None = ⊤
AreDrawn next_job (Some r) = r.stores ≤ next_job

-- what holds of every controller
pub record IsFit (v : ControllerView) : Type 0 where
  pub config : IsConfig v.config
  pub slots : length v.state.slots ≤ SLOT_LIMIT
  pub evicting : EvictsSlot v.state.slots v.state.eviction
  pub places : HasPlaces (length v.state.slots) v.state.job
  pub views : length v.state.last.views ≤ SLOT_LIMIT
  pub stores : AreDrawn v.state.next_job v.state.round

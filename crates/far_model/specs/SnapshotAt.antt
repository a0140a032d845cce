-- The snapshot of a run: what all slots held, and the counter, at the one moment at which its start came.
use Rattle.std.specs.Prelude.{◌≡◌, ℕ, true, List, [], ◌∷◌, ◌++◌, map, slice_get, Option, Some}
use Rattle.far_base.specs.PlanView.{PlanView}
use Rattle.far_base.specs.declared.event.Event.{Event}
use Rattle.far_base.specs.declared.event.Event.TheVariants.{Deliver}
use Rattle.far_base.specs.declared.packet.Message.{Message}
use Rattle.far_base.specs.declared.packet.Packet.{Packet}
use Rattle.far_base.specs.declared.packet.Packet.TheVariants.{SnapStart, SnapFrom}
use Rattle.far_base.specs.declared.party.Party.TheVariants.{Switch}
use Rattle.far_base.specs.declared.record.Record.{Record}
use Rattle.far_model.specs.Runs.{run}
use Rattle.far_model.specs.State.{opening}
use Rattle.far_model.specs.View.{held_record}

-- the packet starts the snapshot with this id in this epoch
abbrev pub IsStartWith : ℕ → ℕ → Packet → Type 0
IsStartWith id epoch (SnapStart own other) = (own ≡ epoch) × (other ≡ id)
IsStartWith id epoch (SnapFrom own other base) = (own ≡ epoch) × (other ≡ id)
IsStartWith id epoch _ = ⊥

-- what the slots held, and the counter, in the state of the run after the delivery of the start with this id to a
-- running switch of that packet's epoch
pub record IsSnapshotAt (plan : PlanView) (events : List Event) (id : ℕ) (views : List (Option Record)) (point : ℕ)
    : Type 0 where
  pub earlier : List Event
  pub place : ℕ
  pub later : List Event
  pub split : events ≡ earlier ++ Deliver place ∷ later
  pub message : Message
  pub there : slice_get (run plan (opening plan) earlier).bag place ≡ Some message
  pub to : message.to ≡ Switch
  pub running : (run plan (opening plan) earlier).running ≡ true
  pub starts_it : IsStartWith id (run plan (opening plan) earlier).switch.epoch message.packet
  pub views_are : views ≡ map held_record (run plan (opening plan) (earlier ++ Deliver place ∷ [])).switch.slots
  pub point_is : point ≡ (run plan (opening plan) (earlier ++ Deliver place ∷ [])).switch.counter

-- When the controller asks for the removal of a slot that is latest.
use Rattle.std.specs.Prelude.{◌≡◌, ℕ, Bool, false, List, Some}
use Rattle.far_base.specs.declared.packet.Out.{Out}
use Rattle.far_base.specs.declared.packet.Packet.{Packet}
use Rattle.far_base.specs.declared.packet.Packet.TheVariants.{Remove, Stored}
use Rattle.far_base.specs.declared.party.Party.TheVariants.{Switch}
use Rattle.far_base.specs.declared.slot_state.Due.TheVariants.{Stored as StoredDue}
use Rattle.far_model.specs.Controller.{ControllerState}
use Rattle.far_model.specs.Evictions.{Eviction, after_store}
use Rattle.far_model.specs.Members.{Among}
use Rattle.far_model.specs.Parties.{to_party}

-- a removal also where the slot is latest
abbrev pub is_latest_removal : Packet → Bool
is_latest_removal (Remove epoch i tag latest num) = latest
is_latest_removal _ = false

abbrev pub AsksNoLatestRemoval : List Out → Type 0
AsksNoLatestRemoval outs = (out : Out) → Among out outs → is_latest_removal out.packet ≡ false

-- the packet says that the eviction's record is stored, and what leaves asks to remove the slot with that record
pub record IsUponStored (c : ControllerState) (packet : Packet) (out : Out) : Type 0 where
  pub job : ℕ
  pub is : packet ≡ Stored job
  pub eviction : Eviction
  pub under : c.eviction ≡ Some eviction
  pub waits : eviction.due ≡ StoredDue
  pub own : eviction.job ≡ job
  pub asks : out ≡ to_party Switch (after_store eviction)

-- Which packets leave it as it is whether the first want can be served.
use Rattle.std.specs.Prelude.{Bool, true, false, ◌||◌, is_some}
use Rattle.far_base.specs.declared.packet.Packet.{Packet}
use Rattle.far_base.specs.declared.packet.Packet.TheVariants.{Hot, AdmitAck, PeekAns, SnapBegun, SnapPart, SnapSame}
use Rattle.far_base.specs.declared.packet.Packet.TheVariants.{Stored, Told, TopIs}
use Rattle.far_model.specs.Controller.{ControllerState}
use Rattle.controller_core.specs.Wants.{first_want}

-- a further want is not the first, and in a round no key is wanted; a slot that is newly held is no victim while an
-- eviction is under way; an eviction that has looked at its slot or stored its record goes on; a snapshot and a round
-- have other things to do
abbrev pub leaves_first_want : ControllerState → Packet → Bool
leaves_first_want c (Hot key) = is_some c.round || is_some (first_want c.wants)
leaves_first_want c (AdmitAck slot tag) = is_some c.eviction
leaves_first_want c (PeekAns slot tag latest num body) = true
leaves_first_want c (SnapBegun id point) = true
leaves_first_want c (SnapPart id slot view) = true
leaves_first_want c (SnapSame id slot) = true
leaves_first_want c (Stored job) = true
leaves_first_want c (Told round caller total item) = true
leaves_first_want c (TopIs round server top) = true
leaves_first_want c _ = false

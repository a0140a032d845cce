-- Packets that pass a switch one after the other.
use Rattle.std.specs.Prelude.{List, [], ◌∷◌}
use Rattle.far_base.specs.declared.packet.Packet.{Packet}
use Rattle.far_model.specs.Pass.{pass}
use Rattle.far_model.specs.View.{SwitchView}
use Rattle.switch_core.specs.Plain.{emit_of}
use Rattle.switch_core.specs.declared.switch.Emit.{Emit}

-- the view after all of them
abbrev pub final : SwitchView → List Packet → SwitchView
final v [] = v
final v (p ∷ ps) = final (pass v p).view ps

-- what leaves, packet by packet
abbrev pub answers : SwitchView → List Packet → List Emit
answers v [] = []
answers v (p ∷ ps) = emit_of (pass v p) ∷ answers (pass v p).view ps

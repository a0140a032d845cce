-- What the log keeps of a pass, told by the packet that came and the first that left.
use Rattle.std.specs.Prelude.{ℕ, List, [], ◌∷◌, ◌++◌, Option, None, Some}
use Rattle.far_base.specs.declared.log.LogEntry.{LogEntry}
use Rattle.far_base.specs.declared.log.LogEntry.TheVariants.{Numbered}
use Rattle.far_base.specs.declared.packet.Out.{Out}
use Rattle.far_base.specs.declared.packet.Packet.{Packet}
use Rattle.far_base.specs.declared.packet.Packet.TheVariants.{WriteReq, WriteFwd, WriteAns}
use Rattle.far_base.specs.declared.plan.PassKind.{PassKind}
use Rattle.far_model.specs.Pass.{emitted_notes}
use Rattle.far_model.specs.Passes.{pass_place}

-- the number that a write got stands in the packet that left for it
abbrev pub number_note : ℕ → Packet → List LogEntry
number_note op (WriteFwd caller same key num body) = Numbered op num ∷ []
number_note op (WriteAns caller same key num kept) = Numbered op num ∷ []
number_note op _ = []

abbrev pub number_noted : ℕ → Option Out → List LogEntry
number_noted op None = []
number_noted op (Some out) = number_note op out.packet

abbrev pub numbered_by : Packet → Option Out → List LogEntry
numbered_by (WriteReq caller op key body) first = number_noted op first
numbered_by _ first = []

abbrev pub noted_by : Packet → Option Out → List LogEntry
noted_by packet first = numbered_by packet first ++ emitted_notes first

abbrev pub place_of : Option PassKind → Option ℕ
place_of None = None
place_of (Some kind) = Some (pass_place kind)

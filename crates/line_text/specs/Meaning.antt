-- The text of a line of packets: four lines of head, and a line for each packet.
use Rattle.std.specs.Prelude.{◌≡◌, ◌≤◌, ℕ, codes, List, [], ◌∷◌, ◌++◌, length, Result, Ok, Err}
use Rattle.std.specs.List.{AllByRecursion}
use Rattle.far_base.specs.Limits.{IsConfig}
use Rattle.far_base.specs.declared.packet.Packet.{Packet}
use Rattle.far_base.specs.declared.plan.Config.{Config}
use Rattle.far_base.specs.declared.plan.TheConstants.{OP_LIMIT}
use Rattle.hex.specs.Hex.{encode_lower, IsBytes}
use Rattle.packet_codec.specs.Spelling.{spelled}
use Rattle.workload.specs.Spelling.{number_line}
use Rattle.workload.specs.declared.fault.WorkFault.{WorkFault}
use Rattle.workload.specs.declared.fault.WorkFault.TheVariants.{BadLine, TooLarge, Memory}
use Rattle.line_text.specs.Reading.{LineView}

abbrev pub head_text : Config → List ℕ
head_text c = codes "far 1 line\n"
    ++ number_line (codes "servers ") c.servers
    ++ number_line (codes "slots ") c.slots
    ++ number_line (codes "hot ") c.hot

-- the digits of a packet's bytes
abbrev pub packet_text : Packet → List ℕ
packet_text p = encode_lower (spelled p).bytes

-- a line for each packet
abbrev pub packets_text : List Packet → List ℕ
packets_text [] = []
packets_text (p ∷ ps) = packet_text p ++ 10 ∷ packets_text ps

-- a packet that has a spelling in bytes
pub record IsSpelled (p : Packet) : Type 0 where
  pub in_range : (spelled p).in_range
  pub bytes : IsBytes (spelled p).bytes

-- the text is that of these sizes and packets, within the limits
pub record IsReading (text : List ℕ) (l : LineView) : Type 0 where
  pub spelled : text ≡ head_text l.config ++ packets_text l.packets
  pub config : IsConfig l.config
  pub clients : l.config.clients ≡ 1
  pub packets : AllByRecursion IsSpelled l.packets
  pub few : length l.packets ≤ OP_LIMIT

-- this line of packets was read, or memory was refused
abbrev pub IsReadAs : Result LineView WorkFault → LineView → Type 0
IsReadAs (Ok found) l = found ≡ l
IsReadAs (Err (BadLine line)) l = ⊥
IsReadAs (Err (TooLarge which line)) l = ⊥
IsReadAs (Err Memory) l = Unit {0}

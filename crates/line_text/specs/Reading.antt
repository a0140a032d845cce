-- Reading a line of packets: the switch's sizes and the packets, or the first line with a fault.
use Rattle.std.specs.Prelude.{ℕ, ◌+◌, nat_lt, bytes_eq, if◌then◌else◌, codes, List, [], ◌∷◌, ◌++◌, length}
use Rattle.std.specs.Prelude.{Option, None, Some, Result, Ok, Err}
use Rattle.far_base.specs.declared.packet.Packet.{Packet}
use Rattle.far_base.specs.declared.plan.Config.{Config}
use Rattle.far_base.specs.declared.plan.TheConstants.{OP_LIMIT, SERVER_LIMIT, SLOT_LIMIT, HOT_LIMIT}
use Rattle.far_text.specs.Hex.{hex_of}
use Rattle.far_text.specs.Options.{◌>>=◌}
use Rattle.far_text.specs.Pieces.{Pieces, pieces}
use Rattle.packet_codec.specs.Packets.{packet_of}
use Rattle.packet_codec.specs.declared.fault.BadPacket.{BadPacket}
use Rattle.workload.specs.Outcome.{◌andthen◌}
use Rattle.workload.specs.Reading.{next_line, size_of}
use Rattle.workload.specs.declared.fault.Limit.TheVariants.{Ops, Servers, Slots, Hot}
use Rattle.workload.specs.declared.fault.WorkFault.{WorkFault}
use Rattle.workload.specs.declared.fault.WorkFault.TheVariants.{BadLine, TooLarge}

-- what contracts see of a line of packets
pub record LineView : Type 0 where
  pub config : Config
  pub packets : List Packet

-- ---- the first four lines

abbrev pub titled : List ℕ × Pieces → Result Pieces WorkFault
titled l = if bytes_eq l.0 (codes "far 1 line") then Ok l.1 else Err (BadLine 1)

abbrev pub title_of : Pieces → Result Pieces WorkFault
title_of lines = next_line 0 lines andthen titled

-- a switch of these sizes; the number of clients is one that no pass uses
unfoldable pub head_of : Pieces → Result (Config × Pieces) WorkFault
head_of lines = title_of lines andthen λ rest.
    size_of 1 (codes "servers ") 1 SERVER_LIMIT Servers rest andthen λ a.
    size_of 2 (codes "slots ") 1 SLOT_LIMIT Slots a.1 andthen λ b.
    size_of 3 (codes "hot ") 0 HOT_LIMIT Hot b.1 andthen λ c.
    Ok (record { clients = 1; servers = a.0; slots = b.0; hot = c.0 }, c.1)

-- ---- a line for each packet

abbrev pub ok_of : Result Packet BadPacket → Option Packet
ok_of (Ok packet) = Some packet
ok_of (Err fault) = None

-- the packet whose spelling the digits are
abbrev pub packet_in : List ℕ → Option Packet
packet_in line = hex_of line >>= λ bytes. ok_of (packet_of bytes)

abbrev pub packet_step : ℕ → List Packet → Option Packet → Result (List Packet) WorkFault
packet_step n packets None = Err (BadLine n)
packet_step n packets (Some packet) = if nat_lt (length packets) OP_LIMIT then Ok (packets ++ packet ∷ [])
    else Err (TooLarge Ops n)

-- the end of the text comes right behind a line end
abbrev pub at_end : ℕ → List Packet → List ℕ → Result (List Packet) WorkFault
at_end n packets [] = Ok packets
at_end n packets (b ∷ bs) = Err (BadLine (n + 1))

-- the lines behind n others, one after the other
unfoldable pub packets_from : ℕ → List Packet → Pieces → Result (List Packet) WorkFault
packets_from n packets [] = Ok packets
packets_from n packets (line ∷ []) = at_end n packets line
packets_from n packets (line ∷ next ∷ more) = packet_step (n + 1) packets (packet_in line) andthen λ read.
    packets_from (n + 1) read (next ∷ more)

-- the line of packets that a text is, or the first line with a fault
unfoldable pub reading : List ℕ → Result LineView WorkFault
reading text = head_of (pieces 10 text) andthen λ head.
    packets_from 4 [] head.1 andthen λ packets.
    Ok (record { config = head.0; packets = packets })

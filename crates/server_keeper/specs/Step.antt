-- What a packet to a server asks of a keeper.
use Rattle.std.specs.Prelude.{ℕ, List, slice_set}
use Rattle.far_base.specs.declared.packet.Packet.{Packet}
use Rattle.far_base.specs.declared.packet.Packet.TheVariants.{GetFwd, WriteFwd, GetRep, WriteRep, Store, TopAsk, TopIs}
use Rattle.far_base.specs.declared.record.Record.{Record}
use Rattle.far_model.specs.Servers.{server_keeps}
use Rattle.far_outside.specs.Keeping.{records_of}

-- a packet that goes to a server
abbrev pub IsForServer : Packet → Type 0
IsForServer (GetFwd caller op key tag) = Unit {0}
IsForServer (WriteFwd caller op key num body) = Unit {0}
IsForServer (Store job item) = Unit {0}
IsForServer (TopAsk round) = Unit {0}
IsForServer _ = ⊥

-- the records of all servers after a packet to this one
abbrev pub after_packet : ℕ → Packet → List (List Record) → List (List Record)
after_packet server packet all = slice_set all server (server_keeps (records_of all server) packet)

-- the number that the packet gives to a put, or 0
abbrev pub number_in : Packet → ℕ
number_in (WriteFwd caller op key num body) = num
number_in (Store job item) = item.num
number_in _ = 0

-- the number in the reply of a server, or 0
abbrev pub number_of_reply : Packet → ℕ
number_of_reply (GetRep caller op key tag num body) = num
number_of_reply (WriteRep caller op key num body) = num
number_of_reply (TopIs round server top) = top
number_of_reply _ = 0

-- the reply to a write, where the server has this record
abbrev pub reply_with : ℕ → ℕ → Record → Packet
reply_with caller op held = WriteRep caller op held.key held.num held.body

-- The messages on their way as contracts see them.
use Rattle.std.specs.Prelude.{ℕ, List, [], Result, Ok, Err}
use Rattle.far_base.specs.declared.packet.Message.{Message}
use Rattle.far_base.specs.declared.packet.Packet.{Packet}
use Rattle.far_base.specs.declared.packet.Packet.TheVariants.{Hot}
use Rattle.far_base.specs.declared.party.Party.{Party}
use Rattle.far_model.specs.Members.{Each}
use Rattle.packet_codec.specs.Packets.{packet_of}
use Rattle.packet_codec.specs.Spelling.{Spells}
use Rattle.packet_codec.specs.declared.fault.BadPacket.{BadPacket}

-- the messages, oldest first, and for how many more there is room
pub record RoomyBag : Type 0 where
  pub messages : List Message
  pub room : ℕ

-- the packet that was read; any other where none was
abbrev pub packet_or : Result Packet BadPacket → Packet
packet_or (Ok packet) = packet
packet_or (Err fault) = Hot []

-- the message that the bytes spell
abbrev pub message_of : Party × Party × List ℕ → Message
message_of m = record { from = m.0; to = m.1; packet = packet_or (packet_of m.2) }

-- the bytes spell a packet
abbrev pub IsSpelling : Party × Party × List ℕ → Type 0
IsSpelling m = (packet : Packet) × Spells m.2 packet

-- each message is a spelling
abbrev pub AreSpellings : List (Party × Party × List ℕ) → Type 0
AreSpellings messages = Each IsSpelling messages

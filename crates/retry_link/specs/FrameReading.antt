-- Reading a frame from left to right, up to the first fault.
use Rattle.std.specs.Prelude.{ℕ, List, [], ◌∷◌, ◌==◌, ◌||◌, nat_lt, if◌then◌else◌, Result, Ok, Err}
use Rattle.packet_codec.specs.Reading.{Field, ◌>>=◌, ◌then◌, ◌into◌, made, byte_at, taken_at, u16_at, u64_at}
use Rattle.packet_codec.specs.declared.fault.BadPacket.{BadPacket}
use Rattle.packet_codec.specs.declared.fault.BadPacket.TheVariants.{Kind, Length, Rest}
use Rattle.packet_codec.specs.declared.wire.TheConstants.{WIRE_SIZE}
use Rattle.retry_link.specs.declared.frame.Frame.{Frame}
use Rattle.retry_link.specs.declared.frame.Frame.TheVariants.{Data, Ack}
use Rattle.retry_link.specs.declared.frame.TheConstants.{DATA, ACK}

-- so many bytes of a message, where it may have so many
abbrev pub message_behind : ℕ → Field (List ℕ)
message_behind len bytes = if nat_lt len 1 || nat_lt WIRE_SIZE len then Err Length else taken_at len bytes

-- a length and so many bytes; the length is checked before the bytes are read
unfoldable pub message_at : Field (List ℕ)
message_at = u16_at into message_behind

-- the fields of each kind, in their order
unfoldable pub data_at : Field Frame
data_at = made (λ f. Data f.0 f.1) (u64_at then message_at)

unfoldable pub ack_at : Field Frame
ack_at = made Ack u64_at

-- the fields behind this first byte
unfoldable pub fields_at : ℕ → Field Frame
fields_at kind bytes = if kind == DATA then data_at bytes else if kind == ACK then ack_at bytes else Err Kind

unfoldable pub frame_at : Field Frame
frame_at = byte_at into fields_at

-- nothing may stand behind a frame
abbrev pub whole : Frame × List ℕ → Result Frame BadPacket
whole (frame, []) = Ok frame
whole (frame, b ∷ rest) = Err Rest

-- a frame, and then nothing
unfoldable pub frame_of : List ℕ → Result Frame BadPacket
frame_of bytes = frame_at bytes >>= whole

-- The one spelling of each frame.
use Rattle.std.specs.Prelude.{◌≡◌, ℕ, ◌≤◌, List, [], ◌∷◌, ◌++◌, length}
use Rattle.packet_codec.specs.Spelling.{Part, ◌and◌, u16_part, u64_part}
use Rattle.packet_codec.specs.declared.wire.TheConstants.{WIRE_SIZE}
use Rattle.retry_link.specs.declared.frame.Frame.{Frame}
use Rattle.retry_link.specs.declared.frame.Frame.TheVariants.{Data, Ack}
use Rattle.retry_link.specs.declared.frame.TheConstants.{DATA, ACK}

-- a message that a frame can carry
abbrev pub IsMessage : List ℕ → Type 0
IsMessage wire = (1 ≤ length wire) × (length wire ≤ WIRE_SIZE)

-- a frame that can be sent
abbrev pub IsSendable : Frame → Type 0
IsSendable (Data num wire) = IsMessage wire
IsSendable (Ack num) = Unit {0}

-- the bytes of a message
abbrev pub message_part : List ℕ → Part
message_part wire = record { bytes = wire; in_range = IsMessage wire }

-- its length, and so many bytes
abbrev pub sized_part : List ℕ → Part
sized_part wire = u16_part (length wire) and message_part wire

-- the fields behind the first byte
abbrev pub fields_part : Frame → Part
fields_part (Data num wire) = u64_part num and sized_part wire
fields_part (Ack num) = u64_part num

-- the first byte
abbrev pub kind_of : Frame → ℕ
kind_of (Data num wire) = DATA
kind_of (Ack num) = ACK

-- the first byte, the fields in their order and nothing else
abbrev pub frame_bytes : Frame → List ℕ
frame_bytes frame = kind_of frame ∷ (fields_part frame).bytes

-- the bytes are the one spelling of the frame
pub record SpellsFrame (bytes : List ℕ) (frame : Frame) : Type 0 where
  pub same : bytes ≡ frame_bytes frame
  pub in_range : (fields_part frame).in_range

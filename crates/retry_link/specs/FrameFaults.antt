-- What the faults of a whole frame say of the bytes.
use Rattle.std.specs.Prelude.{◌≡◌, ◌≢◌, ℕ, List, [], ◌∷◌, ◌++◌}
use Rattle.packet_codec.specs.declared.fault.BadPacket.{BadPacket}
use Rattle.packet_codec.specs.declared.fault.BadPacket.TheVariants.{Short, Version, Kind, Flag, Pad, Length, Rest}
use Rattle.retry_link.specs.declared.frame.Frame.{Frame}
use Rattle.retry_link.specs.declared.frame.TheConstants.{DATA, ACK}
use Rattle.retry_link.specs.Frames.{SpellsFrame}

-- the faults that a frame may have
abbrev pub IsFrameFault : BadPacket → Type 0
IsFrameFault Short = Unit {0}
IsFrameFault Kind = Unit {0}
IsFrameFault Length = Unit {0}
IsFrameFault Rest = Unit {0}
IsFrameFault Version = ⊥
IsFrameFault Flag = ⊥
IsFrameFault Pad = ⊥

-- the first byte is there, and is that of no frame
abbrev pub HasNoFrameKind : List ℕ → Type 0
HasNoFrameKind [] = ⊥
HasNoFrameKind (kind ∷ rest) = (kind ≢ DATA) × (kind ≢ ACK)

-- a spelling, and bytes after it
pub record IsLongerFrame (bytes : List ℕ) : Type 0 where
  pub text : List ℕ
  pub frame : Frame
  pub rest : List ℕ
  pub same : bytes ≡ text ++ rest
  pub spells : SpellsFrame text frame
  pub more : rest ≢ []

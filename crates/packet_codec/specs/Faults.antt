-- What the faults of a whole packet say of the bytes.
use Rattle.std.specs.Prelude.{◌≡◌, ◌≢◌, ℕ, ◌<◌, ◌⊎◌, List, [], ◌∷◌, ◌++◌}
use Rattle.far_base.specs.declared.packet.Packet.{Packet}
use Rattle.packet_codec.specs.declared.kinds.TheConstants.{KIND_COUNT}
use Rattle.packet_codec.specs.declared.wire.TheConstants.{VERSION}
use Rattle.packet_codec.specs.Spelling.{Spells}

-- the first byte is there, and is another version's
abbrev pub HasOtherVersion : List ℕ → Type 0
HasOtherVersion [] = ⊥
HasOtherVersion (version ∷ rest) = version ≢ VERSION

-- the number behind the version is there, and is no kind's
abbrev pub HasNoKind : List ℕ → Type 0
HasNoKind [] = ⊥
HasNoKind (version ∷ []) = ⊥
HasNoKind (version ∷ kind ∷ rest) = (version ≡ VERSION) × ((kind ≡ 0) ⊎ (KIND_COUNT < kind))

-- a spelling, and bytes after it
pub record IsLonger (bytes : List ℕ) : Type 0 where
  pub text : List ℕ
  pub packet : Packet
  pub rest : List ℕ
  pub same : bytes ≡ text ++ rest
  pub spells : Spells text packet
  pub more : rest ≢ []

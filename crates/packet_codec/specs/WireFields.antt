-- What contracts see of a wire gives its fields back.
use Rattle.std.specs.Prelude.{◌≡◌, ℕ, List, length, take}
use Rattle.std.proofs.Common.{arith}
use Rattle.std.proofs.lemmas.List.{take-append-drop, length-take}
use Rattle.far_base.specs.Padded.{IsPadded, padded}
use Rattle.packet_codec.specs.declared.wire.TheConstants.{WIRE_SIZE}

abbrev pub wire_is : (len : ℕ) (bytes : List ℕ) → IsPadded WIRE_SIZE len bytes
    → (length (take len bytes) ≡ len) × (padded WIRE_SIZE (take len bytes) ≡ bytes)
wire_is len bytes h =
    let n : length (take len bytes) ≡ len = omega (arith, length-take len bytes, h.whole, h.within) in
    (n, rw (n, ← h.zeros) (take-append-drop len bytes))

-- What the words of a line tell.
use Rattle.std.specs.Prelude.{ℕ, List, Option, Some, None, Result, Ok, Err, bytes_eq, codes}
use Rattle.std.specs.Prelude.{if◌then◌else◌}
use Rattle.far_base.specs.declared.packet.Packet.{Packet}
use Rattle.far_text.specs.Hex.{hex_of}
use Rattle.far_text.specs.Numbers.{number_of}
use Rattle.far_text.specs.Options.{◌>>=◌}
use Rattle.far_text.specs.Pieces.{cut_at}
use Rattle.packet_codec.specs.Packets.{packet_of}
use Rattle.packet_codec.specs.declared.fault.BadPacket.{BadPacket}
use Rattle.retry_link.specs.declared.link.LinkEvent.{LinkEvent}
use Rattle.retry_link.specs.declared.link.LinkEvent.TheVariants.{Offer, Again, Carry}

abbrev pub offer_if : List ℕ → Result Packet BadPacket → Option LinkEvent
offer_if bytes (Ok packet) = Some (Offer bytes)
offer_if bytes (Err fault) = None

-- the offer of a packet
abbrev pub offer_of : List ℕ → Option LinkEvent
offer_of word = hex_of word >>= λ bytes. offer_if bytes (packet_of bytes)

abbrev pub event_by : List ℕ → List ℕ → Option LinkEvent
event_by word rest = if bytes_eq word (codes "offer") then offer_of rest
    else if bytes_eq word (codes "again") then (number_of rest >>= λ i. Some (Again i))
    else if bytes_eq word (codes "carry") then (number_of rest >>= λ f. Some (Carry f))
    else None

unfoldable pub event_of : List ℕ → Option LinkEvent
event_of line = cut_at 32 line >>= λ c. event_by c.0 c.1

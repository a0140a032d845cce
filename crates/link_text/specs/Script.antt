-- What it means that a text tells the events of a link.
use Rattle.std.specs.Prelude.{◌≡◌, ℕ, ◌≤◌, List, [], ◌∷◌, ◌++◌, length, codes, decimal, Result, Ok, Err}
use Rattle.std.specs.List.{flat_map}
use Rattle.hex.specs.Hex.{IsBytes, encode_lower}
use Rattle.far_base.specs.declared.packet.Packet.{Packet}
use Rattle.far_base.specs.declared.plan.TheConstants.{OP_LIMIT}
use Rattle.far_model.specs.Members.{Each}
use Rattle.far_text.specs.Numbers.{IsNumber}
use Rattle.packet_codec.specs.Spelling.{Spells}
use Rattle.retry_link.specs.declared.link.LinkEvent.{LinkEvent}
use Rattle.retry_link.specs.declared.link.LinkEvent.TheVariants.{Offer, Again, Carry}
use Rattle.workload.specs.declared.fault.WorkFault.{WorkFault}
use Rattle.workload.specs.declared.fault.WorkFault.TheVariants.{BadLine, TooLarge, Memory}

-- a line without its end: bytes are told by two hexadecimal digits each, with lower-case letters
abbrev pub event_text : LinkEvent → List ℕ
event_text (Offer wire) = codes "offer" ++ 32 ∷ encode_lower wire
event_text (Again i) = codes "again" ++ 32 ∷ decimal i
event_text (Carry f) = codes "carry" ++ 32 ∷ decimal f

abbrev pub event_line : LinkEvent → List ℕ
event_line e = event_text e ++ 10 ∷ []

abbrev pub event_lines : List LinkEvent → List ℕ
event_lines events = flat_map event_line events

abbrev pub title : List ℕ
title = codes "far 1 link"

abbrev pub title_line : List ℕ
title_line = title ++ 10 ∷ []

-- bytes that are a packet
pub record ArePacket (wire : List ℕ) : Type 0 where
  pub packet : Packet
  pub spells : Spells wire packet
  pub bytes : IsBytes wire

-- an event that a line can tell
abbrev pub IsEventForm : LinkEvent → Type 0
IsEventForm (Offer wire) = ArePacket wire
IsEventForm (Again i) = IsNumber i
IsEventForm (Carry f) = IsNumber f

-- the text is the first line and a line for each of these events, which are not too many
pub record IsScript (text : List ℕ) (events : List LinkEvent) : Type 0 where
  pub spelled : text ≡ title_line ++ event_lines events
  pub fit : Each IsEventForm events
  pub few : length events ≤ OP_LIMIT

-- these events were read, or memory was refused
abbrev pub IsReadAs : Result (List LinkEvent) WorkFault → List LinkEvent → Type 0
IsReadAs (Ok found) events = found ≡ events
IsReadAs (Err (BadLine line)) events = ⊥
IsReadAs (Err (TooLarge which line)) events = ⊥
IsReadAs (Err Memory) events = Unit {0}

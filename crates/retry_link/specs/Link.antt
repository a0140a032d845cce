-- A link between a sender and a receiver: what events do, what they tell, and which messages pass.
use Rattle.std.specs.Prelude.{◌≡◌, ℕ, ◌+◌, ◌<◌, ◌^◌, List, [], ◌∷◌, ◌++◌, length, map, slice_get, Option, None, Some}
use Rattle.std.specs.Prelude.{Result, Ok, Err}
use Rattle.packet_codec.specs.declared.fault.BadPacket.{BadPacket}
use Rattle.far_model.specs.Members.{Each}
use Rattle.retry_link.specs.FrameReading.{frame_of}
use Rattle.retry_link.specs.Frames.{IsMessage, frame_bytes}
use Rattle.retry_link.specs.Receiver.{ReceiverView, acknowledged, after_taken, opening_receiver, up_with}
use Rattle.retry_link.specs.Sender.{Numbered, SenderView, after_ack, after_offer, data_of, offered, opening_sender}
use Rattle.retry_link.specs.declared.frame.Frame.{Frame}
use Rattle.retry_link.specs.declared.frame.Frame.TheVariants.{Data, Ack}
use Rattle.retry_link.specs.declared.link.LinkEvent.{LinkEvent}
use Rattle.retry_link.specs.declared.link.LinkEvent.TheVariants.{Offer, Again, Carry}
use Rattle.retry_link.specs.declared.link.LinkOutcome.{LinkOutcome}
use Rattle.retry_link.specs.declared.link.LinkOutcome.TheVariants.{Sent, Full, Nothing, Up, Seen, Acked}

-- the sender, the receiver, and the bytes of all frames sent so far, of both
pub record LinkState : Type 0 where
  pub sender : SenderView
  pub receiver : ReceiverView
  pub frames : List (List ℕ)

abbrev pub opening_link : LinkState
opening_link = record { sender = opening_sender; receiver = opening_receiver; frames = [] }

-- ---- what an event does

-- the frames, and one more where there is one
abbrev pub sent : List (List ℕ) → Option Frame → List (List ℕ)
sent frames None = frames
sent frames (Some frame) = frames ++ frame_bytes frame ∷ []

abbrev pub frame_by : Result Frame BadPacket → Option Frame
frame_by (Ok frame) = Some frame
frame_by (Err fault) = None

-- the frame that the bytes are
abbrev pub frame_in : Option (List ℕ) → Option Frame
frame_in None = None
frame_in (Some bytes) = frame_by (frame_of bytes)

-- a frame comes to its other side
abbrev pub carried : LinkState → Option Frame → LinkState
carried s None = s
carried s (Some (Data num wire)) = record s {
  receiver = after_taken s.receiver num;
  frames =
      sent s.frames (acknowledged s.receiver num);
}
carried s (Some (Ack num)) = record s { sender = after_ack num s.sender }

-- a message is offered, one is sent again, or a frame is carried, which stays there to be carried again
abbrev pub happens : LinkState → LinkEvent → LinkState
happens s (Offer wire) = record s {
  sender = after_offer s.sender wire;
  frames =
      sent s.frames (offered s.sender wire);
}
happens s (Again i) = record s { frames = sent s.frames (slice_get (map data_of s.sender.unacked) i) }
happens s (Carry f) = carried s (frame_in (slice_get s.frames f))

-- the state after these events
abbrev pub run_link : LinkState → List LinkEvent → LinkState
run_link s [] = s
run_link s (e ∷ es) = run_link (happens s e) es

-- ---- what an event tells

-- the place of the frame that was sent, where there is one
abbrev pub told_of : LinkOutcome → ℕ → Option Frame → LinkOutcome
told_of otherwise place None = otherwise
told_of otherwise place (Some frame) = Sent place

-- the message that was handed up, or that it was seen before, with the place of its acknowledgement
abbrev pub told_by : ℕ → ℕ → Option (List ℕ) → Option Frame → LinkOutcome
told_by place num up None = Nothing
told_by place num (Some wire) (Some ack) = Up num wire place
told_by place num None (Some ack) = Seen num place

abbrev pub told_carried : LinkState → Option Frame → LinkOutcome
told_carried s None = Nothing
told_carried s (Some (Data num wire)) =
    told_by (length s.frames) num (up_with s.receiver num wire) (acknowledged s.receiver num)
told_carried s (Some (Ack num)) = Acked num

abbrev pub outcome : LinkState → LinkEvent → LinkOutcome
outcome s (Offer wire) = told_of Full (length s.frames) (offered s.sender wire)
outcome s (Again i) = told_of Nothing (length s.frames) (slice_get (map data_of s.sender.unacked) i)
outcome s (Carry f) = told_carried s (frame_in (slice_get s.frames f))

abbrev pub outcomes : LinkState → List LinkEvent → List LinkOutcome
outcomes s [] = []
outcomes s (e ∷ es) = outcome s e ∷ outcomes (happens s e) es

-- ---- which messages pass

-- a message is taken from who offers it, under its sequence number, or is handed up
pub data Passing : Type 0 where
  Accepted : (message : Numbered) → Passing
  Delivered : (message : Numbered) → Passing

abbrev pub accepts : Option Frame → List Passing
accepts None = []
accepts (Some (Data num wire)) = Accepted (num, wire) ∷ []
accepts (Some (Ack num)) = []

abbrev pub delivers : ℕ → Option (List ℕ) → List Passing
delivers num None = []
delivers num (Some wire) = Delivered (num, wire) ∷ []

abbrev pub delivers_carried : LinkState → Option Frame → List Passing
delivers_carried s None = []
delivers_carried s (Some (Data num wire)) = delivers num (up_with s.receiver num wire)
delivers_carried s (Some (Ack num)) = []

abbrev pub passes : LinkState → LinkEvent → List Passing
passes s (Offer wire) = accepts (offered s.sender wire)
passes s (Again i) = []
passes s (Carry f) = delivers_carried s (frame_in (slice_get s.frames f))

-- the messages that pass, in their order
abbrev pub passings : LinkState → List LinkEvent → List Passing
passings s [] = []
passings s (e ∷ es) = passes s e ++ passings (happens s e) es

abbrev pub accepted : List Passing → List Numbered
accepted [] = []
accepted (Accepted m ∷ ps) = m ∷ accepted ps
accepted (Delivered m ∷ ps) = accepted ps

abbrev pub delivered : List Passing → List Numbered
delivered [] = []
delivered (Accepted m ∷ ps) = delivered ps
delivered (Delivered m ∷ ps) = m ∷ delivered ps

-- ---- events

abbrev pub offer_count : LinkEvent → ℕ
offer_count (Offer wire) = 1
offer_count (Again i) = 0
offer_count (Carry f) = 0

abbrev pub offers_in : List LinkEvent → ℕ
offers_in [] = 0
offers_in (e ∷ es) = offer_count e + offers_in es

abbrev pub OffersMessage : LinkEvent → Type 0
OffersMessage (Offer wire) = IsMessage wire
OffersMessage (Again i) = Unit {0}
OffersMessage (Carry f) = Unit {0}

-- each message that is offered can be sent, and there are numbers for all of them
pub record AreLinkEvents (events : List LinkEvent) : Type 0 where
  pub messages : Each OffersMessage events
  pub few : offers_in events < 2 ^ 63

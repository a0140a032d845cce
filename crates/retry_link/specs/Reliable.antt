-- What a link gives, whatever is lost, copied or reordered: messages pass once each, as through a bag, and all of them
-- once frames come through.
use Rattle.std.specs.Prelude.{◌≡◌, ◌≢◌, ◌⊎◌, ℕ, ◌+◌, ◌-◌, ◌<◌, ◌≤◌, ◌^◌, List, [], ◌∷◌, ◌++◌, length, map, remove}
use Rattle.std.specs.Prelude.{slice_get, Ok, Some}
use Rattle.far_model.specs.Members.{Among, Each, Pairs}
use Rattle.retry_link.specs.FrameReading.{frame_of}
use Rattle.retry_link.specs.Frames.{frame_bytes}
use Rattle.retry_link.specs.Sender.{Numbered, data_of}
use Rattle.retry_link.specs.Link.{LinkState, Passing, Accepted, Delivered, accepted, delivered, happens, run_link}
use Rattle.retry_link.specs.declared.frame.Frame.TheVariants.{Ack}
use Rattle.retry_link.specs.declared.frame.TheConstants.{WINDOW}
use Rattle.retry_link.specs.declared.link.LinkEvent.{LinkEvent}
use Rattle.retry_link.specs.declared.link.LinkEvent.TheVariants.{Offer, Again, Carry}

-- the messages have the sequence numbers from this one on, in their order
abbrev pub AreNumbered : ℕ → List Numbered → Type 0
AreNumbered n [] = Unit {0}
AreNumbered n (m ∷ ms) = (m.0 ≡ n) × AreNumbered (n + 1) ms

abbrev pub HaveTwoNumbers : Numbered → Numbered → Type 0
HaveTwoNumbers x y = x.0 ≢ y.0

-- some message of the number is among them
abbrev pub HasNumber : ℕ → List Numbered → Type 0
HasNumber num ms = (wire : List ℕ) × Among (num, wire) ms

-- the messages pass through a bag that had these: what is accepted is put in, and what is delivered is one that is
-- there and is taken out
abbrev pub IsBagRun : List (List ℕ) → List Passing → Type 0
IsBagRun bag [] = Unit {0}
IsBagRun bag (Accepted m ∷ ps) = IsBagRun (bag ++ m.1 ∷ []) ps
IsBagRun bag (Delivered m ∷ ps) = (i : ℕ) × (slice_get bag i ≡ Some m.1) × IsBagRun (remove bag i) ps

-- the messages that have passed when the link has come to this state
pub record IsReliable (ps : List Passing) (s : LinkState) : Type 0 where
  -- the messages accepted have the numbers 1, 2 and so on
  pub numbered : AreNumbered 1 (accepted ps)
  -- no number is delivered twice, and what is delivered is the message that was accepted under its number
  pub once : Pairs HaveTwoNumbers (delivered ps)
  pub same : (m : Numbered) → Among m (delivered ps) → Among m (accepted ps)
  -- an acknowledgement is sent only for a message that was delivered
  pub acknowledged : (bytes : List ℕ) (num : ℕ) → Among bytes s.frames → frame_of bytes ≡ Ok (Ack num)
      → HasNumber num (delivered ps)
  -- a message accepted is kept by the sender until it was delivered
  pub kept : (m : Numbered) → Among m (accepted ps) → Among m s.sender.unacked ⊎ Among m (delivered ps)
  -- the order in which messages pass is one that a bag allows
  pub bag : IsBagRun [] ps

-- ---- what comes through

abbrev pub IsNoOffer : LinkEvent → Type 0
IsNoOffer (Offer wire) = ⊥
IsNoOffer (Again i) = Unit {0}
IsNoOffer (Carry f) = Unit {0}

-- the events carry a frame of the message, and later the acknowledgement that this gave
pub record IsServed (s : LinkState) (events : List LinkEvent) (m : Numbered) : Type 0 where
  pub before : List LinkEvent
  pub between : List LinkEvent
  pub after : List LinkEvent
  pub frame : ℕ
  pub events_are : events
      ≡ before ++ (Carry frame ∷ (between ++ Carry (length (run_link s before).frames) ∷ after))
  pub is_frame : slice_get (run_link s before).frames frame ≡ Some (frame_bytes (data_of m))

-- nothing is offered, and each message that is not acknowledged is served
pub record CatchesUp (s : LinkState) (events : List LinkEvent) : Type 0 where
  pub no_offer : Each IsNoOffer events
  pub served : (m : Numbered) → Among m s.sender.unacked → IsServed s events m

-- ---- what the calls require

-- the next number can be drawn, and the base has room to move
pub record MayGoOn (s : LinkState) : Type 0 where
  pub next : s.sender.next < 2 ^ 64 - 1
  pub base : s.receiver.base < 2 ^ 64 - 1 - WINDOW

-- The sender of a link: a window of sequence numbers.
use Rattle.std.specs.Prelude.{◌≡◌, ℕ, ◌+◌, ◌-◌, ◌<◌, ◌≤◌, Bool, true, false, not, nat_le, nat_eq, if◌then◌else◌}
use Rattle.std.specs.Prelude.{List, [], ◌∷◌, ◌++◌, filter, Option, None, Some}
use Rattle.far_model.specs.Members.{Each}
use Rattle.retry_link.specs.Frames.{IsMessage}
use Rattle.retry_link.specs.declared.frame.Frame.{Frame}
use Rattle.retry_link.specs.declared.frame.Frame.TheVariants.{Data}
use Rattle.retry_link.specs.declared.frame.TheConstants.{WINDOW}

-- a message under its sequence number
abbrev pub Numbered : Type 0
Numbered = ℕ × List ℕ

-- the next sequence number, and the messages that are not acknowledged, in the order of their numbers
pub record SenderView : Type 0 where
  pub next : ℕ
  pub unacked : List Numbered

abbrev pub opening_sender : SenderView
opening_sender = record { next = 1; unacked = [] }

-- the frame of a message
abbrev pub data_of : Numbered → Frame
data_of m = Data m.0 m.1

-- numbers from the first of the messages on fill the window
abbrev pub is_full_from : ℕ → List Numbered → Bool
is_full_from next [] = false
is_full_from next (least ∷ others) = nat_le (least.0 + WINDOW) next

abbrev pub is_full : SenderView → Bool
is_full s = is_full_from s.next s.unacked

-- what is sent for a message that is offered: its frame under the next number, or nothing where the window is full
abbrev pub offered : SenderView → List ℕ → Option Frame
offered s wire = if is_full s then None else Some (Data s.next wire)

abbrev pub after_offer : SenderView → List ℕ → SenderView
after_offer s wire = if is_full s then s
    else record { next = s.next + 1; unacked = s.unacked ++ (s.next, wire) ∷ [] }

abbrev pub is_other : ℕ → Numbered → Bool
is_other num m = not (nat_eq m.0 num)

-- the message of the number is acknowledged
abbrev pub after_ack : ℕ → SenderView → SenderView
after_ack num s = record s { unacked = filter (is_other num) s.unacked }

-- ---- what always holds

-- the numbers rise from this one on, and stay below the end
abbrev pub RiseWithin : ℕ → ℕ → List Numbered → Type 0
RiseWithin low end [] = low ≤ end
RiseWithin low end (m ∷ ms) = (low ≤ m.0) × RiseWithin (m.0 + 1) end ms

-- the numbers rise within the window that ends before the next one, and each message can be sent
pub record IsWindow (next : ℕ) (unacked : List Numbered) : Type 0 where
  pub rise : RiseWithin (next - WINDOW) next unacked
  pub messages : Each (λ (m : Numbered). IsMessage m.1) unacked

-- The receiver of a link: which sequence numbers it has seen.
use Rattle.std.specs.Prelude.{◌≡◌, ℕ, suc, ◌+◌, ◌-◌, Bool, true, false, not, ◌&&◌, nat_le, nat_lt, if◌then◌else◌}
use Rattle.std.specs.Prelude.{List, [], ◌∷◌, ◌++◌, length, drop, replicate, slice_index_or, slice_set, Option}
use Rattle.std.specs.Prelude.{None, Some}
use Rattle.retry_link.specs.declared.frame.Frame.{Frame}
use Rattle.retry_link.specs.declared.frame.Frame.TheVariants.{Ack}
use Rattle.retry_link.specs.declared.frame.TheConstants.{WINDOW}

-- all numbers up to the base were seen; mark j tells whether base + 1 + j was
pub record ReceiverView : Type 0 where
  pub base : ℕ
  pub marks : List Bool

abbrev pub opening_receiver : ReceiverView
opening_receiver = record { base = 0; marks = replicate WINDOW false }

-- whether the number lies within the window or before it
abbrev pub is_within : ReceiverView → ℕ → Bool
is_within r num = nat_lt 0 num && nat_le num (r.base + WINDOW)

-- whether the number was seen
abbrev pub has_seen : ReceiverView → ℕ → Bool
has_seen r num = if nat_le num r.base then true else slice_index_or r.marks (num - r.base - 1) false

-- how many marks at the front are on
abbrev pub on_in_front : List Bool → ℕ
on_in_front [] = 0
on_in_front (true ∷ marks) = suc (on_in_front marks)
on_in_front (false ∷ marks) = 0

-- the marks at the front that are on go, and as many that are off come behind the others
abbrev pub turned : List Bool → List Bool
turned marks = drop (on_in_front marks) marks ++ replicate (on_in_front marks) false

-- the base moves up over all numbers that were seen in a row
abbrev pub moved_up : ReceiverView → ReceiverView
moved_up r = record { base = r.base + on_in_front r.marks; marks = turned r.marks }

-- the number is seen from now on
abbrev pub marked : ReceiverView → ℕ → ReceiverView
marked r num = moved_up (record r { marks = slice_set r.marks (num - r.base - 1) true })

-- ---- what a message does, by whether its number lies within the window and was seen

abbrev pub received : ReceiverView → ℕ → Bool → Bool → ReceiverView
received r num within seen = if within && not seen then marked r num else r

abbrev pub up_by : List ℕ → Bool → Bool → Option (List ℕ)
up_by wire within seen = if within && not seen then Some wire else None

abbrev pub ack_by : ℕ → Bool → Option Frame
ack_by num within = if within then Some (Ack num) else None

-- the receiver afterwards, the message that is handed up, and the acknowledgement
abbrev pub after_taken : ReceiverView → ℕ → ReceiverView
after_taken r num = received r num (is_within r num) (has_seen r num)

abbrev pub up_with : ReceiverView → ℕ → List ℕ → Option (List ℕ)
up_with r num wire = up_by wire (is_within r num) (has_seen r num)

abbrev pub acknowledged : ReceiverView → ℕ → Option Frame
acknowledged r num = ack_by num (is_within r num)

-- ---- what always holds

-- the number behind the base was not seen
pub record IsOpen (marks : List Bool) : Type 0 where
  pub whole : length marks ≡ WINDOW
  pub first : slice_index_or marks 0 false ≡ false

-- The registers in groups, so that each can be passed by itself: stages 0 to 3, and parts of eight stages of the body.
-- What each group does with what comes to it.
use Rattle.std.specs.Prelude.{ℕ, ◌+◌, nat_lt, if◌then◌else◌, List, [], replicate, Option, None, Some}
use Rattle.far_base.specs.declared.packet.Packet.{Packet}
use Rattle.far_base.specs.declared.plan.Config.{Config}
use Rattle.switch_core.specs.declared.switch.Emit.{Emit}
use Rattle.switch_staged.specs.declared.flight.Course.{Course}
use Rattle.switch_staged.specs.Emits.{first_out, second_out}
use Rattle.switch_staged.specs.Rows.{zero_cell}
use Rattle.switch_staged.specs.Stages.{arrays_after, carried_all, token_behind}
use Rattle.switch_staged.specs.Through.{after, before_bodies}
use Rattle.switch_staged.specs.Whole.{Registers, opening_registers}

-- the number of stages of a part
abbrev pub PART_STAGES : ℕ
PART_STAGES = 8

-- stages 0 to 3: the registers without the arrays of the body
pub record HeadView : Type 0 where
  pub config : Config
  pub front : Registers

-- eight stages of the body; `first` is the first of them, where the first of the body is 0
pub record PartView : Type 0 where
  pub first : ℕ
  pub slots : ℕ
  pub arrays : List (List (List ℕ))

-- what travels with a packet from group to group
pub record FlightView : Type 0 where
  pub config : Config
  pub course : Course

-- ---- new groups

abbrev pub opening_head : Config → ℕ → ℕ → HeadView
opening_head config epoch counter = record {
  config = config;
  front = record (opening_registers config epoch counter) { arrays = [] };
}

abbrev pub empty_part : ℕ → ℕ → PartView
empty_part first slots = record {
  first = first;
  slots = slots;
  arrays = replicate PART_STAGES (replicate slots zero_cell);
}

-- ---- stages 0 to 3

-- what a packet leaves of them
unfoldable pub head_left : HeadView → Packet → HeadView
head_left h p = record { config = h.config; front = after h.config h.front p }

-- what goes on with the packet
unfoldable pub led : HeadView → Packet → FlightView
led h p = record { config = h.config; course = before_bodies h.config h.front p }

-- ---- a part of the body; a flight to a slot that is not there passes it untouched

abbrev pub arrays_left : ℕ → ℕ → List (List (List ℕ)) → Option ℕ → Course → List (List (List ℕ))
arrays_left first slots arrays None f = arrays
arrays_left first slots arrays (Some i) f = if nat_lt i slots then arrays_after first arrays f else arrays

abbrev pub carried_over : ℕ → ℕ → List (List (List ℕ)) → Option ℕ → Course → Course
carried_over first slots arrays None f = f
carried_over first slots arrays (Some i) f = if nat_lt i slots then carried_all first arrays f else f

-- where the part leaves the token of a pass
abbrev pub token_over : ℕ → ℕ → ℕ → Option ℕ → ℕ → ℕ
token_over first slots count None token = token
token_over first slots count (Some i) token = if nat_lt i slots then token_behind count (5 + first) token else token

-- what a flight on its course leaves of the part
unfoldable pub part_kept : PartView → Course → PartView
part_kept t f = record {
  first = t.first;
  slots = t.slots;
  arrays = arrays_left t.first t.slots t.arrays f.place f;
}

-- the course behind the part
unfoldable pub course_kept : PartView → Course → Course
course_kept t f = carried_over t.first t.slots t.arrays f.place f

abbrev pub part_left : PartView → FlightView → PartView
part_left t f = part_kept t f.course

unfoldable pub through_part : PartView → FlightView → FlightView
through_part t f = record { config = f.config; course = course_kept t f.course }

-- ---- what leaves the switch with a flight that has passed all groups

unfoldable pub emitted : FlightView → Emit
emitted f = record { first = first_out f.config f.course; second = second_out f.course }

-- The groups of one switch, and packets that pass them.
use Rattle.std.specs.Prelude.{◌≡◌, ◌⊎◌, ◌≤◌, ◌+◌, ℕ, List, [], ◌∷◌, ◌++◌, length, map, true, Some}
use Rattle.far_base.specs.declared.packet.Packet.{Packet}
use Rattle.far_base.specs.declared.plan.Config.{Config}
use Rattle.far_model.specs.View.{SwitchView}
use Rattle.switch_core.specs.declared.switch.Emit.{Emit}
use Rattle.switch_staged.specs.declared.groups.Groups.{Groups}
use Rattle.switch_staged.specs.Groups.{HeadView, PartView, FlightView, head_left, led, part_left, through_part, emitted}
use Rattle.switch_staged.specs.Groups.{opening_head, empty_part}
use Rattle.switch_staged.specs.Line.{answers, final}
use Rattle.switch_staged.specs.Machines.{left_by, given_by}
use Rattle.switch_staged.specs.Through.{AreCut}
use Rattle.switch_staged.specs.Whole.{Registers, Fits, view_of}

-- the registers of all groups together
abbrev pub registers_of : Groups → Registers
registers_of g = record g.head.front {
  arrays = g.part1.arrays ++ (g.part2.arrays ++ (g.part3.arrays ++ g.part4.arrays));
}

-- the switch that the groups are of
abbrev pub switch_of : Groups → SwitchView
switch_of g = view_of g.head.config (registers_of g)

pub record IsPartAt (first slots : ℕ) (t : PartView) : Type 0 where
  pub first_is : t.first ≡ first
  pub slots_are : t.slots ≡ slots
  pub count : length t.arrays ≡ 8

-- the groups are those of one switch
pub record AreOfOne (g : Groups) : Type 0 where
  pub at1 : IsPartAt 0 g.head.config.slots g.part1
  pub at2 : IsPartAt 8 g.head.config.slots g.part2
  pub at3 : IsPartAt 16 g.head.config.slots g.part3
  pub at4 : IsPartAt 24 g.head.config.slots g.part4
  pub fits : Fits g.head.config (registers_of g)
  pub cut : AreCut g.head.config.slots (registers_of g)

-- a part of the body of this switch
abbrev pub IsPartIn : PartView → Groups → Type 0
IsPartIn t g = (t ≡ g.part1) ⊎ ((t ≡ g.part2) ⊎ ((t ≡ g.part3) ⊎ (t ≡ g.part4)))

-- the groups of a new switch
abbrev pub opening_groups : Config → ℕ → ℕ → Groups
opening_groups config epoch counter = record {
  head = opening_head config epoch counter;
  part1 = empty_part 0 config.slots;
  part2 = empty_part 8 config.slots;
  part3 = empty_part 16 config.slots;
  part4 = empty_part 24 config.slots;
}

-- ---- one packet passes all groups, one after the other

abbrev pub flight1 : Groups → Packet → FlightView
flight1 g p = led g.head p

abbrev pub flight2 : Groups → Packet → FlightView
flight2 g p = through_part g.part1 (flight1 g p)

abbrev pub flight3 : Groups → Packet → FlightView
flight3 g p = through_part g.part2 (flight2 g p)

abbrev pub flight4 : Groups → Packet → FlightView
flight4 g p = through_part g.part3 (flight3 g p)

-- behind the last group
abbrev pub flight5 : Groups → Packet → FlightView
flight5 g p = through_part g.part4 (flight4 g p)

abbrev pub groups_left : Groups → Packet → Groups
groups_left g p = record {
  head = head_left g.head p;
  part1 = part_left g.part1 (flight1 g p);
  part2 = part_left g.part2 (flight2 g p);
  part3 = part_left g.part3 (flight3 g p);
  part4 = part_left g.part4 (flight4 g p);
}

-- ---- each group takes a whole list before the next one begins

abbrev pub flights1 : Groups → List Packet → List FlightView
flights1 g ps = given_by head_left led g.head ps

abbrev pub flights2 : Groups → List Packet → List FlightView
flights2 g ps = given_by part_left through_part g.part1 (flights1 g ps)

abbrev pub flights3 : Groups → List Packet → List FlightView
flights3 g ps = given_by part_left through_part g.part2 (flights2 g ps)

abbrev pub flights4 : Groups → List Packet → List FlightView
flights4 g ps = given_by part_left through_part g.part3 (flights3 g ps)

abbrev pub flights5 : Groups → List Packet → List FlightView
flights5 g ps = given_by part_left through_part g.part4 (flights4 g ps)

abbrev pub groups_after : Groups → List Packet → Groups
groups_after g ps = record {
  head = left_by head_left g.head ps;
  part1 = left_by part_left g.part1 (flights1 g ps);
  part2 = left_by part_left g.part2 (flights2 g ps);
  part3 = left_by part_left g.part3 (flights3 g ps);
  part4 = left_by part_left g.part4 (flights4 g ps);
}

-- packets that pass group by group give the answers that they get one after the other, and leave the groups of the
-- switch that they leave one after the other
pub record AreLine (g : Groups) (ps : List Packet) : Type 0 where
  pub answers_are : map emitted (flights5 g ps) ≡ answers (switch_of g) ps
  pub one : AreOfOne (groups_after g ps)
  pub final_is : switch_of (groups_after g ps) ≡ final (switch_of g) ps

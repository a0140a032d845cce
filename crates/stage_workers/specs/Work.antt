-- What the workers of the groups hand back.
use Rattle.std.specs.Prelude.{◌≡◌, List, [], ◌∷◌}
use Rattle.std.specs.List.{AllByRecursion}
use Rattle.far_base.specs.declared.packet.Packet.{Packet}
use Rattle.far_model.specs.View.{SwitchView}
use Rattle.switch_core.specs.declared.switch.Emit.{Emit}
use Rattle.switch_staged.specs.Groups.{HeadView, PartView, head_left, led, part_left, through_part}
use Rattle.switch_staged.specs.Line.{answers, final}
use Rattle.switch_staged.specs.Machines.{left_by, given_by}
use Rattle.switch_staged.specs.Through.{IsShort}
use Rattle.stage_workers.specs.declared.done.AllDone.{AllDone}
use Rattle.stage_workers.specs.declared.done.HeadDone.{HeadDone}
use Rattle.stage_workers.specs.declared.done.PartDone.{PartDone}

-- what the packets that were taken make of the head, and what it gives for them
pub record HeadWorked (first : HeadView) (done : HeadDone) : Type 0 where
  pub left : done.head ≡ left_by head_left first done.took.items
  pub given : done.gave.items ≡ given_by head_left led first done.took.items
  pub short : AllByRecursion IsShort done.took.items

-- what the flights that were taken make of a part, and what it gives for them
pub record PartWorked (first : PartView) (done : PartDone) : Type 0 where
  pub left : done.part ≡ left_by part_left first done.took.items
  pub given : done.gave.items ≡ given_by part_left through_part first done.took.items

pub record AllWorked (head : HeadView) (part1 part2 part3 part4 : PartView) (done : AllDone) : Type 0 where
  pub worked0 : HeadWorked head done.head
  pub worked1 : PartWorked part1 done.part1
  pub worked2 : PartWorked part2 done.part2
  pub worked3 : PartWorked part3 done.part3
  pub worked4 : PartWorked part4 done.part4

-- the head took the packets, and each part the flights that the group before it gave
pub record Agree (done : AllDone) (packets : List Packet) : Type 0 where
  pub packets_are : done.head.took.items ≡ packets
  pub flights1 : done.part1.took.items ≡ done.head.gave.items
  pub flights2 : done.part2.took.items ≡ done.part1.gave.items
  pub flights3 : done.part3.took.items ≡ done.part2.gave.items
  pub flights4 : done.part4.took.items ≡ done.part3.gave.items

-- the packets pass a switch of the first view one after the other, and leave this view and these answers
pub record IsLineOf (view : SwitchView) (packets : List Packet) (now : SwitchView) (emits : List Emit) : Type 0 where
  pub answers_are : emits ≡ answers view packets
  pub final_is : now ≡ final view packets

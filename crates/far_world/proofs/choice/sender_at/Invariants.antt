use Rattle.std.proofs.Common.{◌≡◌, ◌+◌, take}
use Rattle.std.specs.List.{count_by}
use Rattle.far_world.specs.Choices.{seat_can_send}
use Rattle.far_world.proofs.choice.sender_at.Given as goal

abbrev pub invariant-loop-i : goal.invariant-loop-i
invariant-loop-i l = count_by seat_can_send (take l.i l.seats) + l.left ≡ l.place

use Rattle.std.proofs.Common.{◌≡◌, ◌≤◌, take}
use Rattle.std.specs.List.{count_by}
use Rattle.far_world.specs.Choices.{seat_can_send}
use Rattle.far_world.proofs.choice.count_senders.Given as goal

abbrev pub invariant-loop-seat : goal.invariant-loop-seat
invariant-loop-seat l = record {
  count : l.count ≡ count_by seat_can_send (take l.seat-index l.seats);
  bound : l.count ≤ l.seat-index;
}

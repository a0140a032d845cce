use Rattle.std.proofs.Common.{◌≡◌, ◌+◌, ◌-◌, ◌≤◌, drop, length}
use Rattle.retry_link.specs.Receiver.{on_in_front}
use Rattle.retry_link.proofs.receiver.on_in_front.Given as goal

-- those before the place are on
abbrev pub invariant-loop-at : goal.invariant-loop-at
invariant-loop-at l = record {
  count : l.at + on_in_front (drop l.at l.marks) ≡ on_in_front l.marks;
  within : l.at ≤ length l.marks;
}

abbrev pub decreases-loop-at : goal.decreases-loop-at
decreases-loop-at l = length l.marks - l.at

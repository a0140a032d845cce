use Rattle.std.proofs.Common.{◌≡◌, ◌++◌, drop}
use Rattle.far_world.specs.Seats.{senders}
use Rattle.far_world.proofs.seat.senders_of.Given as goal

-- those so far and those to come are all
abbrev pub invariant-loop-place : goal.invariant-loop-place
invariant-loop-place l = l.all.items ++ drop l.place (senders l.ops) ≡ senders l.ops

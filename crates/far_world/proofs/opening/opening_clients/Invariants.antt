use Rattle.std.proofs.Common.{◌≡◌}
use Rattle.far_world.specs.Seats.{opening_seats}
use Rattle.far_world.proofs.opening.opening_clients.Given as goal

abbrev pub invariant-loop-number : goal.invariant-loop-number
invariant-loop-number l = l.seats.items ≡ opening_seats l.fn.plan.ops 0 l.number

use Rattle.std.proofs.Common.{◌≡◌, suc, ◌++◌, drop}
use Rattle.far_world.specs.Seats.{numbers_from}
use Rattle.far_world.proofs.seat.script_of.Given as goal

abbrev pub invariant-loop-i : goal.invariant-loop-i
invariant-loop-i l = l.script.items ++ numbers_from (suc l.i) (drop l.i l.senders) l.client ≡ numbers_from 1 l.senders l.client

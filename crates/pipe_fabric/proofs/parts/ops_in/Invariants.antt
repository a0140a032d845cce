use Rattle.std.proofs.Common.{◌≡◌, take, filter}
use Rattle.pipe_fabric.specs.Parts.{takes_op}
use Rattle.pipe_fabric.proofs.parts.ops_in.Given as goal

abbrev pub invariant-loop-i : goal.invariant-loop-i
invariant-loop-i l = l.part ≡ filter (takes_op l.pipe l.pipes) (take l.i l.ops)

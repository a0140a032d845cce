use Rattle.std.proofs.Common.{◌≡◌, ◌+◌, ◌-◌, ◌++◌}
use Rattle.workload.specs.Draws.{ops_from, seeded}
use Rattle.workload.proofs.generator.ops_of.Given as goal

-- the operations so far and those to come are all
abbrev pub invariant-loop-i : goal.invariant-loop-i
invariant-loop-i l = l.lines ++ ops_from (l.i + 1) (l.ops - l.i) l.rng ≡ ops_from 1 l.ops (seeded l.start)

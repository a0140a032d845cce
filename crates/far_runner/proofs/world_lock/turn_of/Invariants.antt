use Rattle.std.proofs.Common.{◌≡◌}
use Rattle.far_world.specs.Reached.{with_count}
use Rattle.far_runner.proofs.world_lock.turn_of.Given as goal

abbrev pub invariant-loop-tried : goal.invariant-loop-tried
invariant-loop-tried g l = l.shared.world ≡ with_count l.fn.shared.world l.shared.world.keeper.faults

use Rattle.std.specs.List.{AllZip}
use Rattle.far_runner.specs.Ended.{IsEndOf}
use Rattle.pipe_fabric.proofs.running.all_ended.Given as goal

abbrev pub invariant-loop-pipe : goal.invariant-loop-pipe
invariant-loop-pipe l = AllZip IsEndOf l.yielded l.worlds.items

use Rattle.std.proofs.Common.{◌≡◌}
use Rattle.std.proofs.Common.{ℕ, map}
use Rattle.std.specs.List.{range_with_len}
use Rattle.pipe_fabric.specs.Parts.{part_of}
use Rattle.pipe_fabric.proofs.running.all_opened.Given as goal

abbrev pub invariant-loop-pipe : goal.invariant-loop-pipe
invariant-loop-pipe l = l.all.items ≡ map (λ (pipe : ℕ). part_of l.plan pipe l.pipes) (range_with_len 0 l.pipe)

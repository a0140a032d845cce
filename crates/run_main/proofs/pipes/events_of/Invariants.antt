use Rattle.std.proofs.Common.{◌≡◌, map}
use Rattle.far_world.specs.Reached.{Ran}
use Rattle.run_main.specs.Pipes.{lists_in}
use Rattle.run_main.proofs.pipes.events_of.Given as goal

abbrev pub invariant-loop-world : goal.invariant-loop-world
invariant-loop-world l = lists_in l.all.items ≡ map (λ (w : Ran). w.events) l.yielded

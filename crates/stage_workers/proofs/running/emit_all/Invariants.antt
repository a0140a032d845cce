use Rattle.std.proofs.Common.{◌≡◌, ◌≤◌, length, map, take, vec_capacity}
use Rattle.switch_staged.specs.Groups.{emitted}
use Rattle.stage_workers.proofs.running.emit_all.Given as goal

abbrev pub invariant-loop-k : goal.invariant-loop-k
invariant-loop-k l = (l.emits.items ≡ map emitted (take l.k l.flights)) × (length l.flights ≤ vec_capacity l.emits)

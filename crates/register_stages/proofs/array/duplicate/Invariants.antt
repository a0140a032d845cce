use Rattle.std.proofs.Common.{◌≡◌, ◌≤◌, length, take, vec_capacity}
use Rattle.register_stages.proofs.array.duplicate.Given as goal

abbrev pub invariant-loop-k : goal.invariant-loop-k
invariant-loop-k g l = (l.copy.items ≡ take l.k l.items) × (length l.items ≤ vec_capacity l.copy)

use Rattle.std.proofs.Common.{ℕ, ◌^◌, ◌<◌, ◌≤◌, get_or}
use Rattle.far_history.specs.declared.stored.Stored.{Stored}
use Rattle.far_history.specs.Told.{op_bound_of}
use Rattle.far_history.proofs.told.ops_bound.Given as goal

abbrev pub invariant-loop-line : goal.invariant-loop-line
invariant-loop-line l = record {
  above : (k : ℕ) (d : Stored) → k < l.line-index → op_bound_of (get_or l.lines k d).bare ≤ l.bound;
  bound : l.bound ≤ 2 ^ 32;
}

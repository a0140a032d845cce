use Rattle.std.proofs.Common.{ℕ, ◌^◌, ◌<◌, ◌≤◌, get_or, List, length, drop}
use Rattle.far_history.specs.declared.stored.Stored.{Stored}
use Rattle.far_history.specs.Stored.{lines_in}
use Rattle.far_history.specs.Told.{op_bound_of, unheard, IsRow}
use Rattle.far_history.proofs.told.gather.Given as goal

abbrev pub invariant-loop-i : goal.invariant-loop-i
invariant-loop-i l = record {
  within : l.i ≤ length l.lines;
  above : (k : ℕ) (d : Stored) → k < length l.lines → op_bound_of (get_or l.lines k d).bare ≤ length l.table.items;
  bound : length l.table.items ≤ 2 ^ 32;
  rows : (bytes : List ℕ) (op : ℕ) → IsRow bytes (lines_in bytes (drop l.i l.lines)) op (get_or l.table.items op unheard);
}

abbrev pub decreases-loop-i : goal.decreases-loop-i
decreases-loop-i l = l.i

use Rattle.std.proofs.Common.{◌≡◌, ◌+◌, ◌*◌, ◌≤◌, drop}
use Rattle.far_base.specs.Key.{weighted_sum}
use Rattle.far_base.proofs.key.Key.cell.Given as goal

-- the sum so far and that of the bytes to come are the sum of all
abbrev pub invariant-loop-i : goal.invariant-loop-i
invariant-loop-i l = record {
  total : l.total + weighted_sum (l.i + 1) (drop l.i l.self-inside.bytes) ≡ weighted_sum 1 l.self-inside.bytes;
  bound : l.total ≤ 4080 * l.i;
}

use Rattle.std.proofs.Common.{◌≡◌, ◌+◌, ◌≤◌, drop, length}
use Rattle.far_text.specs.Pieces.{pieces}
use Rattle.workload_reasons.proofs.ends.behind.Given as goal

-- so many lines were read, and the others are left
abbrev pub invariant-loop : goal.invariant-loop
invariant-loop l = record {
  read : l.lines.read ≡ l.counter;
  left : drop l.counter (pieces 10 l.text) ≡ pieces 10 l.lines.rest.now;
  shorter : l.counter + length l.lines.rest.now ≤ length l.text;
}

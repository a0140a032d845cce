use Rattle.std.proofs.Common.{◌≡◌, ◌+◌, ◌<◌, ◌^◌, length}
use Rattle.std.specs.Prelude.{None}
use Rattle.far_text.specs.Pieces.{pieces}
use Rattle.log_audit.specs.Reading.{end_fault}
use Rattle.log_audit.proofs.reader.end_fault.Given as goal

-- what is to be read has the fault that all has
abbrev pub invariant-loop-line : goal.invariant-loop-line
invariant-loop-line l = record {
  fault : end_fault l.lines.read l.last (pieces 10 l.lines.rest.now) ≡ end_fault l.fn.lines.read None (pieces 10 l.fn.lines.rest.now);
  within : l.lines.read + length l.lines.rest.now + 1 < 2 ^ 32;
}

abbrev pub decreases-loop-line : goal.decreases-loop-line
decreases-loop-line l = length l.lines.rest.now

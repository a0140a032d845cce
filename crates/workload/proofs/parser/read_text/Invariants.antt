use Rattle.std.proofs.Common.{◌≡◌, ◌+◌, ◌≤◌, length}
use Rattle.far_text.specs.Pieces.{pieces}
use Rattle.workload.specs.Reading.{body_from, reading}
use Rattle.workload.proofs.parser.read_text.Given as goal

-- the lines so far and those to come are the whole text
abbrev pub invariant-loop-lines : goal.invariant-loop-lines
invariant-loop-lines l = record {
  reads : reading l.text ≡ body_from l.lines.read l.load (pieces 10 l.lines.rest.now);
  within : l.lines.read + length l.lines.rest.now ≤ length l.text;
}

abbrev pub decreases-loop-lines : goal.decreases-loop-lines
decreases-loop-lines l = length l.lines.rest.now

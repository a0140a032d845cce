use Rattle.std.proofs.Common.{◌≡◌, ◌+◌, ◌≤◌, length}
use Rattle.far_text.specs.Pieces.{pieces}
use Rattle.workload_reasons.specs.Ends.{first_start, start_behind}
use Rattle.workload_reasons.proofs.ends.first_start.Given as goal

-- none of the lines so far gives a start number
abbrev pub invariant-loop-line : goal.invariant-loop-line
invariant-loop-line l = record {
  left : first_start l.text ≡ start_behind l.number (pieces 10 l.rest);
  shorter : l.number + length l.rest ≤ length l.text;
}

abbrev pub decreases-loop-line : goal.decreases-loop-line
decreases-loop-line l = length l.rest

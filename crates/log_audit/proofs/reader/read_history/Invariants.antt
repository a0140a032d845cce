use Rattle.std.proofs.Common.{◌≡◌, ◌+◌, ◌≤◌, length}
use Rattle.log_audit.specs.Reading.{◌andthen◌, history_of}
use Rattle.log_audit.proofs.Steps.{behind_lines}
use Rattle.log_audit.proofs.reader.read_history.Given as goal

-- the lines so far and those that are still to be read are all of them
abbrev pub invariant-loop-left : goal.invariant-loop-left
invariant-loop-left l = record {
  reads : (history_of l.left (l.lines.read + 1) l.lines.rest.now andthen behind_lines l.history.items) ≡ history_of l.count (l.fn.lines.read + 1) l.fn.lines.rest.now;
  count : l.lines.read + l.left ≡ l.fn.lines.read + l.count;
  shorter : length l.lines.rest.now ≤ length l.fn.lines.rest.now;
}

abbrev pub decreases-loop-left : goal.decreases-loop-left
decreases-loop-left l = l.left

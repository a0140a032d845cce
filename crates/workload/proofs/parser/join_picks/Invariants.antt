use Rattle.std.proofs.Common.{◌≡◌, true, length}
use Rattle.far_text.specs.Pieces.{pieces}
use Rattle.workload.specs.Joining.{joined_from}
use Rattle.workload.proofs.parser.join_picks.Given as goal

-- the picks so far and the words to come give what all words give
abbrev pub invariant-loop-word : goal.invariant-loop-word
invariant-loop-word l = joined_from l.number true l.picks.items (pieces 32 l.rest) ≡ joined_from l.number true l.fn.picks.items (pieces 32 l.words)

abbrev pub decreases-loop-word : goal.decreases-loop-word
decreases-loop-word l = length l.rest

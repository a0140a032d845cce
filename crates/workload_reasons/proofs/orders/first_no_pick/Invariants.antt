use Rattle.std.proofs.Common.{◌≡◌, length}
use Rattle.far_text.specs.Pieces.{pieces}
use Rattle.workload_reasons.specs.Orders.{first_no_number}
use Rattle.workload_reasons.proofs.orders.first_no_pick.Given as goal

-- the words so far are numbers
abbrev pub invariant-loop-word : goal.invariant-loop-word
invariant-loop-word l = first_no_number (pieces 32 l.words) ≡ first_no_number (pieces 32 l.rest)

abbrev pub decreases-loop-word : goal.decreases-loop-word
decreases-loop-word l = length l.rest

use Rattle.std.proofs.Common.{◌≡◌, false, replicate, take}
use Rattle.retry_link.proofs.receiver.turn_off.Given as goal

abbrev pub invariant-loop-mark : goal.invariant-loop-mark
invariant-loop-mark l = take l.mark-index l.mark-items ≡ replicate l.mark-index false

use Rattle.std.proofs.Common.{arith}
use Rattle.wire_bag.proofs.Finding.{none_at_first}
use Rattle.wire_bag.proofs.bag.Bag.new.Goals as goal

pub invariant_of-result : goal.invariant_of-result
invariant_of-result c = (omega arith, rw c.no_counts.ensures none_at_first)

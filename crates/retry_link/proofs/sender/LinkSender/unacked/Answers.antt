use Rattle.std.proofs.Common.{arith}
use Rattle.retry_link.proofs.WindowLaws.{window_short}
use Rattle.retry_link.proofs.sender.LinkSender.unacked.Goals as goal

pub overflow_cast-result : goal.overflow_cast-result
overflow_cast-result c = omega (arith, c.len.ensures, c.self.inside.unacked.ok, window_short c.self.inside.next c.self.inside.unacked.items c.self.invariant.0)

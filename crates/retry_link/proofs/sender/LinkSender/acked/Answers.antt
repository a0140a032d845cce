use Rattle.std.proofs.Common.{List, sym, subst, arith}
use Rattle.retry_link.specs.Sender.{IsWindow, Numbered}
use Rattle.retry_link.proofs.WindowLaws.{window_ack}
use Rattle.retry_link.proofs.sender.LinkSender.acked.Goals as goal

pub invariant_of-self : goal.invariant_of-self
invariant_of-self c =
    (subst (λ (ms : List Numbered). IsWindow c.self.inside.next ms) (sym c.drop_number.ensures.items) (window_ack c.self.inside.next c.args.num c.self.inside.unacked.items c.self.invariant.0), omega (arith, c.drop_number.ensures.room, c.self.invariant.1))

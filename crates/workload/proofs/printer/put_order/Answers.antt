use Rattle.workload.proofs.Chained.{always}
use Rattle.workload.proofs.printer.put_order.Goals as goal

pub returns-clause-whole : goal.returns-clause-whole
returns-clause-whole c = always c.put_text.result _ c.in_ok-put_order_words.ensures.whole

use Rattle.workload.proofs.Chained.{always}
use Rattle.workload.proofs.printer.put_op.Goals as goal

pub returns-clause-whole : goal.returns-clause-whole
returns-clause-whole c = always c.put_text.result _ (record { key = c.in_ok-put_number_and_key.ensures.key; short = c.in_ok-put_op_body.ensures.short })

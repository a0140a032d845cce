use Rattle.std.proofs.Common.{◌∙◌, rules}
use Rattle.workload_reasons.proofs.Picking.{refused}
use Rattle.workload_reasons.proofs.orders.first_no_pick.Goals as goal

pub returns-then-is_none : goal.returns-then-is_none
returns-then-is_none c =
    c.loop-word.invariant ∙ refused c.loop-word.rest.now c.in-Some.word.now c.in-Some.behind.now (search rules)
    (search rules)

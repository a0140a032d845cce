use Rattle.std.proofs.Common.{sym, ◌∙◌}
use Rattle.far_world.proofs.Counting.{all_deliverable}
use Rattle.far_world.proofs.choice.count_deliverable.Goals as goal

pub returns-then-running-clause-count : goal.returns-then-running-clause-count
returns-then-running-clause-count c = rw c.if-running.true (c.len.ensures ∙ sym (all_deliverable c.args.bag.now.messages))

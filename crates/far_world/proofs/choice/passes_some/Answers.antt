use Rattle.std.proofs.Common.{rules, sym, ◌∙◌, arith}
use Rattle.far_world.proofs.Counting.{some_passes}
use Rattle.far_world.proofs.choice.passes_some.Goals as goal

pub returns-then-can_deliver : goal.returns-then-can_deliver
returns-then-can_deliver c e = some_passes c.args.bag.now.messages c.loop-at.at (search (rules, arith)) (sym c.can_deliver.ensures ∙ c.if-can_deliver.true)

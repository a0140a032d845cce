use Rattle.std.proofs.Common.{rules, ◌≡◌, sym, ◌∙◌, false, take, arith}
use Rattle.std.specs.List.{count_by}
use Rattle.far_model.specs.Events.{can_deliver}
use Rattle.far_world.proofs.Choosing.{delivery_is}
use Rattle.far_world.specs.Choices.{nothing_sent}
use Rattle.far_world.proofs.choice.passing_at.Goals as goal

pub returns-then-left-eq0 : goal.returns-then-left-eq0
returns-then-left-eq0 c =
    let e : c.args.place ≡ count_by (can_deliver false) (take c.loop-at.at c.args.bag.now.messages) = omega (arith, c.loop-at.invariant, c.if-left-eq0.true) in
    delivery_is false c.args.bag.now.messages c.loop-at.at c.args.place nothing_sent (search (rules, arith)) (sym c.can_deliver.ensures ∙ c.if-can_deliver.true) e

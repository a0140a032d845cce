use Rattle.std.proofs.Common.{not, sym, ap}
use Rattle.far_world.proofs.Counting.{some_choice}
use Rattle.far_world.proofs.parties.Parties.has_choice.Goals as goal

pub returns-then-has_delivery : goal.returns-then-has_delivery
returns-then-has_delivery g c = ap not (sym (some_choice c.args.self.now.state (c.has_delivery.ensures c.if-has_delivery.true)))

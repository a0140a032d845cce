use Rattle.std.proofs.Common.{◌∙◌}
use Rattle.far_world.proofs.Counting.{none_from}
use Rattle.far_world.proofs.bag.Bag.none_from_switch.Goals as goal

pub returns : goal.returns
returns c = rw (← c.self.view_is) (c.none_from.ensures ∙ none_from c.self.inside.wires.messages)

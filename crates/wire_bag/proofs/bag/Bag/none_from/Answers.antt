use Rattle.std.proofs.Common.{rules}
use Rattle.std.proofs.lemmas.List.Folds.{list_all-map}
use Rattle.wire_bag.proofs.bag.Bag.none_from.Goals as goal

pub returns : goal.returns
returns c = search (rules, list_all-map)

use Rattle.std.proofs.Common.{◌≡◌, ◌<◌, false, sym, ◌∙◌}
use Rattle.wire_bag.proofs.Finding.{none_counted, place_within}
use Rattle.wire_bag.specs.Addressees.{place_of}
use Rattle.wire_bag.specs.BagView.{messages_of}
use Rattle.wire_bag.proofs.bag.Bag.oldest_to.Goals as goal

pub returns-then-not-has_some : goal.returns-then-not-has_some
returns-then-not-has_some c =
    let none = c.has_some.ensures c.if-not-has_some.true in
    let counted = c.self.invariant.1 (place_of c.args.who) (place_within c.args.who) in
    rw (← c.self.view_is) (sym (none_counted c.args.who 0 (messages_of c.self.inside.count c.self.inside.boxes.items) (sym counted ∙ none)))

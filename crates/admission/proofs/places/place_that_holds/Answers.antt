use Rattle.std.proofs.Common.{rules, tests, ◌∙◌}
use Rattle.std.proofs.lemmas.Iterator.{YieldsList-from_slice}
use Rattle.std.proofs.lemmas.Iterator.Search.{position_from_yields_List}
use Rattle.admission.proofs.Found.{place_is}
use Rattle.admission.proofs.places.place_that_holds.Goals as goal

pub returns-clause-place : goal.returns-clause-place
returns-clause-place c = position_from_yields_List _ _ _ _ c.position.ensures.ran (YieldsList-from_slice c.args.slots.now cc) (λ x b q k. search (rules, tests)) ∙ place_is _ c.args.slots.now

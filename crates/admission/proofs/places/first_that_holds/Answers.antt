use Rattle.admission.proofs.Found.{key_held}
use Rattle.admission.proofs.places.first_that_holds.Goals as goal

pub returns-clause-held : goal.returns-clause-held
returns-clause-held c = key_held c.args.key.now c.args.slots.now c.place_that_holds.result c.place_that_holds.ensures.place

use Rattle.std.proofs.Common.{◌≡◌, ◌+◌, Some, arith}
use Rattle.std.proofs.lemmas.Grind.{common_steps}
use Rattle.far_model.specs.Evictions as model
use Rattle.admission.proofs.Found.{held_is}
use Rattle.admission.proofs.places.next_held.Goals as goal

pub returns-in-Some-clause-held : goal.returns-in-Some-clause-held
returns-in-Some-clause-held c =
    let place : Some (c.args.hand + c.in-Some.ahead) ≡ model.victim c.args.hand c.args.slots.now = grind (arith, common_steps) in
    held_is c.args.hand c.args.slots.now (Some (c.args.hand + c.in-Some.ahead)) place

pub returns-in-None-clause-held : goal.returns-in-None-clause-held
returns-in-None-clause-held c =
    let place : c.first_held-in-None.result ≡ model.victim c.args.hand c.args.slots.now = grind (arith, common_steps) in
    held_is c.args.hand c.args.slots.now c.first_held-in-None.result place

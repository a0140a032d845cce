use Rattle.far_invariants.specs.Past.{past_of}
use Rattle.far_model.specs.Runs.{run}
use Rattle.far_model.specs.State.{opening}
use Rattle.run_laws.proofs.Steps.{holds}
use Rattle.run_laws.proofs.Whole.{matched, one_slot, seats, tags_drawn}
use Rattle.run_laws.proofs.slots.slots_are_owned.Goals as goal

pub returns-clause-seated : goal.returns-clause-seated
returns-clause-seated c plan events valid r = (holds plan events valid r).seated

pub returns-clause-owned : goal.returns-clause-owned
returns-clause-owned c plan events valid r = λ on. (seats plan (past_of plan events) (run plan (opening plan) events) valid (holds plan events valid r) on).slots

pub returns-clause-admissions : goal.returns-clause-admissions
returns-clause-admissions c plan events valid r = λ on. (seats plan (past_of plan events) (run plan (opening plan) events) valid (holds plan events valid r) on).admissions

pub returns-clause-exact : goal.returns-clause-exact
returns-clause-exact c plan events valid r = matched plan (past_of plan events) (run plan (opening plan) events) valid (holds plan events valid r)

pub returns-clause-keys : goal.returns-clause-keys
returns-clause-keys c plan events valid r = one_slot plan (past_of plan events) (run plan (opening plan) events) valid (holds plan events valid r)

pub returns-clause-tags : goal.returns-clause-tags
returns-clause-tags c plan events valid r = (holds plan events valid r).drawn

pub returns-clause-slot_tags : goal.returns-clause-slot_tags
returns-clause-slot_tags c plan events valid r = tags_drawn plan (past_of plan events) (run plan (opening plan) events) valid (holds plan events valid r)

use Rattle.far_invariants.specs.Past.{past_of}
use Rattle.far_model.specs.Runs.{run}
use Rattle.far_model.specs.State.{opening}
use Rattle.run_laws.proofs.Steps.{holds}
use Rattle.run_laws.proofs.Whole.{agree, everywhere}
use Rattle.run_laws.proofs.records.records_are_written.Goals as goal

pub returns-clause-everywhere : goal.returns-clause-everywhere
returns-clause-everywhere c plan events valid r = everywhere plan (past_of plan events) (run plan (opening plan) events) valid (holds plan events valid r)

pub returns-clause-agree : goal.returns-clause-agree
returns-clause-agree c plan events valid r = agree plan (past_of plan events) (run plan (opening plan) events) valid (holds plan events valid r)

use Rattle.far_model.specs.Runs.{run}
use Rattle.far_model.specs.State.{opening}
use Rattle.record_laws.proofs.Meanings.{absorbed_is_marked, marked_is_absorbed}
use Rattle.run_laws.proofs.Steps.{holds}
use Rattle.run_laws.proofs.recoveries.absorbed_is_marked_near.Goals as goal

pub returns-clause-marked : goal.returns-clause-marked
returns-clause-marked c plan events valid r key num w =
    marked_is_absorbed plan (run plan (opening plan) events) (holds plan events valid r).keeps key num w

pub returns-clause-absorbed : goal.returns-clause-absorbed
returns-clause-absorbed c plan events valid r key num w =
    absorbed_is_marked plan (run plan (opening plan) events) (holds plan events valid r).keeps key num w

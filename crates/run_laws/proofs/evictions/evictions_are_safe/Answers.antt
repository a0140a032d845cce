use Rattle.run_laws.proofs.Removed.{removal_is_stored}
use Rattle.eviction_laws.proofs.Meaning.{absorbed_is_cached}
use Rattle.far_model.specs.Runs.{run}
use Rattle.far_model.specs.State.{opening}
use Rattle.run_laws.proofs.Steps.{holds}
use Rattle.run_laws.proofs.evictions.evictions_are_safe.Goals as goal

pub returns-clause-sound : goal.returns-clause-sound
returns-clause-sound c plan events valid r = (holds plan events valid r).evictions

pub returns-clause-removals : goal.returns-clause-removals
returns-clause-removals c plan events valid r = removal_is_stored plan events valid r

pub returns-clause-cached : goal.returns-clause-cached
returns-clause-cached c plan events valid r = absorbed_is_cached plan (run plan (opening plan) events) (holds plan events valid r).keeps

pub returns-clause-known : goal.returns-clause-known
returns-clause-known c plan events valid r = (holds plan events valid r).known

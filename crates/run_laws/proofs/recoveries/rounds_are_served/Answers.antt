use Rattle.far_invariants.specs.Past.{past_of}
use Rattle.far_invariants.specs.Recoveries.{recovered_last}
use Rattle.far_model.specs.Runs.{run}
use Rattle.far_model.specs.State.{opening}
use Rattle.recovery_laws.proofs.Waiting.{in_flight}
use Rattle.run_laws.proofs.Steps.{holds}
use Rattle.run_laws.proofs.recoveries.rounds_are_served.Goals as goal

pub returns : goal.returns
returns c plan events valid r = λ round is. in_flight plan (recovered_last (past_of plan events)) (run plan (opening plan) events) round ((holds plan events valid r).stops.round round is)

use Rattle.far_model.specs.Runs.{run}
use Rattle.far_model.specs.State.{opening}
use Rattle.record_laws.proofs.Coherence.{coherent}
use Rattle.run_laws.proofs.Linearizable.{one_linearizable_history}
use Rattle.run_laws.proofs.Steps.{holds}
use Rattle.run_laws.proofs.histories.finished_runs_are_linearizable.Goals as goal

pub returns : goal.returns
returns c plan events valid r done =
    let log_is = coherent plan (run plan (opening plan) events) (holds plan events valid r).keeps in
    one_linearizable_history plan events valid r log_is done

use Rattle.far_model.specs.Runs.{run}
use Rattle.far_model.specs.State.{opening}
use Rattle.record_laws.proofs.Coherence.{coherent}
use Rattle.run_laws.proofs.Steps.{holds}
use Rattle.run_laws.proofs.histories.runs_have_one_history.Goals as goal

pub returns-clause-coherent : goal.returns-clause-coherent
returns-clause-coherent c plan events valid r = (coherent plan (run plan (opening plan) events) (holds plan events valid r).keeps)

pub returns-clause-history : goal.returns-clause-history
returns-clause-history c plan events valid r = c.coherent_log.ensures.one (run plan (opening plan) events).log (coherent plan (run plan (opening plan) events) (holds plan events valid r).keeps)

pub returns-clause-by_client : goal.returns-clause-by_client
returns-clause-by_client c plan events valid r = λ history is. c.coherent_log.ensures.by_client (run plan (opening plan) events).log history (coherent plan (run plan (opening plan) events) (holds plan events valid r).keeps) is

pub returns-clause-exposed : goal.returns-clause-exposed
returns-clause-exposed c plan events valid r = λ history op moment own is first within. c.all_placed.ensures.exposed_stands (run plan (opening plan) events).log history op moment own (coherent plan (run plan (opening plan) events) (holds plan events valid r).keeps) is first within

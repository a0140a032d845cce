use Rattle.far_model.specs.Runs.{run}
use Rattle.far_model.specs.State.{opening}
use Rattle.record_laws.proofs.Meanings.{log_sound, numbers_sound}
use Rattle.run_laws.proofs.Steps.{holds}
use Rattle.run_laws.proofs.histories.answers_are_current.Goals as goal

pub returns-clause-current : goal.returns-clause-current
returns-clause-current c plan events valid r = (log_sound plan (run plan (opening plan) events) (holds plan events valid r).keeps).current

pub returns-clause-logs : goal.returns-clause-logs
returns-clause-logs c plan events valid r = log_sound plan (run plan (opening plan) events) (holds plan events valid r).keeps

pub returns-clause-numbers : goal.returns-clause-numbers
returns-clause-numbers c plan events valid r = numbers_sound plan (run plan (opening plan) events) (holds plan events valid r).keeps (holds plan events valid r).flight.one

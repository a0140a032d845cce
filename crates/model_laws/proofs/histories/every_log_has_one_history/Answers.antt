use Rattle.history_laws.proofs.Unique.{the_history}
use Rattle.model_laws.proofs.Sorting.{is_history}
use Rattle.model_laws.proofs.histories.every_log_has_one_history.Goals as goal

pub returns-clause-computed : goal.returns-clause-computed
returns-clause-computed c log = is_history log

pub returns-clause-one : goal.returns-clause-one
returns-clause-one c log first second h k = the_history log first second h k

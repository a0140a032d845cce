use Rattle.model_laws.proofs.Picking.{picked_enough, picked_one, picked_quiet, picked_within}
use Rattle.model_laws.proofs.picks.picks_choose_one_run.Goals as goal

pub returns-clause-one : goal.returns-clause-one
returns-clause-one c plan pick n s first second h k = picked_one plan pick n s first second h k

pub returns-clause-enough : goal.returns-clause-enough
returns-clause-enough c plan picks most n s events h k = picked_enough plan picks most n s events h k

pub returns-clause-quiet : goal.returns-clause-quiet
returns-clause-quiet c plan picks most n s h = picked_quiet plan picks most n s h

pub returns-clause-within : goal.returns-clause-within
returns-clause-within c plan picks most n s = picked_within plan picks most n s

use Rattle.retry_link.proofs.Serving.{all_delivered, none_left}
use Rattle.retry_link.proofs.laws.links_catch_up.Goals as goal

pub returns-clause-none : goal.returns-clause-none
returns-clause-none c = none_left

pub returns-clause-all : goal.returns-clause-all
returns-clause-all c = all_delivered

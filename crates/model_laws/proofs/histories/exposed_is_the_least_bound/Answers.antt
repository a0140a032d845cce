use Rattle.model_laws.proofs.Exposed.{bound_all, all_bounded}
use Rattle.model_laws.proofs.histories.exposed_is_the_least_bound.Goals as goal

pub returns : goal.returns
returns c log key moment most = (bound_all log key moment most, all_bounded log key moment most)

use Rattle.retry_link.proofs.LinkLaws.{may_go_on}
use Rattle.retry_link.proofs.laws.links_may_go_on.Goals as goal

pub returns : goal.returns
returns c = may_go_on

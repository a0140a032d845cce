use Rattle.retry_link.proofs.LinkLaws.{is_reliable}
use Rattle.retry_link.proofs.laws.links_deliver_once.Goals as goal

pub returns : goal.returns
returns c = is_reliable

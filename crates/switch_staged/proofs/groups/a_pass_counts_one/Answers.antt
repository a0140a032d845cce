use Rattle.switch_staged.proofs.CountLaws.{pass_counts}
use Rattle.switch_staged.proofs.groups.a_pass_counts_one.Goals as goal

pub returns : goal.returns
returns c = pass_counts

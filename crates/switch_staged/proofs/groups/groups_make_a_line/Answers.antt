use Rattle.switch_staged.proofs.GroupLaws.{line_of}
use Rattle.switch_staged.proofs.groups.groups_make_a_line.Goals as goal

pub returns : goal.returns
returns c = line_of

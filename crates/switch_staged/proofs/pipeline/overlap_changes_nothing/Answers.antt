use Rattle.switch_staged.proofs.PipeLaws.{run_in_order}
use Rattle.switch_staged.proofs.pipeline.overlap_changes_nothing.Goals as goal

pub returns : goal.returns
returns c = run_in_order

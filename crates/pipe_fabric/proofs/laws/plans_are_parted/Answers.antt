use Rattle.pipe_fabric.proofs.Parting.{keys_together, one_part, part_valid, parted}
use Rattle.pipe_fabric.proofs.laws.plans_are_parted.Goals as goal

pub returns : goal.returns
returns c = record { valid = part_valid; parted = parted; together = keys_together; one = one_part }

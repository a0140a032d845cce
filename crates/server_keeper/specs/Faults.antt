-- Why a server could not handle a packet.
use Rattle.far_outside.specs.declared.keeper.KeeperFault.{KeeperFault}
use Rattle.far_outside.specs.declared.keeper.KeeperFault.TheVariants.{Memory, Failed}
use Rattle.server_keeper.specs.declared.step.StepFault.{StepFault}
use Rattle.server_keeper.specs.declared.step.StepFault.TheVariants.{Memory as NoMemory, KeeperFailed}

abbrev pub step_fault : KeeperFault → StepFault
step_fault Memory = NoMemory
step_fault Failed = KeeperFailed

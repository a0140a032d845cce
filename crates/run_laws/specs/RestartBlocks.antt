-- The blocks that a log has of the restarts of its run, and what the first of them tells.
use Rattle.std.specs.Prelude.{◌≡◌, ℕ, List, [], ◌∷◌, ◌++◌, Option, None, Some}
use Rattle.far_base.specs.PlanView.{PlanView}
use Rattle.far_base.specs.declared.event.Event.{Event}
use Rattle.far_base.specs.declared.event.Event.TheVariants.{Restart}
use Rattle.far_base.specs.declared.log.LogLine.{LogLine}
use Rattle.far_model.specs.Blocks.{RecoveredBlock, recovered_blocks}
use Rattle.far_model.specs.Controller.{ready}
use Rattle.far_model.specs.Events.{all_listed, happens}
use Rattle.far_model.specs.Kept.{IsRecoveredMap}
use Rattle.far_model.specs.State.{State, now}

-- the block of a restart with this new counter
abbrev pub block_with : State → Option ℕ → List RecoveredBlock
block_with s None = []
block_with s (Some counter) = record { moment = now s; counter = counter; records = all_listed s.servers } ∷ []

-- the block of the restart that the event is, where it is one
abbrev pub block_by : State → Event → List RecoveredBlock
block_by s Restart = block_with s (ready s.controller)
block_by s _ = []

-- the blocks of the restarts among these events, in their order
abbrev pub restart_blocks : PlanView → State → List Event → List RecoveredBlock
restart_blocks plan s [] = []
restart_blocks plan s (e ∷ es) = block_by s e ++ restart_blocks plan (happens plan s e) es

-- the first block of the log has what a recovery that begins in this state has to leave
pub record BeginsWithRecovery (s : State) (log : List LogLine) : Type 0 where
  pub block : RecoveredBlock
  pub later : List RecoveredBlock
  pub first : recovered_blocks log ≡ block ∷ later
  pub left : IsRecoveredMap s block.records

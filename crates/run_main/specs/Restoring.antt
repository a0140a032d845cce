-- What a recovery makes of an image, beside what the run of the workload to its end tells.
use Rattle.std.specs.Prelude.{◌≡◌, ℕ, List, ◌∷◌, true, Option, Some}
use Rattle.far_base.specs.declared.kept.KeptItem.{KeptItem}
use Rattle.far_base.specs.declared.log.LogLine.{LogLine}
use Rattle.far_base.specs.declared.record.Record.{Record}
use Rattle.far_history.specs.Report.{IsReport}
use Rattle.far_base.specs.declared.event.Event.{Event}
use Rattle.far_model.specs.Blocks.{RecoveredBlock, recovered_blocks}
use Rattle.kept_image.specs.MapText.{map_text}
use Rattle.kept_image.specs.Meaning.{IsImage}
use Rattle.workload.specs.WorkView.{WorkView}
use Rattle.run_main.specs.Images.{IsImageOf, IsMapOf, has_stop}
use Rattle.run_main.specs.Inputs.{IsWorkload}
use Rattle.run_main.specs.Replay.{IsPickedRun, IsReplayOf, log_of, state_after}
use Rattle.run_main.specs.Top.{IsDone}
use Rattle.run_main.specs.declared.command.Command.TheVariants.{Image as ImageCommand, Recover as RecoverCommand}
use Rattle.run_main.specs.declared.command.Command.TheVariants.{Replay as ReplayCommand}
use Rattle.run_main.specs.declared.task.Account.TheVariants.{Report}

-- the map is that of the records of the first restart that the log tells of
pub record IsMapOfFirstRestart (log : List LogLine) (map : List ℕ) : Type 0 where
  pub block : RecoveredBlock
  pub later : List RecoveredBlock
  pub first : recovered_blocks log ≡ block ∷ later
  pub told : map ≡ map_text block.records

-- the report is that of the run of the workload by its picks, and the map has the records of its first `recovered`
-- block
pub record IsMapOfReport (work : WorkView) (report map : List ℕ) : Type 0 where
  pub events : List Event
  pub runs : IsPickedRun work events
  pub told : IsReport (log_of (state_after work events)) report
  pub restart : IsMapOfFirstRestart (state_after work events).log map

-- what a recovery makes of the image of the workload is what the first restart of its run leaves
abbrev pub ImageRestores : WorkView → Type 0
ImageRestores work = (image map report : List ℕ) (kept all : List (List Record)) (items : List KeptItem)
    → IsImageOf work image kept → IsImage image items → IsMapOf items map → IsReplayOf work Report report all
    → IsMapOfReport work report map

-- the same of the commands, on a workload that has an order to stop the switch: what `recover` writes of what `image`
-- has written has the records of the first `recovered` block of what `replay` writes
abbrev pub CommandsRestore : WorkView → Type 0
CommandsRestore work = (input image map report : List ℕ) (kept all : List (List Record))
    (records : Option (List (List Record))) → IsWorkload input work → has_stop work.plan ≡ true
    → IsDone ImageCommand input image (Some kept) → IsDone RecoverCommand image map records
    → IsDone ReplayCommand input report (Some all) → IsMapOfReport work report map

-- How far a run has gone, by the records of its servers.
use Rattle.std.specs.Prelude.{◌≡◌, ◌⊎◌, ℕ, List, Option, None, Some, IfSome}
use Rattle.far_base.specs.declared.event.Event.{Event}
use Rattle.far_base.specs.declared.record.Record.{Record}
use Rattle.far_model.specs.Runs.{ArePicked, IsRun}
use Rattle.far_model.specs.State.{opening}
use Rattle.far_runner.specs.Picked.{pick_of}
use Rattle.workload.specs.WorkView.{WorkView}
use Rattle.run_main.specs.Commands.{input_of}
use Rattle.run_main.specs.Images.{with_stop}
use Rattle.run_main.specs.Replay.{state_after}
use Rattle.run_main.specs.Tasks.{IsOfKind, IsTask}
use Rattle.run_main.specs.declared.command.Command.{Command}
use Rattle.run_main.specs.declared.task.Task.{Task}
use Rattle.run_main.specs.declared.task.Task.TheVariants.{Run, Keep}

-- these are the servers' records after some of the events that the picks of this workload choose first
pub record HasGoneBy (work : WorkView) (records : List (List Record)) : Type 0 where
  pub events : List Event
  pub enabled : IsRun work.plan (opening work.plan) events
  pub picked : ArePicked work.plan (pick_of work) 0 (opening work.plan) events
  pub servers : records ≡ (state_after work events).servers

-- the same of the run that a task makes
abbrev pub HasGoneIn : Task → List (List Record) → Type 0
HasGoneIn (Run work account) records = HasGoneBy work records
HasGoneIn (Keep work) records = HasGoneBy (with_stop work) records
HasGoneIn _ records = ⊥

-- the records are the same as before the task was done, or those of the servers of its run
abbrev pub IsStillOrGone : Task → Option (List (List Record)) → Option (List (List Record)) → Type 0
IsStillOrGone task before now = (now ≡ before) ⊎ IfSome now (HasGoneIn task)

-- the same of the run that the command makes for its input
pub record HasGoneFor (command : Command) (left : Option (List ℕ)) (records : List (List Record)) : Type 0 where
  pub task : Task
  pub kind : IsOfKind command task
  pub asked : IfSome (input_of command left) (λ input. IsTask command input task)
  pub gone : HasGoneIn task records

-- a keeper that told the first records has these now: the same, or those of the servers of the run, however it ended
abbrev pub IsKeptBy : Option Command → Option (List ℕ) → Option (List (List Record)) → Option (List (List Record))
    → Type 0
IsKeptBy None left before now = now ≡ before
IsKeptBy (Some command) left before now = (now ≡ before) ⊎ IfSome now (HasGoneFor command left)

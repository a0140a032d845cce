-- The text of a task.
use Rattle.std.specs.Prelude.{◌≡◌, ℕ, List, Option, IfSome}
use Rattle.far_base.specs.declared.record.Record.{Record}
use Rattle.run_main.specs.Images.{IsImageOf, IsMapOf, with_stop}
use Rattle.run_main.specs.Lines.{yes_line}
use Rattle.run_main.specs.Replay.{IsReplayOf, Tells}
use Rattle.run_main.specs.declared.task.Task.{Task}
use Rattle.run_main.specs.declared.task.Task.TheVariants.{Run, Keep, Merge, Approve, Tell}
use Rattle.run_main.specs.Links.{IsTranscript}

-- the text is what doing the task gives, and the keeper has these records then
abbrev pub IsTextOf : Task → List ℕ → Option (List (List Record)) → Type 0
IsTextOf (Run work account) text records = IfSome records (λ all. IsReplayOf work account text all)
IsTextOf (Keep work) text records = IfSome records (λ all. IsImageOf (with_stop work) text all)
IsTextOf (Merge items) text records = IsMapOf items text
IsTextOf Approve text records = text ≡ yes_line
IsTextOf (Tell events) text records = IsTranscript events text

-- the proof sees what the task works on
abbrev pub SeesTask : Task → Option (List (List Record)) → Type 0
SeesTask (Run work account) records = Tells records
SeesTask (Keep work) records = Tells records
SeesTask (Merge items) records = Unit {0}
SeesTask Approve records = Unit {0}
SeesTask (Tell events) records = Unit {0}

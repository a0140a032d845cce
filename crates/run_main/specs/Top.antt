-- What a top call does: its answers and their causes, what it reads and writes, and when it makes no run.
use Rattle.std.specs.Prelude.{◌≡◌, ◌⊎◌, ℕ, ◌<◌, List, [], ◌++◌, take, Option, None, Some, IfSome}
use Rattle.far_base.specs.declared.record.Record.{Record}
use Rattle.run_main.specs.Commands.{MakesRun, Reads, input_of}
use Rattle.run_main.specs.Lines.{bad_image_line, bad_line, conflict_line, too_large_line, usage_line, wrong_line}
use Rattle.run_main.specs.Tasks.{HasTask, IsRefusedFor, IsRefusedIn, IsTask}
use Rattle.run_main.specs.Texts.{IsTextOf}
use Rattle.run_main.specs.declared.command.Command.{Command}
use Rattle.run_main.specs.declared.status.Status.{Status}
use Rattle.run_main.specs.declared.status.Status.TheVariants.{Done, Usage, BadLine, ReadFault, WriteFault, KeeperFault}
use Rattle.run_main.specs.declared.status.Status.TheVariants.{Memory, TooLarge, BadImage, Conflict, Wrong}
use Rattle.run_main.specs.declared.task.Task.{Task}

-- ---- the answers

-- the cause of each answer to a command, where the proof sees the input; a count of faults rose in this call, or not
abbrev pub HasCauseFor : Command → Option (List ℕ) → Type 0 → Type 0 → Type 0 → Status → Type 0
HasCauseFor command left source_rose sink_rose keeper_rose Done = IfSome (input_of command left) (HasTask command)
HasCauseFor command left source_rose sink_rose keeper_rose Usage = ⊥
HasCauseFor command left source_rose sink_rose keeper_rose (BadLine line) = IsRefusedIn command left (BadLine line)
HasCauseFor command left source_rose sink_rose keeper_rose ReadFault = Reads command × source_rose
HasCauseFor command left source_rose sink_rose keeper_rose WriteFault = sink_rose
HasCauseFor command left source_rose sink_rose keeper_rose KeeperFault =
    MakesRun command × IfSome (input_of command left) (HasTask command) × keeper_rose
HasCauseFor command left source_rose sink_rose keeper_rose Memory = Unit {0}
HasCauseFor command left source_rose sink_rose keeper_rose (TooLarge limit line) =
    IsRefusedIn command left (TooLarge limit line)
HasCauseFor command left source_rose sink_rose keeper_rose (BadImage line) = IsRefusedIn command left (BadImage line)
HasCauseFor command left source_rose sink_rose keeper_rose (Conflict line) = IsRefusedIn command left (Conflict line)
HasCauseFor command left source_rose sink_rose keeper_rose (Wrong line) = IsRefusedIn command left (Wrong line)

-- the cause of each answer to arguments that name no command
abbrev pub HasCauseForNone : Type 0 → Status → Type 0
HasCauseForNone sink_rose Usage = Unit {0}
HasCauseForNone sink_rose WriteFault = sink_rose
HasCauseForNone sink_rose Memory = Unit {0}
HasCauseForNone sink_rose _ = ⊥

-- the cause of each answer, by the command that the arguments name
abbrev pub HasCause : Option Command → Option (List ℕ) → Type 0 → Type 0 → Type 0 → Status → Type 0
HasCause None left source_rose sink_rose keeper_rose status = HasCauseForNone sink_rose status
HasCause (Some command) left source_rose sink_rose keeper_rose status =
    HasCauseFor command left source_rose sink_rose keeper_rose status

abbrev pub IsOrMemory : Status → Status → Type 0
IsOrMemory due status = (status ≡ due) ⊎ (status ≡ Memory)

-- where no count rose that could be another cause, the answer to a command is the refusal that is due, or else the task
-- is done, memory aside
pub record IsSettledFor (command : Command) (left : Option (List ℕ)) (source_calm sink_calm keeper_calm : Type 0)
    (status : Status) : Type 0 where
  pub refused : (Reads command → source_calm) → sink_calm
      → IfSome (input_of command left) (λ input. (refusal : Status) → IsRefusedFor command input refusal
      → IsOrMemory refusal status)
  pub done : (Reads command → source_calm) → sink_calm → (MakesRun command → keeper_calm)
      → IfSome (input_of command left) (λ input. (task : Task) → IsTask command input task → IsOrMemory Done status)

-- where the arguments name no command it is the usage line
abbrev pub IsSettled : Option Command → Option (List ℕ) → Type 0 → Type 0 → Type 0 → Status → Type 0
IsSettled None left source_calm sink_calm keeper_calm status = sink_calm → IsOrMemory Usage status
IsSettled (Some command) left source_calm sink_calm keeper_calm status =
    IsSettledFor command left source_calm sink_calm keeper_calm status

-- ---- what is read

-- all that the source had left was read
abbrev pub ReadToEnd : Option (List ℕ) → Option (List ℕ) → Type 0
ReadToEnd None now = Unit {0}
ReadToEnd (Some input) now = now ≡ Some []

-- a text, a refusal that names a line and a fault of the keeper come only after all was read
abbrev pub ReadFirst : Option (List ℕ) → Option (List ℕ) → Status → Type 0
ReadFirst left now Done = ReadToEnd left now
ReadFirst left now (BadLine line) = ReadToEnd left now
ReadFirst left now KeeperFault = ReadToEnd left now
ReadFirst left now (TooLarge limit line) = 0 < line → ReadToEnd left now
ReadFirst left now (BadImage line) = ReadToEnd left now
ReadFirst left now (Conflict line) = ReadToEnd left now
ReadFirst left now (Wrong line) = ReadToEnd left now
ReadFirst left now _ = Unit {0}

-- the same of a command that reads
abbrev pub ReadFirstFor : Option Command → Option (List ℕ) → Option (List ℕ) → Status → Type 0
ReadFirstFor None left now status = Unit {0}
ReadFirstFor (Some command) left now status = Reads command → ReadFirst left now status

-- there is no command, or one that reads nothing
abbrev pub ReadsNothing : Option Command → Type 0
ReadsNothing None = Unit {0}
ReadsNothing (Some command) = ¬ (Reads command)

-- ---- what is written

-- the command is done by this text for this input; the keeper has these records then
pub record IsDone (command : Command) (input text : List ℕ) (records : Option (List (List Record))) : Type 0 where
  pub task : Task
  pub asked : IsTask command input task
  pub done : IsTextOf task text records

-- the status and the text that are due for the input that the source tells and the servers' records that the keeper
-- tells afterwards
abbrev pub IsDue : Option Command → Option (List ℕ) → Option (List (List Record)) → Status → List ℕ → Type 0
IsDue (Some command) left records Done text = IfSome (input_of command left)
    (λ input. IsDone command input text records)
IsDue (Some command) left records (BadLine line) text = IsRefusedIn command left (BadLine line) × (text ≡ bad_line line)
IsDue (Some command) left records (TooLarge limit line) text =
    IsRefusedIn command left (TooLarge limit line) × (text ≡ too_large_line limit line)
IsDue (Some command) left records (BadImage line) text =
    IsRefusedIn command left (BadImage line) × (text ≡ bad_image_line line)
IsDue (Some command) left records (Conflict line) text =
    IsRefusedIn command left (Conflict line) × (text ≡ conflict_line line)
IsDue (Some command) left records (Wrong line) text =
    IsRefusedIn command left (Wrong line) × (text ≡ wrong_line line)
IsDue None left records Usage text = text ≡ usage_line
IsDue _ left records _ text = ⊥

-- some text was due, and a prefix of it was written
pub record WrotePrefix (command : Option Command) (left : Option (List ℕ)) (records : Option (List (List Record)))
    (before now : List ℕ) : Type 0 where
  pub status : Status
  pub text : List ℕ
  pub count : ℕ
  pub due : IsDue command left records status text
  pub wrote : now ≡ before ++ take count text

pub record WroteWhole (command : Option Command) (left : Option (List ℕ)) (records : Option (List (List Record)))
    (before now : List ℕ) (status : Status) : Type 0 where
  pub text : List ℕ
  pub due : IsDue command left records status text
  pub wrote : now ≡ before ++ text

-- what was written, by the answer: the text that was due; where the write failed a prefix of it; and nothing else
abbrev pub Wrote : Option Command → Option (List ℕ) → Option (List (List Record)) → List ℕ → List ℕ → Status → Type 0
Wrote command left records before now ReadFault = now ≡ before
Wrote command left records before now KeeperFault = now ≡ before
Wrote command left records before now Memory = now ≡ before
Wrote command left records before now WriteFault = WrotePrefix command left records before now
Wrote command left records before now status = WroteWhole command left records before now status

-- the same of a sink that tells what was written, and then goes on telling
abbrev pub WroteDue : Option Command → Option (List ℕ) → Option (List (List Record)) → Option (List ℕ)
    → Option (List ℕ) → Status → Type 0
WroteDue command left records None now status = Unit {0}
WroteDue command left records (Some before) None status = ⊥
WroteDue command left records (Some before) (Some now) status = Wrote command left records before now status

-- ---- where no run is made

-- an answer that comes before any run
abbrev pub ComesBeforeRun : Status → Type 0
ComesBeforeRun Usage = Unit {0}
ComesBeforeRun (BadLine line) = Unit {0}
ComesBeforeRun (TooLarge limit line) = Unit {0}
ComesBeforeRun (BadImage line) = Unit {0}
ComesBeforeRun (Conflict line) = Unit {0}
ComesBeforeRun (Wrong line) = Unit {0}
ComesBeforeRun ReadFault = Unit {0}
ComesBeforeRun _ = ⊥

-- the line of a refusal could not be written
pub record IsUnsaid (command : Command) (left : Option (List ℕ)) (status : Status) : Type 0 where
  pub failed : status ≡ WriteFault
  pub input : List ℕ
  pub told : input_of command left ≡ Some input
  pub refusal : Status
  pub refused : IsRefusedFor command input refusal

-- no run was made: there is no command or one that makes none, or the answer comes before any run, also where its line
-- was not written
abbrev pub MadeNoRun : Option Command → Option (List ℕ) → Status → Type 0
MadeNoRun None left status = Unit {0}
MadeNoRun (Some command) left status = (¬ (MakesRun command)) ⊎ (ComesBeforeRun status ⊎ IsUnsaid command left status)

-- ---- over memory

-- the usage line, the refusal that is due, or the text of the task, unless memory was refused
abbrev pub IsDecided : Option Command → List ℕ → Status → Type 0
IsDecided None input status = IsOrMemory Usage status
IsDecided (Some command) input status = IsSettledFor command (Some input) (Unit {0}) (Unit {0}) (Unit {0}) status

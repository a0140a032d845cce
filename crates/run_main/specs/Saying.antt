-- The steps of a top call: the task that is read, and what is said.
use Rattle.std.specs.Prelude.{◌≡◌, ◌⊎◌, ℕ, ◌≤◌, List, ◌++◌, length, take, Option, None, Some, Result, Ok, Err}
use Rattle.std.specs.Prelude.{IfErr, IfOk, IfSome, OnOk}
use Rattle.far_base.specs.declared.kept.KeptItem.{KeptItem}
use Rattle.retry_link.specs.declared.link.LinkEvent.{LinkEvent}
use Rattle.workload.specs.WorkView.{WorkView}
use Rattle.server_keeper.specs.declared.step.StepFault.{StepFault}
use Rattle.server_keeper.specs.declared.step.StepFault.TheVariants.{Memory as OutOfMemory, KeeperFailed}
use Rattle.run_main.specs.Commands.{Reads, input_of}
use Rattle.run_main.specs.Inputs.{IsApproved, IsKeptList, IsLinkScript, IsOfAll, IsPlaced, IsPlacedOps, IsRefusedAs, IsRefusedImage, IsRefusedReport, IsRefusedScript, IsTooLong}
use Rattle.run_main.specs.Inputs.{IsWorkload}
use Rattle.run_main.specs.Tasks.{IsOfKind, IsReady, IsRefusedIn, IsRefusedFor, IsTask}
use Rattle.run_main.specs.Top.{ReadFirst, ReadToEnd}
use Rattle.run_main.specs.declared.command.Command.{Command}
use Rattle.run_main.specs.declared.status.Status.{Status}
use Rattle.run_main.specs.declared.status.Status.TheVariants.{Done, Usage, BadLine, ReadFault, WriteFault, KeeperFault}
use Rattle.run_main.specs.declared.status.Status.TheVariants.{Memory, TooLarge, BadImage, Conflict, Wrong}
use Rattle.run_main.specs.declared.task.Task.{Task}
use Rattle.run_main.specs.declared.task.Task.TheVariants.{Run, Keep, Merge, Approve, Tell}
use Rattle.run_main.specs.declared.top.TheConstants.{INPUT_LIMIT}

-- ---- what is said

-- a status that goes with a text
abbrev pub IsSaid : Status → Type 0
IsSaid Done = Unit {0}
IsSaid Usage = Unit {0}
IsSaid (BadLine line) = Unit {0}
IsSaid (TooLarge limit line) = Unit {0}
IsSaid (BadImage line) = Unit {0}
IsSaid (Conflict line) = Unit {0}
IsSaid (Wrong line) = Unit {0}
IsSaid _ = ⊥

-- the text was written, a prefix of it, or nothing
abbrev pub SaysTold : List ℕ → List ℕ → List ℕ → Status → Status → Type 0
SaysTold before now text status WriteFault = (n : ℕ) × (now ≡ before ++ take n text)
SaysTold before now text status Memory = now ≡ before
SaysTold before now text status ReadFault = ⊥
SaysTold before now text status KeeperFault = ⊥
SaysTold before now text status answer = (answer ≡ status) × (now ≡ before ++ text)

-- a status that comes before any run, with a line or without one
abbrev pub IsEarly : Status → Type 0
IsEarly Usage = Unit {0}
IsEarly (BadLine line) = Unit {0}
IsEarly (TooLarge limit line) = Unit {0}
IsEarly (BadImage line) = Unit {0}
IsEarly (Conflict line) = Unit {0}
IsEarly (Wrong line) = Unit {0}
IsEarly ReadFault = Unit {0}
IsEarly Memory = Unit {0}
IsEarly _ = ⊥

-- the status, or why its text was not written
abbrev pub IsAnswer : Status → Status → Type 0
IsAnswer status answer = (answer ≡ status) ⊎ ((answer ≡ WriteFault) ⊎ (answer ≡ Memory))

-- the same, by the answer
abbrev pub Answers : Status → Status → Type 0
Answers status WriteFault = Unit {0}
Answers status Memory = Unit {0}
Answers status ReadFault = ⊥
Answers status KeeperFault = ⊥
Answers status answer = answer ≡ status

abbrev pub Says : Option (List ℕ) → Option (List ℕ) → List ℕ → Status → Status → Type 0
Says None now text status answer = Answers status answer
Says (Some before) None text status answer = ⊥
Says (Some before) (Some now) text status answer = SaysTold before now text status answer

-- ---- what is read

-- why there is no text
abbrev pub IsTextFault : Option (List ℕ) → Type 0 → Status → Type 0
IsTextFault left rose (TooLarge limit line) = IsOfAll limit line × IfSome left (λ input. IsTooLong input limit line)
IsTextFault left rose ReadFault = rose
IsTextFault left rose Memory = Unit {0}
IsTextFault left rose _ = ⊥

-- why there is no workload
abbrev pub IsReadingFault : Option (List ℕ) → Type 0 → Status → Type 0
IsReadingFault left rose (BadLine line) = IfSome left (λ input. IsRefusedAs input (BadLine line))
IsReadingFault left rose (TooLarge limit line) =
    IsPlaced limit line × IfSome left (λ input. IsRefusedAs input (TooLarge limit line))
IsReadingFault left rose ReadFault = rose
IsReadingFault left rose Memory = Unit {0}
IsReadingFault left rose _ = ⊥

abbrev pub IsParsingFault : List ℕ → Status → Type 0
IsParsingFault input (BadLine line) = IsRefusedAs input (BadLine line)
IsParsingFault input (TooLarge limit line) = IsRefusedAs input (TooLarge limit line)
IsParsingFault input Memory = Unit {0}
IsParsingFault input _ = ⊥

-- the input was read where it is not too long
abbrev pub SettlesText : {T : Type 0} → List ℕ → Result T Status → Type 0
SettlesText input (Ok bytes) = length input ≤ INPUT_LIMIT
SettlesText input (Err Memory) = Unit {0}
SettlesText input (Err (TooLarge limit line)) = IsTooLong input limit line
SettlesText input (Err _) = ⊥

-- it was read, or memory was refused
abbrev pub IsReadAs : {T : Type 0} → Result T Status → Type 0
IsReadAs (Ok x) = Unit {0}
IsReadAs (Err status) = status ≡ Memory

-- it was refused with this status, or memory was refused
abbrev pub IsRefusalOf : {T : Type 0} → Status → Result T Status → Type 0
IsRefusalOf refusal (Ok x) = ⊥
IsRefusalOf refusal (Err status) = (status ≡ refusal) ⊎ (status ≡ Memory)

-- what is answered where no read failed
pub record SettlesReading (input : List ℕ) (result : Result WorkView Status) : Type 0 where
  pub workload : (work : WorkView) → IsWorkload input work → IsReadAs result
  pub refused : (refusal : Status) → IsRefusedAs input refusal → IsRefusalOf refusal result

-- the input reads as this workload, and as nothing else
pub record IsRead (input : List ℕ) (work : WorkView) : Type 0 where
  pub is : IsWorkload input work
  pub settles : SettlesReading input (Ok work)

-- ---- the same of images

-- why there is no image
abbrev pub IsImageReadingFault : Option (List ℕ) → Type 0 → Status → Type 0
IsImageReadingFault left rose (BadImage line) = IfSome left (λ input. IsRefusedImage input (BadImage line))
IsImageReadingFault left rose (Conflict line) = IfSome left (λ input. IsRefusedImage input (Conflict line))
IsImageReadingFault left rose (TooLarge limit line) =
    IsOfAll limit line × IfSome left (λ input. IsRefusedImage input (TooLarge limit line))
IsImageReadingFault left rose ReadFault = rose
IsImageReadingFault left rose Memory = Unit {0}
IsImageReadingFault left rose _ = ⊥

abbrev pub IsImageParsingFault : List ℕ → Status → Type 0
IsImageParsingFault input (BadImage line) = IsRefusedImage input (BadImage line)
IsImageParsingFault input (Conflict line) = IsRefusedImage input (Conflict line)
IsImageParsingFault input Memory = Unit {0}
IsImageParsingFault input _ = ⊥

-- what is answered where no read failed
pub record SettlesImage (input : List ℕ) (result : Result (List KeptItem) Status) : Type 0 where
  pub image : (items : List KeptItem) → IsKeptList input items → IsReadAs result
  pub refused : (refusal : Status) → IsRefusedImage input refusal → IsRefusalOf refusal result

-- the input reads as this kept list, and as nothing else
pub record IsReadImage (input : List ℕ) (items : List KeptItem) : Type 0 where
  pub is : IsKeptList input items
  pub settles : SettlesImage input (Ok items)

-- ---- the same of reports

-- why a report is not approved
abbrev pub IsReportFault : Option (List ℕ) → Type 0 → Status → Type 0
IsReportFault left rose (BadLine line) = IfSome left (λ input. IsRefusedReport input (BadLine line))
IsReportFault left rose (TooLarge limit line) =
    IsPlacedOps limit line × IfSome left (λ input. IsRefusedReport input (TooLarge limit line))
IsReportFault left rose (Wrong line) = IfSome left (λ input. IsRefusedReport input (Wrong line))
IsReportFault left rose ReadFault = rose
IsReportFault left rose Memory = Unit {0}
IsReportFault left rose _ = ⊥

abbrev pub IsJudgingFault : List ℕ → Status → Type 0
IsJudgingFault input (BadLine line) = IsRefusedReport input (BadLine line)
IsJudgingFault input (TooLarge limit line) = IsRefusedReport input (TooLarge limit line)
IsJudgingFault input (Wrong line) = IsRefusedReport input (Wrong line)
IsJudgingFault input Memory = Unit {0}
IsJudgingFault input _ = ⊥

-- what is answered where no read failed
pub record SettlesReport {T : Type 0} (input : List ℕ) (result : Result T Status) : Type 0 where
  pub approved : IsApproved input → IsReadAs result
  pub refused : (refusal : Status) → IsRefusedReport input refusal → IsRefusalOf refusal result

-- the input is a report that is approved, and is not refused
pub record IsApprovedOnly (input : List ℕ) : Type 0 where
  pub is : IsApproved input
  pub unrefused : (refusal : Status) → ¬ (IsRefusedReport input refusal)

-- ---- the same of the events of a link

-- why there are no events
abbrev pub IsScriptReadingFault : Option (List ℕ) → Type 0 → Status → Type 0
IsScriptReadingFault left rose (BadLine line) = IfSome left (λ input. IsRefusedScript input (BadLine line))
IsScriptReadingFault left rose (TooLarge limit line) =
    IsPlacedOps limit line × IfSome left (λ input. IsRefusedScript input (TooLarge limit line))
IsScriptReadingFault left rose ReadFault = rose
IsScriptReadingFault left rose Memory = Unit {0}
IsScriptReadingFault left rose _ = ⊥

abbrev pub IsScriptParsingFault : List ℕ → Status → Type 0
IsScriptParsingFault input (BadLine line) = IsRefusedScript input (BadLine line)
IsScriptParsingFault input (TooLarge limit line) = IsRefusedScript input (TooLarge limit line)
IsScriptParsingFault input Memory = Unit {0}
IsScriptParsingFault input _ = ⊥

-- what is answered where no read failed
pub record SettlesScript (input : List ℕ) (result : Result (List LinkEvent) Status) : Type 0 where
  pub script : (events : List LinkEvent) → IsLinkScript input events → IsReadAs result
  pub refused : (refusal : Status) → IsRefusedScript input refusal → IsRefusalOf refusal result

-- the input tells these events, and no others
pub record IsReadScript (input : List ℕ) (events : List LinkEvent) : Type 0 where
  pub is : IsLinkScript input events
  pub settles : SettlesScript input (Ok events)

-- ---- what a command and its input ask for

-- why a command has no task
abbrev pub IsEarlyFault : Command → Option (List ℕ) → Type 0 → Status → Type 0
IsEarlyFault command left rose (BadLine line) = IsRefusedIn command left (BadLine line)
IsEarlyFault command left rose (TooLarge limit line) = IsRefusedIn command left (TooLarge limit line)
IsEarlyFault command left rose (BadImage line) = IsRefusedIn command left (BadImage line)
IsEarlyFault command left rose (Conflict line) = IsRefusedIn command left (Conflict line)
IsEarlyFault command left rose (Wrong line) = IsRefusedIn command left (Wrong line)
IsEarlyFault command left rose ReadFault = Reads command × rose
IsEarlyFault command left rose Memory = Unit {0}
IsEarlyFault command left rose _ = ⊥

-- what is answered where no read failed
pub record SettlesTask (command : Command) (input : List ℕ) (result : Result Task Status) : Type 0 where
  pub asked : (task : Task) → IsTask command input task → IsReadAs result
  pub refused : (refusal : Status) → IsRefusedFor command input refusal → IsRefusalOf refusal result

-- the command asks for this task, and is not refused
pub record IsAsked (command : Command) (input : List ℕ) (task : Task) : Type 0 where
  pub is : IsTask command input task
  pub settles : SettlesTask command input (Ok task)

-- the task of a command, or why there is none, by what the source had left and has left now
pub record HasRead (command : Command) (left now : Option (List ℕ)) (rose : Type 0) (result : Result Task Status)
    : Type 0 where
  pub asked : IfOk result (λ task. IfSome (input_of command left) (λ input. IsAsked command input task))
  pub kind : IfOk result (IsOfKind command)
  pub ready : IfOk result IsReady
  pub end : OnOk result (Reads command → ReadToEnd left now)
  pub cause : IfErr result (IsEarlyFault command left rose)
  pub first : IfErr result (λ status. Reads command → ReadFirst left now status)
  pub calm : (Reads command → ¬ rose) → IfSome (input_of command left) (λ input. SettlesTask command input result)

-- ---- what is run

-- what a fault of a step is as the answer of a top call
abbrev pub fault_status : StepFault → Status
fault_status OutOfMemory = Memory
fault_status KeeperFailed = KeeperFault

-- why a run has no text
abbrev pub IsRunFault : Type 0 → Status → Type 0
IsRunFault rose KeeperFault = rose
IsRunFault rose Memory = Unit {0}
IsRunFault rose _ = ⊥

-- why a task has no text
abbrev pub IsTaskFault : Task → Type 0 → Status → Type 0
IsTaskFault (Run work account) rose status = IsRunFault rose status
IsTaskFault (Keep work) rose status = IsRunFault rose status
IsTaskFault (Merge items) rose status = status ≡ Memory
IsTaskFault Approve rose status = status ≡ Memory
IsTaskFault (Tell events) rose status = status ≡ Memory

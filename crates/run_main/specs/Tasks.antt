-- What a command and its input ask for, and when the command is refused.
use Rattle.std.specs.Prelude.{◌≡◌, ℕ, ◌<◌, ◌≤◌, List, Option, IfSome}
use Rattle.std.specs.List.{AllByRecursion}
use Rattle.far_base.specs.PlanView.{PlanView}
use Rattle.far_base.specs.declared.plan.TheConstants.{OP_LIMIT}
use Rattle.retry_link.specs.Link.{AreLinkEvents}
use Rattle.workload.specs.Draws.{generated}
use Rattle.workload.specs.Meaning.{IsWholeOp}
use Rattle.workload.specs.Plain.{IsPlain}
use Rattle.workload.specs.WorkView.{WorkView}
use Rattle.workload.specs.declared.fault.Limit.TheVariants.{Ops}
use Rattle.run_main.specs.Commands.{input_of}
use Rattle.run_main.specs.Inputs.{IsApproved, IsKeptList, IsOfAll, IsPlaced, IsPlacedOps, IsRefusedAs, IsRefusedImage, IsRefusedReport, IsWorkload, IsLinkScript, IsRefusedScript}
use Rattle.run_main.specs.declared.command.Command.{Command}
use Rattle.run_main.specs.declared.command.Command.TheVariants.{Replay, Image, Recover, Audit, Bulk, Link}
use Rattle.run_main.specs.declared.status.Status.{Status}
use Rattle.run_main.specs.declared.status.Status.TheVariants.{BadLine, TooLarge, BadImage, Conflict, Wrong}
use Rattle.run_main.specs.declared.task.Account.{Account}
use Rattle.run_main.specs.declared.task.Account.TheVariants.{Report, Summary}
use Rattle.run_main.specs.declared.task.Task.{Task}
use Rattle.run_main.specs.declared.task.Task.TheVariants.{Run, Keep, Merge, Approve, Tell}

-- the command asks for this task where its input is this one
abbrev pub IsTask : Command → List ℕ → Task → Type 0
IsTask Replay input (Run work Report) = IsWorkload input work
IsTask Image input (Keep work) = IsWorkload input work
IsTask Recover input (Merge items) = IsKeptList input items
IsTask Audit input Approve = IsApproved input
IsTask Link input (Tell events) = IsLinkScript input events
IsTask (Bulk start ops) input (Run work Summary) = (ops ≤ OP_LIMIT) × (work ≡ generated start ops)
IsTask _ input _ = ⊥

pub record HasTask (command : Command) (input : List ℕ) : Type 0 where
  pub task : Task
  pub is : IsTask command input task

-- the command is refused with this status where its input is this one
abbrev pub IsRefusedFor : Command → List ℕ → Status → Type 0
IsRefusedFor Replay input status = IsRefusedAs input status
IsRefusedFor Image input status = IsRefusedAs input status
IsRefusedFor Recover input status = IsRefusedImage input status
IsRefusedFor Audit input status = IsRefusedReport input status
IsRefusedFor Link input status = IsRefusedScript input status
IsRefusedFor (Bulk start ops) input status = (OP_LIMIT < ops) × (status ≡ TooLarge Ops 0)

-- a status with which the command can be refused, whatever its input is
abbrev pub CanRefuse : Command → Status → Type 0
CanRefuse Replay (BadLine line) = Unit {0}
CanRefuse Replay (TooLarge limit line) = IsPlaced limit line
CanRefuse Image (BadLine line) = Unit {0}
CanRefuse Image (TooLarge limit line) = IsPlaced limit line
CanRefuse Recover (BadImage line) = Unit {0}
CanRefuse Recover (Conflict line) = Unit {0}
CanRefuse Recover (TooLarge limit line) = IsOfAll limit line
CanRefuse Audit (BadLine line) = Unit {0}
CanRefuse Audit (TooLarge limit line) = IsPlacedOps limit line
CanRefuse Audit (Wrong line) = Unit {0}
CanRefuse Link (BadLine line) = Unit {0}
CanRefuse Link (TooLarge limit line) = IsPlacedOps limit line
CanRefuse (Bulk start ops) (TooLarge limit line) = (limit ≡ Ops) × (line ≡ 0)
CanRefuse _ _ = ⊥

-- the command is refused with this status: it can be, and where the proof sees the input it is for this input
abbrev pub IsRefusedIn : Command → Option (List ℕ) → Status → Type 0
IsRefusedIn command left status =
    CanRefuse command status × IfSome (input_of command left) (λ input. IsRefusedFor command input status)

-- a task of the kind that the command asks for
abbrev pub IsOfKind : Command → Task → Type 0
IsOfKind Replay (Run work Report) = Unit {0}
IsOfKind Image (Keep work) = Unit {0}
IsOfKind Recover (Merge items) = Unit {0}
IsOfKind Audit Approve = Unit {0}
IsOfKind Link (Tell events) = Unit {0}
IsOfKind (Bulk start ops) (Run work Summary) = Unit {0}
IsOfKind _ _ = ⊥

-- the keys and bodies of the operations are such as a line can name
abbrev pub HasWholeOps : PlanView → Type 0
HasWholeOps plan = AllByRecursion IsWholeOp plan.ops

-- a run of a valid plan; one that is reported has operations that a line can name
pub record IsReadyRun (work : WorkView) (account : Account) : Type 0 where
  pub plain : IsPlain work
  pub whole : account ≡ Report → HasWholeOps work.plan

-- a task that can be done: a run is of a valid plan, and events are those of a link
abbrev pub IsReady : Task → Type 0
IsReady (Run work account) = IsReadyRun work account
IsReady (Keep work) = IsPlain work
IsReady (Merge items) = Unit {0}
IsReady Approve = Unit {0}
IsReady (Tell events) = AreLinkEvents events

-- a task that makes no run
abbrev pub MergesOnly : Task → Type 0
MergesOnly (Run work account) = ⊥
MergesOnly (Keep work) = ⊥
MergesOnly (Merge items) = Unit {0}
MergesOnly Approve = Unit {0}
MergesOnly (Tell events) = Unit {0}

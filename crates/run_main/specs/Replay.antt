-- What running a workload to its end gives.
use Rattle.std.specs.Prelude.{◌≡◌, ℕ, List, length, ◌++◌, Option, None, Some, is_some, true}
use Rattle.far_base.specs.PlanView.{PlanView}
use Rattle.far_base.specs.declared.event.Event.{Event}
use Rattle.far_base.specs.declared.record.Record.{Record}
use Rattle.far_base.specs.declared.log.Placed.{Placed}
use Rattle.far_base.specs.declared.plan.OpLine.{OpLine}
use Rattle.far_history.specs.Report.{IsReport, report}
use Rattle.far_history.specs.Summary.{IsSummary}
use Rattle.far_invariants.specs.Recoveries.{BlocksAreRestarts}
use Rattle.far_model.specs.Answered.{AllAnswered}
use Rattle.far_model.specs.History.{IsFinalMap, IsHistory}
use Rattle.far_model.specs.Linearizable.{HasOneLinearizableHistory, IsLinearizableHistory}
use Rattle.far_model.specs.Log.{LogView}
use Rattle.far_model.specs.Runs.{run, IsRun, IsPickedFrom}
use Rattle.far_model.specs.State.{State, opening}
use Rattle.far_runner.specs.Picked.{pick_of}
use Rattle.log_audit.specs.Good.{IsGoodReport}
use Rattle.workload.specs.WorkView.{WorkView}
use Rattle.run_main.specs.Inputs.{IsWorkload}
use Rattle.run_main.specs.declared.task.Account.{Account}
use Rattle.run_main.specs.declared.task.Account.TheVariants.{Report, Summary}

-- a keeper whose records are visible to the proof
abbrev pub Tells : Option (List (List Record)) → Type 0
Tells records = is_some records ≡ true

abbrev pub log_of : State → LogView
log_of s = record { steps = s.steps; lines = s.log }

-- the state after these events of the workload
abbrev pub state_after : WorkView → List Event → State
state_after work events = run work.plan (opening work.plan) events

-- the events are the run of the workload by its picks, to its end
pub record IsPickedRun (work : WorkView) (events : List Event) : Type 0 where
  pub enabled : IsRun work.plan (opening work.plan) events
  pub picked : IsPickedFrom work.plan (pick_of work) 0 (opening work.plan) events

-- what is told of a run of the plan: the report of its log, or the summary with the numbers of operations and of orders
abbrev pub IsAccount : Account → PlanView → LogView → List ℕ → Type 0
IsAccount Report plan log text = IsReport log text
IsAccount Summary plan log text = IsSummary log (length plan.ops) (length plan.orders) text

-- the text is a report of these operations that tells one linearizable history: its history lines are the operations,
-- each exactly once; in the order printed they are legal for a map and keep real-time order; each line tells what the
-- log tells of its operation
pub record IsLinearizableReport (ops : List OpLine) (log : LogView) (text : List ℕ) : Type 0 where
  pub history : List Placed
  pub map : List Record
  pub is_history : IsHistory log.lines history
  pub linearizable : IsLinearizableHistory ops log.lines history
  pub is_final : IsFinalMap log.lines history map
  pub is_text : text ≡ report log history map

-- a report tells one linearizable history of the operations of the plan; a summary is that of their log
abbrev pub IsTold : Account → PlanView → LogView → List ℕ → Type 0
IsTold Report plan log text = IsLinearizableReport plan.ops log text
IsTold Summary plan log text = IsAccount Summary plan log text

-- a report has the form of one, and its lines are good
abbrev pub IsGoodAccount : Account → List ℕ → Type 0
IsGoodAccount Report text = IsGoodReport text
IsGoodAccount Summary text = Unit {0}

-- the text is the account of the run of the workload by its picks. Every operation is answered. The operations of the
-- workload have one history, in which each stands exactly once, and which is legal and keeps real-time order across all
-- stops; a report prints it. At each restart the servers had, for each key, the newest record of what was kept when the
-- recovery began, no older than any answer before. These are the servers' records at the end
pub record IsReplayOf (work : WorkView) (account : Account) (text : List ℕ) (records : List (List Record))
    : Type 0 where
  pub events : List Event
  pub runs : IsPickedRun work events
  pub answered : AllAnswered work.plan (state_after work events)
  pub history : HasOneLinearizableHistory work.plan.ops (state_after work events).log
  pub restarts : BlocksAreRestarts work.plan events (state_after work events)
  pub told : IsTold account work.plan (log_of (state_after work events)) text
  pub good : IsGoodAccount account text
  pub servers : records ≡ (state_after work events).servers

-- ---- what a replay wrote, in one record

-- behind what was written before stands the report of the run by its picks of the workload that the input is, with one
-- linearizable history of its operations
pub record WroteLinearizableReport (input before now : List ℕ) : Type 0 where
  pub work : WorkView
  pub is : IsWorkload input work
  pub events : List Event
  pub runs : IsPickedRun work events
  pub text : List ℕ
  pub report : IsLinearizableReport work.plan.ops (log_of (state_after work events)) text
  pub wrote : now ≡ before ++ text

-- the same where the source tells what it has left, the keeper its records, and the sink what was written
abbrev pub TellsLinearizableReport : Option (List ℕ) → Option (List (List Record)) → Option (List ℕ)
    → Option (List ℕ) → Type 0
TellsLinearizableReport (Some input) (Some records) (Some before) (Some now) =
    WroteLinearizableReport input before now
TellsLinearizableReport _ _ _ _ = Unit {0}

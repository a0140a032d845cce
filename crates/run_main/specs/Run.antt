-- What a call does that reads a workload and runs it in threads: its answers and their causes, what it writes, and what
-- it hands back. `asked` says that the arguments are those of the call.
use Rattle.std.specs.Prelude.{◌≡◌, ◌⊎◌, ℕ, true, List, [], ◌∷◌, ◌++◌, take, Option, None, Some, IfSome, codes}
use Rattle.far_base.specs.PlanView.{PlanView}
use Rattle.far_base.specs.declared.event.Event.{Event}
use Rattle.far_invariants.specs.Recoveries.{BlocksAreRestarts}
use Rattle.far_model.specs.Answered.{AllAnswered}
use Rattle.far_model.specs.Linearizable.{HasOneLinearizableHistory}
use Rattle.far_model.specs.Runs.{IsRun, is_finished, run}
use Rattle.far_model.specs.State.{State, opening}
use Rattle.workload.specs.WorkView.{WorkView}
use Rattle.run_main.specs.Inputs.{HasWorkload, IsPlaced, IsRefused, IsRefusedAs, IsWorkload}
use Rattle.run_main.specs.Lines.{bad_line, too_large_line, usage_line}
use Rattle.run_main.specs.Replay.{IsLinearizableReport, log_of}
use Rattle.run_main.specs.Top.{IsOrMemory, ReadToEnd}
use Rattle.run_main.specs.declared.status.Status.{Status}
use Rattle.run_main.specs.declared.status.Status.TheVariants.{Done, Usage, BadLine, ReadFault, WriteFault, Memory}
use Rattle.run_main.specs.declared.status.Status.TheVariants.{TooLarge}

-- the one word `run`
abbrev pub IsRunWord : List (List ℕ) → Type 0
IsRunWord words = words ≡ codes "run" ∷ []

-- the state after these events of the plan
abbrev pub state_by : PlanView → List Event → State
state_by plan events = run plan (opening plan) events

-- each event can happen in its turn, and nothing is left to do after them. Every operation is answered. The operations
-- have one history, in which each stands exactly once, and which is legal and keeps real-time order across all stops. At
-- each restart the servers had, for each key, the newest record of what was kept when the recovery began, no older than
-- any answer before
pub record IsFinishedRun (plan : PlanView) (events : List Event) : Type 0 where
  pub enabled : IsRun plan (opening plan) events
  pub finished : is_finished plan (state_by plan events) ≡ true
  pub answered : AllAnswered plan (state_by plan events)
  pub history : HasOneLinearizableHistory plan.ops (state_by plan events).log
  pub restarts : BlocksAreRestarts plan events (state_by plan events)

-- the text is the report of the run of the plan by these events, and tells one linearizable history of its operations
pub record IsRunReport (plan : PlanView) (events : List Event) (text : List ℕ) : Type 0 where
  pub run : IsFinishedRun plan events
  pub report : IsLinearizableReport plan.ops (log_of (state_by plan events)) text

-- ---- the answers

-- the cause of each answer, where the source tells what it has left; a count of faults rose in this call, or not. Other
-- answers never come
abbrev pub HasRunCause : Type 0 → Option (List ℕ) → Type 0 → Type 0 → Status → Type 0
HasRunCause asked left source_rose sink_rose Done = asked × IfSome left HasWorkload
HasRunCause asked left source_rose sink_rose Usage = ¬ asked
HasRunCause asked left source_rose sink_rose (BadLine line) =
    asked × IfSome left (λ input. IsRefusedAs input (BadLine line))
HasRunCause asked left source_rose sink_rose ReadFault = asked × source_rose
HasRunCause asked left source_rose sink_rose WriteFault = sink_rose
HasRunCause asked left source_rose sink_rose Memory = Unit {0}
HasRunCause asked left source_rose sink_rose (TooLarge limit line) =
    asked × IsPlaced limit line × IfSome left (λ input. IsRefusedAs input (TooLarge limit line))
HasRunCause asked left source_rose sink_rose _ = ⊥

-- where no count rose that could have another cause: the refusal, or a report, memory aside
pub record IsRunSettled (asked : Type 0) (left : Option (List ℕ)) (source_calm sink_calm : Type 0) (status : Status)
    : Type 0 where
  pub other_words : ¬ asked → sink_calm → IsOrMemory Usage status
  pub refused : asked → source_calm → sink_calm
      → IfSome left (λ input. (refusal : Status) → IsRefusedAs input refusal → IsOrMemory refusal status)
  pub ran : asked → source_calm → sink_calm
      → IfSome left (λ input. (work : WorkView) → IsWorkload input work → IsOrMemory Done status)

-- other words give the usage line, and nothing else is done
abbrev pub IsUsageAnswer : Status → Type 0
IsUsageAnswer status = (status ≡ Usage) ⊎ ((status ≡ WriteFault) ⊎ (status ≡ Memory))

-- ---- what is written

-- the status and the text that are due, for the input that the source tells; where a run was made the text is one of
-- those that fit the input
abbrev pub IsRunDue : Type 0 → Option (List ℕ) → (List ℕ → List ℕ → Type 0) → Status → List ℕ → Type 0
IsRunDue asked left Fits Done text = asked × IfSome left (λ input. Fits input text)
IsRunDue asked left Fits Usage text = (¬ asked) × (text ≡ usage_line)
IsRunDue asked left Fits (BadLine line) text =
    asked × IfSome left (λ input. IsRefusedAs input (BadLine line)) × (text ≡ bad_line line)
IsRunDue asked left Fits (TooLarge limit line) text =
    asked × IfSome left (λ input. IsRefusedAs input (TooLarge limit line)) × (text ≡ too_large_line limit line)
IsRunDue asked left Fits _ text = ⊥

-- some text was due, and a prefix of it was written
pub record RunWrotePrefix (asked : Type 0) (left : Option (List ℕ)) (Fits : List ℕ → List ℕ → Type 0)
    (before now : List ℕ) : Type 0 where
  pub status : Status
  pub text : List ℕ
  pub count : ℕ
  pub due : IsRunDue asked left Fits status text
  pub wrote : now ≡ before ++ take count text

pub record RunWroteWhole (asked : Type 0) (left : Option (List ℕ)) (Fits : List ℕ → List ℕ → Type 0)
    (before now : List ℕ) (status : Status) : Type 0 where
  pub text : List ℕ
  pub due : IsRunDue asked left Fits status text
  pub wrote : now ≡ before ++ text

-- what was written, by the answer: the text that was due; where the write failed a prefix of it; and nothing else
abbrev pub RunWrote : Type 0 → Option (List ℕ) → (List ℕ → List ℕ → Type 0) → List ℕ → List ℕ → Status → Type 0
RunWrote asked left Fits before now ReadFault = now ≡ before
RunWrote asked left Fits before now Memory = now ≡ before
RunWrote asked left Fits before now WriteFault = RunWrotePrefix asked left Fits before now
RunWrote asked left Fits before now status = RunWroteWhole asked left Fits before now status

-- the same of a sink that tells what was written, and then goes on telling
abbrev pub RunWroteDue : Type 0 → Option (List ℕ) → (List ℕ → List ℕ → Type 0) → Option (List ℕ) → Option (List ℕ)
    → Status → Type 0
RunWroteDue asked left Fits None now status = Unit {0}
RunWroteDue asked left Fits (Some before) None status = ⊥
RunWroteDue asked left Fits (Some before) (Some now) status = RunWrote asked left Fits before now status

-- the report of the run by these events of the workload that the input is
pub record IsReportOfInput (events : List Event) (input text : List ℕ) : Type 0 where
  pub work : WorkView
  pub is : IsWorkload input work
  pub report : IsRunReport work.plan events text

-- ---- the events that are handed back

-- they are those of a run of the input, or there are none, where no run was made: the words are other ones, or the input
-- is refused. They are there where the report was due, also where the write failed, and else there are none; before a
-- run all was read
abbrev pub HandsBack : Type 0 → Option (List ℕ) → Option (List ℕ) → (List ℕ → Type 0) → Type 0 → Status → Type 0
HandsBack asked left now Ran none Done = asked × ReadToEnd left now × IfSome left Ran
HandsBack asked left now Ran none WriteFault =
    (asked × ReadToEnd left now × IfSome left Ran) ⊎ (none × ((¬ asked) ⊎ IfSome left IsRefused))
HandsBack asked left now Ran none _ = none

-- the run by these events of the workload that the input is
pub record IsRunOfInput (events : List Event) (input : List ℕ) : Type 0 where
  pub work : WorkView
  pub is : IsWorkload input work
  pub run : IsFinishedRun work.plan events

-- What the call that runs a workload in pipes reads in its arguments, writes and hands back.
use Rattle.std.specs.Prelude.{◌≡◌, ℕ, ◌+◌, ◌≤◌, ◌&&◌, nat_le, bytes_eq, if◌then◌else◌, List, [], ◌∷◌, ◌++◌, map, Option}
use Rattle.std.specs.Prelude.{None, Some, codes, decimal, Vec}
use Rattle.far_base.specs.PlanView.{PlanView}
use Rattle.far_base.specs.declared.event.Event.{Event}
use Rattle.far_text.specs.Numbers.{number_of}
use Rattle.far_text.specs.Text.{text_line}
use Rattle.pipe_fabric.specs.Parts.{parts_of}
use Rattle.pipe_fabric.specs.declared.parts.TheConstants.{PIPE_LIMIT}
use Rattle.workload.specs.WorkView.{WorkView}
use Rattle.run_main.specs.Inputs.{IsWorkload}
use Rattle.run_main.specs.Run.{IsFinishedRun, IsRunReport}

-- ---- the arguments

-- the words ask for so many pipes
pub record AsksFor (words : List (List ℕ)) (pipes : ℕ) : Type 0 where
  pub some : 1 ≤ pipes
  pub few : pipes ≤ PIPE_LIMIT
  pub words_are : words ≡ codes "pipes" ∷ decimal pipes ∷ []

pub record AsksForPipes (words : List (List ℕ)) : Type 0 where
  pub pipes : ℕ
  pub asks : AsksFor words pipes

abbrev pub pipes_in_limit : Option ℕ → Option ℕ
pipes_in_limit None = None
pipes_in_limit (Some pipes) = if nat_le 1 pipes && nat_le pipes PIPE_LIMIT then Some pipes else None

abbrev pub pipes_named : List ℕ → List ℕ → Option ℕ
pipes_named word number = if bytes_eq word (codes "pipes") then pipes_in_limit (number_of number) else None

-- how many pipes the words ask for
abbrev pub pipes_of : List (List ℕ) → Option ℕ
pipes_of [] = None
pipes_of (word ∷ []) = None
pipes_of (word ∷ number ∷ []) = pipes_named word number
pipes_of (word ∷ number ∷ more ∷ others) = None

-- ---- the text

-- the reports, each under a line that names its pipe; the first is of this one
abbrev pub pipe_reports : ℕ → List (List ℕ) → List ℕ
pipe_reports pipe [] = []
pipe_reports pipe (report ∷ reports) =
    (text_line (codes "pipe" ∷ decimal pipe ∷ []) ++ report) ++ pipe_reports (pipe + 1) reports

abbrev pub pipes_text : ℕ → List (List ℕ) → List ℕ
pipes_text pipes reports = (text_line (codes "far 1 pipes" ∷ decimal pipes ∷ []) ++ pipe_reports 0 reports)
    ++ text_line (codes "end" ∷ [])

-- the texts are the reports of the runs of these plans by these events
abbrev pub AreRunReports : List PlanView → List (List Event) → List (List ℕ) → Type 0
AreRunReports [] [] [] = Unit {0}
AreRunReports (plan ∷ plans) (events ∷ more) (text ∷ texts) =
    IsRunReport plan events text × AreRunReports plans more texts
AreRunReports _ _ _ = ⊥

-- the text is that of the reports of the parts of the plan for so many pipes, of their runs by these events
pub record IsPipesReport (plan : PlanView) (pipes : ℕ) (events : List (List Event)) (text : List ℕ) : Type 0 where
  pub reports : List (List ℕ)
  pub are : AreRunReports (parts_of plan pipes) events reports
  pub is_text : text ≡ pipes_text pipes reports

-- the same of the workload that the input is, and of so many pipes as the words ask for
pub record IsPipesReportOfInput (words : List (List ℕ)) (events : List (List Event)) (input text : List ℕ)
    : Type 0 where
  pub pipes : ℕ
  pub asks : AsksFor words pipes
  pub work : WorkView
  pub is : IsWorkload input work
  pub report : IsPipesReport work.plan pipes events text

-- ---- the events that are handed back

-- each plan is run to its end by its events
abbrev pub AreFinishedRuns : List PlanView → List (List Event) → Type 0
AreFinishedRuns [] [] = Unit {0}
AreFinishedRuns (plan ∷ plans) (events ∷ more) = IsFinishedRun plan events × AreFinishedRuns plans more
AreFinishedRuns _ _ = ⊥

-- a list of events for each pipe
abbrev pub lists_in : {A : Type 0} → List (Vec Event A) → List (List Event)
lists_in {A} all = map (λ (events : Vec Event A). events.items) all

-- the runs by these events of the parts of the workload that the input is, for so many pipes as the words ask for
pub record ArePipesOfInput (words : List (List ℕ)) (events : List (List Event)) (input : List ℕ) : Type 0 where
  pub pipes : ℕ
  pub asks : AsksFor words pipes
  pub work : WorkView
  pub is : IsWorkload input work
  pub runs : AreFinishedRuns (parts_of work.plan pipes) events

-- The reports of the worlds of pipes.
use Rattle.std.specs.Prelude.{◌≡◌, ℕ, List, [], ◌∷◌, ◌++◌, codes, decimal}
use Rattle.std.specs.List.{AllZip}
use Rattle.far_history.specs.Report.{IsReport}
use Rattle.far_text.specs.Text.{text_line}
use Rattle.far_world.specs.Reached.{Ran}
use Rattle.run_main.specs.Pipes.{pipe_reports, pipes_text}
use Rattle.run_main.specs.Replay.{log_of}

-- the text is the report of the world's log
abbrev pub IsReportOf : Ran → List ℕ → Type 0
IsReportOf w text = IsReport (log_of w.state) text

-- the report of the world was written, under the line that names its pipe
pub record HasReport (pipe : ℕ) (w : Ran) (before now : List ℕ) : Type 0 where
  pub report : List ℕ
  pub is : IsReportOf w report
  pub wrote : now ≡ before ++ (text_line (codes "pipe" ∷ decimal pipe ∷ []) ++ report)

-- the reports of all worlds were written, each under the line that names its pipe
pub record HasReports (worlds : List Ran) (before now : List ℕ) : Type 0 where
  pub reports : List (List ℕ)
  pub are : AllZip IsReportOf worlds reports
  pub wrote : now ≡ before ++ pipe_reports 0 reports

-- the text is that of the reports of the worlds of so many pipes
pub record IsTextOfWorlds (pipes : ℕ) (worlds : List Ran) (text : List ℕ) : Type 0 where
  pub reports : List (List ℕ)
  pub are : AllZip IsReportOf worlds reports
  pub is_text : text ≡ pipes_text pipes reports

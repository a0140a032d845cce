-- How the runs of pipes end: the arguments, the reports of the worlds, and the events.
use Rattle.std.proofs.Common.{◌≡◌, ℕ, zero, suc, ◌+◌, ◌≤◌, true, List, [], ◌∷◌, ◌++◌, Option, Some, None, length, take, map, codes, decimal, refl, sym, ap, ◌∙◌, subst, arith, append_assoc, append-nil}
use Rattle.std.specs.Prelude.{IfSome}
use Rattle.std.specs.List.{AllZip}
use Rattle.far_base.specs.PlanView.{PlanView}
use Rattle.far_base.specs.declared.event.Event.{Event}
use Rattle.far_history.specs.Report.{IsReport}
use Rattle.far_invariants.specs.Always.{Always}
use Rattle.far_invariants.specs.Recoveries.{BlocksAreRestarts}
use Rattle.far_runner.specs.Ended.{IsEndOf}
use Rattle.far_text.specs.Text.{text_line}
use Rattle.far_world.specs.Reached.{Ran}
use Rattle.pipe_fabric.proofs.Zips.{zip_length, zip_more}
use Rattle.pipe_fabric.specs.Parts.{parts_of}
use Rattle.workload.specs.WorkView.{WorkView}
use Rattle.run_main.proofs.Finishing.{Left, if_some, run_report_is}
use Rattle.run_main.proofs.Telling.{FinishedAreLinearizable}
use Rattle.run_main.specs.Inputs.{IsWorkload}
use Rattle.run_main.specs.PipeWorlds.{HasReport, HasReports, IsReportOf, IsTextOfWorlds}
use Rattle.run_main.specs.Pipes.{AreFinishedRuns, ArePipesOfInput, AreRunReports, AsksFor, AsksForPipes, IsPipesReport, IsPipesReportOfInput, pipe_reports, pipes_text}
use Rattle.run_main.specs.Run.{IsRunReport}
use Rattle.run_main.specs.Saying.{IsRead}

-- ---- the arguments

pub asked : (words : List (List ℕ)) (pipes : ℕ) → AsksFor words pipes → AsksForPipes words
asked words pipes asks = record { pipes = pipes; asks = asks }

pub not_asked : (words : List (List ℕ)) (found : Option ℕ) → found ≡ None → ((pipes : ℕ) → AsksFor words pipes → found ≡ Some pipes) → ¬ (AsksForPipes words)
not_asked words found none only a = cc (only a.pipes a.asks, none)

-- ---- what is written of the worlds

-- one report more
reports_more : (first : ℕ) (reports : List (List ℕ)) (report : List ℕ) (pipe : ℕ) → first + length reports ≡ pipe
    → pipe_reports first (reports ++ report ∷ []) ≡ pipe_reports first reports ++ (text_line (codes "pipe" ∷ decimal pipe ∷ []) ++ report)
reports_more first [] report pipe at =
    let same : first ≡ pipe = omega arith in
    append-nil _ ∙ ap (λ (n : ℕ). text_line (codes "pipe" ∷ decimal n ∷ []) ++ report) same
reports_more first (r ∷ rs) report pipe at =
    ap (λ (more : List ℕ). (text_line (codes "pipe" ∷ decimal first ∷ []) ++ r) ++ more) (reports_more (first + 1) rs report pipe (omega arith))
    ∙ sym (append_assoc (text_line (codes "pipe" ∷ decimal first ∷ []) ++ r) (pipe_reports (first + 1) rs) _)

pub world_reported : (worlds : List Ran) (w : Ran) (pipe : ℕ) (before middle now : List ℕ) → length worlds ≡ pipe → HasReports worlds before middle → HasReport pipe w middle now → HasReports (worlds ++ w ∷ []) before now
world_reported worlds w pipe before middle now at all one = record {
  reports = all.reports ++ one.report ∷ [];
  are = zip_more IsReportOf worlds all.reports w one.report all.are one.is;
  wrote =
      one.wrote
      ∙ ap (λ (text : List ℕ). text ++ (text_line (codes "pipe" ∷ decimal pipe ∷ []) ++ one.report)) all.wrote
      ∙ append_assoc before (pipe_reports 0 all.reports) _
      ∙ ap (λ (text : List ℕ). before ++ text) (sym (reports_more 0 all.reports one.report pipe (omega (arith, zip_length IsReportOf worlds all.reports all.are))));
}

pub none_reported : (before : List ℕ) → HasReports [] before before
none_reported before = record { reports = []; are = tt; wrote = sym (append-nil before) }

pub text_is : (pipes : ℕ) (worlds : List Ran) (first middle text : List ℕ) → first ≡ text_line (codes "far 1 pipes" ∷ decimal pipes ∷ []) → HasReports worlds first middle → text ≡ middle ++ text_line (codes "end" ∷ []) → IsTextOfWorlds pipes worlds text
text_is pipes worlds first middle text head all end = record {
  reports = all.reports;
  are = all.are;
  is_text =
      end
      ∙ ap (λ (t : List ℕ). t ++ text_line (codes "end" ∷ [])) (all.wrote ∙ ap (λ (t : List ℕ). t ++ pipe_reports 0 all.reports) head);
}

-- ---- the worlds are those of the parts, run to their ends

reports_are : (plans : List PlanView) (worlds : List Ran) (texts : List (List ℕ)) → AllZip IsEndOf plans worlds → AllZip IsReportOf worlds texts
    → FinishedAreLinearizable → Always (λ plan events s. BlocksAreRestarts plan events s) → AreRunReports plans (map (λ (w : Ran). w.events) worlds) texts
reports_are [] [] [] ends are histories restarts = tt
reports_are [] [] (t ∷ ts) ends are histories restarts = absurd are
reports_are [] (w ∷ ws) ts ends are histories restarts = absurd ends
reports_are (p ∷ ps) [] ts ends are histories restarts = absurd ends
reports_are (p ∷ ps) (w ∷ ws) [] ends are histories restarts = absurd are
reports_are (p ∷ ps) (w ∷ ws) (t ∷ ts) ends are histories restarts = (run_report_is p w w.events t ends.0 refl histories restarts are.0, reports_are ps ws ts ends.1 are.1 histories restarts)

pub pipes_report_is : (plan : PlanView) (pipes : ℕ) (worlds : List Ran) (events : List (List Event)) (text : List ℕ) → AllZip IsEndOf (parts_of plan pipes) worlds → IsTextOfWorlds pipes worlds text → events ≡ map (λ (w : Ran). w.events) worlds
    → FinishedAreLinearizable → Always (λ plan events s. BlocksAreRestarts plan events s) → IsPipesReport plan pipes events text
pipes_report_is plan pipes worlds events text ends t same histories restarts = record {
  reports = t.reports;
  are = subst (λ (all : List (List Event)). AreRunReports (parts_of plan pipes) all t.reports) (sym same) (reports_are (parts_of plan pipes) worlds t.reports ends t.are histories restarts);
  is_text = t.is_text;
}

runs_of : (plans : List PlanView) (events : List (List Event)) (texts : List (List ℕ)) → AreRunReports plans events texts → AreFinishedRuns plans events
runs_of [] [] ts h = tt
runs_of [] (e ∷ es) ts h = absurd h
runs_of (p ∷ ps) [] ts h = absurd h
runs_of (p ∷ ps) (e ∷ es) [] h = absurd h
runs_of (p ∷ ps) (e ∷ es) (t ∷ ts) h = (h.0.run, runs_of ps es ts h.1)

-- ---- the workload that the input is

module _ (words : List (List ℕ)) (pipes : ℕ) (left : Left) (work : WorkView) (events made : List (List Event)) (text : List ℕ) (asks : AsksFor words pipes) (read : IfSome left (λ input. IsRead input work)) (report : IsPipesReport work.plan pipes made text) (same : events ≡ made) where
  pub pipes_report_fits : IfSome left (λ input. IsPipesReportOfInput words events input text)
  pipes_report_fits = if_some _ _ left (λ input r. let fits : IsPipesReportOfInput words events input text = record { pipes = pipes; asks = asks; work = work; is = r.is; report = subst (λ (all : List (List Event)). IsPipesReport work.plan pipes all text) (sym same) report } in fits) read

  pub pipes_fit : IfSome left (ArePipesOfInput words events)
  pipes_fit = if_some _ _ left (λ input r. let fits : ArePipesOfInput words events input = record { pipes = pipes; asks = asks; work = work; is = r.is; runs = subst (λ (all : List (List Event)). AreFinishedRuns (parts_of work.plan pipes) all) (sym same) (runs_of (parts_of work.plan pipes) made report.reports report.are) } in fits) read

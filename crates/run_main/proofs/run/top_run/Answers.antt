use Rattle.std.proofs.Common.{◌≡◌, sym, ◌∙◌, refl, true≢false}
use Rattle.run_main.proofs.FaultCountings.{refused}
use Rattle.run_main.proofs.Finishing.{report_fits, run_events, run_fits, run_settled_early, run_wrote, run_wrote_report}
use Rattle.run_main.specs.Lines.{usage_line}
use Rattle.run_main.specs.Run.{IsRunOfInput}
use Rattle.run_main.specs.declared.status.Status.TheVariants.{Usage}
use Rattle.run_main.proofs.run.top_run.Goals as goal

pub returns-then-not-is_run-clause-written : goal.returns-then-not-is_run-clause-written
returns-then-not-is_run-clause-written g c =
    rw c.without_events.ensures.status
    (run_wrote _ _ _ _ _ usage_line Usage _ ((λ run. true≢false (sym (c.is_run.ensures.1 run) ∙ c.if-not-is_run.true)), refl) c.refuse.ensures.said)

pub returns-in-Err-clause-settled : goal.returns-in-Err-clause-settled
returns-in-Err-clause-settled g c =
    rw c.without_events-in-Err.ensures.status
    (run_settled_early _ _ _ _ c.in-Err.status _ (c.is_run.ensures.0 c.if-not-is_run.false) c.in-Err.ensures.calm c.refuse-in-Err.ensures.calm)

pub returns-in-Ok-run_to_end-clause-written : goal.returns-in-Ok-run_to_end-clause-written
returns-in-Ok-run_to_end-clause-written g c =
    run_wrote_report _ _ _ _ _ c.in-Ok-run_to_end.finished.report.items _ (c.is_run.ensures.0 c.if-not-is_run.false) c.reported.ensures.said
    (λ some. report_fits _ c.in-Ok.load _ c.in-Ok-run_to_end.finished.events.items c.in-Ok-run_to_end.finished.report.items c.in-Ok.ensures.read c.in-Ok-run_to_end.ensures (c.reported.ensures.events.1 some))

pub returns-in-Ok-run_to_end-clause-events : goal.returns-in-Ok-run_to_end-clause-events
returns-in-Ok-run_to_end-clause-events g c =
    run_events _ (g.S.Source.left c.args.source.now) (g.S.Source.left c.read_workload.new.source) (IsRunOfInput c.reported.result.events.items) _ _ (c.is_run.ensures.0 c.if-not-is_run.false) c.in-Ok.ensures.end c.reported.ensures.answer c.reported.ensures.events.0
    (λ some. run_fits (g.S.Source.left c.args.source.now) c.in-Ok.load c.reported.result.events.items c.in-Ok-run_to_end.finished.events.items c.in-Ok.ensures.read c.in-Ok-run_to_end.ensures.run (c.reported.ensures.events.1 some))

pub returns-in-Err-clause-unfailed_source : goal.returns-in-Err-clause-unfailed_source
returns-in-Err-clause-unfailed_source g c =
    rw c.without_events-in-Err.ensures.status
    (refused (g.S.Source.left c.args.source.now) _ c.in-Err.status c.refuse-in-Err.result c.in-Err.ensures.unstopped c.refuse-in-Err.ensures.answer (λ none. (c.refuse-in-Err.ensures.silent none).1))

use Rattle.std.proofs.Common.{◌≡◌, ℕ, List, [], map, string_bytes, refl, ap}
use Rattle.std.specs.Global.{Global}
use Rattle.far_outside.specs.Faults.{Rose}
use Rattle.run_main.proofs.FaultCountings.{refused}
use Rattle.run_main.proofs.Finishing.{run_events, run_events_early, run_settled_early, run_wrote, run_wrote_early, run_wrote_report}
use Rattle.run_main.proofs.Piping.{asked, not_asked, pipes_fit, pipes_report_fits}
use Rattle.run_main.specs.Lines.{usage_line}
use Rattle.run_main.specs.Pipes.{ArePipesOfInput, AsksForPipes, IsPipesReportOfInput, lists_in}
use Rattle.run_main.specs.declared.status.Status.TheVariants.{Usage}
use Rattle.run_main.proofs.pipes.top_pipes.Goals as goal

pub returns-in-None-clause-written : goal.returns-in-None-clause-written
returns-in-None-clause-written g c =
    rw c.without_pipes.ensures.status
    (run_wrote _ _ _ _ _ usage_line Usage _ (not_asked _ _ refl c.in-None.ensures.only, refl) c.refuse.ensures.said)

pub returns-in-Err-clause-settled : goal.returns-in-Err-clause-settled
returns-in-Err-clause-settled g c =
    rw c.without_pipes-in-Err.ensures.status
    (run_settled_early _ _ _ _ c.in-Err.status _ (asked _ c.in-Some.pipes c.in-Some.ensures.found) c.in-Err.ensures.calm c.refuse-in-Err.ensures.calm)

pub returns-in-Err-clause-written : goal.returns-in-Err-clause-written
returns-in-Err-clause-written g c =
    let words : List (List ℕ) = map (string_bytes {Z = Global}) c.args.words.now in
    rw c.without_pipes-in-Err.ensures.status
    (run_wrote_early (AsksForPipes words) (g.S.Source.left c.args.source.now) (IsPipesReportOfInput words (lists_in c.without_pipes-in-Err.result.events.items)) _ _
    (Rose (g.S.Source.fault_count c.args.source.now) (g.S.Source.fault_count c.read_workload.new.source)) c.in-Err.status c.refuse-in-Err.result (asked words c.in-Some.pipes c.in-Some.ensures.found) c.in-Err.ensures.cause c.refuse-in-Err.ensures.said c.refuse-in-Err.ensures.silent)

pub returns-in-Err-clause-events : goal.returns-in-Err-clause-events
returns-in-Err-clause-events g c =
    let words : List (List ℕ) = map (string_bytes {Z = Global}) c.args.words.now in
    rw c.without_pipes-in-Err.ensures.status
    (run_events_early (AsksForPipes words) (g.S.Source.left c.args.source.now) (g.S.Source.left c.read_workload.new.source) (ArePipesOfInput words (lists_in c.without_pipes-in-Err.result.events.items)) (c.without_pipes-in-Err.result.events.items ≡ [])
    (Rose (g.S.Source.fault_count c.args.source.now) (g.S.Source.fault_count c.read_workload.new.source)) c.in-Err.status c.refuse-in-Err.result c.in-Err.ensures.cause c.refuse-in-Err.ensures.answer (λ none. (c.refuse-in-Err.ensures.silent none).1) c.without_pipes-in-Err.ensures.events)

pub returns-in-Ok-run_to_end-clause-written : goal.returns-in-Ok-run_to_end-clause-written
returns-in-Ok-run_to_end-clause-written g c =
    let words : List (List ℕ) = map (string_bytes {Z = Global}) c.args.words.now in
    run_wrote_report (AsksForPipes words) (g.S.Source.left c.args.source.now) (IsPipesReportOfInput words (lists_in c.reported.result.events.items)) _ _ c.in-Ok-run_to_end.made.text.items c.reported.result.status
    (asked words c.in-Some.pipes c.in-Some.ensures.found) c.reported.ensures.said
    (λ some. pipes_report_fits words c.in-Some.pipes (g.S.Source.left c.args.source.now) c.in-Ok.load (lists_in c.reported.result.events.items) (lists_in c.in-Ok-run_to_end.made.events.items) c.in-Ok-run_to_end.made.text.items c.in-Some.ensures.found c.in-Ok.ensures.read c.in-Ok-run_to_end.ensures (ap lists_in (c.reported.ensures.events.1 some)))

pub returns-in-Ok-run_to_end-clause-events : goal.returns-in-Ok-run_to_end-clause-events
returns-in-Ok-run_to_end-clause-events g c =
    let words : List (List ℕ) = map (string_bytes {Z = Global}) c.args.words.now in
    run_events (AsksForPipes words) (g.S.Source.left c.args.source.now) (g.S.Source.left c.read_workload.new.source) (ArePipesOfInput words (lists_in c.reported.result.events.items)) (c.reported.result.events.items ≡ []) c.reported.result.status
    (asked words c.in-Some.pipes c.in-Some.ensures.found) c.in-Ok.ensures.end c.reported.ensures.answer c.reported.ensures.events.0
    (λ some. pipes_fit words c.in-Some.pipes (g.S.Source.left c.args.source.now) c.in-Ok.load (lists_in c.reported.result.events.items) (lists_in c.in-Ok-run_to_end.made.events.items) c.in-Ok-run_to_end.made.text.items c.in-Some.ensures.found c.in-Ok.ensures.read c.in-Ok-run_to_end.ensures (ap lists_in (c.reported.ensures.events.1 some)))

pub returns-in-Err-clause-unfailed_source : goal.returns-in-Err-clause-unfailed_source
returns-in-Err-clause-unfailed_source g c =
    rw c.without_pipes-in-Err.ensures.status
    (refused (g.S.Source.left c.args.source.now) _ c.in-Err.status c.refuse-in-Err.result c.in-Err.ensures.unstopped c.refuse-in-Err.ensures.answer (λ none. (c.refuse-in-Err.ensures.silent none).1))

use Rattle.std.proofs.Common.{subst}
use Rattle.far_history.specs.Report.{IsReport}
use Rattle.far_model.specs.Log.{LogView}
use Rattle.run_main.proofs.Finishing.{run_report_is}
use Rattle.run_main.proofs.run.run_to_end.Goals as goal

pub returns : goal.returns
returns g c =
    run_report_is c.args.load.now.plan c.in_ok-world.world _ c.in_ok-report.report.items c.in_ok-world.ensures c.into_parts-plan.ensures.events c.finished_runs_are_linearizable.ensures c.restarts_restore.ensures.blocks
    (subst (λ (l : LogView). IsReport l c.in_ok-report.report.items) (λ i. record { steps = c.log.ensures.steps i; lines = c.log.ensures.lines i }) c.in_ok-report.ensures)

use Rattle.std.proofs.Common.{sym, subst, []}
use Rattle.far_model.specs.View.{opening_view}
use Rattle.switch_staged.specs.Overlap.{IsRun}
use Rattle.switch_staged.proofs.PipeLaws.{run_opens}
use Rattle.switch_staged.proofs.pipeline.Pipeline.stop.Goals as goal

pub returns-clause-run : goal.returns-clause-run
returns-clause-run c = subst (λ v. IsRun v (opening_view c.args.self.now.config 0 0) [] []) (sym c.reset.ensures) (run_opens c.args.self.now.config 0 0)

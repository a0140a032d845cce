use Rattle.std.proofs.Common.{sym, subst, []}
use Rattle.far_model.specs.View.{opening_view}
use Rattle.switch_staged.specs.Overlap.{IsRun}
use Rattle.switch_staged.proofs.PipeLaws.{run_opens}
use Rattle.switch_staged.proofs.pipeline.Pipeline.new.Goals as goal

pub returns-clause-run : goal.returns-clause-run
returns-clause-run c = subst (λ v. IsRun v (opening_view c.args.config c.args.epoch c.args.counter) [] []) (sym c.in_ok-opening.ensures) (run_opens c.args.config c.args.epoch c.args.counter)

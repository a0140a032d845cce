use Rattle.std.proofs.Common.{List, [], ◌∷◌, ◌++◌, take, refl, sym, ap, ◌∙◌}
use Rattle.far_base.specs.declared.plan.OpLine.{OpLine}
use Rattle.far_base.proofs.Taken.{taken}
use Rattle.far_runner.proofs.plans.same_ops.Goals as goal

pub loop-i-preserved : goal.loop-i-preserved
loop-i-preserved c = (
  taken c.args.one.now c.loop-i.i c.line.result c.line.ensures
      ∙ ap (λ (front : List OpLine). front ++ c.line.result ∷ []) c.loop-i.invariant.0
      ∙ ap (λ (line : OpLine). take c.loop-i.i c.args.other.now ++ line ∷ []) (c.if-not-same_line.ensures refl)
      ∙ sym (taken c.args.other.now c.loop-i.i c.line-in-loop-i.result c.line-in-loop-i.ensures),
  c.loop-i.invariant.1,
)

use Rattle.std.proofs.Common.{sym, ◌∙◌}
use Rattle.pipe_fabric.proofs.Filtering.{left_out, taken_in}
use Rattle.pipe_fabric.specs.Parts.{takes_op}
use Rattle.pipe_fabric.proofs.parts.ops_in.Goals as goal
use Rattle.pipe_fabric.proofs.parts.ops_in.Goals.{then-takes_op+in_ok-push, else-takes_op}

pub loop-i-preserved : goal.loop-i-preserved
loop-i-preserved c = elim c.if-takes_op.branch [
  | then-takes_op+in_ok-push w ↦ taken_in (takes_op c.args.pipe c.args.pipes) c.args.ops.now c.loop-i.i c.line-line.result c.loop-i.part c.if-takes_op.part c.loop-i.invariant c.line-line.ensures (sym c.takes_op.ensures ∙ w.if-takes_op.true) (w.part-is ∙ w.in_ok-push.ensures.ok)
  | else-takes_op w ↦ left_out (takes_op c.args.pipe c.args.pipes) c.args.ops.now c.loop-i.i c.line-line.result c.loop-i.part c.if-takes_op.part c.loop-i.invariant c.line-line.ensures (sym c.takes_op.ensures ∙ w.if-takes_op.false) w.part-is
]

use Rattle.std.proofs.Common.{sym, ◌∙◌, arith}
use Rattle.far_world.proofs.Tasked.{counts_none, counts_some}
use Rattle.far_world.proofs.tasks.count_records.Goals as goal
use Rattle.far_world.proofs.tasks.count_records.Goals.{then-is_some, else-is_some}

pub loop-view-preserved : goal.loop-view-preserved
loop-view-preserved c = elim c.if-is_some.branch [
  | then-is_some w ↦ record {
    count = counts_some c.args.views.now c.loop-view.view-index c.view-item.result c.loop-view.count c.if-is_some.count c.loop-view-test.true c.view-item.is (sym c.is_some.ensures ∙ w.if-is_some.true) c.loop-view.invariant.count w.count-is;
    bound = omega (arith, c.loop-view.invariant.bound, w.count-is);
  }
  | else-is_some w ↦ record {
    count = counts_none c.args.views.now c.loop-view.view-index c.view-item.result c.loop-view.count c.if-is_some.count c.loop-view-test.true c.view-item.is (sym c.is_some.ensures ∙ w.if-is_some.false) c.loop-view.invariant.count w.count-is;
    bound = omega (arith, c.loop-view.invariant.bound, w.count-is);
  }
]

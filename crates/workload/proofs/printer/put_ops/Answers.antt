use Rattle.workload.proofs.Taken.{text_more, whole_more}
use Rattle.workload.proofs.printer.put_ops.Goals as goal

pub loop-place-preserved : goal.loop-place-preserved
loop-place-preserved c = record {
  text = text_more c.args.ops.now c.loop-place.place c.line.result c.args.out.now.items c.loop-place.out.items c.put_op.new.out.items c.line.ensures c.loop-place.invariant.text c.in_ok-put_op.ensures.text;
  whole = λ h. c.loop-place.invariant.whole (whole_more c.args.ops.now c.loop-place.place c.line.result c.line.ensures c.in_ok-put_op.ensures.whole h);
}

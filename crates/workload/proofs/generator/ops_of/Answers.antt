use Rattle.std.proofs.Common.{refl}
use Rattle.workload.proofs.Generated.{one_more, none_left}
use Rattle.workload.proofs.generator.ops_of.Goals as goal

pub loop-i-preserved : goal.loop-i-preserved
loop-i-preserved c = rw c.in_ok-push_op.ensures (one_more c.loop-i.lines c.args.ops c.loop-i.i c.loop-i.rng _ c.next_choice-choice.result _ _ c.loop-i-test.true c.next_choice-choice.ensures.choice c.next_choice-choice.ensures.rest refl c.loop-i.invariant)

pub returns : goal.returns
returns c = none_left c.loop-i.lines c.args.ops c.loop-i.i c.loop-i.rng _ c.loop-i-test.false c.loop-i.invariant

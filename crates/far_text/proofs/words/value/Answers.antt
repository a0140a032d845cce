use Rattle.std.proofs.Common.{arith}
use Rattle.far_text.proofs.Digits.{step_small}
use Rattle.far_text.proofs.words.value.Goals as goal

pub overflow_mul-total : goal.overflow_mul-total
overflow_mul-total c = omega (arith, step_small c.loop-byte.total c.args.word.now c.loop-byte.byte-index c.requires c.loop-byte-test.true c.loop-byte.invariant)

pub overflow_add-total : goal.overflow_add-total
overflow_add-total c = omega (arith, step_small c.loop-byte.total c.args.word.now c.loop-byte.byte-index c.requires c.loop-byte-test.true c.loop-byte.invariant)

use Rattle.std.proofs.Common.{◌≡◌, replicate, take}
use Rattle.switch_staged.proofs.pipeline.fill.Given as goal

abbrev pub invariant-loop-place : goal.invariant-loop-place
invariant-loop-place g l = take l.place-index l.place-items ≡ replicate l.place-index l.item

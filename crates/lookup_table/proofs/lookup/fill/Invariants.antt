use Rattle.std.proofs.Common.{◌≡◌, replicate, take}
use Rattle.lookup_table.proofs.lookup.fill.Given as goal

abbrev pub invariant-loop-slot : goal.invariant-loop-slot
invariant-loop-slot g l = take l.slot-index l.slot-items ≡ replicate l.slot-index l.item

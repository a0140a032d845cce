use Rattle.std.proofs.Common.{◌≡◌, length, take}
use Rattle.stage_workers.proofs.comparing.same_packets.Given as goal

abbrev pub invariant-loop-i : goal.invariant-loop-i
invariant-loop-i l = (take l.i l.one ≡ take l.i l.other) × (length l.one ≡ length l.other)

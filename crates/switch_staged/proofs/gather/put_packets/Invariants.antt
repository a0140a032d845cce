use Rattle.std.proofs.Common.{◌≡◌, ◌+◌, ◌++◌, length, take}
use Rattle.std.specs.Prelude.{map}
use Rattle.switch_staged.specs.Overlap.{packet_of}
use Rattle.switch_staged.proofs.gather.put_packets.Given as goal

-- the packets so far
abbrev pub invariant-loop-k : goal.invariant-loop-k
invariant-loop-k l = record {
  put : take (4 + l.k) l.out ≡ take 4 l.fn.out ++ map packet_of (take l.k l.flights);
  whole : length l.out ≡ 36;
}

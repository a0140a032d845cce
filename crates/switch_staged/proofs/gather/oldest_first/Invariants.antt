use Rattle.std.proofs.Common.{◌≡◌, ◌-◌, ◌≤◌, length, drop}
use Rattle.switch_staged.specs.Overlap.{oldest_first, in_front}
use Rattle.switch_staged.proofs.gather.oldest_first.Given as goal

-- the packets of the last stages
abbrev pub invariant-loop-k : goal.invariant-loop-k
invariant-loop-k l = record {
  gathered : l.packets ≡ in_front 36 (oldest_first (drop (36 - l.k) l.standing));
  count : l.count ≡ length (oldest_first (drop (36 - l.k) l.standing));
  few : l.count ≤ l.k;
  whole : length l.packets ≡ 36;
}

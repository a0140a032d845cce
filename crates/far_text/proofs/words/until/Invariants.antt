use Rattle.std.proofs.Common.{◌≡◌, ◌+◌, ◌-◌, ◌≤◌, length, drop}
use Rattle.far_text.specs.Pieces.{until}
use Rattle.far_text.proofs.words.until.Given as goal

-- those that were passed and those of the rest are all
abbrev pub invariant-loop-at : goal.invariant-loop-at
invariant-loop-at l = record {
  count : l.at + until l.mark (drop l.at l.bytes) ≡ until l.mark l.bytes;
  within : l.at ≤ length l.bytes;
}

abbrev pub decreases-loop-at : goal.decreases-loop-at
decreases-loop-at l = length l.bytes - l.at

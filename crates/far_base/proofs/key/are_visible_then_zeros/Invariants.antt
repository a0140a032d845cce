use Rattle.std.proofs.Common.{◌≡◌, ◌≤◌, drop, get_or}
use Rattle.far_base.specs.Key.{visible_then_zeros}
use Rattle.far_base.specs.declared.key.TheConstants.{KEY_LENGTH}
use Rattle.far_base.proofs.key.are_visible_then_zeros.Given as goal

-- what was found of the bytes from here on
abbrev pub invariant-loop-at : goal.invariant-loop-at
invariant-loop-at l = record {
  within : l.at ≤ KEY_LENGTH;
  next : l.next ≡ get_or l.bytes l.at 0;
  fit : l.fit ≡ visible_then_zeros (drop l.at l.bytes);
}

abbrev pub decreases-loop-at : goal.decreases-loop-at
decreases-loop-at l = l.at

use Rattle.std.proofs.Common.{◌≡◌, ◌-◌, ◌≤◌, ◌++◌, take, drop}
use Rattle.far_base.specs.Key.{key_text}
use Rattle.far_base.specs.declared.key.TheConstants.{KEY_LENGTH}
use Rattle.far_base.proofs.key.Key.text.Given as goal

-- what was passed and the text of the rest are the text
abbrev pub invariant-loop-end : goal.invariant-loop-end
invariant-loop-end l = record {
  text : take l.end l.self-inside.bytes ++ key_text (drop l.end l.self-inside.bytes) ≡ key_text l.self-inside.bytes;
  within : l.end ≤ KEY_LENGTH;
}

abbrev pub decreases-loop-end : goal.decreases-loop-end
decreases-loop-end l = KEY_LENGTH - l.end

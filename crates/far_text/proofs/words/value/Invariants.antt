use Rattle.std.proofs.Common.{◌≡◌, drop}
use Rattle.far_text.specs.Numbers.{value_from}
use Rattle.far_text.proofs.words.value.Given as goal

-- the number so far and the digits to come give the number of all
abbrev pub invariant-loop-byte : goal.invariant-loop-byte
invariant-loop-byte l = value_from l.total (drop l.byte-index l.word) ≡ value_from 0 l.word

use Rattle.std.proofs.Common.{◌≡◌, drop}
use Rattle.far_text.specs.Numbers.{is_digit}
use Rattle.workload_reasons.specs.Spelled.{first_other}
use Rattle.workload_reasons.proofs.spelled.first_no_digit.Given as goal

-- the bytes so far pass
abbrev pub invariant-loop-byte : goal.invariant-loop-byte
invariant-loop-byte l = first_other is_digit (drop l.byte-index l.word) ≡ first_other is_digit l.word

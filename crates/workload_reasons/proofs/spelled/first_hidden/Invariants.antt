use Rattle.std.proofs.Common.{◌≡◌, drop}
use Rattle.far_base.specs.Key.{is_visible}
use Rattle.workload_reasons.specs.Spelled.{first_other}
use Rattle.workload_reasons.proofs.spelled.first_hidden.Given as goal

-- the bytes so far pass
abbrev pub invariant-loop-byte : goal.invariant-loop-byte
invariant-loop-byte l = first_other is_visible (drop l.byte-index l.word) ≡ first_other is_visible l.word

use Rattle.std.proofs.Common.{◌≡◌, drop}
use Rattle.workload_reasons.specs.Heads.{is_plain}
use Rattle.workload_reasons.specs.Spelled.{first_other}
use Rattle.workload_reasons.proofs.heads.first_odd.Given as goal

-- the bytes so far pass
abbrev pub invariant-loop-byte : goal.invariant-loop-byte
invariant-loop-byte l = first_other is_plain (drop l.byte-index l.line) ≡ first_other is_plain l.line

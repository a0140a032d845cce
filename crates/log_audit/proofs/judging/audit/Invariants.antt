use Rattle.std.proofs.Common.{◌≡◌, take}
use Rattle.log_audit.specs.Walk.{HasSeen}
use Rattle.log_audit.proofs.judging.audit.Given as goal

-- the lines so far were seen
abbrev pub invariant-loop-line : goal.invariant-loop-line
invariant-loop-line l = record {
  seen : HasSeen (take l.line-index l.lines) l.seen;
  count : l.count ≡ l.line-index;
}

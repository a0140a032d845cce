use Rattle.std.proofs.Common.{◌≡◌, take}
use Rattle.far_model.specs.History.{nothing}
use Rattle.log_audit.specs.Walk.{map_after}
use Rattle.log_audit.proofs.reason.set_last.Given as goal

-- the lines so far leave the key set to this
abbrev pub invariant-loop-line : goal.invariant-loop-line
invariant-loop-line l = l.last ≡ map_after (λ k. nothing) (take l.line-index l.lines) l.key

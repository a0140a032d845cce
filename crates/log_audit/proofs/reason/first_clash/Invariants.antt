use Rattle.std.proofs.Common.{◌≡◌, false, take}
use Rattle.far_model.specs.Members.{Each}
use Rattle.log_audit.specs.Walk.{clash}
use Rattle.log_audit.specs.declared.line.HistLine.{HistLine}
use Rattle.log_audit.proofs.reason.first_clash.Given as goal

-- none of the lines so far clashes with this one
abbrev pub invariant-loop-earlier : goal.invariant-loop-earlier
invariant-loop-earlier l = record {
  place : l.place ≡ l.earlier-index;
  apart : Each (λ (x : HistLine). clash x l.line ≡ false) (take l.earlier-index l.before);
}

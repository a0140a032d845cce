use Rattle.std.proofs.Common.{◌≡◌, slice_get, Some, sym, ap, ◌∙◌, rules}
use Rattle.std.proofs.lemmas.Option.{slice_get-get_or}
use Rattle.log_audit.proofs.Reasons.{set_next}
use Rattle.log_audit.proofs.reason.set_last.Goals as goal
use Rattle.log_audit.proofs.reason.set_last.Goals.{then-sets, else-sets}

pub loop-line-preserved : goal.loop-line-preserved
loop-line-preserved c =
    let at : slice_get c.args.lines.now c.loop-line.line-index ≡ Some c.line-item.result = slice_get-get_or c.args.lines.now c.loop-line.line-index c.line-item.result c.loop-line-test.true ∙ ap Some (sym c.line-item.is) in
    set_next c.args.lines.now c.loop-line.line-index c.line-item.result c.args.key.now c.loop-line.last c.if-sets.last at c.loop-line.invariant
    (elim c.if-sets.branch [ then-sets w ↦ search rules | else-sets w ↦ search rules ])

use Rattle.std.proofs.Common.{◌≡◌, ℕ, ◌+◌, [], ◌∷◌, ◌++◌, take, sym, ap, ◌∙◌, arith}
use Rattle.std.proofs.lemmas.List.{take_more}
use Rattle.log_audit.specs.declared.line.HistLine.{HistLine}
use Rattle.log_audit.proofs.Judged.{first_bad}
use Rattle.log_audit.proofs.judging.audit.Goals as goal

pub returns-then-not-branch-clause-judged : goal.returns-then-not-branch-clause-judged
returns-then-not-branch-clause-judged c =
    let seen = c.loop-line.invariant.seen in
    let next : c.loop-line.count + 1 ≡ c.loop-line.line-index + 1 = omega (arith, c.loop-line.invariant.count) in
    let more = take_more c.args.lines.now c.loop-line.line-index c.line-item.result c.loop-line-test.true in
    first_bad c.args.lines.now c.loop-line.line-index (c.loop-line.count + 1) c.line-item.result next
    (ap (λ (n : ℕ). take n c.args.lines.now) next ∙ more ∙ ap (λ (l : HistLine). take c.loop-line.line-index c.args.lines.now ++ l ∷ []) (sym c.line-item.is))
    seen.good (c.in_ok-take.ensures.no c.if-not-branch.true (take c.loop-line.line-index c.args.lines.now) seen)

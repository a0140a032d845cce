use Rattle.std.proofs.Common.{arith, rules}
use Rattle.workload_reasons.specs.declared.reason.LineReason.{LineReason}
use Rattle.workload_reasons.proofs.Refused.{refused, is_told}
use Rattle.workload_reasons.proofs.finding.explain.Goals as goal

pub returns-then-number-eq0-clause-some : goal.returns-then-number-eq0-clause-some
returns-then-number-eq0-clause-some c bad =
    let r = refused c.args.text.now c.args.number bad in
    absurd (omega (arith, r.counted, c.if-number-eq0.true))

pub returns-in-Some-clause-some : goal.returns-in-Some-clause-some
returns-in-Some-clause-some c bad =
    is_told LineReason c.whole_reason.result c.args.text.now c.args.number c.in-Some.line.now
    (refused c.args.text.now c.args.number bad) (search rules) c.whole_reason.ensures.head c.whole_reason.ensures.order

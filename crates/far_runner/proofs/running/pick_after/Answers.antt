use Rattle.std.proofs.Common.{◌≡◌, ◌+◌, false, sym, ◌∙◌, subst}
use Rattle.far_runner.proofs.Picking.{next_is}
use Rattle.far_runner.specs.Picked.{IsAt, is_order}
use Rattle.workload.specs.Picks.{Picking}
use Rattle.far_runner.proofs.running.pick_after.Goals as goal

pub returns-clause-pick : goal.returns-clause-pick
returns-clause-pick c = λ n at same.
    let plain : is_order c.args.event ≡ false = sym c.is_an_order.ensures ∙ c.if-is_an_order.false in
    rw plain (c.next.ensures.pick ∙ (next_is c.args.load.now (n + 1) c.args.picker.now at).0)

pub returns-clause-at : goal.returns-clause-at
returns-clause-at c = λ n at.
    let plain : is_order c.args.event ≡ false = sym c.is_an_order.ensures ∙ c.if-is_an_order.false in
    rw plain (subst (λ (p : Picking). IsAt c.args.load.now (n + 1 + 1) p) (sym c.next.ensures.rest) (next_is c.args.load.now (n + 1) c.args.picker.now at).1)

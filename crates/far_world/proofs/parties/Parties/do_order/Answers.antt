use Rattle.std.proofs.Common.{◌≡◌, length, ap, ◌∙◌, arith}
use Rattle.far_world.proofs.Delivering.{done_kept, few_orders, place_within}
use Rattle.far_world.specs.Scene.{Scene}
use Rattle.far_world.proofs.parties.Parties.do_order.Goals as goal

pub overflow_add-self : goal.overflow_add-self
overflow_add-self g c =
    let e : c.self-2.inside.done ≡ c.args.self.now.state.done = ap (λ (z : Scene). z.state.done) c.self-2.view_is ∙ (ap (λ (z : Scene). z.state.done) c.in_ok-obey.ensures.ok ∙ done_kept c.args.self.now.plan c.args.self.now.state c.order_at-order.result) in
    let less = place_within c.self.inside.plan.orders c.self.inside.done c.order_at-order.result c.order_at-order.ensures in
    let d = ap (λ (z : Scene). z.state.done) c.self.view_is in
    let n = ap (λ (z : Scene). length z.plan.orders) c.self.view_is in
    omega (arith, e, less, d, n, few_orders c.args.self.now.plan c.requires.stands.valid)

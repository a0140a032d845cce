use Rattle.std.proofs.Common.{◌≡◌, sym, ap, ◌∙◌}
use Rattle.far_model.specs.Members.{is_empty}
use Rattle.far_world.proofs.Counting.{finished_is}
use Rattle.far_world.specs.Scene.{Scene}
use Rattle.far_world.specs.Seats.{clients_of}
use Rattle.far_world.proofs.parties.Parties.is_finished.Goals as goal

pub returns : goal.returns
returns g c =
    let s = c.args.self.now.state in
    let clients : s.clients ≡ clients_of c.deref.result.now = sym (ap (λ (z : Scene). z.state.clients) c.self.view_is) ∙ ap clients_of (sym c.deref.ensures.value) in
    c.all_hold.ensures ∙ finished_is c.args.self.now.plan s c.deref.result.now _ _ _ _ _ clients c.are_done-clients.ensures
    c.are_orders_done-orders.ensures (ap (λ (z : Scene). z.state.running) c.self.view_is)
    (c.is_empty-messages.ensures ∙ ap (λ (z : Scene). is_empty z.state.bag) c.self.view_is)
    c.is_controller_idle-controller.ensures

use Rattle.std.proofs.Common.{ℕ, Bool, sym, ap, ◌∙◌, cond}
use Rattle.std.specs.List.{count_by}
use Rattle.std.specs.Prelude.{is_some}
use Rattle.far_model.specs.Controller.{ready, tick}
use Rattle.far_model.specs.Events.{can_deliver}
use Rattle.far_world.proofs.Counting.{counted, senders_are}
use Rattle.far_world.specs.Scene.{Scene}
use Rattle.far_world.proofs.parties.Parties.choices.Goals as goal

pub returns-clause-senders : goal.returns-clause-senders
returns-clause-senders g c =
    senders_are c.args.self.now.state.clients c.self.inside.clients.items _ (sym (ap (λ (z : Scene). z.state.clients) c.self.view_is)) c.self.invariant.sends

pub returns-clause-deliverable : goal.returns-clause-deliverable
returns-clause-deliverable g c = c.count_deliverable.ensures.count ∙ ap (λ (z : Scene). count_by (can_deliver z.state.running) z.state.bag) c.self.view_is

pub returns-clause-tick : goal.returns-clause-tick
returns-clause-tick g c = c.self.invariant.ticks ∙ ap (λ (z : Scene). is_some (tick z.state.controller)) c.self.view_is

pub returns-clause-restart : goal.returns-clause-restart
returns-clause-restart g c = c.is_some.ensures ∙ (ap is_some c.ready.ensures ∙ ap (λ (z : Scene). is_some (ready z.state.controller)) c.self.view_is)

pub returns-clause-all : goal.returns-clause-all
returns-clause-all g c =
    let one = λ (b : Bool). cond {A = ℕ} b 1 0 in
    sym (counted c.args.self.now.state c.self.inside.clients.items _ _ _ _ _ (sym (ap (λ (z : Scene). z.state.clients) c.self.view_is)) c.self.invariant.sends
    (c.count_deliverable.ensures.count ∙ ap (λ (z : Scene). count_by (can_deliver z.state.running) z.state.bag) c.self.view_is)
    (ap one (c.self.invariant.ticks ∙ ap (λ (z : Scene). is_some (tick z.state.controller)) c.self.view_is))
    (ap one c.can_recover.ensures)
    (ap one (c.is_some.ensures ∙ (ap is_some c.ready.ensures ∙ ap (λ (z : Scene). is_some (ready z.state.controller)) c.self.view_is))))

use Rattle.std.proofs.Common.{◌<◌, length, sym, ap, ◌∙◌, subst}
use Rattle.std.specs.List.{remove}
use Rattle.far_base.specs.declared.packet.Message.{Message}
use Rattle.far_model.proofs.Members.{among_at}
use Rattle.far_model.specs.State.{State}
use Rattle.far_world.proofs.Delivering.{still_there, taken_out}
use Rattle.far_world.specs.Standing.{unasked}
use Rattle.far_world.specs.Scene.{Scene}
use Rattle.far_world.proofs.parties.Parties.deliver_to_others.Goals as goal

pub handle-requires-clause-comes : goal.handle-requires-clause-comes
handle-requires-clause-comes g c =
    let m : Message = record { from = c.requires.there.0; to = c.args.to; packet = c.args.packet.now } in
    c.requires.stands.addressed m (among_at m c.args.self.now.state.bag c.args.place c.requires.there.1)

pub remove-requires : goal.remove-requires
remove-requires g c =
    let m : Message = record { from = c.requires.there.0; to = c.args.to; packet = c.args.packet.now } in
    subst (λ (z : Scene). c.args.place < length z.state.bag) (sym (c.self.view_is ∙ c.in_ok-handle.ensures.ok))
    (still_there c.args.self.now.plan unasked c.args.self.now.state c.args.place m c.args.to c.args.packet.now c.requires.there.1)

pub returns-clause-ok : goal.returns-clause-ok
returns-clause-ok g c = rw c.remove.ensures.messages
    (ap (λ (z : Scene). record z { state = record z.state { bag = remove z.state.bag c.args.place } }) (c.self.view_is ∙ c.in_ok-handle.ensures.ok)
    ∙ ap (λ (s : State). record c.args.self.now { state = s }) (taken_out c.args.self.now.plan unasked c.args.self.now.state c.args.place c.requires.there.0 c.args.to c.args.packet.now c.requires.there.1))

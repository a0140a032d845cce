use Rattle.std.proofs.Common.{[], ◌<◌, length, sym, ap, ◌∙◌, subst}
use Rattle.std.specs.List.{remove}
use Rattle.std.specs.Prelude.{Some}
use Rattle.far_base.specs.declared.packet.Message.{Message}
use Rattle.far_base.specs.declared.party.Party.TheVariants.{Server}
use Rattle.far_model.proofs.Members.{among_at}
use Rattle.far_model.specs.State.{State}
use Rattle.far_world.proofs.Delivering.{for_server, server_after, still_there}
use Rattle.far_world.specs.Scene.{Scene}
use Rattle.far_world.proofs.parties.Parties.deliver_to_server.Goals as goal

pub server_handles-requires-clause-there : goal.server_handles-requires-clause-there
server_handles-requires-clause-there g c =
    let m : Message = record { from = c.requires.there.0; to = Server c.args.number; packet = c.args.packet.now } in
    rw c.requires.stands.keeper (c.requires.stands.addressed m (among_at m c.args.self.now.state.bag c.args.place c.requires.there.1)).0

pub server_handles-requires-clause-kind : goal.server_handles-requires-clause-kind
server_handles-requires-clause-kind g c =
    let m : Message = record { from = c.requires.there.0; to = Server c.args.number; packet = c.args.packet.now } in
    for_server c.args.packet.now (c.requires.stands.addressed m (among_at m c.args.self.now.state.bag c.args.place c.requires.there.1)).1

pub remove-requires : goal.remove-requires
remove-requires g c =
    let m : Message = record { from = c.requires.there.0; to = Server c.args.number; packet = c.args.packet.now } in
    let h = c.in_ok-server_handles.ensures.ok in
    subst (λ (z : State). c.args.place < length z.bag) (sym (ap (λ (z : Scene). z.state) c.self.view_is ∙ h.state))
    (still_there c.args.self.now.plan (record { reply = Some h.reply; records = [] }) c.args.self.now.state c.args.place m (Server c.args.number) c.args.packet.now c.requires.there.1)

pub returns-clause-ok : goal.returns-clause-ok
returns-clause-ok g c =
    server_after c.args.self.now c.server_handles.new.self _ c.args.place c.args.number c.requires.there.0 c.args.packet.now c.requires.there.1 c.in_ok-server_handles.ensures.ok
    (rw c.remove.ensures.messages (ap (λ (z : Scene). record z { state = record z.state { bag = remove z.state.bag c.args.place } }) c.self.view_is))
    c.requires.stands.told c.server_handles.ensures.later

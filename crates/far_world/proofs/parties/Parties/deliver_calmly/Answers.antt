use Rattle.far_world.proofs.Delivering.{others_after}
use Rattle.far_world.proofs.parties.Parties.deliver_calmly.Goals as goal

pub returns-in-Ok-clause-ok : goal.returns-in-Ok-clause-ok
returns-in-Ok-clause-ok g c = others_after c.args.self.now c.deliver_to_others.new.self c.args.place c.requires.there.0 c.args.to c.args.packet.now c.requires.others c.requires.there.1 c.in-Ok.ensures.ok c.requires.stands.told

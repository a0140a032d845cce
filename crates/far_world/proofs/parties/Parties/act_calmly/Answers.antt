use Rattle.far_world.proofs.Delivering.{calm_after}
use Rattle.far_world.proofs.parties.Parties.act_calmly.Goals as goal

pub returns-in-Ok-clause-ok : goal.returns-in-Ok-clause-ok
returns-in-Ok-clause-ok g c = calm_after c.args.self.now c.act.new.self c.args.event c.requires.calm c.in-Ok.ensures.ok c.requires.stands.told

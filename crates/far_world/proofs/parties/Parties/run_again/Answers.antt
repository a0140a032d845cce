use Rattle.far_world.proofs.Delivering.{restart_after}
use Rattle.far_world.proofs.parties.Parties.run_again.Goals as goal

pub returns-clause-ok : goal.returns-clause-ok
returns-clause-ok g c = restart_after c.args.self.now c.restart.new.self c.in_ok-restart.ensures.ok c.requires.stands.told c.requires.stands.servers c.requires.stands.keeper c.restart.ensures.later

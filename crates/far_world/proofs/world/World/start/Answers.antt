use Rattle.far_world.proofs.Worlds.{opens}
use Rattle.far_world.proofs.world.World.start.Goals as goal

pub invariant_of-result : goal.invariant_of-result
invariant_of-result g c = opens c.args.plan _ c.in_ok-parties.parties c.new.result.items c.requires.valid c.in_ok-parties.ensures.ok c.new.ensures.items

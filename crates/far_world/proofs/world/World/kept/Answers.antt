use Rattle.std.proofs.Common.{arith}
use Rattle.far_world.proofs.Worlds.{all_servers, few_clients}
use Rattle.far_world.specs.Reached.{ran_to}
use Rattle.far_world.proofs.world.World.kept.Goals as goal

pub kept-requires-clause-servers : goal.kept-requires-clause-servers
kept-requires-clause-servers g c = all_servers (ran_to c.self.inside.parties c.self.inside.events.items) c.self.invariant c.runs_are_sound.ensures.sound c.runs_are_kept_runs.ensures.run c.runs_are_kept_runs.ensures.state

pub kept-requires-clause-clients : goal.kept-requires-clause-clients
kept-requires-clause-clients g c = let few = few_clients (ran_to c.self.inside.parties c.self.inside.events.items) c.self.invariant c.runs_are_sound.ensures.sound in omega (arith, few)

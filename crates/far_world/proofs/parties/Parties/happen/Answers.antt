use Rattle.far_world.proofs.Standings.{stands}
use Rattle.far_world.proofs.parties.Parties.happen.Goals as goal

pub occur-requires-clause-stands : goal.occur-requires-clause-stands
occur-requires-clause-stands g c = stands c.args.event c.args.self.now c.requires.ready

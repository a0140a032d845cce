use Rattle.std.proofs.Common.{sym, ◌∙◌}
use Rattle.far_world.proofs.FirstEvents.{first_enabled}
use Rattle.far_world.proofs.world.World.step_for.Goals as goal

pub turn-requires : goal.turn-requires
turn-requires g c = first_enabled c.args.self.now.plan c.args.self.now.state c.args.who c.in-Some.event (sym c.first_event.ensures ∙ c.in-Some.is)

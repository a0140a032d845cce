use Rattle.std.proofs.Common.{◌≡◌, true, subst}
use Rattle.far_model.specs.Answered.{AllAnswered}
use Rattle.far_model.specs.Runs.{is_finished}
use Rattle.far_world.proofs.Worlds.{answered_where}
use Rattle.far_world.specs.Reached.{Ran, ran_to}
use Rattle.far_world.proofs.world.World.log.Goals as goal

pub returns-clause-answered : goal.returns-clause-answered
returns-clause-answered g c =
    subst (λ (ran : Ran). is_finished ran.plan ran.state ≡ true → AllAnswered ran.plan ran.state) c.self.view_is
    (answered_where (ran_to c.self.inside.parties c.self.inside.events.items) c.self.invariant c.runs_are_logged.ensures.answered)

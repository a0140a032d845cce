use Rattle.std.proofs.Common.{◌<◌, length, subst}
use Rattle.std.specs.Prelude.{◌^◌}
use Rattle.far_world.proofs.Worlds.{few_events}
use Rattle.far_world.specs.Reached.{Ran, ran_to}
use Rattle.far_world.proofs.world.World.next_event.Goals as goal

pub returns-clause-few : goal.returns-clause-few
returns-clause-few g c =
    let w = ran_to c.self.inside.parties c.self.inside.events.items in
    subst (λ (ran : Ran). length ran.events < 2 ^ 28) c.self.view_is (few_events w c.self.invariant c.steps_counted.ensures.step c.runs_have_room.ensures.room)

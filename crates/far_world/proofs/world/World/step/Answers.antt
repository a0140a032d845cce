use Rattle.std.proofs.Common.{◌≡◌, true, sym, subst}
use Rattle.far_base.specs.declared.event.Event.{Event}
use Rattle.far_model.specs.Events.{is_enabled}
use Rattle.far_world.proofs.Choosing.{next_enabled}
use Rattle.far_world.proofs.Worlds.{steps_on}
use Rattle.far_world.proofs.world.World.step.Goals as goal

pub turn-requires : goal.turn-requires
turn-requires g c =
    let w = c.args.self.now in
    subst (λ (x : Event). is_enabled w.plan w.state x ≡ true) (sym c.next_event-event.ensures.chosen) (next_enabled w.plan w.state c.args.pick c.requires)

pub returns-clause-stepped : goal.returns-clause-stepped
returns-clause-stepped g c = steps_on c.args.self.now c.args.pick c.next_event-event.result c.turn.new.self c.next_event-event.ensures.chosen c.next_event-event.ensures.few c.in_ok-turn.ensures.turned

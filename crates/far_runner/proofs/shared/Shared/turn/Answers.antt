use Rattle.std.proofs.Common.{◌+◌, refl, ◌∙◌, subst, arith}
use Rattle.std.specs.Prelude.{Option}
use Rattle.far_base.specs.declared.event.Event.{Event}
use Rattle.far_world.specs.Turning.{TurnsFor}
use Rattle.far_runner.proofs.Answering.{counted_after}
use Rattle.far_runner.proofs.TurnLaws.{still_tells, turn_is}
use Rattle.far_runner.specs.SharedView.{SharedView}
use Rattle.far_runner.specs.Turns.{IsTurn}
use Rattle.far_runner.specs.declared.shared.Made.{Made}
use Rattle.far_runner.proofs.shared.Shared.turn.Goals as goal

pub overflow_add-self : goal.overflow_add-self
overflow_add-self g c =
    let turned = subst (λ (found : Option Event). TurnsFor c.self.inside.world c.args.who found c.step_for.new.self) c.in-Ok-Some.field-0-is c.in-Ok-Some.ensures.turned in
    let count =
    counted_after c.runs_are_sound.ensures.sound c.runs_are_kept_runs.ensures.run c.runs_are_kept_runs.ensures.state c.self.inside.world c.step_for.new.self c.in-Ok-Some.field-0-0 c.log.ensures.reached c.self.invariant.0
    (turned.some c.in-Ok-Some.field-0-0 refl) c.self.inside.answers c.answers_from.result c.len-lines.result c.log.result.now.lines c.log-in-Ok-Some.result.now.lines c.self.invariant.1
    c.log.ensures.lines c.len-lines.ensures c.log-in-Ok-Some.ensures.lines c.answers_from.ensures in
    omega (arith, count, c.note_few.ensures.few)

pub invariant_of-self-in-Ok-Some : goal.invariant_of-self-in-Ok-Some
invariant_of-self-in-Ok-Some g c =
    let turned = subst (λ (found : Option Event). TurnsFor c.self.inside.world c.args.who found c.step_for.new.self) c.in-Ok-Some.field-0-is c.in-Ok-Some.ensures.turned in
    let count =
    counted_after c.runs_are_sound.ensures.sound c.runs_are_kept_runs.ensures.run c.runs_are_kept_runs.ensures.state c.self.inside.world c.step_for.new.self c.in-Ok-Some.field-0-0 c.log.ensures.reached c.self.invariant.0
    (turned.some c.in-Ok-Some.field-0-0 refl) c.self.inside.answers c.answers_from.result c.len-lines.result c.log.result.now.lines c.log-in-Ok-Some.result.now.lines c.self.invariant.1
    c.log.ensures.lines c.len-lines.ensures c.log-in-Ok-Some.ensures.lines c.answers_from.ensures in
    (still_tells c.self.inside.world c.step_for.new.self c.args.who c.in-Ok-Some.field-0-0 turned c.self.invariant.0, count)

pub returns-in-Ok-Some-clause-turned : goal.returns-in-Ok-Some-clause-turned
returns-in-Ok-Some-clause-turned g c =
    let turned = subst (λ (found : Option Event). TurnsFor c.self.inside.world c.args.who found c.step_for.new.self) c.in-Ok-Some.field-0-is c.in-Ok-Some.ensures.turned in
    let count =
    counted_after c.runs_are_sound.ensures.sound c.runs_are_kept_runs.ensures.run c.runs_are_kept_runs.ensures.state c.self.inside.world c.step_for.new.self c.in-Ok-Some.field-0-0 c.log.ensures.reached c.self.invariant.0
    (turned.some c.in-Ok-Some.field-0-0 refl) c.self.inside.answers c.answers_from.result c.len-lines.result c.log.result.now.lines c.log-in-Ok-Some.result.now.lines c.self.invariant.1
    c.log.ensures.lines c.len-lines.ensures c.log-in-Ok-Some.ensures.lines c.answers_from.ensures in
    let made : Made = record { who = c.args.who; answered = c.last_answered.result; steps = c.steps.result; answers = c.self.inside.answers + c.answers_from.result } in
    subst (λ (v : SharedView). IsTurn v.world made c.step_for.new.self) c.self.view_is
    (turn_is c.self.inside.world c.step_for.new.self c.args.who c.in-Ok-Some.field-0-0 made turned refl c.last_answered.ensures (c.steps.ensures ∙ c.log-in-Ok-Some-2.ensures.steps) count)

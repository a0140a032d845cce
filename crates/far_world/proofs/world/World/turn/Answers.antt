use Rattle.std.proofs.Common.{◌≡◌, List, [], ◌∷◌, ◌++◌, true, sym, ap, ◌∙◌, subst}
use Rattle.far_base.specs.declared.event.Event.{Event}
use Rattle.far_model.specs.Events.{is_enabled}
use Rattle.far_world.proofs.Reaching.{reached_on}
use Rattle.far_world.proofs.Worlds.{ready, turned_on}
use Rattle.far_world.specs.Reached.{IsReached, Ran, ran_to}
use Rattle.far_world.specs.Turning.{HasTurned}
use Rattle.far_world.proofs.world.World.turn.Goals as goal

pub happen-requires : goal.happen-requires
happen-requires g c =
    let w = ran_to c.self.inside.parties c.self.inside.events.items in
    let e = c.args.event in
    let able : is_enabled w.plan w.state e ≡ true = subst (λ (ran : Ran). is_enabled ran.plan ran.state e ≡ true) (sym c.self.view_is) c.requires in
    record { ready = ready w c.self.invariant e able c.runs_are_sound.ensures.sound c.runs_are_sound.ensures.addressed c.runs_have_room.ensures.room c.runs_are_kept_runs.ensures.run c.runs_are_kept_runs.ensures.state }

pub invariant_of-self-2 : goal.invariant_of-self-2
invariant_of-self-2 g c =
    let w = ran_to c.self.inside.parties c.self.inside.events.items in
    let e = c.args.event in
    let able : is_enabled w.plan w.state e ≡ true = subst (λ (ran : Ran). is_enabled ran.plan ran.state e ≡ true) (sym c.self.view_is) c.requires in
    let on : c.push_reserved.new.self.items ≡ w.events ++ e ∷ [] = c.push_reserved.ensures.items ∙ ap (λ (es : List Event). es ++ e ∷ []) c.reserve.ensures.items in
    subst (λ (es : List Event). IsReached (ran_to c.happen.new.self es)) (sym on) (reached_on w e c.happen.new.self c.self.invariant able c.in_ok-happen.ensures.ok)

pub returns-clause-turned : goal.returns-clause-turned
returns-clause-turned g c =
    let w = ran_to c.self.inside.parties c.self.inside.events.items in
    let e = c.args.event in
    let able : is_enabled w.plan w.state e ≡ true = subst (λ (ran : Ran). is_enabled ran.plan ran.state e ≡ true) (sym c.self.view_is) c.requires in
    let on : c.push_reserved.new.self.items ≡ w.events ++ e ∷ [] = c.push_reserved.ensures.items ∙ ap (λ (es : List Event). es ++ e ∷ []) c.reserve.ensures.items in
    subst (λ (ran : Ran). HasTurned ran e (ran_to c.happen.new.self c.push_reserved.new.self.items)) c.self.view_is
    (turned_on w c.self.invariant e c.happen.new.self c.push_reserved.new.self.items able c.in_ok-happen.ensures.ok on c.runs_end.ensures.lowers)

use Rattle.std.proofs.Common.{◌≡◌, Bool, ◌+◌, ◌-◌, ◌≤◌, ap, ◌∙◌, subst, Some, get_or, arith}
use Rattle.std.specs.Prelude.{is_some, slice_get}
use Rattle.far_base.specs.declared.event.Event.TheVariants.{Deliver, Tick}
use Rattle.far_model.specs.Controller.{tick}
use Rattle.far_model.specs.Events.{can_recover, deliver_choices}
use Rattle.far_world.proofs.Counting.{deliver_there, late_there}
use Rattle.far_world.specs.Choices.{controller_choices}
use Rattle.far_world.specs.Scene.{Scene}
use Rattle.far_world.proofs.parties.Parties.event_among.Goals as goal

pub returns-then-place-choices-2 : goal.returns-then-place-choices-2
returns-then-place-choices-2 g c =
    let n = c.args.choices.now.senders in
    deliver_there c.args.self.now.state c.args.place n (Deliver c.deliverable_at.result) c.requires.senders c.if-place-choices.false
    (subst (λ (z : Scene). slice_get (deliver_choices z.state.running 0 z.state.bag) (c.args.place - n) ≡ Some (Deliver c.deliverable_at.result)) c.self.view_is c.deliverable_at.ensures)

pub returns : goal.returns
returns g c =
    let s = c.args.self.now.state in
    let own = c.args.choices.now in
    let k = c.args.place in
    let after : own.senders + own.deliverable ≤ k = omega (arith, c.if-place-choices.false, c.if-place-choices-2.false) in
    let at = k - own.senders - own.deliverable in
    c.controller_event.ensures
    ∙ (ap (λ (b : Bool). get_or (controller_choices b own.recover own.restart) at Tick) c.requires.tick
    ∙ (ap (λ (b : Bool). get_or (controller_choices (is_some (tick s.controller)) b own.restart) at Tick) c.requires.recover
    ∙ (ap (λ (b : Bool). get_or (controller_choices (is_some (tick s.controller)) (can_recover s) b) at Tick) c.requires.restart
    ∙ late_there s k own.senders own.deliverable c.requires.senders c.requires.deliverable after)))

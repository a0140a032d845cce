use Rattle.std.proofs.Common.{sym, ap, ◌∙◌, subst}
use Rattle.far_model.specs.View.{SwitchView, opening_view}
use Rattle.switch_staged.specs.Together.{switch_of, AreOfOne}
use Rattle.switch_staged.proofs.GroupLaws.{opening_view_is, opening_one}
use Rattle.switch_staged.proofs.switch.StagedSwitchSwitch.reset.Goals as goal

pub invariant_of-self : goal.invariant_of-self
invariant_of-self c = subst AreOfOne (sym c.reset.ensures) (opening_one c.self.inside.groups.head.config c.args.epoch c.args.counter)

pub returns : goal.returns
returns c =
    ap switch_of c.reset.ensures
    ∙ opening_view_is c.self.inside.groups.head.config c.args.epoch c.args.counter
    ∙ ap (λ (v : SwitchView). opening_view v.config c.args.epoch c.args.counter) c.self.view_is

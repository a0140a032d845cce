use Rattle.std.proofs.Common.{sym, ap, ◌∙◌, length}
use Rattle.far_base.specs.declared.plan.Config.{Config}
use Rattle.far_model.specs.View.{SwitchView}
use Rattle.switch_staged.proofs.FrontLaws.{slots_count}
use Rattle.switch_staged.proofs.switch.StagedSwitch.slots.Goals as goal

pub returns-clause-count : goal.returns-clause-count
returns-clause-count c =
    ap (λ (x : Config). x.slots) c.config.ensures.value
    ∙ sym (slots_count c.self.inside.groups c.self.invariant)
    ∙ ap (λ (v : SwitchView). length v.slots) c.self.view_is

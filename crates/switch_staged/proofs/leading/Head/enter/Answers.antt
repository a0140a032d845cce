use Rattle.std.proofs.Common.{ap, ◌∙◌}
use Rattle.switch_staged.specs.Groups.{HeadView, head_left, led}
use Rattle.switch_staged.proofs.leading.Head.enter.Goals as goal

pub returns-clause-flight : goal.returns-clause-flight
unfolding head_left led
returns-clause-flight c =
    c.behind.ensures
    ∙ ap (λ (h : HeadView). record { config = h.config; course = c.lead.new.flight }) (c.self.view_is ∙ c.lead.ensures.head)
    ∙ ap (λ f. record { config = c.args.self.now.config; course = f }) c.lead.ensures.flight

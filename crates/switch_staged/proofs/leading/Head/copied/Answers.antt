use Rattle.std.proofs.Common.{rules, refl, ap, ◌∙◌}
use Rattle.switch_staged.proofs.FrontLaws.{same_front}
use Rattle.switch_staged.proofs.leading.Head.copied.Goals as goal

pub returns : goal.returns
returns c =
    ap (λ r. record { config = c.self.inside.config; front = r })
    (same_front c.in_ok-copied.field-0 c.self.inside.gate c.in_ok-copied_table.field-0.bound c.self.inside.lookup.bound c.in_ok-copied-2.field-0 c.self.inside.heads c.in_ok-copied-3.field-0 c.self.inside.taken c.in_ok-copied-4.field-0 c.self.inside.hot
    c.in_ok-copied.ensures.cells c.in_ok-copied_table.ensures c.in_ok-copied-2.ensures.cells c.in_ok-copied-3.ensures.cells c.in_ok-copied-4.ensures.cells)
    ∙ c.self.view_is

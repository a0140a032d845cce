use Rattle.std.proofs.Common.{rules, refl, ap, ◌∙◌}
use Rattle.lookup_table.specs.Table.{LookupView}
use Rattle.far_model.specs.View.{HOT_CELLS}
use Rattle.switch_staged.specs.Heads.{empty_head}
use Rattle.switch_staged.specs.Stages.{no_taken, no_hot}
use Rattle.switch_staged.proofs.FrontLaws.{front_opens}
use Rattle.switch_staged.proofs.Opening.{blank}
use Rattle.switch_staged.proofs.leading.Head.new.Goals as goal

pub returns : goal.returns
returns c =
    ap (λ r. record { config = c.args.config; front = r }) (front_opens c.args.config c.args.epoch c.args.counter c.in_ok-new.field-0 c.in_ok-new-2.field-0.bound c.in_ok-new-3.field-0 c.in_ok-new-4.field-0 c.in_ok-new-5.field-0
    (blank _ 1 1 _ _ c.in_ok-new.ensures.cells refl c.opening.ensures)
    (ap (λ (t : LookupView). t.bound) c.in_ok-new-2.ensures)
    (blank _ _ _ _ empty_head c.in_ok-new-3.ensures.cells refl c.empty.ensures)
    (blank _ _ _ _ no_taken c.in_ok-new-4.ensures.cells refl c.never.ensures)
    (blank _ 256 HOT_CELLS _ no_hot c.in_ok-new-5.ensures.cells refl c.new-5.ensures))

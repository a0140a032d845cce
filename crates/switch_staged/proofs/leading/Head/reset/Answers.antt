use Rattle.std.proofs.Common.{rules, refl, ap, ◌∙◌}
use Rattle.std.specs.Prelude.{replicate, None}
use Rattle.lookup_table.specs.Table.{LookupView}
use Rattle.far_model.specs.View.{HOT_CELLS}
use Rattle.switch_staged.specs.Groups.{HeadView, opening_head}
use Rattle.switch_staged.specs.Heads.{empty_head}
use Rattle.switch_staged.specs.Stages.{no_taken, no_hot}
use Rattle.switch_staged.proofs.FrontLaws.{front_opens}
use Rattle.switch_staged.proofs.Opening.{blank}
use Rattle.switch_staged.proofs.leading.Head.reset.Goals as goal

pub returns : goal.returns
returns c =
    ap (λ r. record { config = c.self.inside.config; front = r }) (front_opens c.self.inside.config c.args.epoch c.args.counter c.reset.new.self c.clear.new.self.bound c.reset-2.new.self c.reset-3.new.self c.reset-4.new.self
    (blank _ _ 1 _ _ c.reset.ensures.cells c.self.invariant.one c.opening.ensures)
    (ap (λ (t : LookupView). t.bound) c.clear.ensures ∙ ap (λ n. replicate n None) c.self.invariant.bound_count)
    (blank _ _ _ _ empty_head c.reset-2.ensures.cells c.self.invariant.heads_count c.empty.ensures)
    (blank _ _ _ _ no_taken c.reset-3.ensures.cells c.self.invariant.taken_count c.never.ensures)
    (blank _ _ HOT_CELLS _ no_hot c.reset-4.ensures.cells c.self.invariant.hots c.new.ensures))
    ∙ ap (λ (h : HeadView). opening_head h.config c.args.epoch c.args.counter) c.self.view_is

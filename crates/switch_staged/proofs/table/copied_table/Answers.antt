use Rattle.std.proofs.Common.{arith, ap, ◌∙◌, ◌≡◌, length}
use Rattle.switch_staged.specs.Fronts.{first_bound}
use Rattle.switch_staged.proofs.LookupLaws.{all_bound}
use Rattle.switch_staged.proofs.table.copied_table.Goals as goal

pub returns : goal.returns
returns c =
    c.loop-slot.invariant
    ∙ ap (λ n. first_bound n c.args.from.now.bound) (omega (arith, c.loop-slot-test.false, c.loop-slot.auto.slot-end, c.requires))
    ∙ all_bound c.args.from.now.bound

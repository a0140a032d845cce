use Rattle.std.proofs.Common.{◌≡◌, sym, ◌∙◌}
use Rattle.std.specs.Cmp.Lexicographic.{pointwise_decides, bytes_decides}
use Rattle.switch_staged.proofs.same.same_cells.Goals as goal

pub returns : goal.returns
returns c = λ t. (pointwise_decides bytes_decides c.args.one.now c.args.other.now).0 (sym c.eq.ensures ∙ t)

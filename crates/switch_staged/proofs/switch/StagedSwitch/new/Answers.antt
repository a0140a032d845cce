use Rattle.std.proofs.Common.{sym, ap, ◌∙◌, subst}
use Rattle.switch_staged.specs.Together.{switch_of, AreOfOne}
use Rattle.switch_staged.proofs.GroupLaws.{opening_view_is, opening_one}
use Rattle.switch_staged.proofs.switch.StagedSwitch.new.Goals as goal

pub returns : goal.returns
returns c = ap switch_of c.in_ok-opening.ensures ∙ opening_view_is c.args.config c.args.epoch c.args.counter

pub invariant_of-result : goal.invariant_of-result
invariant_of-result c = subst AreOfOne (sym c.in_ok-opening.ensures) (opening_one c.args.config c.args.epoch c.args.counter)

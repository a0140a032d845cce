use Rattle.std.proofs.Common.{sym, ap, ◌∙◌, subst}
use Rattle.switch_staged.specs.Together.{switch_of, AreOfOne}
use Rattle.switch_staged.proofs.switch.StagedSwitch.copy.Goals as goal

pub returns : goal.returns
returns c = ap switch_of c.in_ok-copied.ensures ∙ c.self.view_is

pub invariant_of-result : goal.invariant_of-result
invariant_of-result c = subst AreOfOne (sym c.in_ok-copied.ensures) c.self.invariant

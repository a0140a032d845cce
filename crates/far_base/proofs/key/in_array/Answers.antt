use Rattle.std.proofs.Common.{◌∙◌}
use Rattle.far_base.specs.declared.key.TheConstants.{KEY_LENGTH}
use Rattle.far_base.proofs.Padding.{zeros_behind}
use Rattle.far_base.proofs.key.in_array.Goals as goal

pub returns : goal.returns
returns c = c.put_front.ensures ∙ zeros_behind KEY_LENGTH c.args.text.now

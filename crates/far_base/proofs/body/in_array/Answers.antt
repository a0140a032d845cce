use Rattle.std.proofs.Common.{◌∙◌}
use Rattle.far_base.specs.declared.body.TheConstants.{BODY_LIMIT}
use Rattle.far_base.proofs.Padding.{zeros_behind}
use Rattle.far_base.proofs.body.in_array.Goals as goal

pub returns : goal.returns
returns c = c.put_front.ensures ∙ zeros_behind BODY_LIMIT c.args.text.now

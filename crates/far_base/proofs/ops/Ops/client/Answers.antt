use Rattle.std.proofs.Common.{◌≡◌, List, slice_get, Some, sym, ap, ◌∙◌}
use Rattle.std.specs.Prelude.{map}
use Rattle.far_base.specs.declared.plan.OpLine.{OpLine}
use Rattle.far_base.proofs.Bodies.{client_of_lines}
use Rattle.far_base.proofs.ops.Ops.client.Goals as goal

pub returns : goal.returns
returns c =
    rw (sym c.self.view_is)
    (client_of_lines c.self.inside.bytes.items c.self.inside.lines.items c.args.place c.short_at.result.now (rw (sym c.deref.ensures.value) c.short_at.ensures))

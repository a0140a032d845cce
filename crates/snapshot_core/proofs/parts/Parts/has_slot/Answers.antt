use Rattle.std.proofs.Common.{◌≡◌, ap, ◌∙◌, length, arith}
use Rattle.std.specs.Prelude.{nat_lt}
use Rattle.snapshot_core.proofs.Counted.{parts_length}
use Rattle.snapshot_core.proofs.parts.Parts.has_slot.Goals as goal

pub returns : goal.returns
returns c =
    let n : c.len.result ≡ length c.args.self.now = c.len.ensures ∙ omega (arith, parts_length c.self.inside.come.items c.self.inside.views.items c.self.invariant.alike, ap length c.self.view_is) in
    ap (nat_lt c.args.slot) n

use Rattle.std.proofs.Common.{rules, arith, sym, subst, ap, ◌∙◌, ◌+◌, ◌<◌}
use Rattle.switch_staged.specs.Groups.{PartView}
use Rattle.switch_staged.specs.Stages.{IsPart}
use Rattle.switch_staged.proofs.GroupLaws.{part_cell}
use Rattle.switch_staged.proofs.parts.BodyPart.body_at.Goals as goal

pub returns-clause-body : goal.returns-clause-body
returns-clause-body c = λ g one h. search rules ∙ part_cell g c.args.self.now c.args.stage c.args.slot one h c.requires.from c.requires.to c.requires.slot

pub cell_in-requires-clause-part : goal.cell_in-requires-clause-part
cell_in-requires-clause-part c = (5 + c.self.inside.first, c.self.inside.slots, subst (λ n. c.args.slot < n) (sym (ap (λ (t : PartView). t.slots) c.self.view_is)) c.requires.slot, subst (IsPart (5 + c.self.inside.first) c.self.inside.slots) (sym c.deref.ensures.value) c.self.invariant.part)

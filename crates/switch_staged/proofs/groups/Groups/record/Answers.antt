use Rattle.std.proofs.Common.{rules, refl, sym, ap, ◌∙◌}
use Rattle.switch_staged.proofs.FrontLaws.{record_none, record_some}
use Rattle.switch_staged.proofs.groups.Groups.record.Goals as goal

pub returns-then-not-head : goal.returns-then-not-head
returns-then-not-head c = record_none c.args.self.now c.args.slot c.slot-head.result c.requires.one c.requires.slot c.slot-head.ensures (search rules)

pub returns-in-Some : goal.returns-in-Some
returns-in-Some c = record_some c.args.self.now c.args.slot c.slot-head.result c.cells.result c.body-body.result _ c.requires.one c.requires.slot c.slot-head.ensures (search rules) c.cells.ensures (search rules) (search rules)

pub returns-in-None : goal.returns-in-None
returns-in-None c = record_some c.args.self.now c.args.slot c.slot-head.result c.cells.result c.body-body.result _ c.requires.one c.requires.slot c.slot-head.ensures (search rules) c.cells.ensures (search rules) (search rules)

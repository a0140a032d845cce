use Rattle.std.proofs.Common.{◌≡◌, rules}
use Rattle.stage_workers.proofs.Worked.{part_more}
use Rattle.stage_workers.proofs.done.PartDone.pass.Goals as goal

pub returns-clause-worked : goal.returns-clause-worked
returns-clause-worked c = λ first h. part_more first c.args.self.now _ c.args.flight.now h (search rules) (search rules) (search rules)

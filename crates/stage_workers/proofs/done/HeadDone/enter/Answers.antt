use Rattle.std.proofs.Common.{◌≡◌, rules}
use Rattle.stage_workers.proofs.Worked.{head_more}
use Rattle.stage_workers.proofs.done.HeadDone.enter.Goals as goal

pub returns-clause-worked : goal.returns-clause-worked
returns-clause-worked c = λ first h. head_more first c.args.self.now _ c.args.packet.now h (search rules) (search rules) (search rules) (search rules)

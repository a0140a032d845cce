use Rattle.std.proofs.Common.{rules}
use Rattle.workload_reasons.proofs.heads.size_fault.Goals as goal

pub returns-in_default-clause-told : goal.returns-in_default-clause-told
returns-in_default-clause-told c = c.other_text.ensures.size c.args.name.now c.args.least (search rules)

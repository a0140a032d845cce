use Rattle.std.proofs.Common.{rules}
use Rattle.workload_reasons.proofs.Spellings.{body_is}
use Rattle.workload_reasons.proofs.spelled.body_fault.Goals as goal

pub returns-in-None-clause-none : goal.returns-in-None-clause-none
returns-in-None-clause-none c none = body_is c.args.word.now c.in-Some.text.now (search rules) (search rules)

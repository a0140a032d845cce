use Rattle.std.proofs.Common.{sym, ◌∙◌, arith, rules}
use Rattle.workload_reasons.proofs.Spellings.{number_is}
use Rattle.workload_reasons.proofs.spelled.number_fault.Goals as goal

pub returns-clause-none : goal.returns-clause-none
returns-clause-none c none = number_is c.args.word.now (sym c.is_empty.ensures
    ∙ c.if-is_empty.false) (omega arith) (search rules) (search rules)

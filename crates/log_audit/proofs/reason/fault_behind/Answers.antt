use Rattle.std.proofs.Common.{arith}
use Rattle.std.proofs.lemmas.Bool.Decides.{nat_tests}
use Rattle.log_audit.proofs.Reasons.{goes_on}
use Rattle.log_audit.proofs.reason.fault_behind.Goals as goal

pub returns-in-None-clause-none : goal.returns-in-None-clause-none
returns-in-None-clause-none c none good =
    goes_on c.args.before.now c.args.line.now (grind (arith, nat_tests, c.if-line.false)) (c.order_fault.ensures.none c.in-None.is) (c.read_fault.ensures.none none) good

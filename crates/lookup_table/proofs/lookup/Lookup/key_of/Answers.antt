use Rattle.std.proofs.Common.{subst, rules}
use Rattle.lookup_table.specs.Sound.{IsSound}
use Rattle.lookup_table.proofs.Places.{alone}
use Rattle.lookup_table.proofs.lookup.Lookup.key_of.Goals as goal

pub returns-clause-alone : goal.returns-clause-alone
returns-clause-alone c = alone c.args.self.now c.args.slot _ (subst IsSound c.self.view_is c.self.invariant.0) (search rules)

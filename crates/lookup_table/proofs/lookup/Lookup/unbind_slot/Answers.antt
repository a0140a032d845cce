use Rattle.std.proofs.Common.{sym, ◌∙◌}
use Rattle.lookup_table.proofs.Bound.{unbound_one}
use Rattle.lookup_table.proofs.lookup.Lookup.unbind_slot.Goals as goal

pub returns-in-Some-clause-bound : goal.returns-in-Some-clause-bound
returns-in-Some-clause-bound c = c.unbind.ensures.bound ∙ unbound_one c.in-Some.key c.args.self.now.bound c.args.slot (sym c.in-Some.ensures.key) c.in-Some.ensures.alone

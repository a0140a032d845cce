use Rattle.std.proofs.Common.{subst}
use Rattle.lookup_table.specs.Sound.{IsSound}
use Rattle.lookup_table.proofs.Places.{found_pair, found_none, found_held}
use Rattle.lookup_table.proofs.Unique.{own, packed}
use Rattle.lookup_table.proofs.lookup.Lookup.place.Goals as goal

pub returns-clause-pair : goal.returns-clause-pair
returns-clause-pair c = found_pair c.args.key.now c.args.self.now c.locate.result (subst IsSound c.self.view_is c.self.invariant.0) c.locate.ensures

pub returns-clause-none : goal.returns-clause-none
returns-clause-none c = found_none c.args.key.now c.args.self.now c.locate.result (subst IsSound c.self.view_is c.self.invariant.0) c.locate.ensures

pub returns-clause-held : goal.returns-clause-held
returns-clause-held c = found_held c.args.key.now c.args.self.now c.locate.result (subst IsSound c.self.view_is c.self.invariant.0) c.locate.ensures

pub returns-clause-sound : goal.returns-clause-sound
returns-clause-sound c = subst IsSound c.self.view_is c.self.invariant.0

pub returns-clause-own : goal.returns-clause-own
returns-clause-own c = own c.args.key.now c.args.self.now c.locate.result (subst IsSound c.self.view_is c.self.invariant.0) c.locate.ensures

pub returns-clause-packed : goal.returns-clause-packed
returns-clause-packed c = packed c.args.key.now c.args.self.now c.locate.result (subst IsSound c.self.view_is c.self.invariant.0) c.locate.ensures

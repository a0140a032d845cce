use Rattle.std.proofs.Common.{◌≡◌, false, true, Some, sym, subst, rules, arith}
use Rattle.std.proofs.lemmas.Grind.{common_steps}
use Rattle.far_model.specs.View.{is_key_there}
use Rattle.lookup_table.specs.Table.{LookupView, key_at}
use Rattle.lookup_table.proofs.Bound.{place_none, place_is, there_is, only_missing}
use Rattle.lookup_table.proofs.lookup.Lookup.sought_at.Goals as goal

pub returns-then-is_key_at-clause-slot : goal.returns-then-is_key_at-clause-slot
returns-then-is_key_at-clause-slot c =
    let there : is_key_there c.args.key.now (key_at c.self.inside.keys.items c.args.slot) ≡ true = first_of (search rules, grind (arith, common_steps)) in
    let keyed : key_at c.args.self.now.bound c.args.slot ≡ Some c.args.key.now = subst (λ (v : LookupView). key_at v.bound c.args.slot ≡ Some c.args.key.now) c.self.view_is (there_is c.args.key.now (key_at c.self.inside.keys.items c.args.slot) there) in
    sym (place_is c.args.key.now c.args.self.now.bound c.args.slot keyed c.requires)

pub returns-else-is_key_at-clause-slot : goal.returns-else-is_key_at-clause-slot
returns-else-is_key_at-clause-slot c =
    let there : is_key_there c.args.key.now (key_at c.self.inside.keys.items c.args.slot) ≡ false = first_of (search rules, grind (arith, common_steps)) in
    let missing = subst (λ (v : LookupView). is_key_there c.args.key.now (key_at v.bound c.args.slot) ≡ false) c.self.view_is there in
    sym (place_none c.args.key.now c.args.self.now.bound (only_missing c.args.key.now c.args.self.now.bound c.args.slot c.requires missing))

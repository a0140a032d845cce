use Rattle.std.proofs.Common.{◌≡◌, None, sym, subst, rules, arith}
use Rattle.std.proofs.lemmas.Grind.{common_steps}
use Rattle.far_model.specs.View.{bound_place}
use Rattle.lookup_table.specs.declared.mark.Mark.TheVariants.{Free, One}
use Rattle.lookup_table.specs.Marks.{mark_at}
use Rattle.lookup_table.specs.Sound.{IsAlone}
use Rattle.lookup_table.specs.Table.{LookupView}
use Rattle.lookup_table.proofs.Bound.{place_none}
use Rattle.lookup_table.proofs.Marks.{free_nowhere, one_alone}
use Rattle.lookup_table.proofs.lookup.Lookup.find.Goals as goal

pub returns-in-Free-clause-slot : goal.returns-in-Free-clause-slot
returns-in-Free-clause-slot c =
    let free : mark_at c.self.inside.marks.items c.args.key.now ≡ Free = first_of (search rules, grind (arith, common_steps)) in
    let none = sym (place_none c.args.key.now c.self.inside.keys.items (free_nowhere c.args.key.now c.self.inside.keys.items c.self.inside.marks.items c.self.invariant.1.1 free)) in
    subst (λ (v : LookupView). None ≡ bound_place c.args.key.now v.bound) c.self.view_is none

pub sought_at-requires : goal.sought_at-requires
sought_at-requires c =
    let one : mark_at c.self.inside.marks.items c.args.key.now ≡ One c.in-One.slot = first_of (search rules, grind (arith, common_steps)) in
    let alone = one_alone c.args.key.now c.self.inside.keys.items c.self.inside.marks.items c.in-One.slot c.self.invariant.1.1 one in
    subst (λ (v : LookupView). IsAlone c.args.key.now c.in-One.slot v.bound) c.self.view_is alone

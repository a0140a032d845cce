use Rattle.std.proofs.Common.{◌≡◌, ◌<◌, None, set, sym, subst, rules, arith}
use Rattle.std.proofs.lemmas.Grind.{common_steps}
use Rattle.lookup_table.specs.declared.mark.Mark.TheVariants.{Free, One}
use Rattle.lookup_table.specs.Marks.{AreMarked, mark_at, mark_of}
use Rattle.lookup_table.specs.Table.{key_at}
use Rattle.lookup_table.proofs.Marks.{freed_marked}
use Rattle.lookup_table.proofs.lookup.Lookup.unmark.Goals as goal

pub invariant_of-self : goal.invariant_of-self
invariant_of-self c =
    let one : mark_at c.self.inside.marks.items c.args.key.now ≡ One c.in-One.slot = first_of (search rules, grind (arith, common_steps)) in
    let none : key_at c.self.inside.keys.items c.in-One.slot ≡ None = first_of (search rules, grind (arith, common_steps)) in
    let within : mark_of c.args.key.now < 8192 = subst (λ n. n < 8192) c.mark_of-at.ensures.mark c.mark_of-at.ensures.bound in
    let freed = freed_marked c.self.inside.keys.items c.self.inside.marks.items c.args.key.now c.in-One.slot within one none c.self.invariant.1.1 in
    (c.self.invariant.0, (c.self.invariant.1.0, subst (λ n. AreMarked c.self.inside.keys.items (set c.self.inside.marks.items n Free)) (sym c.mark_of-at.ensures.mark) freed))

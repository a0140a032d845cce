use Rattle.std.proofs.Common.{◌≡◌, None, sym, subst, rules, arith}
use Rattle.std.proofs.lemmas.Grind.{common_steps}
use Rattle.lookup_table.specs.declared.mark.Mark.TheVariants.{Free}
use Rattle.lookup_table.specs.Marks.{mark_at}
use Rattle.lookup_table.specs.Table.{LookupView, place_of}
use Rattle.lookup_table.proofs.Marks.{unmarked}
use Rattle.lookup_table.proofs.lookup.Lookup.locate.Goals as goal

pub returns-in-Free : goal.returns-in-Free
returns-in-Free c =
    let t : LookupView = record { bound = c.self.inside.keys.items; cells = c.self.inside.cells.items; overflow = c.self.inside.overflow.items } in
    let free : mark_at c.self.inside.marks.items c.args.key.now ≡ Free = first_of (search rules, grind (arith, common_steps)) in
    subst (λ (v : LookupView). None ≡ place_of c.args.key.now v) c.self.view_is (sym (unmarked c.args.key.now t c.self.inside.marks.items c.self.invariant.0 c.self.invariant.1.1 free))

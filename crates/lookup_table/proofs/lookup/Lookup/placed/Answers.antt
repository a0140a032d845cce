use Rattle.std.proofs.Common.{◌≡◌, ◌<◌, sym, refl, subst, length, arith, Some}
use Rattle.std.specs.Prelude.{slice_get}
use Rattle.std.proofs.lemmas.Grind.{common_steps}
use Rattle.std.proofs.lemmas.Option.{get_or_from_slice_get}
use Rattle.lookup_table.specs.Sound.{IsPairAt}
use Rattle.lookup_table.specs.Table.{LookupView}
use Rattle.lookup_table.proofs.Bound.{place_none}
use Rattle.lookup_table.proofs.Places.{slot_inside}
use Rattle.lookup_table.proofs.lookup.Lookup.placed.Goals as goal

pub returns-in-Some-Overflow-clause-there : goal.returns-in-Some-Overflow-clause-there
returns-in-Some-Overflow-clause-there c =
    let pair = subst (λ q. IsPairAt c.args.key.now q c.args.self.now) c.in-Some-Overflow.field-0-is c.in-Some-Overflow.ensures.pair in
    let there = subst (λ (v : LookupView). slice_get v.overflow c.in-Some-Overflow.at ≡ Some pair.slot) (sym c.self.view_is) pair.there in
    let read = get_or_from_slice_get c.self.inside.overflow.items c.in-Some-Overflow.at pair.slot c.index-in-Some-Overflow.result.now there in
    let is : pair.slot ≡ c.index-in-Some-Overflow.result.now = grind (arith, common_steps) in
    subst (λ n. n < length c.args.self.now.bound) is (slot_inside c.args.key.now c.args.self.now.bound pair.slot pair.keyed)

pub returns-in-None-clause-slot : goal.returns-in-None-clause-slot
returns-in-None-clause-slot c = sym (place_none c.args.key.now c.args.self.now.bound (c.in-None.ensures.none refl))

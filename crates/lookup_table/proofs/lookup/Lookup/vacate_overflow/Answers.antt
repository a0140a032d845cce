use Rattle.std.proofs.Common.{◌≡◌, ◌<◌, sym, ◌∙◌, subst, arith, rules, length, set, None, Some, List, ℕ}
use Rattle.std.proofs.lemmas.Grind.{common_steps}
use Rattle.std.proofs.lemmas.List.{length-set}
use Rattle.std.proofs.lemmas.Option.{get_or_from_slice_get, slice_get_within}
use Rattle.lookup_table.specs.declared.place.Place.TheVariants.{Overflow}
use Rattle.lookup_table.specs.Sound.{IsSound, HasPair}
use Rattle.lookup_table.specs.Table.{LookupView, key_at}
use Rattle.lookup_table.proofs.Drops.{drops_overflow}
use Rattle.lookup_table.proofs.Marks.{fewer_marked}
use Rattle.lookup_table.proofs.Places.{slot_inside}
use Rattle.lookup_table.proofs.lookup.Lookup.vacate_overflow.Goals as goal

pub index_mut-requires : goal.index_mut-requires
index_mut-requires c =
    let t : LookupView = record { bound = c.self.inside.keys.items; cells = c.self.inside.cells.items; overflow = c.self.inside.overflow.items } in
    let p : HasPair (Overflow c.args.at) t = subst (λ (v : LookupView). HasPair (Overflow c.args.at) v) (sym c.self.view_is) c.requires in
    let read = get_or_from_slice_get c.self.inside.overflow.items c.args.at p.pair.slot c.remove-slot.result p.pair.there in
    let is : p.pair.slot ≡ c.remove-slot.result = grind (arith, common_steps) in
    let inside : c.remove-slot.result < length c.self.inside.keys.items = subst (λ n. n < length c.self.inside.keys.items) is (slot_inside p.key c.self.inside.keys.items p.pair.slot p.pair.keyed) in
    first_of (search (rules, inside), grind (arith, common_steps, inside))

pub invariant_of-self : goal.invariant_of-self
invariant_of-self c =
    let t : LookupView = record { bound = c.self.inside.keys.items; cells = c.self.inside.cells.items; overflow = c.self.inside.overflow.items } in
    let p : HasPair (Overflow c.args.at) t = subst (λ (v : LookupView). HasPair (Overflow c.args.at) v) (sym c.self.view_is) c.requires in
    let read = get_or_from_slice_get c.self.inside.overflow.items c.args.at p.pair.slot c.remove-slot.result p.pair.there in
    let is : p.pair.slot ≡ c.remove-slot.result = grind (arith, common_steps) in
    let within = slice_get_within c.self.inside.overflow.items c.args.at p.pair.slot p.pair.there in
    let first = get_or_from_slice_get c.self.inside.overflow.items c.args.at p.pair.slot 0 p.pair.there in
    let keyed = subst (λ n. key_at c.self.inside.keys.items n ≡ Some p.key) is p.pair.keyed in
    let sound = drops_overflow t c.args.at c.remove-slot.result p.key c.self.invariant.0 within (first ∙ is) keyed in
    let l = length-set c.self.inside.keys.items c.remove-slot.result None in (
      subst (λ (xs : List ℕ). IsSound (record { bound = set c.self.inside.keys.items c.remove-slot.result None; cells = c.self.inside.cells.items; overflow = xs })) (sym c.remove-slot.ensures.items) sound,
      (omega (arith, l, c.remove-slot.ensures.capacity, c.self.invariant.1.0), fewer_marked c.self.inside.keys.items c.self.inside.marks.items c.remove-slot.result c.self.invariant.1.1),
    )

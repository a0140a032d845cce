use Rattle.std.proofs.Common.{◌≡◌, ◌+◌, ◌*◌, sym, subst, ap, ◌∙◌, arith, rules, get_or, set, length, List, Option, ℕ, Some, None}
use Rattle.std.specs.List.{position}
use Rattle.std.proofs.lemmas.Grind.{common_steps}
use Rattle.std.proofs.lemmas.List.{length-set}
use Rattle.lookup_table.specs.declared.place.Place.TheVariants.{Cell}
use Rattle.lookup_table.specs.Binding.{dropped_at, spilled_of, slot_at, closed_up}
use Rattle.lookup_table.specs.Sound.{IsSound, HasPair}
use Rattle.lookup_table.specs.Table.{LookupView, is_of_bucket, key_at}
use Rattle.lookup_table.proofs.Marks.{fewer_marked}
use Rattle.lookup_table.proofs.Places.{drops, cell_dropped}
use Rattle.lookup_table.proofs.lookup.Lookup.vacate_cell.Goals as goal

pub invariant_of-self : goal.invariant_of-self
invariant_of-self c =
    let t : LookupView = record { bound = c.self.inside.keys.items; cells = c.self.inside.cells.items; overflow = c.self.inside.overflow.items } in
    let there : get_or c.self.inside.cells.items (4 * c.args.bucket + c.args.cell) None ≡ Some c.in-Some.slot = grind (arith, common_steps) in
    let spilled : c.slot_of_bucket-spilled.result ≡ spilled_of c.args.bucket (record t { bound = set c.self.inside.keys.items c.in-Some.slot None }) =
    c.slot_of_bucket-spilled.ensures
    ∙ ap (λ (ks : List (Option (List ℕ))). position (λ s. is_of_bucket c.args.bucket (length ks) (key_at ks s)) c.deref-in-Some.result.now) c.deref.ensures.value
    ∙ ap (λ (xs : List ℕ). position (λ s. is_of_bucket c.args.bucket (length (set c.self.inside.keys.items c.in-Some.slot None)) (key_at (set c.self.inside.keys.items c.in-Some.slot None) s)) xs) c.deref-in-Some.ensures.value in
    let content : c.take_out.result ≡ slot_at c.slot_of_bucket-spilled.result c.self.inside.overflow.items = first_of (search rules, grind (arith, common_steps)) in
    let rest : c.take_out.new.slots.items ≡ closed_up c.slot_of_bucket-spilled.result c.self.inside.overflow.items = first_of (search rules, grind (arith, common_steps)) in
    let e = cell_dropped t c.args.bucket c.args.cell c.in-Some.slot c.slot_of_bucket-spilled.result c.take_out.result c.take_out.new.slots.items there spilled content rest in
    let p : HasPair (Cell c.args.bucket c.args.cell) t = subst (λ (v : LookupView). HasPair (Cell c.args.bucket c.args.cell) v) (sym c.self.view_is) c.requires in
    let l = length-set c.self.inside.keys.items c.in-Some.slot None in
    (subst IsSound (sym e) (drops p.key t (Cell c.args.bucket c.args.cell) c.self.invariant.0 p.pair).sound, (omega (arith, l, c.take_out.ensures.room, c.self.invariant.1.0), fewer_marked c.self.inside.keys.items c.self.inside.marks.items c.in-Some.slot c.self.invariant.1.1))

pub returns-in-Some : goal.returns-in-Some
returns-in-Some c =
    let t : LookupView = record { bound = c.self.inside.keys.items; cells = c.self.inside.cells.items; overflow = c.self.inside.overflow.items } in
    let there : get_or c.self.inside.cells.items (4 * c.args.bucket + c.args.cell) None ≡ Some c.in-Some.slot = grind (arith, common_steps) in
    let spilled : c.slot_of_bucket-spilled.result ≡ spilled_of c.args.bucket (record t { bound = set c.self.inside.keys.items c.in-Some.slot None }) =
    c.slot_of_bucket-spilled.ensures
    ∙ ap (λ (ks : List (Option (List ℕ))). position (λ s. is_of_bucket c.args.bucket (length ks) (key_at ks s)) c.deref-in-Some.result.now) c.deref.ensures.value
    ∙ ap (λ (xs : List ℕ). position (λ s. is_of_bucket c.args.bucket (length (set c.self.inside.keys.items c.in-Some.slot None)) (key_at (set c.self.inside.keys.items c.in-Some.slot None) s)) xs) c.deref-in-Some.ensures.value in
    let content : c.take_out.result ≡ slot_at c.slot_of_bucket-spilled.result c.self.inside.overflow.items = first_of (search rules, grind (arith, common_steps)) in
    let rest : c.take_out.new.slots.items ≡ closed_up c.slot_of_bucket-spilled.result c.self.inside.overflow.items = first_of (search rules, grind (arith, common_steps)) in
    let e = cell_dropped t c.args.bucket c.args.cell c.in-Some.slot c.slot_of_bucket-spilled.result c.take_out.result c.take_out.new.slots.items there spilled content rest in
    subst (λ (v : LookupView). record { bound = set c.self.inside.keys.items c.in-Some.slot None; cells = set c.self.inside.cells.items (4 * c.args.bucket + c.args.cell) c.take_out.result; overflow = c.take_out.new.slots.items } ≡ dropped_at (Some (Cell c.args.bucket c.args.cell)) v) c.self.view_is e

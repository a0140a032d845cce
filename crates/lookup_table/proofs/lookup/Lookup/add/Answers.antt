use Rattle.std.proofs.Common.{◌≡◌, ◌+◌, ◌*◌, ◌≤◌, sym, subst, arith, rules, length, set, Some, None, List, ℕ}
use Rattle.std.specs.Prelude.{is_none}
use Rattle.std.specs.List.{position}
use Rattle.std.proofs.lemmas.Grind.{common_steps}
use Rattle.std.proofs.lemmas.List.{length-set}
use Rattle.lookup_table.specs.Marks.{mark_at, marked_with}
use Rattle.lookup_table.specs.Sound.{IsSound}
use Rattle.lookup_table.specs.Table.{LookupView, bucket_in, bucket_cells}
use Rattle.lookup_table.proofs.Adds.{cell_added, is_new, overflow_added, room_left}
use Rattle.lookup_table.proofs.Marks.{more_marked_at}
use Rattle.lookup_table.proofs.lookup.Lookup.add.Goals as goal

pub invariant_of-self : goal.invariant_of-self
invariant_of-self c =
    let t : LookupView = record { bound = c.self.inside.keys.items; cells = c.self.inside.cells.items; overflow = c.self.inside.overflow.items } in
    let n = is_new t c.args.self.now c.args.key c.args.slot c.self.view_is c.self.invariant.0 c.requires.slot c.requires.unbound c.requires.new in
    let mark : c.with.result ≡ marked_with c.args.slot (mark_at c.self.inside.marks.items c.args.key) = first_of (search rules, grind (arith, common_steps)) in
    let marked = more_marked_at c.self.inside.keys.items c.self.inside.marks.items c.args.slot c.args.key c.mark_of-at.result c.with.result n.within c.mark_of-at.ensures.bound c.self.invariant.1.1 c.mark_of-at.ensures.mark mark in
    let home : c.bucket-bucket.result ≡ bucket_in (length c.self.inside.keys.items) c.args.key = subst (λ (v : LookupView). c.bucket-bucket.result ≡ bucket_in (length v.bound) c.args.key) (sym c.self.view_is) c.bucket-bucket.ensures.bucket in
    let there : 4 * c.bucket-bucket.result + 4 ≤ length c.self.inside.cells.items = subst (λ (v : LookupView). 4 * c.bucket-bucket.result + 4 ≤ length v.cells) (sym c.self.view_is) c.bucket-bucket.ensures.there in
    let l = length-set c.self.inside.keys.items c.args.slot (Some c.args.key) in
    let free : position is_none (bucket_cells c.bucket-bucket.result c.self.inside.cells.items) ≡ Some c.in-Some.cell = first_of (search rules, grind (arith, common_steps)) in
    (cell_added t c.args.key c.args.slot c.bucket-bucket.result c.in-Some.cell n home there free, (omega (arith, l, c.self.invariant.1.0), marked))

pub push_reserved-requires : goal.push_reserved-requires
push_reserved-requires c =
    let t : LookupView = record { bound = c.self.inside.keys.items; cells = c.self.inside.cells.items; overflow = c.self.inside.overflow.items } in
    let n = is_new t c.args.self.now c.args.key c.args.slot c.self.view_is c.self.invariant.0 c.requires.slot c.requires.unbound c.requires.new in
    let r = room_left t c.args.key c.args.slot n in
    omega (arith, r, c.self.invariant.1.0)

pub invariant_of-self-in-None : goal.invariant_of-self-in-None
invariant_of-self-in-None c =
    let t : LookupView = record { bound = c.self.inside.keys.items; cells = c.self.inside.cells.items; overflow = c.self.inside.overflow.items } in
    let n = is_new t c.args.self.now c.args.key c.args.slot c.self.view_is c.self.invariant.0 c.requires.slot c.requires.unbound c.requires.new in
    let mark : c.with.result ≡ marked_with c.args.slot (mark_at c.self.inside.marks.items c.args.key) = first_of (search rules, grind (arith, common_steps)) in
    let marked = more_marked_at c.self.inside.keys.items c.self.inside.marks.items c.args.slot c.args.key c.mark_of-at.result c.with.result n.within c.mark_of-at.ensures.bound c.self.invariant.1.1 c.mark_of-at.ensures.mark mark in
    let home : c.bucket-bucket.result ≡ bucket_in (length c.self.inside.keys.items) c.args.key = subst (λ (v : LookupView). c.bucket-bucket.result ≡ bucket_in (length v.bound) c.args.key) (sym c.self.view_is) c.bucket-bucket.ensures.bucket in
    let there : 4 * c.bucket-bucket.result + 4 ≤ length c.self.inside.cells.items = subst (λ (v : LookupView). 4 * c.bucket-bucket.result + 4 ≤ length v.cells) (sym c.self.view_is) c.bucket-bucket.ensures.there in
    let l = length-set c.self.inside.keys.items c.args.slot (Some c.args.key) in
    let full : position is_none (bucket_cells c.bucket-bucket.result c.self.inside.cells.items) ≡ None = first_of (search rules, grind (arith, common_steps)) in (
      subst (λ (xs : List ℕ). IsSound (record { bound = set c.self.inside.keys.items c.args.slot (Some c.args.key); cells = c.self.inside.cells.items; overflow = xs })) (sym c.push_reserved.ensures.items) (overflow_added t c.args.key c.args.slot c.bucket-bucket.result n home there full),
      (omega (arith, l, c.push_reserved.ensures.capacity, c.self.invariant.1.0), marked),
    )

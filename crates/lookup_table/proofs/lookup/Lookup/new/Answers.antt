use Rattle.std.proofs.Common.{◌*◌, ◌∙◌, length, replicate, None, Option, List, ℕ, sym, subst, ap, arith}
use Rattle.std.proofs.lemmas.List.{length-replicate}
use Rattle.lookup_table.specs.declared.mark.Mark.{Mark}
use Rattle.lookup_table.specs.Marks.{AreMarked}
use Rattle.lookup_table.proofs.Empty.{empty_sound}
use Rattle.lookup_table.proofs.Marks.{none_marked}
use Rattle.lookup_table.proofs.lookup.Lookup.new.Goals as goal

pub invariant_of-result : goal.invariant_of-result
invariant_of-result c =
    let unbound : Option (List ℕ) = None in
    let none : Option ℕ = None in
    let keys = c.in_ok-keys.ensures in
    let cells = c.in_ok-cells.ensures ∙ ap (λ n. replicate (4 * n) none) c.count_buckets.ensures in
    let wide = ap length keys ∙ length-replicate c.args.slots unbound in
    let room = c.in_ok-overflow.ensures.capacity in
    let sound = empty_sound c.args.slots c.in_ok-keys.keys.items c.in_ok-cells.cells.items c.in_ok-overflow.overflow.items c.ranges.slots.fits keys cells c.in_ok-overflow.ensures.items in
    let marked =
    subst (λ (bound : List (Option (List ℕ))). AreMarked bound c.in_ok-marks.marks.items) (sym keys)
    (subst (λ (marks : List Mark). AreMarked (replicate c.args.slots None) marks) (sym c.in_ok-marks.ensures) (none_marked c.args.slots)) in
    (sound, (omega (arith, wide, room), marked))

use Rattle.std.proofs.Common.{rules, arith, ◌∙◌, sym, ap, subst, length, ◌<◌, ◌≡◌, None}
use Rattle.std.specs.Prelude.{slice_index_or}
use Rattle.std.proofs.lemmas.List.{length-set}
use Rattle.switch_staged.specs.Overlap.{StaysBelow}
use Rattle.switch_staged.proofs.PassLaws.{part_place, part_slots, part_set}
use Rattle.switch_staged.proofs.ShiftLaws.{Further, further, all_set, all_get, sent_below, reach_all, same_get, array_left, left_length}
use Rattle.switch_staged.proofs.standing.tick_arrays.Goals as goal

pub tick_body-passed-requires-clause-cell : goal.tick_body-passed-requires-clause-cell
tick_body-passed-requires-clause-cell c =
    reach_all c.args.slots _ c.index-standing-k.result
    (subst (StaysBelow c.args.slots) (sym c.index-standing-k.is) (all_get c.args.slots c.loop-k.k c.loop-k.standing c.index-standing-k.result c.loop-k.invariant.below (omega (arith, c.loop-k.invariant.standing_count, c.loop-k.invariant.count, c.loop-k-test.true))))
    (part_slots 5 c.args.slots c.loop-k.arrays c.loop-k.k _ c.loop-k.invariant.part (omega (arith, c.loop-k.invariant.count, c.loop-k-test.true, c.requires.count)))

pub tick_body-passed-requires-clause-place : goal.tick_body-passed-requires-clause-place
tick_body-passed-requires-clause-place c = omega (arith, c.loop-k.invariant.count, c.loop-k-test.true, part_place 5 c.args.slots c.loop-k.arrays c.loop-k.k c.index-arrays-k.result c.loop-k.invariant.part (omega (arith, c.loop-k.invariant.count, c.loop-k-test.true, c.requires.count)))

pub loop-k-preserved : goal.loop-k-preserved
loop-k-preserved c =
    let old = slice_index_or c.loop-k.arrays c.loop-k.k c.index-arrays-k.result in
    let place = part_place 5 c.args.slots c.loop-k.arrays c.loop-k.k c.index-arrays-k.result c.loop-k.invariant.part (omega (arith, c.loop-k.invariant.count, c.loop-k-test.true, c.requires.count)) in
    let slots = part_slots 5 c.args.slots c.loop-k.arrays c.loop-k.k c.index-arrays-k.result c.loop-k.invariant.part (omega (arith, c.loop-k.invariant.count, c.loop-k-test.true, c.requires.count)) in
    let step = further c.loop-k.k c.loop-k.arrays c.index-arrays-k.result c.tick_body-passed.new.array c.loop-k.standing c.index-standing-k.result c.loop-k.coming c.tick_body-passed.result
    (omega (arith, c.loop-k.invariant.count, c.loop-k-test.true, c.requires.count)) (omega (arith, c.loop-k.invariant.standing_count, c.loop-k.invariant.count, c.loop-k-test.true, c.requires.count))
    (same_get c.loop-k.k c.loop-k.standing c.index-standing-k.result (omega (arith, c.loop-k.invariant.standing_count, c.loop-k.invariant.count, c.loop-k-test.true, c.requires.count)) ∙ sym c.index-standing-k.is)
    c.tick_body-passed.ensures.cells c.tick_body-passed.ensures.flight in
    let stands = subst (StaysBelow c.args.slots) (sym c.index-standing-k.is) (all_get c.args.slots c.loop-k.k c.loop-k.standing c.index-standing-k.result c.loop-k.invariant.below (omega (arith, c.loop-k.invariant.standing_count, c.loop-k.invariant.count, c.loop-k-test.true))) in
    record {
      cells = step.cells ∙ c.loop-k.invariant.cells;
      waiting = step.waiting ∙ c.loop-k.invariant.waiting;
      last = step.last ∙ c.loop-k.invariant.last;
      count = length-set _ _ _ ∙ c.loop-k.invariant.count;
      standing_count = length-set _ _ _ ∙ c.loop-k.invariant.standing_count;
      part = part_set 5 c.args.slots c.loop-k.arrays c.loop-k.k _ c.loop-k.invariant.part (c.tick_body-passed.ensures.place ∙ place) (ap length c.tick_body-passed.ensures.cells ∙ left_length c.loop-k.k _ c.index-standing-k.result ∙ slots);
      below = all_set c.args.slots c.loop-k.k c.loop-k.standing c.loop-k.coming c.loop-k.invariant.below c.loop-k.invariant.coming;
      coming = subst (StaysBelow c.args.slots) (sym c.tick_body-passed.ensures.flight) (sent_below c.args.slots c.loop-k.k _ c.index-standing-k.result stands);
    }

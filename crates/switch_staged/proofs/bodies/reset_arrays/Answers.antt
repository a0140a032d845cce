use Rattle.std.proofs.Common.{rules, arith, ◌∙◌, sym, ap, length}
use Rattle.std.specs.Prelude.{replicate}
use Rattle.std.proofs.lemmas.List.{length-set, length-replicate}
use Rattle.switch_staged.specs.Rows.{zero_cell}
use Rattle.switch_staged.proofs.PassLaws.{part_place, part_slots, part_set, blank_set, blank_all}
use Rattle.switch_staged.proofs.bodies.reset_arrays.Goals as goal

pub loop-k-preserved : goal.loop-k-preserved
loop-k-preserved c =
    let there = c.loop-k.invariant.part c.requires.0 c.requires.1 in
    let slots = part_slots c.requires.0 c.args.slots c.loop-k.arrays c.loop-k.k c.index-arrays-k.result there (omega (arith, c.loop-k-test.true)) in
    let cells = c.reset.ensures.cells ∙ ap (λ n. replicate n zero_cell) slots in
    record {
      cells = blank_set c.loop-k.k c.loop-k.arrays c.reset.new.self (replicate c.args.slots zero_cell) (omega (arith, c.loop-k-test.true)) c.loop-k.invariant.cells cells;
      count = length-set _ _ _ ∙ c.loop-k.invariant.count;
      part = λ first p. part_set first c.args.slots c.loop-k.arrays c.loop-k.k _ (c.loop-k.invariant.part first p)
          (c.reset.ensures.place ∙ part_place first c.args.slots c.loop-k.arrays c.loop-k.k c.index-arrays-k.result (c.loop-k.invariant.part first p) (omega (arith, c.loop-k-test.true)))
          (ap length cells ∙ length-replicate c.args.slots zero_cell);
    }

use Rattle.std.proofs.Common.{rules, arith, ◌∙◌, ◌+◌, sym, ap, length, subst}
use Rattle.std.proofs.lemmas.List.{length-append}
use Rattle.register_stages.specs.Arrays.{cells_of, place_of}
use Rattle.switch_staged.specs.Stages.{IsPart, all_cells}
use Rattle.switch_staged.proofs.PassLaws.{part_more, part_place, part_slots, copy_more}
use Rattle.switch_staged.proofs.bodies.copied_bodies.Goals as goal

pub loop-k-preserved : goal.loop-k-preserved
loop-k-preserved c = record {
  cells = ap all_cells c.push_reserved.ensures.items ∙ copy_more c.loop-k.k c.loop-k.copy.items c.args.arrays.now c.index-arrays-k.result c.in_ok-copied.field-0 (omega (arith, c.loop-k-test.true)) c.loop-k.invariant.cells (c.in_ok-copied.ensures.cells ∙ ap cells_of c.index-arrays-k.is);
  count = ap length c.push_reserved.ensures.items ∙ search (rules, length-append, c.loop-k.invariant.count);
  room = search rules;
  part = λ first slots p. subst (IsPart first slots) (sym c.push_reserved.ensures.items)
      (part_more first slots c.loop-k.copy.items c.in_ok-copied.field-0 (c.loop-k.invariant.part first slots p)
      (c.in_ok-copied.ensures.place ∙ ap place_of c.index-arrays-k.is ∙ part_place first slots c.args.arrays.now c.loop-k.k c.index-arrays-k.result p (omega (arith, c.loop-k-test.true)) ∙ ap (λ n. first + n) (sym c.loop-k.invariant.count))
      (ap length c.in_ok-copied.ensures.cells ∙ ap (λ a. length (cells_of a)) c.index-arrays-k.is ∙ part_slots first slots c.args.arrays.now c.loop-k.k c.index-arrays-k.result p (omega (arith, c.loop-k-test.true))));
}

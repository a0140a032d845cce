use Rattle.std.proofs.Common.{rules, arith, ◌∙◌, ◌+◌, sym, ap, length, subst}
use Rattle.std.specs.Prelude.{replicate}
use Rattle.switch_staged.specs.Rows.{zero_cell}
use Rattle.switch_staged.specs.Stages.{IsPart, all_cells}
use Rattle.switch_staged.proofs.PassLaws.{part_more, blank_more}
use Rattle.std.proofs.lemmas.List.{length-append, length-replicate}
use Rattle.switch_staged.proofs.bodies.empty_bodies.Goals as goal

pub loop-k-preserved : goal.loop-k-preserved
loop-k-preserved c = record {
  cells = ap all_cells c.push_reserved.ensures.items ∙ blank_more c.loop-k.k c.loop-k.arrays.items c.in_ok-new.field-0 (replicate c.args.slots zero_cell) c.loop-k.invariant.cells c.in_ok-new.ensures.cells;
  count = ap length c.push_reserved.ensures.items ∙ search (rules, length-append, c.loop-k.invariant.count);
  room = search rules;
  part = subst (IsPart (5 + c.args.first) c.args.slots) (sym c.push_reserved.ensures.items) (part_more (5 + c.args.first) c.args.slots c.loop-k.arrays.items c.in_ok-new.field-0 c.loop-k.invariant.part (c.in_ok-new.ensures.place ∙ omega (arith, c.loop-k.invariant.count)) (ap length c.in_ok-new.ensures.cells ∙ length-replicate c.args.slots zero_cell));
}

use Rattle.std.proofs.Common.{rules, arith, ◌∙◌, ◌+◌, sym, ap, subst, length, ◌<◌}
use Rattle.std.proofs.lemmas.List.{length-set}
use Rattle.switch_staged.specs.Heads.{writes as is_writing}
use Rattle.switch_staged.proofs.PassLaws.{part_place, part_slots, part_set, array_length, carry_place, carry_act, cells_step, flight_step, behind_next}
use Rattle.switch_staged.proofs.bodies.pass_arrays.Goals as goal

pub pass_cell-requires-clause-goes : goal.pass_cell-requires-clause-goes
pass_cell-requires-clause-goes c = c.loop-k.invariant.place ∙ c.requires.goes

pub pass_cell-requires-clause-writes : goal.pass_cell-requires-clause-writes
pass_cell-requires-clause-writes c = c.writes-writes.ensures ∙ ap is_writing (ap (λ f. f.act) c.flight.view_is ∙ sym c.loop-k.invariant.act)

pub pass_cell-requires-clause-cell : goal.pass_cell-requires-clause-cell
pass_cell-requires-clause-cell c = subst (λ n. c.args.place < n) (sym (part_slots (5 + c.args.first) c.args.slots c.loop-k.arrays c.loop-k.k c.index-arrays-k.result c.loop-k.invariant.part (omega (arith, c.loop-k-test.true)))) c.requires.cell

pub pass_cell-requires-clause-at : goal.pass_cell-requires-clause-at
pass_cell-requires-clause-at c = omega (arith, c.loop-k.invariant.count, c.loop-k-test.true, c.requires.count)

pub pass_cell-requires-clause-token : goal.pass_cell-requires-clause-token
pass_cell-requires-clause-token c = omega (arith, c.loop-k.invariant.token, part_place (5 + c.args.first) c.args.slots c.loop-k.arrays c.loop-k.k c.index-arrays-k.result c.loop-k.invariant.part (omega (arith, c.loop-k-test.true)))

pub pass_cell-requires-clause-place : goal.pass_cell-requires-clause-place
pass_cell-requires-clause-place c = omega (arith, c.loop-k.invariant.count, c.loop-k-test.true, c.requires.count, part_place (5 + c.args.first) c.args.slots c.loop-k.arrays c.loop-k.k c.index-arrays-k.result c.loop-k.invariant.part (omega (arith, c.loop-k-test.true)))

pub loop-k-preserved : goal.loop-k-preserved
loop-k-preserved c =
    let place = part_place (5 + c.args.first) c.args.slots c.loop-k.arrays c.loop-k.k c.index-arrays-k.result c.loop-k.invariant.part (omega (arith, c.loop-k-test.true)) in
    let slots = part_slots (5 + c.args.first) c.args.slots c.loop-k.arrays c.loop-k.k c.index-arrays-k.result c.loop-k.invariant.part (omega (arith, c.loop-k-test.true)) in
    record {
      cells = cells_step c.args.first c.loop-k.k c.loop-k.arrays c.index-arrays-k.result c.pass_cell.new.array c.loop-k.flight c.pass_cell.new.flight (omega (arith, c.loop-k-test.true)) c.pass_cell.ensures.cells c.pass_cell.ensures.flight ∙ c.loop-k.invariant.cells;
      flight = flight_step c.args.first c.loop-k.k c.loop-k.arrays c.index-arrays-k.result c.pass_cell.new.array c.loop-k.flight c.pass_cell.new.flight (omega (arith, c.loop-k-test.true)) c.pass_cell.ensures.flight ∙ c.loop-k.invariant.flight;
      place = ap (λ f. f.place) c.pass_cell.ensures.flight ∙ carry_place c.loop-k.flight.place (c.args.first + c.loop-k.k) _ c.loop-k.flight ∙ c.loop-k.invariant.place;
      act = ap (λ f. f.act) c.pass_cell.ensures.flight ∙ carry_act c.loop-k.flight.place (c.args.first + c.loop-k.k) _ c.loop-k.flight ∙ c.loop-k.invariant.act;
      part = part_set (5 + c.args.first) c.args.slots c.loop-k.arrays c.loop-k.k _ c.loop-k.invariant.part (c.pass_cell.ensures.place ∙ place) (ap length c.pass_cell.ensures.cells ∙ array_length c.loop-k.flight.place (c.args.first + c.loop-k.k) _ c.loop-k.flight ∙ slots);
      count = length-set _ _ _ ∙ c.loop-k.invariant.count;
      token = omega (arith, place, c.pass_cell.ensures.token);
      behind = behind_next (5 + c.args.first) c.loop-k.k _ _ _ place c.pass_cell.ensures.token;
    }

use Rattle.std.proofs.Common.{rules, arith, sym, ap, ◌∙◌, length}
use Rattle.switch_staged.specs.Overlap.{in_front, oldest_first}
use Rattle.switch_staged.proofs.GatherLaws.{gathers, one_or_none, none_yet}
use Rattle.switch_staged.proofs.gather.oldest_first.Goals as goal

pub loop-k-init : goal.loop-k-init
loop-k-init c = record {
  gathered = ap (λ xs. in_front 36 (oldest_first xs)) (sym (none_yet c.args.standing.now c.requires));
  count = ap (λ xs. length (oldest_first xs)) (sym (none_yet c.args.standing.now c.requires));
  few = omega arith;
  whole = search rules;
}

pub loop-k-preserved : goal.loop-k-preserved
loop-k-preserved c =
    let next = gathers c.args.standing.now c.loop-k.packets c.loop-k.k c.loop-k.count c.index-standing-k.result c.index-standing-k.result (omega (arith, c.loop-k-test.true)) c.requires (sym c.index-standing-k.is) c.loop-k.invariant.few c.loop-k.invariant.gathered c.loop-k.invariant.count in
    record {
      gathered = c.put_next-count.ensures.packets ∙ next.0;
      count = c.put_next-count.ensures.next ∙ next.1;
      few = omega (arith, c.put_next-count.ensures.next, one_or_none c.index-standing-k.result, c.loop-k.invariant.few);
      whole = c.put_next-count.ensures.whole ∙ c.loop-k.invariant.whole;
    }

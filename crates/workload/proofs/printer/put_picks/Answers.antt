use Rattle.workload.proofs.RowLaws.{pick_more}
use Rattle.workload.proofs.printer.put_picks.Goals as goal

pub loop-pick-preserved : goal.loop-pick-preserved
loop-pick-preserved c = record {
  text = pick_more c.loop-pick.out.items c.put_pick.new.out.items _ c.loop-pick.place c.next_place-place.result c.loop-pick.pick-index c.args.picks.now c.loop-pick-test.true c.loop-pick.invariant.place c.in_ok-put_pick.ensures c.next_place-place.ensures.value c.loop-pick.invariant.text;
  place = c.next_place-place.ensures.bound;
}

use Rattle.std.proofs.Common.{◌+◌, sym, subst}
use Rattle.retry_link.proofs.Trials.{AreMade, made_more}
use Rattle.retry_link.proofs.random_tests.some_events.Goals as goal

pub loop-made-preserved : goal.loop-made-preserved
loop-made-preserved c =
    subst (AreMade (c.loop-made.made + 1)) (sym c.in_ok-extend_from_slice.ensures.items)
    (made_more c.loop-made.made c.loop-made.events.items c.in_ok-event.event c.loop-made.invariant c.in_ok-event.ensures)

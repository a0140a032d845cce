use Rattle.std.proofs.Common.{◌≡◌, slice_get, Some, sym, ap, ◌∙◌}
use Rattle.std.proofs.lemmas.Option.{slice_get-get_or}
use Rattle.retry_link.proofs.Trials.{may_step, run_more}
use Rattle.retry_link.proofs.random_tests.count_full.Goals as goal

pub tell-requires-clause-may : goal.tell-requires-clause-may
tell-requires-clause-may c =
    may_step c.links_may_go_on.ensures c.args.events.now c.loop-event.event-index c.loop-event.link c.requires.events c.loop-event.invariant

pub loop-event-preserved : goal.loop-event-preserved
loop-event-preserved c =
    let at : slice_get c.args.events.now c.loop-event.event-index ≡ Some c.event-item.result = slice_get-get_or c.args.events.now c.loop-event.event-index c.event-item.result c.loop-event-test.true ∙ ap Some (sym c.event-item.is) in
    run_more c.args.events.now c.loop-event.event-index c.event-item.result c.loop-event.link c.tell.new.link at c.loop-event.invariant c.in_ok-told.ensures

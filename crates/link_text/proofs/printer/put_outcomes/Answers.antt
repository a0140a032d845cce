use Rattle.std.proofs.Common.{◌≡◌, slice_get, Some, sym, ap, ◌∙◌}
use Rattle.std.proofs.lemmas.Option.{slice_get-get_or}
use Rattle.link_text.proofs.TellingLaws.{may_step, run_more, told_more}
use Rattle.link_text.proofs.printer.put_outcomes.Goals as goal

pub step-requires-clause-may : goal.step-requires-clause-may
step-requires-clause-may c = may_step c.links_may_go_on.ensures c.args.events.now c.loop-event.event-index c.loop-event.link c.requires.events c.loop-event.invariant.link

pub loop-event-preserved : goal.loop-event-preserved
loop-event-preserved c =
    let at : slice_get c.args.events.now c.loop-event.event-index ≡ Some c.event-item.result = slice_get-get_or c.args.events.now c.loop-event.event-index c.event-item.result c.loop-event-test.true ∙ ap Some (sym c.event-item.is) in
    record {
      link = run_more c.args.events.now c.loop-event.event-index c.event-item.result c.loop-event.link c.step.new.self at c.loop-event.invariant.link c.in_ok-told.ensures.state;
      text = told_more c.args.events.now c.loop-event.event-index c.event-item.result c.loop-event.link c.in_ok-told.told c.args.out.now.items c.loop-event.out.items c.put_outcome.new.out.items at c.loop-event.invariant.link c.in_ok-told.ensures.outcome c.loop-event.invariant.text c.in_ok-put_outcome.ensures;
    }

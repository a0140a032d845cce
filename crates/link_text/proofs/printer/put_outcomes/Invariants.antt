use Rattle.std.proofs.Common.{◌≡◌, ◌++◌, take}
use Rattle.retry_link.specs.Link.{opening_link, outcomes, run_link}
use Rattle.link_text.specs.Transcript.{outcome_lines}
use Rattle.link_text.proofs.printer.put_outcomes.Given as goal

-- the events so far have happened, and were told
abbrev pub invariant-loop-event : goal.invariant-loop-event
invariant-loop-event l = record {
  link : l.link ≡ run_link opening_link (take l.event-index l.events);
  text : l.out.items ≡ l.fn.out.items ++ outcome_lines (outcomes opening_link (take l.event-index l.events));
}

use Rattle.std.proofs.Common.{◌≡◌, take}
use Rattle.retry_link.specs.Link.{opening_link, run_link}
use Rattle.retry_link.proofs.random_tests.count_full.Given as goal

-- the events so far have happened
abbrev pub invariant-loop-event : goal.invariant-loop-event
invariant-loop-event l = l.link ≡ run_link opening_link (take l.event-index l.events)

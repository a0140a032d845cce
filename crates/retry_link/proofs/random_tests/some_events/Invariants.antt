use Rattle.retry_link.proofs.Trials.{AreMade}
use Rattle.retry_link.proofs.random_tests.some_events.Given as goal

-- so many events were made
abbrev pub invariant-loop-made : goal.invariant-loop-made
invariant-loop-made l = AreMade l.made l.events.items

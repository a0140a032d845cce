use Rattle.std.proofs.Common.{◌≡◌, ◌+◌, drop}
use Rattle.far_history.specs.Summary.{count_of, is_answer}
use Rattle.far_runner.proofs.shared.answers_from.Given as goal

abbrev pub invariant-loop-at : goal.invariant-loop-at
invariant-loop-at l = l.count + count_of is_answer (drop l.at l.log.lines) ≡ count_of is_answer (drop l.place l.log.lines)

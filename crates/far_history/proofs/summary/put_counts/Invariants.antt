use Rattle.std.proofs.Common.{◌≡◌, ◌++◌, drop}
use Rattle.far_history.specs.Report.{texts}
use Rattle.far_history.specs.Summary.{count_text}
use Rattle.far_history.proofs.summary.put_counts.Given as goal

abbrev pub invariant-loop-count : goal.invariant-loop-count
invariant-loop-count l = l.out.items ++ texts (λ c. count_text (c.word.now, c.number)) (drop l.count-index l.counts) ≡ l.initial.out.items ++ texts (λ c. count_text (c.word.now, c.number)) l.counts

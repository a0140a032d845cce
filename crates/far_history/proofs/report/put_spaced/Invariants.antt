use Rattle.std.proofs.Common.{◌≡◌, ◌++◌, map, drop}
use Rattle.far_text.specs.Spelled.{word_text}
use Rattle.far_history.specs.Rows.{spaced}
use Rattle.far_history.proofs.report.put_spaced.Given as goal

abbrev pub invariant-loop-word : goal.invariant-loop-word
invariant-loop-word l = l.out.items ++ spaced (map word_text (drop l.word-index l.words)) ≡ l.fn.out.items ++ spaced (map word_text l.words)

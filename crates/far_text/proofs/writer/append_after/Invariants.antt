use Rattle.std.proofs.Common.{◌≡◌, ◌++◌, map, length, take, drop}
use Rattle.far_text.specs.Text.{after_words}
use Rattle.far_text.specs.Spelled.{word_text}
use Rattle.far_text.proofs.writer.append_after.Given as goal

-- what is written and what is still to be written are all, behind what was there
abbrev pub invariant-loop-word : goal.invariant-loop-word
invariant-loop-word l = record {
  text : l.out.items ++ after_words (map word_text (drop l.word-index l.words)) ≡ l.fn.out.items ++ after_words (map word_text l.words);
  front : take (length l.fn.out.items) l.out.items ≡ l.fn.out.items;
}

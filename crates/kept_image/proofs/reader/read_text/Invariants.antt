use Rattle.std.proofs.Common.{◌≡◌, ◌+◌, ◌≤◌, length}
use Rattle.kept_image.specs.Meaning.{IsFront}
use Rattle.kept_image.specs.Reading.{IsIndexed}
use Rattle.kept_image.proofs.reader.read_text.Given as goal

-- the lines so far are the first one and those of the items
abbrev pub invariant-loop-line : goal.invariant-loop-line
invariant-loop-line l = record {
  front : IsFront l.text l.version l.reader.items.items l.lines.rest.now;
  indexed : IsIndexed l.reader;
  count : l.lines.read ≡ length l.reader.items.items + 1;
  within : l.lines.read + length l.lines.rest.now + 2 ≤ length l.text;
}

abbrev pub decreases-loop-line : goal.decreases-loop-line
decreases-loop-line l = length l.lines.rest.now

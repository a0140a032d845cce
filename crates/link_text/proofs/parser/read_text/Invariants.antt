use Rattle.std.proofs.Common.{◌≡◌, ◌+◌, ◌≤◌, length}
use Rattle.far_model.specs.Members.{Each}
use Rattle.far_text.specs.Pieces.{pieces}
use Rattle.retry_link.specs.Link.{OffersMessage}
use Rattle.link_text.specs.Reading.{lines_from, reading}
use Rattle.link_text.proofs.parser.read_text.Given as goal

-- the lines so far and those to come are the whole text
abbrev pub invariant-loop-lines : goal.invariant-loop-lines
invariant-loop-lines l = record {
  reads : reading l.text ≡ lines_from l.lines.read l.events.items (pieces 10 l.lines.rest.now);
  messages : Each OffersMessage l.events.items;
  within : l.lines.read + length l.lines.rest.now ≤ length l.text;
}

abbrev pub decreases-loop-lines : goal.decreases-loop-lines
decreases-loop-lines l = length l.lines.rest.now

use Rattle.std.proofs.Common.{rules}
use Rattle.far_text.specs.Pieces.{pieces}
use Rattle.link_text.proofs.ByLine.{line_faulty}
use Rattle.link_text.proofs.parser.read_text.Goals as goal

pub returns-in_err-take_line-clause-read : goal.returns-in_err-take_line-clause-read
returns-in_err-take_line-clause-read c = search (rules, line_faulty c.args.text.now c.loop-lines.lines.read c.next_line.new.lines.read c.loop-lines.events.items (pieces 10 c.loop-lines.lines.rest.now) (pieces 10 c.next_line.new.lines.rest.now) c.in_ok-line.line.now c.in_err-take_line.field-0.0 c.loop-lines.invariant.reads c.in_ok-line.ensures.line c.in_ok-line.ensures.count c.in_err-take_line.ensures.taken)

use Rattle.std.proofs.Common.{rules}
use Rattle.far_text.specs.Pieces.{pieces}
use Rattle.line_text.proofs.LineLaws.{packet_faulty}
use Rattle.line_text.proofs.input.read_packets.Goals as goal

pub returns-in_err-take_line : goal.returns-in_err-take_line
returns-in_err-take_line c = search (rules, packet_faulty _ c.loop-alloc.lines.read c.next_line.new.lines.read c.loop-alloc.packets.items (pieces 10 c.loop-alloc.lines.rest.now) (pieces 10 c.next_line.new.lines.rest.now) c.in_ok-line.line.now c.in_err-take_line.field-0.0 c.loop-alloc.invariant.reads c.in_ok-line.ensures.line c.in_ok-line.ensures.count c.in_err-take_line.ensures.step)

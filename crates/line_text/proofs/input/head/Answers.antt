use Rattle.std.proofs.Common.{rules}
use Rattle.far_text.specs.Pieces.{pieces}
use Rattle.line_text.proofs.Heads.{no_hot}
use Rattle.line_text.proofs.input.head.Goals as goal

pub returns-in_err-hot-clause-head : goal.returns-in_err-hot-clause-head
returns-in_err-hot-clause-head c = search (rules, no_hot (pieces 10 c.args.lines.now.rest.now) (pieces 10 c.title.new.lines.rest.now) (pieces 10 c.size.new.lines.rest.now) (pieces 10 c.size-2.new.lines.rest.now) c.title.new.lines.read c.size.new.lines.read c.size-2.new.lines.read c.in_ok-servers.servers c.in_ok-slots.slots c.in_err-hot.field-0.0 c.in_ok-title.ensures.line c.in_ok-title.ensures.count c.in_ok-servers.ensures.line c.in_ok-servers.ensures.count c.in_ok-slots.ensures.line c.in_ok-slots.ensures.count c.in_err-hot.ensures.line)

use Rattle.link_text.proofs.ReadingLaws.{are_events, is_blamed, is_first, is_found, is_only}
use Rattle.link_text.proofs.parser.parse.Goals as goal

pub returns-clause-found : goal.returns-clause-found
returns-clause-found c = is_found c.args.text.now c.read_text.result c.read_text.ensures.read

pub returns-clause-only : goal.returns-clause-only
returns-clause-only c = is_only c.args.text.now c.read_text.result c.read_text.ensures.read

pub returns-clause-fault : goal.returns-clause-fault
returns-clause-fault c = is_blamed c.args.text.now c.read_text.result c.read_text.ensures.read

pub returns-clause-first : goal.returns-clause-first
returns-clause-first c = is_first c.args.text.now c.read_text.result c.read_text.ensures.read

pub returns-clause-events : goal.returns-clause-events
returns-clause-events c = are_events c.args.text.now c.read_text.result c.read_text.ensures.read c.read_text.ensures.messages

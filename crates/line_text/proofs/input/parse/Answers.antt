use Rattle.line_text.proofs.MeaningLaws.{is_found, is_only}
use Rattle.line_text.proofs.input.parse.Goals as goal

pub returns-clause-found : goal.returns-clause-found
returns-clause-found c = is_found c.args.text.now c.read_text.result c.read_text.ensures.read

pub returns-clause-only : goal.returns-clause-only
returns-clause-only c = is_only c.args.text.now c.read_text.result c.read_text.ensures.read

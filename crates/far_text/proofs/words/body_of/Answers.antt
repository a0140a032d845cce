use Rattle.far_text.proofs.Spelling.{body_is, found_by, only_by}
use Rattle.far_text.proofs.words.body_of.Goals as goal

pub returns-clause-found : goal.returns-clause-found
returns-clause-found c = found_by body_is c.args.word.now c.read_body.result c.read_body.ensures

pub returns-clause-only : goal.returns-clause-only
returns-clause-only c = only_by body_is c.args.word.now c.read_body.result c.read_body.ensures

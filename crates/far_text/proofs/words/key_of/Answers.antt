use Rattle.far_text.proofs.Spelling.{key_is, found_by, only_by}
use Rattle.far_text.proofs.words.key_of.Goals as goal

pub returns-clause-found : goal.returns-clause-found
returns-clause-found c = found_by key_is c.args.word.now c.read_key.result c.read_key.ensures

pub returns-clause-only : goal.returns-clause-only
returns-clause-only c = only_by key_is c.args.word.now c.read_key.result c.read_key.ensures

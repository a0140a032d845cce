use Rattle.far_text.proofs.Spelling.{number_is, found_by, only_by}
use Rattle.far_text.proofs.words.number_of.Goals as goal

pub returns-clause-found : goal.returns-clause-found
returns-clause-found c = found_by number_is c.args.word.now c.read_number.result c.read_number.ensures

pub returns-clause-only : goal.returns-clause-only
returns-clause-only c = only_by number_is c.args.word.now c.read_number.result c.read_number.ensures

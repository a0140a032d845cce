use Rattle.kept_image.proofs.LineLaws.{found_line, only_line}
use Rattle.kept_image.proofs.words.item_of.Goals as goal

pub returns-clause-found : goal.returns-clause-found
returns-clause-found c = found_line c.args.limit c.args.line.now c.read_item.result c.read_item.ensures

pub returns-clause-only : goal.returns-clause-only
returns-clause-only c = only_line c.args.limit c.args.line.now c.read_item.result c.read_item.ensures

use Rattle.kept_image.proofs.OneReading.{is_only, is_first, migrates}
use Rattle.kept_image.proofs.reader.parse.Goals as goal

pub returns-clause-only : goal.returns-clause-only
returns-clause-only c = is_only c.args.text.now c.read_text.result c.read_text.ensures.found c.read_text.ensures.fault

pub returns-clause-migrates : goal.returns-clause-migrates
returns-clause-migrates c = migrates c.args.text.now c.read_text.result c.read_text.ensures.found

pub returns-clause-first : goal.returns-clause-first
returns-clause-first c = is_first c.args.text.now c.read_text.result c.read_text.ensures.found c.read_text.ensures.fault

use Rattle.workload.proofs.ReadingLaws.{is_found, is_only, is_plain}
use Rattle.workload.proofs.FaultLaws.{is_blamed, is_first}
use Rattle.workload.proofs.parser.parse.Goals as goal

pub returns-clause-found : goal.returns-clause-found
returns-clause-found c = is_found c.args.text.now c.read_text.result c.read_text.ensures

pub returns-clause-only : goal.returns-clause-only
returns-clause-only c = is_only c.args.text.now c.read_text.result c.read_text.ensures

pub returns-clause-plain : goal.returns-clause-plain
returns-clause-plain c = is_plain c.args.text.now c.read_text.result c.read_text.ensures

pub returns-clause-fault : goal.returns-clause-fault
returns-clause-fault c = is_blamed c.args.text.now c.read_text.result c.read_text.ensures

pub returns-clause-first : goal.returns-clause-first
returns-clause-first c = is_first c.args.text.now c.read_text.result c.read_text.ensures

use Rattle.workload.proofs.Generated.{plain_of}
use Rattle.workload.proofs.generator.generate.Goals as goal

pub returns-clause-plain : goal.returns-clause-plain
returns-clause-plain c = plain_of c.args.start c.args.ops c.work_of.result c.requires c.work_of.ensures

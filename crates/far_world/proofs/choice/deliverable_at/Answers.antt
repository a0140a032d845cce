use Rattle.far_world.proofs.Counting.{delivers_at}
use Rattle.far_world.proofs.choice.deliverable_at.Goals as goal

pub returns-then-running : goal.returns-then-running
returns-then-running c = rw c.if-running.true (delivers_at c.args.bag.now.messages c.args.place (rw c.if-running.true at c.requires))

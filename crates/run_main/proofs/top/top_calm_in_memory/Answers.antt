use Rattle.run_main.proofs.Endings.{calm, decided}
use Rattle.run_main.proofs.top.top_calm_in_memory.Goals as goal

pub returns-clause-decided : goal.returns-clause-decided
returns-clause-decided c = decided _ _ _ _ _ _ calm calm calm c.top_calm.ensures.settled

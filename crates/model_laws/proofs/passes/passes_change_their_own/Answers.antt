use Rattle.model_laws.proofs.Passing.{own_changes}
use Rattle.model_laws.proofs.passes.passes_change_their_own.Goals as goal

pub returns : goal.returns
returns c v packet = own_changes v packet

use Rattle.model_laws.proofs.Choosing.{picked_run}
use Rattle.model_laws.proofs.choices.picked_events_can_happen.Goals as goal

pub returns : goal.returns
returns c plan pick n s events h = picked_run plan pick n s events h

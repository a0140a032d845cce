use Rattle.model_laws.proofs.Answering.{from_tops, ready_is, ready_out}
use Rattle.model_laws.proofs.controller.ready_is_all_answered.Goals as goal

pub returns-clause-ready : goal.returns-clause-ready
returns-clause-ready g c = (ready_out c, ready_is c)

pub returns-clause-counter : goal.returns-clause-counter
returns-clause-counter g c counter h = from_tops c counter h

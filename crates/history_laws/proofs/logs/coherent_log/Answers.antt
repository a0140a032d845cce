use Rattle.history_laws.proofs.Existing.{one_legal_history}
use Rattle.history_laws.proofs.Places.{history_legal, history_in_time}
use Rattle.history_laws.proofs.logs.coherent_log.Goals as goal

pub returns-clause-linearizable : goal.returns-clause-linearizable
returns-clause-linearizable c log history coherent h = record { legal = history_legal log coherent history h; in_time = history_in_time log coherent history h }

pub returns-clause-one : goal.returns-clause-one
returns-clause-one c log coherent = one_legal_history log coherent

pub returns-clause-by_client : goal.returns-clause-by_client
returns-clause-by_client c log history coherent h = λ i j x y a s t p q k m same b late. history_in_time log coherent history h i j x y a t p q b m late

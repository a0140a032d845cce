use Rattle.flight_laws.proofs.Logged.{finished_answers, kept_logged}
use Rattle.flight_laws.proofs.runs.runs_are_logged.Goals as goal

pub returns-clause-logged : goal.returns-clause-logged
returns-clause-logged c plan events valid r = kept_logged plan events valid r

pub returns-clause-answered : goal.returns-clause-answered
returns-clause-answered c plan events valid r done = finished_answers plan _ (kept_logged plan events valid r) done

use Rattle.flight_laws.proofs.KeptRuns.{kept_lowers, kept_quiet}
use Rattle.flight_laws.proofs.runs.runs_end.Goals as goal

pub returns-clause-lowers : goal.returns-clause-lowers
returns-clause-lowers c plan events valid r e k ans able = kept_lowers plan events valid r e k ans able

pub returns-clause-quiet : goal.returns-clause-quiet
returns-clause-quiet c plan events valid r = kept_quiet plan events valid r

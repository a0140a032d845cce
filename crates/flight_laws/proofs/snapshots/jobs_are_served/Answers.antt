use Rattle.flight_laws.proofs.SnapCompleting.{job_is_served, no_job}
use Rattle.flight_laws.proofs.snapshots.jobs_are_served.Goals as goal

pub returns-clause-served : goal.returns-clause-served
returns-clause-served c tells plan s starts j h f runs is = job_is_served plan s starts h f runs j is

pub returns-clause-quiet : goal.returns-clause-quiet
returns-clause-quiet c tells plan s starts h f runs empty = no_job plan s starts h f runs empty

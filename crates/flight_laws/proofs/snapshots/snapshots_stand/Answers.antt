use Rattle.flight_laws.proofs.SnapEvents.{event_stands, event_stands_with}
use Rattle.flight_laws.proofs.SnapRuns.{opening_stands, runs_stand}
use Rattle.flight_laws.proofs.snapshots.snapshots_stand.Goals as goal

pub returns-clause-opening : goal.returns-clause-opening
returns-clause-opening c tells plan = opening_stands plan

pub returns-clause-event_with : goal.returns-clause-event_with
returns-clause-event_with c tells plan k s p e h owed answers can = event_stands_with plan k s p e h owed answers can

pub returns-clause-event : goal.returns-clause-event
returns-clause-event c tells plan s p e h owed can = event_stands plan s p e h owed can

pub returns-clause-runs : goal.returns-clause-runs
returns-clause-runs c tells plan events r o = runs_stand plan events r o

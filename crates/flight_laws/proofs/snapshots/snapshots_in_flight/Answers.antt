use Rattle.flight_laws.proofs.SnapServingEvents.{event_flies_with, opening_flies}
use Rattle.flight_laws.proofs.snapshots.snapshots_in_flight.Goals as goal

pub returns-clause-opening : goal.returns-clause-opening
returns-clause-opening c plan = opening_flies plan

pub returns-clause-event_with : goal.returns-clause-event_with
returns-clause-event_with c tells plan k s p e h f owed routed answers can = event_flies_with plan k s p e h f owed routed answers can

use Rattle.flight_laws.proofs.Handling.{flight_opens, flight_step}
use Rattle.flight_laws.proofs.flights.routes.Goals as goal

pub returns-clause-opens : goal.returns-clause-opens
returns-clause-opens c plan = (flight_opens plan).routed

pub returns-clause-step_with : goal.returns-clause-step_with
returns-clause-step_with c plan k s e routed one ans able = (flight_step plan k s e (record { routed = routed; one = one }) ans able).routed

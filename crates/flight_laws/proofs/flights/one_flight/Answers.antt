use Rattle.flight_laws.proofs.Handling.{flight_opens, flight_step}
use Rattle.flight_laws.proofs.InKind.{answers_in_kind}
use Rattle.flight_laws.proofs.flights.one_flight.Goals as goal

pub returns-clause-answers : goal.returns-clause-answers
returns-clause-answers c s e = answers_in_kind s e

pub returns-clause-opens : goal.returns-clause-opens
returns-clause-opens c plan = (flight_opens plan).one

pub returns-clause-step_with : goal.returns-clause-step_with
returns-clause-step_with c plan k s e routed one ans able = (flight_step plan k s e (record { routed = routed; one = one }) ans able).one

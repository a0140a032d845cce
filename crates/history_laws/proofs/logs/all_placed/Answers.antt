use Rattle.history_laws.proofs.Places.{answered_placed, write_placed}
use Rattle.history_laws.proofs.logs.all_placed.Goals as goal

pub returns-clause-answered : goal.returns-clause-answered
returns-clause-answered c log op a coherent h = answered_placed log coherent op a h

pub returns-clause-exposed : goal.returns-clause-exposed
returns-clause-exposed c log op moment own coherent h k = write_placed log coherent op moment own h k

pub returns-clause-answered_stands : goal.returns-clause-answered_stands
returns-clause-answered_stands c log history op a coherent h k = let p = answered_placed log coherent op a k in (p.0, p.1, h.complete p.0 p.2)

pub returns-clause-exposed_stands : goal.returns-clause-exposed_stands
returns-clause-exposed_stands c log history op moment own coherent h k m = let p = write_placed log coherent op moment own k m in (p.0, p.1, h.complete p.0 p.2)

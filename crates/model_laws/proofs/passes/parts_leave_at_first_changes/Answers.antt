use Rattle.model_laws.proofs.Parting.{marked_after, marked_asked, parts_leave, records_hold, taken_after, taken_asked}
use Rattle.model_laws.proofs.passes.parts_leave_at_first_changes.Goals as goal

pub returns-clause-parts : goal.returns-clause-parts
returns-clause-parts c v packet = parts_leave v packet

pub returns-clause-changed : goal.returns-clause-changed
returns-clause-changed c v packet i e h = taken_after v packet i e h

pub returns-clause-asked : goal.returns-clause-asked
returns-clause-asked c v packet i e h = taken_asked v packet i e h

pub returns-clause-changed_mark : goal.returns-clause-changed_mark
returns-clause-changed_mark c v packet i e f h = marked_after v packet i e f h

pub returns-clause-asked_mark : goal.returns-clause-asked_mark
returns-clause-asked_mark c v packet i e f h = marked_asked v packet i e f h

pub returns-clause-records : goal.returns-clause-records
returns-clause-records c v packet i free h = records_hold v packet i free h

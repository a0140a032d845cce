use Rattle.flight_laws.proofs.SnapMeanings.{parts_are_starts, marks_match, start_covers, released_covered, preserved_above}
use Rattle.flight_laws.proofs.snapshots.snapshots_mean.Goals as goal

pub returns-clause-parts : goal.returns-clause-parts
returns-clause-parts c plan s starts h = parts_are_starts plan s starts h

pub returns-clause-marks : goal.returns-clause-marks
returns-clause-marks c plan s starts h = marks_match plan s starts h

pub returns-clause-start : goal.returns-clause-start
returns-clause-start c plan s starts h = start_covers plan s starts h

pub returns-clause-released : goal.returns-clause-released
returns-clause-released c plan s starts h = released_covered plan s starts h

pub returns-clause-preserved : goal.returns-clause-preserved
returns-clause-preserved c plan s starts h = preserved_above plan s starts h

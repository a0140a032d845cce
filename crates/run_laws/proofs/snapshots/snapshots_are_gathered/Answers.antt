use Rattle.far_invariants.specs.Past.{past_of}
use Rattle.far_model.specs.Runs.{run}
use Rattle.far_model.specs.State.{opening}
use Rattle.flight_laws.proofs.SnapMeanings.{marks_match, parts_are_starts, released_covered, start_covers}
use Rattle.run_laws.proofs.Steps.{holds}
use Rattle.run_laws.proofs.snapshots.snapshots_are_gathered.Goals as goal

pub returns-clause-stand : goal.returns-clause-stand
returns-clause-stand c plan events valid r = (holds plan events valid r).snapshots

pub returns-clause-parts : goal.returns-clause-parts
returns-clause-parts c plan events valid r = parts_are_starts plan (run plan (opening plan) events) (past_of plan events).starts (holds plan events valid r).snapshots

pub returns-clause-marks : goal.returns-clause-marks
returns-clause-marks c plan events valid r = marks_match plan (run plan (opening plan) events) (past_of plan events).starts (holds plan events valid r).snapshots

pub returns-clause-start : goal.returns-clause-start
returns-clause-start c plan events valid r = start_covers plan (run plan (opening plan) events) (past_of plan events).starts (holds plan events valid r).snapshots

pub returns-clause-released : goal.returns-clause-released
returns-clause-released c plan events valid r = released_covered plan (run plan (opening plan) events) (past_of plan events).starts (holds plan events valid r).snapshots

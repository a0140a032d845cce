use Rattle.recovery_laws.proofs.Begun.{HasRecovery, recovery_before}
use Rattle.run_laws.proofs.Blocks.{blocks_are_restarts}
use Rattle.far_invariants.specs.Past.{past_of}
use Rattle.far_invariants.specs.Recoveries.{recovered_last}
use Rattle.far_model.specs.Runs.{run}
use Rattle.far_model.specs.State.{opening}
use Rattle.recovery_laws.proofs.Laws.{restart_restores}
use Rattle.run_laws.proofs.Runs.{stops_needed}
use Rattle.run_laws.proofs.Steps.{holds}
use Rattle.run_laws.proofs.recoveries.restarts_restore.Goals as goal

pub returns-clause-restored : goal.returns-clause-restored
returns-clause-restored c plan events valid r = λ can. restart_restores plan (recovered_last (past_of plan events)) (run plan (opening plan) events) (holds plan events valid r).stops (stops_needed plan events valid r) can

pub returns-clause-begun : goal.returns-clause-begun
returns-clause-begun c plan events valid r = λ can. let h : HasRecovery events = recovery_before plan events can in (h.before, h.after)

pub returns-clause-blocks : goal.returns-clause-blocks
returns-clause-blocks c plan events valid r = blocks_are_restarts plan events valid r

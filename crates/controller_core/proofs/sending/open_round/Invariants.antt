use Rattle.std.proofs.Common.{◌≡◌}
use Rattle.far_model.specs.Rounds.{new_round}
use Rattle.controller_core.proofs.sending.open_round.Given as goal

abbrev pub invariant-loop : goal.invariant-loop
invariant-loop l = l.round ≡ new_round l.number l.first_job l.config.clients l.config.servers l.counter

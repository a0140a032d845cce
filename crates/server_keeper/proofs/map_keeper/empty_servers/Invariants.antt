use Rattle.std.proofs.Common.{◌≡◌, [], replicate}
use Rattle.server_keeper.proofs.map_keeper.empty_servers.Given as goal

abbrev pub invariant-loop : goal.invariant-loop
invariant-loop l = l.servers.items ≡ replicate l.counter []

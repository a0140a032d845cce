use Rattle.std.proofs.Common.{◌≡◌, ◌++◌, take}
use Rattle.far_model.specs.Kept.{client_items}
use Rattle.far_world.specs.Seats.{clients_of}
use Rattle.far_world.proofs.kept_list.place_clients.Given as goal

abbrev pub invariant-loop-i : goal.invariant-loop-i
invariant-loop-i l = l.into.items ≡ l.initial.into.items ++ client_items 0 (clients_of (take l.i l.clients))

use Rattle.std.proofs.Common.{◌≡◌, ◌≤◌, false, take}
use Rattle.std.specs.List.{count_by}
use Rattle.far_model.specs.Events.{can_deliver}
use Rattle.far_world.proofs.choice.count_before.Given as goal

abbrev pub invariant-loop-at : goal.invariant-loop-at
invariant-loop-at l = record {
  count : l.count ≡ count_by (can_deliver false) (take l.at l.bag.messages);
  bound : l.count ≤ l.at;
}

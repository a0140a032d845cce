use Rattle.std.proofs.Common.{◌≡◌, ◌+◌, false, take}
use Rattle.std.specs.List.{count_by}
use Rattle.far_model.specs.Events.{can_deliver}
use Rattle.far_world.proofs.choice.passing_at.Given as goal

abbrev pub invariant-loop-at : goal.invariant-loop-at
invariant-loop-at l = count_by (can_deliver false) (take l.at l.bag.messages) + l.left ≡ l.place

use Rattle.std.proofs.Common.{◌≡◌, ◌+◌, ◌≤◌, ◌++◌, length, take}
use Rattle.far_model.specs.Parties.{messages_from}
use Rattle.far_world.proofs.turn.send_all.Given as goal

abbrev pub invariant-loop-out : goal.invariant-loop-out
invariant-loop-out l = record {
  sent : l.bag.messages ≡ l.initial.bag.messages ++ messages_from l.from (take l.out-index l.outs);
  count : length l.bag.messages ≡ length l.initial.bag.messages + l.out-index;
  room : length l.outs ≤ l.bag.room + l.out-index;
}

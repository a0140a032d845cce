use Rattle.std.proofs.Common.{◌≡◌, ◌+◌, ◌≤◌, vec_len, vec_capacity}
use Rattle.stage_workers.specs.Work.{HeadWorked}
use Rattle.stage_workers.proofs.workers.work_as_head.Given as goal

-- what was done so far is what the packets that were taken make of the head
abbrev pub invariant-loop-k : goal.invariant-loop-k
invariant-loop-k g l = record {
  worked : HeadWorked l.fn.head l.done;
  counter : l.done.head.front.gate.counter ≤ l.fn.head.front.gate.counter + l.k;
  took : vec_len l.done.took ≡ l.k;
  gave : vec_len l.done.gave ≡ l.k;
  took_room : l.count ≤ vec_capacity l.done.took;
  gave_room : l.count ≤ vec_capacity l.done.gave;
}

use Rattle.std.proofs.Common.{◌≡◌, ◌≤◌, vec_len, vec_capacity}
use Rattle.stage_workers.specs.Work.{PartWorked}
use Rattle.stage_workers.proofs.workers.work_as_part.Given as goal

-- what was done so far is what the flights that were taken make of the part
abbrev pub invariant-loop-k : goal.invariant-loop-k
invariant-loop-k g l = record {
  worked : PartWorked l.fn.part l.done;
  took : vec_len l.done.took ≡ l.k;
  gave : vec_len l.done.gave ≡ l.k;
  took_room : l.count ≤ vec_capacity l.done.took;
  gave_room : l.count ≤ vec_capacity l.done.gave;
}

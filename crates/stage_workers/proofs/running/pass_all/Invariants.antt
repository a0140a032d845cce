use Rattle.std.proofs.Common.{◌≡◌, ◌+◌, ◌≤◌, length, take, vec_capacity, vec_len}
use Rattle.switch_staged.specs.Line.{answers, final}
use Rattle.stage_workers.proofs.running.pass_all.Given as goal

-- the first packets have passed
abbrev pub invariant-loop-k : goal.invariant-loop-k
invariant-loop-k l = record {
  answers_are : l.emits.items ≡ answers l.fn.switch (take l.k l.packets);
  view : l.switch ≡ final l.fn.switch (take l.k l.packets);
  counter : l.switch.counter ≤ l.fn.switch.counter + l.k;
  count : vec_len l.emits ≡ l.k;
  room : length l.packets ≤ vec_capacity l.emits;
}

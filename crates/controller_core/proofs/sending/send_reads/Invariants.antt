use Rattle.std.proofs.Common.{◌≡◌, ◌+◌, ◌≤◌, ◌++◌, drop, vec_len, vec_capacity}
use Rattle.far_model.specs.Snapshots.{part_reads}
use Rattle.controller_core.proofs.sending.send_reads.Given as goal

abbrev pub invariant-loop-slot : goal.invariant-loop-slot
invariant-loop-slot l = record {
  len : vec_len l.out ≤ vec_len l.initial.out + l.slot;
  capacity : vec_capacity l.out ≡ vec_capacity l.initial.out;
  all : l.out.items ++ part_reads l.epoch l.job.id l.slot (drop l.slot l.job.parts) ≡ l.initial.out.items ++ part_reads l.epoch l.job.id 0 l.job.parts;
}

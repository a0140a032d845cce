use Rattle.std.proofs.Common.{◌≡◌, ◌+◌, ◌≤◌, ◌++◌, drop, length, vec_len, vec_capacity}
use Rattle.far_model.specs.Controller.{numbered_records, stores_of}
use Rattle.far_model.specs.Snapshots.{view_records}
use Rattle.controller_core.proofs.sending.send_stores.Given as goal

abbrev pub invariant-loop-view : goal.invariant-loop-view
invariant-loop-view l = record {
  drawn : l.job ≤ l.fn.first_job + l.view-index;
  spare : vec_len l.out + length (numbered_records (view_records (drop l.view-index l.views))) ≤ vec_capacity l.out;
  all : l.out.items ++ stores_of l.config l.job (numbered_records (view_records (drop l.view-index l.views))) ≡ l.initial.out.items ++ stores_of l.config l.fn.first_job (numbered_records (view_records l.views));
}

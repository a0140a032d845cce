use Rattle.std.proofs.Common.{◌≡◌, ◌+◌, ◌≤◌, drop, length}
use Rattle.far_model.specs.Controller.{numbered_records}
use Rattle.far_model.specs.Snapshots.{view_records}
use Rattle.controller_core.proofs.sending.count_stores.Given as goal

abbrev pub invariant-loop-view : goal.invariant-loop-view
invariant-loop-view l = record {
  bound : l.count ≤ l.view-index;
  all : l.count + length (numbered_records (view_records (drop l.view-index l.views))) ≡ length (numbered_records (view_records l.views));
}

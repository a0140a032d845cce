use Rattle.std.proofs.Common.{◌≡◌, ◌≤◌, length, take}
use Rattle.far_model.specs.Snapshots.{view_records}
use Rattle.far_world.proofs.tasks.count_records.Given as goal

abbrev pub invariant-loop-view : goal.invariant-loop-view
invariant-loop-view l = record {
  count : l.count ≡ length (view_records (take l.view-index l.views));
  bound : l.count ≤ l.view-index;
}

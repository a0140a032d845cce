use Rattle.std.proofs.Common.{◌≡◌, ◌+◌, ◌≤◌, ◌++◌, take, vec_len, vec_capacity}
use Rattle.far_model.specs.Snapshots.{view_items}
use Rattle.far_world.proofs.tasks.note_views.Given as goal

abbrev pub invariant-loop-slot : goal.invariant-loop-slot
invariant-loop-slot l = record {
  notes : l.turn.notes.items ≡ l.initial.turn.notes.items ++ view_items 0 (take l.slot l.views);
  out : l.turn.out ≡ l.initial.turn.out;
  used : vec_len l.turn.notes ≤ vec_len l.initial.turn.notes + l.slot;
  room : vec_capacity l.turn.notes ≡ vec_capacity l.initial.turn.notes;
}

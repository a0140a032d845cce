use Rattle.std.proofs.Common.{◌≡◌, ◌+◌, ◌≤◌, ◌++◌, length, map, take}
use Rattle.far_model.specs.State.{line_at}
use Rattle.far_world.proofs.turn.note_all.Given as goal

abbrev pub invariant-loop-entry : goal.invariant-loop-entry
invariant-loop-entry l = record {
  steps : l.log.steps ≡ l.moment;
  lines : l.log.lines ≡ l.initial.log.lines ++ map (line_at l.moment) (take l.entry-index l.notes);
  room : length l.notes ≤ l.log.room + l.entry-index;
}

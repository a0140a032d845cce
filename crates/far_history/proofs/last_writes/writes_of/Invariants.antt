use Rattle.std.proofs.Common.{◌≡◌, [], drop}
use Rattle.far_history.specs.LastWrites.{entries_after}
use Rattle.far_history.proofs.last_writes.writes_of.Given as goal

abbrev pub invariant-loop-place : goal.invariant-loop-place
invariant-loop-place l = entries_after l.table l.last.entries (drop l.place-index l.places) ≡ entries_after l.table [] l.places

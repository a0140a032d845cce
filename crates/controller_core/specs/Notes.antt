-- What the log keeps of a note.
use Rattle.std.specs.Prelude.{List, [], ◌∷◌, length}
use Rattle.far_base.specs.declared.log.LogEntry.{LogEntry}
use Rattle.far_base.specs.declared.log.LogEntry.TheVariants as entry
use Rattle.far_model.specs.Snapshots.{SnapshotView, view_items, view_records}
use Rattle.controller_core.specs.declared.note.Note.{Note}
use Rattle.controller_core.specs.declared.note.Note.TheVariants.{Nothing, Admitted, Evicted, Kept, Completed}

-- the entries of the log, where this is the last completed snapshot
abbrev pub notes_of : Note → SnapshotView → List LogEntry
notes_of Nothing last = []
notes_of (Admitted slot key tag) last = entry.Admitted slot key tag ∷ []
notes_of (Evicted slot key tries) last = entry.Evicted slot key tries ∷ []
notes_of (Kept slot key num) last = entry.Kept slot key num ∷ []
notes_of (Completed same) last =
    entry.Snapped last.id last.point (length (view_records last.views)) same ∷ view_items 0 last.views

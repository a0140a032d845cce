use Rattle.std.proofs.Common.{◌≡◌, ℕ, List, [], ◌∷◌, ◌++◌, length, refl, ap, ◌∙◌}
use Rattle.far_base.specs.declared.log.LogEntry.{LogEntry}
use Rattle.far_history.specs.declared.stored.Stored.{Stored}
use Rattle.far_history.specs.RoomyLog.{RoomyLog}
use Rattle.far_history.proofs.Bodies.{stored_line, lines_more}
use Rattle.far_history.proofs.log.Log.note.Goals as goal

pub returns-clause-lines : goal.returns-clause-lines
returns-clause-lines c =
    let bytes : List ℕ = c.self.inside.bytes.items in
    let stored : List Stored = c.self.inside.stored.items in
    let moment : ℕ = c.args.moment in
    let entry : LogEntry = c.args.entry.now in
    let new : Stored = record { moment = moment; bare = c.bare_of.result; body = c.keep_body-body.result } in
    let same : new ≡ stored_line (length bytes) moment entry = rw (c.bare_of.ensures, c.keep_body-body.ensures.stretch) refl in
    let e : c.push_reserved.new.self.items ≡ stored ++ stored_line (length bytes) moment entry ∷ [] = c.push_reserved.ensures.items ∙ ap (λ (x : Stored). stored ++ x ∷ []) same in
    rw (c.keep_body-body.ensures.bytes, e)
    (lines_more bytes stored moment entry c.keep_body-body.ensures.short c.self.invariant
    ∙ ap (λ (l : RoomyLog). l.lines ++ record { moment = moment; entry = entry } ∷ []) c.self.view_is)

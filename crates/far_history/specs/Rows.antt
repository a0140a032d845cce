-- The lines of the history by the rows of the operations, and control entries by stored lines, with the bodies that
-- stand among the bytes.
use Rattle.std.specs.Prelude.{ℕ, List, [], ◌∷◌, ◌++◌, length, count_by, Bool, slice_index_or, codes, Option, Some}
use Rattle.std.specs.Fmt.{decimal}
use Rattle.far_base.specs.declared.log.Placed.{Placed}
use Rattle.far_history.specs.declared.told.Sending.{Sending}
use Rattle.far_history.specs.declared.told.Reply.{Reply}
use Rattle.far_history.specs.declared.told.Told.{Told}
use Rattle.far_history.specs.declared.stored.Stored.{Stored}
use Rattle.far_history.specs.Report.{placed_line, texts, entry_text, is_control}
use Rattle.far_history.specs.Stored.{line_in}
use Rattle.far_text.specs.Text.{text_line}
use Rattle.far_text.specs.declared.writer.TheConstants.{SPACE}
use Rattle.far_history.specs.Told.{unheard, op_told, answer_told}

-- the words, each with a space behind it
abbrev pub spaced : List (List ℕ) → List ℕ
spaced [] = []
spaced (w ∷ ws) = w ++ SPACE ∷ spaced ws

abbrev pub row_line : List ℕ → Placed → Option Sending → Option Reply → Option ℕ → List ℕ
row_line bytes place (Some s) (Some r) (Some answered) = placed_line place (Some
    (record { moment = s.moment; what = op_told bytes s })) (Some (record { moment = 0; what = answer_told bytes r }))
    (Some (record { moment = answered; what = 0 }))
row_line bytes place _ _ _ = []

abbrev pub row_text : List ℕ → Placed → Told → List ℕ
row_text bytes place row = row_line bytes place row.sent row.emitted row.answered

abbrev pub history_by_rows : List ℕ → List Told → List Placed → List ℕ
history_by_rows bytes table history = text_line (codes "history" ∷ decimal (length history) ∷ [])
    ++ texts (λ place. row_text bytes place (slice_index_or table place.op unheard)) history

abbrev pub stored_text : List ℕ → Stored → List ℕ
stored_text bytes l = entry_text (line_in bytes l).moment (line_in bytes l).entry

abbrev pub stored_control : List ℕ → Stored → Bool
stored_control bytes l = is_control (line_in bytes l).entry

abbrev pub control_by_stored : List ℕ → List Stored → List ℕ
control_by_stored bytes lines = text_line (codes "control" ∷ decimal (count_by (stored_control bytes) lines) ∷ [])
    ++ texts (stored_text bytes) lines

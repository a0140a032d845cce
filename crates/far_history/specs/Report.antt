-- The report of a log: its history, its control entries and the map that it leaves.
use Rattle.std.specs.Prelude.{◌≡◌, ℕ, Bool, true, false, if◌then◌else◌, List, [], ◌∷◌, ◌++◌, length, count_by, Option}
use Rattle.std.specs.Prelude.{Some, codes}
use Rattle.std.specs.Fmt.{decimal}
use Rattle.far_base.specs.Key.{key_text}
use Rattle.far_base.specs.declared.plan.Op.{Op}
use Rattle.far_base.specs.declared.plan.Op.TheVariants.{Get, Put, Del}
use Rattle.far_base.specs.declared.plan.OpLine.{OpLine}
use Rattle.far_base.specs.declared.record.Record.{Record}
use Rattle.far_base.specs.declared.log.LogLine.{LogLine}
use Rattle.far_base.specs.declared.log.LogEntry.{LogEntry}
use Rattle.far_base.specs.declared.log.LogEntry.TheVariants.{Admitted, Evicted, Kept, Snapped, SnapItem, Stopped}
use Rattle.far_base.specs.declared.log.LogEntry.TheVariants.{Recovered, RecItem}
use Rattle.far_base.specs.declared.log.Placed.{Placed}
use Rattle.far_model.specs.Log.{LogView, At, Answer, sending, emission, answering}
use Rattle.far_model.specs.History.{IsHistory, IsFinalMap}
use Rattle.far_text.specs.Text.{body_word, text_line}

abbrev pub kind_word : Op → List ℕ
kind_word Get = codes "get"
kind_word Put = codes "put"
kind_word Del = codes "del"

-- who answered the operation
abbrev pub source_word : Bool → List ℕ
source_word near = if near then codes "switch" else codes "server"

-- the texts of the elements, one after the other
abbrev pub texts : {X : Type 0} → (X → List ℕ) → List X → List ℕ
texts text [] = []
texts text (x ∷ xs) = text x ++ texts text xs

-- the line of an operation that was sent and answered: its number, client, kind, key, number in the history, body,
-- who answered it, and the moments at which it was sent and answered
abbrev pub placed_line : Placed → Option (At OpLine) → Option (At Answer) → Option (At ℕ) → List ℕ
placed_line place (Some sent) (Some emitted) (Some answered) = text_line
    (decimal place.op ∷ decimal sent.what.client ∷ kind_word sent.what.op ∷ key_text sent.what.key ∷ decimal place.num ∷
    body_word (if place.read then emitted.what.body else sent.what.body) ∷ source_word emitted.what.near ∷ decimal
    sent.moment ∷ decimal answered.moment ∷ [])
placed_line place _ _ _ = []

abbrev pub placed_text : List LogLine → Placed → List ℕ
placed_text lines place = placed_line place (sending lines place.op) (emission lines place.op)
    (answering lines place.op)

abbrev pub history_text : List LogLine → List Placed → List ℕ
history_text lines history = text_line (codes "history" ∷ decimal (length history) ∷ [])
    ++ texts (placed_text lines) history

abbrev pub record_text : Record → List ℕ
record_text record' = text_line (key_text record'.key ∷ decimal record'.num ∷ body_word record'.body ∷ [])

-- whether the entry is of the controller or the switch, and no item of another entry
abbrev pub is_control : LogEntry → Bool
is_control (Admitted slot key tag) = true
is_control (Evicted slot key tries) = true
is_control (Kept slot key num) = true
is_control (Snapped id point count same) = true
is_control Stopped = true
is_control (Recovered counter count) = true
is_control _ = false

abbrev pub entry_text : ℕ → LogEntry → List ℕ
entry_text moment (Admitted slot key tag) = text_line
    (codes "admitted" ∷ decimal moment ∷ decimal slot ∷ key_text key ∷ decimal tag ∷ [])
entry_text moment (Evicted slot key tries) = text_line
    (codes "evicted" ∷ decimal moment ∷ decimal slot ∷ key_text key ∷ decimal tries ∷ [])
entry_text moment (Kept slot key num) = text_line
    (codes "kept" ∷ decimal moment ∷ decimal slot ∷ key_text key ∷ decimal num ∷ [])
entry_text moment (Snapped id point count same) = text_line
    (codes "snapshot" ∷ decimal moment ∷ decimal id ∷ decimal point ∷ decimal count ∷ [])
entry_text moment (SnapItem slot item) = text_line
    (decimal slot ∷ key_text item.key ∷ decimal item.num ∷ body_word item.body ∷ [])
entry_text moment Stopped = text_line (codes "stopped" ∷ decimal moment ∷ [])
entry_text moment (Recovered counter count) = text_line
    (codes "recovered" ∷ decimal moment ∷ decimal counter ∷ decimal count ∷ [])
entry_text moment (RecItem item) = record_text item
entry_text moment _ = []

abbrev pub control_text : List LogLine → List ℕ
control_text lines = text_line (codes "control" ∷ decimal (count_by (λ l. is_control l.entry) lines) ∷ [])
    ++ texts (λ l. entry_text l.moment l.entry) lines

abbrev pub map_text : List Record → List ℕ
map_text map = text_line (codes "map" ∷ decimal (length map) ∷ []) ++ texts record_text map

-- the report of a log with this history and this final map
abbrev pub report : LogView → List Placed → List Record → List ℕ
report log history map = text_line (codes "far 1 report" ∷ [])
    ++ text_line (codes "steps" ∷ decimal log.steps ∷ [])
    ++ history_text log.lines history
    ++ control_text log.lines
    ++ map_text map
    ++ text_line (codes "end" ∷ [])

-- the text is the report of the log with its history and its final map
pub record IsReport (log : LogView) (text : List ℕ) : Type 0 where
  pub history : List Placed
  pub map : List Record
  pub is_history : IsHistory log.lines history
  pub is_final : IsFinalMap log.lines history map
  pub is_text : text ≡ report log history map

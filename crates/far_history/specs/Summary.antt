-- The summary of a log: how much was asked and answered, by whom, and how often the cache changed.
use Rattle.std.specs.Prelude.{◌≡◌, ℕ, max, Bool, true, false, not, List, [], ◌∷◌, ◌++◌, length, sum_by, count_by}
use Rattle.std.specs.Prelude.{Option, None, Some, codes}
use Rattle.std.specs.Fmt.{decimal}
use Rattle.far_base.specs.declared.record.Record.{Record}
use Rattle.far_base.specs.declared.log.LogLine.{LogLine}
use Rattle.far_base.specs.declared.log.LogEntry.{LogEntry}
use Rattle.far_base.specs.declared.log.LogEntry.TheVariants.{Numbered, Answered, Evicted, Kept, Snapped, Recovered}
use Rattle.far_base.specs.declared.log.Placed.{Placed}
use Rattle.far_model.specs.Log.{LogView, At, Answer, emission, answering}
use Rattle.far_model.specs.History.{IsHistory, IsFinalMap}
use Rattle.far_text.specs.Text.{text_line}
use Rattle.far_history.specs.Report.{texts}

abbrev pub is_answer : LogEntry → Bool
is_answer (Answered op) = true
is_answer _ = false

abbrev pub is_snapshot : LogEntry → Bool
is_snapshot (Snapped id point count same) = true
is_snapshot _ = false

abbrev pub is_eviction : LogEntry → Bool
is_eviction (Evicted slot key tries) = true
is_eviction _ = false

-- an eviction that was given up
abbrev pub is_kept : LogEntry → Bool
is_kept (Kept slot key num) = true
is_kept _ = false

abbrev pub is_recovery : LogEntry → Bool
is_recovery (Recovered counter count) = true
is_recovery _ = false

-- how many lines have such an entry
abbrev pub count_of : (LogEntry → Bool) → List LogLine → ℕ
count_of is lines = count_by (λ l. is l.entry) lines

-- how many parts of the snapshot were taken over from the snapshot before it
abbrev pub same_parts : LogEntry → ℕ
same_parts (Snapped id point count same) = same
same_parts _ = 0

-- of all snapshots
abbrev pub all_same_parts : List LogLine → ℕ
all_same_parts lines = sum_by (λ l. same_parts l.entry) lines

abbrev pub number_given : LogEntry → ℕ
number_given (Numbered op num) = num
number_given _ = 0

-- the greatest number that a write was given, or 0
abbrev pub greatest_given : List LogLine → ℕ
greatest_given [] = 0
greatest_given (l ∷ ls) = max (number_given l.entry) (greatest_given ls)

-- of an operation that was emitted and answered, and so has a line in the report, whether the switch answered it
-- by itself
abbrev pub nearness : Option (At Answer) → Option (At ℕ) → Option Bool
nearness (Some emitted) (Some answered) = Some emitted.what.near
nearness _ _ = None

abbrev pub is_near : Option Bool → Bool
is_near (Some near) = near
is_near None = false

abbrev pub is_far : Option Bool → Bool
is_far (Some near) = not near
is_far None = false

-- how many operations of the history were answered so
abbrev pub answered_so : (Option Bool → Bool) → List LogLine → List Placed → ℕ
answered_so is lines history =
    count_by (λ place. is (nearness (emission lines place.op) (answering lines place.op))) history

-- a word and its number
abbrev pub count_text : List ℕ × ℕ → List ℕ
count_text c = text_line (c.0 ∷ decimal c.1 ∷ [])

-- what a summary tells of a log with this history and this final map, of so many operations and orders
abbrev pub counts : LogView → ℕ → ℕ → List Placed → List Record → List (List ℕ × ℕ)
counts log ops orders history map =
    (codes "operations", ops)
    ∷ (codes "answered", count_of is_answer log.lines)
    ∷ (codes "orders", orders)
    ∷ (codes "steps", log.steps)
    ∷ (codes "switch", answered_so is_near log.lines history)
    ∷ (codes "server", answered_so is_far log.lines history)
    ∷ (codes "snapshots", count_of is_snapshot log.lines)
    ∷ (codes "same", all_same_parts log.lines)
    ∷ (codes "evicted", count_of is_eviction log.lines)
    ∷ (codes "kept", count_of is_kept log.lines)
    ∷ (codes "recoveries", count_of is_recovery log.lines)
    ∷ (codes "counter", greatest_given log.lines)
    ∷ (codes "keys", length map)
    ∷ []

abbrev pub summary : List (List ℕ × ℕ) → List ℕ
summary told = text_line (codes "far 1 summary" ∷ []) ++ texts count_text told ++ text_line (codes "end" ∷ [])

-- the text is the summary of the log with its history and its final map
pub record IsSummary (log : LogView) (ops orders : ℕ) (text : List ℕ) : Type 0 where
  pub history : List Placed
  pub map : List Record
  pub is_history : IsHistory log.lines history
  pub is_final : IsFinalMap log.lines history map
  pub is_text : text ≡ summary (counts log ops orders history map)

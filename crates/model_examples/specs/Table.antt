-- What a run shows, computed step by step from the definitions: slow, and plain. The history is that of the log.
use Rattle.std.specs.Prelude.{ℕ, Bool, true, false, if◌then◌else◌, List, [], ◌∷◌, Option, None, Some}
use Rattle.far_base.specs.PlanView.{PlanView}
use Rattle.far_base.specs.declared.log.LogLine.{LogLine}
use Rattle.far_base.specs.declared.log.LogEntry.{LogEntry}
use Rattle.far_base.specs.declared.log.LogEntry.TheVariants.{Sent, Numbered, Emitted, Answered}
use Rattle.far_base.specs.declared.log.Placed.{Placed}
use Rattle.far_base.specs.declared.record.Record.{Record}
use Rattle.far_base.specs.declared.record.Versioned.{Versioned}
use Rattle.far_model.specs.History.{key_of, last_write, written_by}
use Rattle.far_model.specs.KeyedRecords.{put_record, by_key}
use Rattle.far_model.specs.Log.{At, Answer, sending, emission, answering}
use Rattle.far_model.specs.Runs.{run, picked_events}
use Rattle.far_model.specs.State.{State, opening}
use Rattle.model_laws.specs.Placing.{history_of}

-- ---- what is shown of an operation

pub record HistoryRow : Type 0 where
  pub op : ℕ
  pub num : ℕ
  pub body : Option (List ℕ)
  pub near : Bool
  pub sent : ℕ
  pub answered : ℕ

abbrev pub moment_or : {X : Type 0} → Option (At X) → ℕ
moment_or None = 0
moment_or (Some a) = a.moment

abbrev pub row_body : List LogLine → Placed → Option (At Answer) → Option (List ℕ)
row_body log p None = None
row_body log p (Some e) = if p.read then e.what.body else (written_by log p).body

abbrev pub row_near : Option (At Answer) → Bool
row_near None = false
row_near (Some e) = e.what.near

abbrev pub row_of : List LogLine → Placed → HistoryRow
row_of log p = record {
  op = p.op;
  num = p.num;
  body = row_body log p (emission log p.op);
  near = row_near (emission log p.op);
  sent = moment_or (sending log p.op);
  answered = moment_or (answering log p.op);
}

abbrev pub rows_of : List LogLine → List Placed → List HistoryRow
rows_of log [] = []
rows_of log (p ∷ ps) = row_of log p ∷ rows_of log ps

-- ---- control entries and the final map

abbrev pub is_control : LogEntry → Bool
is_control (Sent op line) = false
is_control (Numbered op num) = false
is_control (Emitted op num body near) = false
is_control (Answered op) = false
is_control _ = true

abbrev pub control_of : List LogLine → List LogLine
control_of [] = []
control_of (l ∷ ls) = if is_control l.entry then l ∷ control_of ls else control_of ls

abbrev pub write_record : List LogLine → Placed → Record
write_record log p = record { key = key_of log p.op; num = p.num; body = (written_by log p).body }

abbrev pub after_writes : List LogLine → List Record → List Placed → List Record
after_writes log map [] = map
after_writes log map (p ∷ ps) = after_writes log (if p.read then map else put_record (write_record log p) map) ps

-- ---- the table of a run

pub record RunTable : Type 0 where
  pub steps : ℕ
  pub history : List HistoryRow
  pub control : List LogLine
  pub map : List Record

abbrev pub table_of_history : State → List Placed → RunTable
table_of_history s h = record {
  steps = s.steps;
  history = rows_of s.log h;
  control = control_of s.log;
  map = by_key (after_writes s.log [] h);
}

abbrev pub table_of_state : State → RunTable
table_of_state s = table_of_history s (history_of s.log)

-- ---- the last write of each key

abbrev pub last_record : List ℕ → Option Versioned → Record
last_record key None = record { key = key; num = 0; body = None }
last_record key (Some held) = record { key = key; num = held.num; body = held.body }

abbrev pub last_records : List LogLine → List Placed → List Record → List Record
last_records log history [] = []
last_records log history (r ∷ rs) = last_record r.key (last_write log r.key None history) ∷ last_records log history rs

-- of each record the last write of its key
abbrev pub last_of_state : List Record → State → List Record
last_of_state records s = last_records s.log (history_of s.log) records

-- ---- runs

-- the state after the events that these picks choose, as many as there are but at most so many
abbrev pub picked_state : PlanView → List ℕ → ℕ → State
picked_state plan picks most = run plan (opening plan) (picked_events plan most picks 0 (opening plan))

abbrev pub run_table : PlanView → List ℕ → ℕ → RunTable
run_table plan picks most = table_of_state (picked_state plan picks most)

abbrev pub run_last : PlanView → List ℕ → ℕ → List Record → List Record
run_last plan picks most records = last_of_state records (picked_state plan picks most)

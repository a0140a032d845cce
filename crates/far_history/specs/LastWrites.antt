-- The last write of each key.
use Rattle.std.specs.Prelude.{ℕ, if◌then◌else◌, List, [], ◌∷◌, Option, None, Some, slice_index_or}
use Rattle.std.specs.Ordering.{nat_cmp}
use Rattle.std.specs.Cmp.Lexicographic.{slice_cmp}
use Rattle.std.specs.BTreeMap.{insert_entry}
use Rattle.far_base.specs.declared.record.Record.{Record}
use Rattle.far_base.specs.declared.log.LogLine.{LogLine}
use Rattle.far_base.specs.declared.log.Placed.{Placed}
use Rattle.far_model.specs.History.{IsHistory, IsFinalMap}
use Rattle.far_history.specs.declared.told.Sending.{Sending}
use Rattle.far_history.specs.declared.told.Told.{Told}
use Rattle.far_history.specs.declared.last_writes.Written.{Written}
use Rattle.far_history.specs.Told.{unheard}
use Rattle.far_history.specs.Stored.{body_in}

abbrev pub with_write : List (List ℕ × Written) → ℕ → Option Sending → List (List ℕ × Written)
with_write entries num None = entries
with_write entries num (Some sent) = insert_entry (slice_cmp nat_cmp) entries sent.line.key
    (record { num = num; body = sent.body })

-- the entries of the keys after one more operation of the history
abbrev pub entries_with : List Told → List (List ℕ × Written) → Placed → List (List ℕ × Written)
entries_with table entries place = if place.read then entries else with_write entries place.num
    (slice_index_or table place.op unheard).sent

abbrev pub entries_after : List Told → List (List ℕ × Written) → List Placed → List (List ℕ × Written)
entries_after table entries [] = entries
entries_after table entries (p ∷ ps) = entries_after table (entries_with table entries p) ps

-- the record of an entry, with the body that stands among the bytes
abbrev pub record_of : List ℕ → List ℕ × Written → Record
record_of bytes entry = record { key = entry.0; num = entry.1.num; body = body_in bytes entry.1.body }

-- the last writes of the history of a log
pub record IsMapOfHistory (lines : List LogLine) (map : List Record) : Type 0 where
  pub history : List Placed
  pub is_history : IsHistory lines history
  pub is_final : IsFinalMap lines history map

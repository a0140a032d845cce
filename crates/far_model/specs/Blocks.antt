-- What a log says of each restart: the new counter, and the records that the servers then had.
use Rattle.std.specs.Prelude.{ℕ, zero, suc, List, [], ◌∷◌, ◌++◌}
use Rattle.far_base.specs.declared.log.LogEntry.{LogEntry}
use Rattle.far_base.specs.declared.log.LogEntry.TheVariants.{Recovered, RecItem}
use Rattle.far_base.specs.declared.log.LogLine.{LogLine}
use Rattle.far_base.specs.declared.record.Record.{Record}

pub record RecoveredBlock : Type 0 where
  pub moment : ℕ
  pub counter : ℕ
  pub records : List Record

abbrev pub recovered_item : LogEntry → List Record
recovered_item (RecItem item) = item ∷ []
recovered_item _ = []

-- the records of the next so many lines
abbrev pub recovered_items : ℕ → List LogLine → List Record
recovered_items zero lines = []
recovered_items (suc count) [] = []
recovered_items (suc count) (l ∷ lines) = recovered_item l.entry ++ recovered_items count lines

-- the block that a line begins: a restart is followed by as many records as it says
abbrev pub block_at : ℕ → LogEntry → List LogLine → List RecoveredBlock
block_at moment (Recovered counter count) lines =
    record { moment = moment; counter = counter; records = recovered_items count lines } ∷ []
block_at moment _ lines = []

-- the blocks of all restarts, in order
abbrev pub recovered_blocks : List LogLine → List RecoveredBlock
recovered_blocks [] = []
recovered_blocks (l ∷ lines) = block_at l.moment l.entry lines ++ recovered_blocks lines

-- A log as contracts see it.
use Rattle.std.specs.Prelude.{ℕ, List}
use Rattle.far_base.specs.declared.log.LogLine.{LogLine}
use Rattle.far_model.specs.Log.{LogView}

-- a log, and for how many lines there is room
pub record RoomyLog : Type 0 where
  pub steps : ℕ
  pub lines : List LogLine
  pub room : ℕ

-- the log alone
abbrev pub log_view : RoomyLog → LogView
log_view l = record { steps = l.steps; lines = l.lines }

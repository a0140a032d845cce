-- What the last step answered.
use Rattle.std.specs.Prelude.{ℕ, ◌-◌, nat_eq, if◌then◌else◌, List, length, slice_get, Option, None, Some}
use Rattle.far_base.specs.declared.log.LogEntry.{LogEntry}
use Rattle.far_base.specs.declared.log.LogEntry.TheVariants.{Answered}
use Rattle.far_base.specs.declared.log.LogLine.{LogLine}
use Rattle.far_model.specs.State.{State}

abbrev pub answer_in : LogEntry → Option ℕ
answer_in (Answered op) = Some op
answer_in _ = None

abbrev pub answer_at : ℕ → Option LogLine → Option ℕ
answer_at moment None = None
answer_at moment (Some line) = if nat_eq line.moment moment then answer_in line.entry else None

-- the operation that is answered in the last line, where this is of the last step
abbrev pub last_answer : ℕ → List LogLine → Option ℕ
last_answer steps lines = answer_at steps (slice_get lines (length lines - 1))

abbrev pub last_answered : State → Option ℕ
last_answered s = last_answer s.steps s.log

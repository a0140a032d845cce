-- What a log has to tell of each operation of its history so that its report can be read and judged.
use Rattle.std.specs.Prelude.{◌≡◌, ℕ, ◌<◌, ◌≤◌, if◌then◌else◌, List, length, Some}
use Rattle.far_base.specs.declared.log.LogLine.{LogLine}
use Rattle.far_base.specs.declared.log.Placed.{Placed}
use Rattle.far_base.specs.declared.plan.OpLine.{OpLine}
use Rattle.far_base.specs.declared.plan.TheConstants.{OP_LIMIT}
use Rattle.far_model.specs.History.{IsHistory, IsPlace}
use Rattle.far_model.specs.Log.{LogView, At, Answer, answering, emission, sending}
use Rattle.far_text.specs.Numbers.{IsNumber}
use Rattle.log_audit.specs.Form.{IsHistLine}
use Rattle.log_audit.specs.declared.line.HistLine.{HistLine}

-- what the line in a report says of the operation at a place
abbrev pub told_line : Placed → At OpLine → At Answer → At ℕ → HistLine
told_line place sent emitted answered = record {
  op = place.op;
  client = sent.what.client;
  kind = sent.what.op;
  key = sent.what.key;
  num = place.num;
  body = if place.read then emitted.what.body else sent.what.body;
  near = emitted.what.near;
  sent = sent.moment;
  answered = answered.moment;
}

-- the operation at the place was sent, emitted and later answered, and a line can say all of that
pub record IsTold (log : List LogLine) (place : Placed) : Type 0 where
  pub sent : At OpLine
  pub emitted : At Answer
  pub answered : At ℕ
  pub first_sent : sending log place.op ≡ Some sent
  pub first_emitted : emission log place.op ≡ Some emitted
  pub first_answered : answering log place.op ≡ Some answered
  pub line : IsHistLine (told_line place sent emitted answered)
  pub span : sent.moment < answered.moment

pub record IsToldInFull (log : LogView) : Type 0 where
  pub steps : IsNumber log.steps
  pub few : (history : List Placed) → IsHistory log.lines history → length history ≤ OP_LIMIT
  pub places : (place : Placed) → IsPlace log.lines place → IsTold log.lines place

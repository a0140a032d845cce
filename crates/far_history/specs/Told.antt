-- What a log tells of each operation, as a table by the operation's number.
use Rattle.std.specs.Prelude.{◌≡◌, ℕ, ◌+◌, List, Option, None, Some, slice_index_or, slice_set}
use Rattle.far_base.specs.declared.plan.OpLine.{OpLine}
use Rattle.far_base.specs.declared.log.LogLine.{LogLine}
use Rattle.far_history.specs.declared.stored.Stored.{Stored}
use Rattle.far_history.specs.declared.stored.Stretch.{Stretch}
use Rattle.far_history.specs.declared.stored.Bare.{Bare}
use Rattle.far_history.specs.declared.stored.Bare.TheVariants.{Sent, Numbered, Emitted, Answered}
use Rattle.far_history.specs.Stored.{body_in, op_line, lines_in}
use Rattle.far_model.specs.Log.{At, Answer, sending, numbering, emission, answering}
use Rattle.far_history.specs.declared.told.Sending.{Sending}
use Rattle.far_history.specs.declared.told.Reply.{Reply}
use Rattle.far_history.specs.declared.told.Told.{Told}

-- one more than the operation that an entry names, or 0
abbrev pub op_bound_of : Bare → ℕ
op_bound_of (Sent op line) = op + 1
op_bound_of (Numbered op num) = op + 1
op_bound_of (Emitted op num near) = op + 1
op_bound_of (Answered op) = op + 1
op_bound_of _ = 0

-- the row of an operation that no line names
abbrev pub unheard : Told
unheard = record { sent = None; numbered = None; emitted = None; answered = None }

-- the table with what one more line tells, before all that were noted
abbrev pub noted_entry : ℕ → Stretch → Bare → List Told → List Told
noted_entry moment body (Sent op line) table = slice_set table op
    (record (slice_index_or table op unheard) { sent = Some (record { moment = moment; line = line; body = body }) })
noted_entry moment body (Numbered op num) table = slice_set table op
    (record (slice_index_or table op unheard) { numbered = Some num })
noted_entry moment body (Emitted op num near) table = slice_set table op
    (record (slice_index_or table op unheard) {
      emitted = Some
          (record { moment = moment; num = num; near = near; body = body });
    })
noted_entry moment body (Answered op) table = slice_set table op
    (record (slice_index_or table op unheard) { answered = Some moment })
noted_entry moment body _ table = table

abbrev pub noted : Stored → List Told → List Told
noted l table = noted_entry l.moment l.body l.bare table

-- what a row tells, with the bodies that stand among these bytes
abbrev pub op_told : List ℕ → Sending → OpLine
op_told bytes s = op_line (body_in bytes s.body) s.line

abbrev pub sending_told : List ℕ → Option Sending → Option (At OpLine)
sending_told bytes None = None
sending_told bytes (Some s) = Some (record { moment = s.moment; what = op_told bytes s })

abbrev pub answer_told : List ℕ → Reply → Answer
answer_told bytes r = record { num = r.num; body = body_in bytes r.body; near = r.near }

abbrev pub reply_told : List ℕ → Option Reply → Option Answer
reply_told bytes None = None
reply_told bytes (Some r) = Some (answer_told bytes r)

abbrev pub reply_moment : Option Reply → Option ℕ
reply_moment None = None
reply_moment (Some r) = Some r.moment

abbrev pub what_of : {X : Type 0} → Option (At X) → Option X
what_of None = None
what_of (Some a) = Some a.what

abbrev pub moment_of : {X : Type 0} → Option (At X) → Option ℕ
moment_of None = None
moment_of (Some a) = Some a.moment

-- the row has what the lines tell of the operation
pub record IsRow (bytes : List ℕ) (lines : List LogLine) (op : ℕ) (row : Told) : Type 0 where
  pub sent : sending_told bytes row.sent ≡ sending lines op
  pub numbered : row.numbered ≡ what_of (numbering lines op)
  pub emitted : reply_told bytes row.emitted ≡ what_of (emission lines op)
  pub emitted_at : reply_moment row.emitted ≡ moment_of (emission lines op)
  pub answered : row.answered ≡ moment_of (answering lines op)

-- each row has what the lines tell of its operation, wherever the bodies stand
pub record IsTable (stored : List Stored) (table : List Told) : Type 0 where
  pub rows : (bytes : List ℕ) (op : ℕ) → IsRow bytes (lines_in bytes stored) op (slice_index_or table op unheard)

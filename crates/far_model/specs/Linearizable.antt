-- One linearizable history: what the log of a run says of the operations of its plan, in the order in which they take
-- effect. A place is an operation at the moment at which it takes effect, with the number that it read or wrote;
-- `IsLegal` and `KeepsRealTimeOrder` stand in `History`.
use Rattle.std.specs.Prelude.{◌≡◌, ℕ, ◌≤◌, List, length, Some, slice_get}
use Rattle.std.specs.Bool.{MatchBool}
use Rattle.far_base.specs.declared.log.LogLine.{LogLine}
use Rattle.far_base.specs.declared.log.Placed.{Placed}
use Rattle.far_base.specs.declared.plan.OpLine.{OpLine}
use Rattle.far_model.specs.Clients.{line_of}
use Rattle.far_model.specs.History.{IsHistory, IsLegal, KeepsRealTimeOrder, key_of, read_by, written_by}
use Rattle.far_model.specs.Log.{Answer, At, answering, emission, is_read, numbering, sending}
use Rattle.far_model.specs.Members.{Among}

-- an operation that a client sent and that was answered: its number in the plan and its line, the answer, and the
-- moments at which it was sent, its answer left the switch, and its client had the answer
pub record AnsweredOperation : Type 0 where
  pub number : ℕ
  pub line : OpLine
  pub sent : ℕ
  pub emitted : ℕ
  pub answer : Answer
  pub answered : ℕ

-- it is one of these operations, counted from 1, and the log tells all of it
pub record IsOperationOf (ops : List OpLine) (log : List LogLine) (x : AnsweredOperation) : Type 0 where
  pub above : 1 ≤ x.number
  pub within : x.number ≤ length ops
  pub line : x.line ≡ line_of ops x.number
  pub is_sent : sending log x.number ≡ Some (record { moment = x.sent; what = x.line })
  pub is_emitted : emission log x.number ≡ Some (record { moment = x.emitted; what = x.answer })
  pub is_answered : answering log x.number ≡ Some (record { moment = x.answered; what = x.number })

-- ---- its place

-- what a legal history says that a read sees is its answer
pub record SeesItsAnswer (log : List LogLine) (x : AnsweredOperation) (place : Placed) : Type 0 where
  pub num : place.num ≡ x.answer.num
  pub sees : read_by log place ≡ record { num = x.answer.num; body = x.answer.body }

-- what a legal history says that a write sets is its body under its own number; it is answered with at least that
-- number
pub record SetsItsRecord (log : List LogLine) (x : AnsweredOperation) (place : Placed) : Type 0 where
  pub own : At ℕ
  pub numbered : numbering log x.number ≡ Some own
  pub num : place.num ≡ own.what
  pub sets : written_by log place ≡ record { num = own.what; body = x.line.body }
  pub answered : own.what ≤ x.answer.num

-- the operation stands in the history at exactly one place: on its key, as the read or write that it is, with its
-- record, and between the moments at which it was sent and answered
pub record StandsInHistory (log : List LogLine) (history : List Placed) (x : AnsweredOperation) : Type 0 where
  pub index : ℕ
  pub place : Placed
  pub there : slice_get history index ≡ Some place
  pub is : place.op ≡ x.number
  pub once : (other : ℕ) (y : Placed) → slice_get history other ≡ Some y → y.op ≡ x.number → other ≡ index
  pub key : key_of log place.op ≡ x.line.key
  pub kind : place.read ≡ is_read x.line.op
  pub effect : MatchBool place.read (SeesItsAnswer log x place) (SetsItsRecord log x place)
  pub after_sending : x.sent ≤ place.moment
  pub before_answer : place.moment ≤ x.answered

-- ---- the whole

-- each operation was answered and stands in the history exactly once, and nothing else stands there; in its order the
-- operations are those of a map in which nothing was written before, and what was answered before another was sent
-- stands before it
pub record IsLinearizableHistory (ops : List OpLine) (log : List LogLine) (history : List Placed) : Type 0 where
  pub all : (number : ℕ) → 1 ≤ number → number ≤ length ops → (x : AnsweredOperation) × (x.number ≡ number)
      × IsOperationOf ops log x × StandsInHistory log history x
  pub only : (place : Placed) → Among place history → (x : AnsweredOperation) × (x.number ≡ place.op)
      × IsOperationOf ops log x
  pub legal : IsLegal log history
  pub in_time : KeepsRealTimeOrder log history

-- the history of the log is such a history, and the log has no other
pub record HasOneLinearizableHistory (ops : List OpLine) (log : List LogLine) : Type 0 where
  pub history : List Placed
  pub is : IsHistory log history
  pub linearizable : IsLinearizableHistory ops log history
  pub only : (other : List Placed) → IsHistory log other → other ≡ history

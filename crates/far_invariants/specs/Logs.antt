-- What holds of the log of every run.
use Rattle.std.specs.Prelude.{◌≡◌, ℕ, ◌≤◌, Bool, true, false, List, Option, None}
use Rattle.far_base.specs.PlanView.{PlanView}
use Rattle.far_base.specs.declared.log.LogEntry.{LogEntry}
use Rattle.far_base.specs.declared.log.LogEntry.TheVariants.{Sent, Numbered, Emitted, Answered}
use Rattle.far_base.specs.declared.log.LogLine.{LogLine}
use Rattle.far_base.specs.declared.plan.OpLine.{OpLine}
use Rattle.far_model.specs.Clients.{line_of}
use Rattle.far_model.specs.Coherent.{IsOwnNumber, IsAnswering, IsCoherent, WasSent}
use Rattle.far_model.specs.Log.{exposed, is_read}
use Rattle.far_model.specs.Members.{Among, Pairs}
use Rattle.far_model.specs.State.{State, client_at, line_at}

-- an entry that tells something of the operation
abbrev pub TellsOf : ℕ → LogEntry → Type 0
TellsOf op (Sent other line) = op ≡ other
TellsOf op (Numbered other num) = op ≡ other
TellsOf op (Emitted other num body near) = op ≡ other
TellsOf op (Answered other) = op ≡ other
TellsOf op _ = ⊥

-- moments do not fall, and none is still to come
pub record IsTimely (s : State) : Type 0 where
  pub rises : Pairs (λ (x y : LogLine). x.moment ≤ y.moment) s.log
  pub passed : (l : LogLine) → Among l s.log → l.moment ≤ s.steps

-- what is sent is of the plan, and an operation that a line tells of was sent by then
pub record SendsByPlan (plan : PlanView) (log : List LogLine) : Type 0 where
  pub line : (at op : ℕ) (line : OpLine) → Among (line_at at (Sent op line)) log → line ≡ line_of plan.ops op
  pub sent : (l : LogLine) (op : ℕ) → Among l log → TellsOf op l.entry → WasSent log l.moment op

pub record IsAnsweredInFull (log : List LogLine) (op : ℕ) (read : Bool) : Type 0 where
  pub answered_at : ℕ
  pub answered : Among (line_at answered_at (Answered op)) log
  pub emitted : IsAnswering log answered_at op
  pub numbered : read ≡ false → (own : ℕ) × IsOwnNumber log answered_at op own

-- an operation that was sent, and for which its client does not wait, was answered, and a write was numbered
abbrev pub ClosedAreAnswered : State → Type 0
ClosedAreAnswered s = (at op : ℕ) (line : OpLine) → Among (line_at at (Sent op line)) s.log
    → (client_at s line.client).waits ≡ None → IsAnsweredInFull s.log op (is_read line.op)

-- a read is answered with at least what was exposed when it was sent, and a write with at least its own number
pub record AnswersAreCurrent (log : List LogLine) : Type 0 where
  pub read : (sent_at at op num : ℕ) (line : OpLine) (body : Option (List ℕ)) (near : Bool)
      → Among (line_at sent_at (Sent op line)) log → Among (line_at at (Emitted op num body near)) log
      → is_read line.op ≡ true → exposed log line.key sent_at ≤ num
  pub write : (numbered_at at op own num : ℕ) (body : Option (List ℕ)) (near : Bool)
      → Among (line_at numbered_at (Numbered op own)) log → Among (line_at at (Emitted op num body near)) log
      → own ≤ num

-- all that holds of what a run has logged
pub record LogIsSound (plan : PlanView) (s : State) : Type 0 where
  pub coherent : IsCoherent s.log
  pub timely : IsTimely s
  pub by_plan : SendsByPlan plan s.log
  pub closed : ClosedAreAnswered s
  pub current : AnswersAreCurrent s.log

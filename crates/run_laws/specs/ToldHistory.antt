-- What the log of a run tells of each operation of its history, once nothing is left to do.
use Rattle.std.specs.Prelude.{◌≡◌, ◌⊎◌, ℕ, ◌^◌, ◌<◌, ◌≤◌, true, List, length, Option, None, Some}
use Rattle.far_base.specs.PlanView.{PlanView}
use Rattle.far_base.specs.declared.log.Placed.{Placed}
use Rattle.far_base.specs.declared.plan.OpLine.{OpLine}
use Rattle.far_model.specs.Clients.{line_of}
use Rattle.far_model.specs.History.{IsHistory, IsPlace}
use Rattle.far_model.specs.Log.{At, Answer, answering, emission, is_read, sending}
use Rattle.far_model.specs.State.{State}

-- the operation is one of the plan
pub record IsOfPlan (plan : PlanView) (op : ℕ) : Type 0 where
  pub above : 1 ≤ op
  pub within : op ≤ length plan.ops

-- the body is absent, or that of a write of the plan
abbrev pub IsBodyOfPlan : PlanView → Option (List ℕ) → Type 0
IsBodyOfPlan plan body = (body ≡ None) ⊎ ((op : ℕ) × IsOfPlan plan op × (body ≡ (line_of plan.ops op).body))

-- the operation at the place is one of the plan; it was sent, the switch emitted an answer, and later its client had it
pub record IsToldOf (plan : PlanView) (s : State) (place : Placed) : Type 0 where
  pub sent : At OpLine
  pub emitted : At Answer
  pub answered : At ℕ
  pub first_sent : sending s.log place.op ≡ Some sent
  pub first_emitted : emission s.log place.op ≡ Some emitted
  pub first_answered : answering s.log place.op ≡ Some answered
  pub op : IsOfPlan plan place.op
  pub line : sent.what ≡ line_of plan.ops place.op
  pub body : is_read sent.what.op ≡ true → IsBodyOfPlan plan emitted.what.body
  pub span : sent.moment < answered.moment
  pub passed : answered.moment ≤ s.steps
  pub num : place.num ≤ s.steps

-- each operation of the history is told, there are no more of them than the plan has, and the steps are few
pub record HistoryIsTold (plan : PlanView) (s : State) : Type 0 where
  pub places : (place : Placed) → IsPlace s.log place → IsToldOf plan s place
  pub few : (history : List Placed) → IsHistory s.log history → length history ≤ length plan.ops
  pub steps : s.steps < 2 ^ 28

-- What the log keeps of the operations, and what the clients have of them.
use Rattle.far_invariants.specs.Logs.{IsTimely, SendsByPlan}
use Rattle.std.specs.Prelude.{◌≡◌, ℕ, ◌⊎◌, List, Some}
use Rattle.far_base.specs.PlanView.{PlanView}
use Rattle.far_base.specs.declared.log.LogEntry.TheVariants.{Sent, Answered}
use Rattle.far_base.specs.declared.log.LogLine.{LogLine}
use Rattle.far_base.specs.declared.plan.OpLine.{OpLine}
use Rattle.far_model.specs.Clients.{line_of}
use Rattle.far_model.specs.Members.{Among}
use Rattle.far_model.specs.State.{State, client_at, line_at}
use Rattle.far_invariants.specs.Sent.{AreSentOrLeft, HasBeenSent}

pub record WasAnswered (log : List LogLine) (op : ℕ) : Type 0 where
  pub at : ℕ
  pub answered : Among (line_at at (Answered op)) log

-- moments do not fall, and what is sent is of the plan and before all else that is told of it; each client sends and
-- waits for its own operations, and an operation that was sent is answered or waited for
pub record OperationsAreLogged (plan : PlanView) (s : State) : Type 0 where
  pub timely : IsTimely s
  pub by_plan : SendsByPlan plan s.log
  pub own : (c op : ℕ) → Among op (client_at s c).left → (line_of plan.ops op).client ≡ c
  pub waited : (c op : ℕ) → (client_at s c).waits ≡ Some op → HasBeenSent plan s op × ((line_of plan.ops op).client ≡ c)
  pub closed : (at op : ℕ) (line : OpLine) → Among (line_at at (Sent op line)) s.log
      → ((client_at s (line_of plan.ops op).client).waits ≡ Some op) ⊎ WasAnswered s.log op
  pub left : AreSentOrLeft plan s

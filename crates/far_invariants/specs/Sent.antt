-- Which operations of a plan were sent.
use Rattle.std.specs.Prelude.{ℕ, ◌≤◌, ◌⊎◌, length}
use Rattle.far_base.specs.PlanView.{PlanView}
use Rattle.far_base.specs.declared.log.LogEntry.TheVariants.{Sent}
use Rattle.far_model.specs.Clients.{line_of}
use Rattle.far_model.specs.Members.{Among}
use Rattle.far_model.specs.State.{State, client_at, line_at}

-- the operation was sent, as the plan has it
pub record HasBeenSent (plan : PlanView) (s : State) (op : ℕ) : Type 0 where
  pub at : ℕ
  pub sent : Among (line_at at (Sent op (line_of plan.ops op))) s.log

-- each operation of the plan was sent, or its client has still to send it
abbrev pub AreSentOrLeft : PlanView → State → Type 0
AreSentOrLeft plan s = (op : ℕ) → 1 ≤ op → op ≤ length plan.ops
    → Among op (client_at s (line_of plan.ops op).client).left ⊎ HasBeenSent plan s op

-- Which operations of a plan are answered.
use Rattle.std.specs.Prelude.{◌≢◌, ℕ, ◌≤◌, length, None}
use Rattle.far_base.specs.PlanView.{PlanView}
use Rattle.far_model.specs.Log.{answering}
use Rattle.far_model.specs.State.{State}

-- every operation of the plan is answered
abbrev pub AllAnswered : PlanView → State → Type 0
AllAnswered plan s = (op : ℕ) → 1 ≤ op → op ≤ length plan.ops → answering s.log op ≢ None

-- A workload as contracts see it.
use Rattle.std.specs.Prelude.{ℕ, List, Option}
use Rattle.far_base.specs.PlanView.{PlanView}

pub record WorkView : Type 0 where
  pub plan : PlanView
  pub picks : List ℕ
  pub random : Option ℕ

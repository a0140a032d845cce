-- Which workloads are plain.
use Rattle.std.specs.Prelude.{ℕ, ◌≤◌, length, Option, None, Some}
use Rattle.std.specs.List.{AllByRecursion}
use Rattle.far_base.specs.Limits.{IsPlan}
use Rattle.far_base.specs.declared.plan.TheConstants.{STEP_LIMIT}
use Rattle.workload.specs.WorkView.{WorkView}
use Rattle.workload.specs.declared.load.TheConstants.{PICK_LIMIT}

abbrev pub IsStart : Option ℕ → Type 0
IsStart None = Unit {0}
IsStart (Some start) = start ≤ STEP_LIMIT

-- a valid plan and not too many picks, with numbers of at most nineteen digits
pub record IsPlain (w : WorkView) : Type 0 where
  pub plan : IsPlan w.plan
  pub count : length w.picks ≤ PICK_LIMIT
  pub picks : AllByRecursion (λ pick. pick ≤ STEP_LIMIT) w.picks
  pub random : IsStart w.random

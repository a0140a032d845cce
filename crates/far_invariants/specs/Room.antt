-- How large what a run draws and sends can grow.
use Rattle.std.specs.Prelude.{ℕ, ◌+◌, ◌^◌, ◌<◌, ◌≤◌, length}
use Rattle.far_base.specs.PlanView.{PlanView}
use Rattle.far_invariants.specs.DrawnNumbers.{NumbersWithin}
use Rattle.far_model.specs.State.{State}
use Rattle.far_model.specs.Work.{work_bound, work_left}

-- steps and the work that is left are together within the bound of the plan; the bag is within that work; tags, ids,
-- rounds and epochs are within the steps, jobs within steps and work, and every number of a write within the steps
pub record HasRoom (plan : PlanView) (ceiling : ℕ) (s : State) : Type 0 where
  pub small : work_bound plan < 2 ^ 28
  pub steps : s.steps + work_left plan s ≤ work_bound plan
  pub bag : length s.bag ≤ work_left plan s
  pub tags : s.controller.next_tag ≤ s.steps + 1
  pub ids : s.controller.next_id ≤ s.steps + 1
  pub rounds : s.controller.next_round ≤ s.steps + 1
  pub epochs : s.controller.epoch ≤ s.steps + 1
  pub jobs : s.controller.next_job ≤ s.steps + 1 + work_left plan s
  pub numbers : NumbersWithin s.steps ceiling s

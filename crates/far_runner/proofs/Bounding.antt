-- The steps of a pumped world are within the bound of its plan.
use Rattle.std.proofs.Common.{ℕ, ◌≤◌, sym, subst, arith}
use Rattle.std.specs.Prelude.{OnErr, Result, Ok, Err}
use Rattle.far_invariants.specs.Always.{AlwaysWith}
use Rattle.far_invariants.specs.Room.{HasRoom}
use Rattle.far_model.specs.State.{State}
use Rattle.far_model.specs.Work.{work_bound, work_left}
use Rattle.far_runner.specs.Pumped.{HasPumped}
use Rattle.far_world.specs.Reached.{IsReached, Ran}
use Rattle.workload.specs.WorkView.{WorkView}

-- the work that is left does not hang on the servers' records
pub within_bound : AlwaysWith (λ plan ceiling s. HasRoom plan ceiling s) → (w : Ran) → IsReached w → work_left w.plan w.state ≤ work_bound w.plan
within_bound room w h =
    let r = room w.plan h.kept h.valid h.way in
    let b = r.steps in
    subst (λ (s : State). work_left w.plan s ≤ work_bound w.plan) (sym h.state_is) (omega (arith, b))

pub pumped_bound : (work : WorkView) (old new : Ran) (count : ℕ) → HasPumped work old new count → work_left old.plan old.state ≤ work_bound old.plan → count ≤ work_bound old.plan
pumped_bound work old new count p b = let a = p.gone.work in let c = p.count_is in omega (arith, a, b, c)

pub on_err : {A E : Type 0} (r : Result A E) (P : Type 0) → P → OnErr r P
on_err (Ok x) P p = tt
on_err (Err e) P p = p

-- What dividing a plan among pipes keeps.
use Rattle.std.specs.Prelude.{◌≡◌, ℕ, ◌<◌, sum_by}
use Rattle.far_base.specs.PlanView.{PlanView}
use Rattle.far_base.specs.declared.plan.OpLine.{OpLine}
use Rattle.far_model.specs.Members.{Among}
use Rattle.std.specs.List.{range_with_len}
use Rattle.pipe_fabric.specs.Parts.{part_of, pipe_of}

-- each operation of the plan is in the part of its key's pipe, and in no other. Whatever the operations weigh, all parts
-- together weigh as much as the plan: none is lost, and none comes twice
pub record AreParted (plan : PlanView) (pipes : ℕ) : Type 0 where
  pub somewhere : (line : OpLine) → Among line plan.ops → (pipe_of pipes line.key < pipes)
      × Among line (part_of plan (pipe_of pipes line.key) pipes).ops
  pub nowhere_else : (line : OpLine) (pipe : ℕ) → Among line (part_of plan pipe pipes).ops
      → Among line plan.ops × (pipe ≡ pipe_of pipes line.key)
  pub together : (weight : OpLine → ℕ)
      → sum_by (λ pipe. sum_by weight (part_of plan pipe pipes).ops) (range_with_len 0 pipes)
      ≡ sum_by weight plan.ops

-- two operations on one key are in the same part
abbrev pub KeepsKeysTogether : PlanView → ℕ → Type 0
KeepsKeysTogether plan pipes = (a b : OpLine) (pipe : ℕ) → a.key ≡ b.key → Among b plan.ops
    → Among a (part_of plan pipe pipes).ops → Among b (part_of plan pipe pipes).ops

-- The pipes that keys are divided among, and the part of a plan for a pipe.
use Rattle.std.specs.Prelude.{ℕ, ◌%◌, Bool, true, nat_eq, List, filter, map}
use Rattle.std.specs.List.{range_with_len}
use Rattle.far_base.specs.PlanView.{PlanView}
use Rattle.far_base.specs.declared.plan.OpLine.{OpLine}
use Rattle.far_base.specs.declared.plan.Order.{Order}
use Rattle.far_base.specs.declared.plan.Order.TheVariants.{Admit, Evict, Snap, Stop, StopAt}
use Rattle.far_model.specs.Pass.{cell_of}

-- the pipe of a key, of so many: its hot cell modulo their number
abbrev pub pipe_of : ℕ → List ℕ → ℕ
pipe_of pipes key = cell_of key % pipes

-- whether the key is in the pipe
unfoldable pub is_in : ℕ → ℕ → List ℕ → Bool
is_in pipe pipes key = nat_eq (pipe_of pipes key) pipe

-- whether the operation is on a key of the pipe
abbrev pub takes_op : ℕ → ℕ → OpLine → Bool
takes_op pipe pipes line = is_in pipe pipes line.key

-- whether the order is for the pipe: those on a key are for its pipe, all others for each pipe
abbrev pub takes_order : ℕ → ℕ → Order → Bool
takes_order pipe pipes (Admit step key) = is_in pipe pipes key
takes_order pipe pipes (Evict step key) = is_in pipe pipes key
takes_order pipe pipes (Snap step) = true
takes_order pipe pipes (Stop step) = true
takes_order pipe pipes (StopAt kind times) = true

-- the part of the plan for the pipe: the same config, and the operations and orders for it, in their order
abbrev pub part_of : PlanView → ℕ → ℕ → PlanView
part_of plan pipe pipes = record {
  config = plan.config;
  ops = filter (takes_op pipe pipes) plan.ops;
  orders = filter (takes_order pipe pipes) plan.orders;
}

-- the parts of all pipes, by rising number
abbrev pub parts_of : PlanView → ℕ → List PlanView
parts_of plan pipes = map (λ pipe. part_of plan pipe pipes) (range_with_len 0 pipes)

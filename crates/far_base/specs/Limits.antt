-- Which plans are valid.
use Rattle.std.specs.Prelude.{◌≡◌, ℕ, ◌<◌, ◌≤◌, Bool, true, false, List, length, Option, None, Some, IsTrue}
use Rattle.std.specs.List.{list_all, count_by, AllByRecursion}
use Rattle.far_base.specs.Key.{is_visible}
use Rattle.far_base.specs.PlanView.{PlanView}
use Rattle.far_base.specs.declared.plan.Config.{Config}
use Rattle.far_base.specs.declared.plan.Op.{Op}
use Rattle.far_base.specs.declared.plan.Op.TheVariants.{Get, Put, Del}
use Rattle.far_base.specs.declared.plan.OpLine.{OpLine}
use Rattle.far_base.specs.declared.plan.Order.{Order}
use Rattle.far_base.specs.declared.plan.Order.TheVariants.{Admit, Evict, Snap, Stop, StopAt}
use Rattle.far_base.specs.declared.plan.TheConstants.{CLIENT_LIMIT, SERVER_LIMIT, SLOT_LIMIT, HOT_LIMIT, OP_LIMIT}
use Rattle.far_base.specs.declared.plan.TheConstants.{ORDER_LIMIT, SNAP_LIMIT, STOP_LIMIT, STEP_LIMIT}

-- sizes within the limits
pub record IsConfig (config : Config) : Type 0 where
  pub clients : (1 ≤ config.clients) × (config.clients ≤ CLIENT_LIMIT)
  pub servers : (1 ≤ config.servers) × (config.servers ≤ SERVER_LIMIT)
  pub slots : (1 ≤ config.slots) × (config.slots ≤ SLOT_LIMIT)
  pub hot : config.hot ≤ HOT_LIMIT

-- a body of visible bytes
abbrev pub IsVisibleBody : Option (List ℕ) → Type 0
IsVisibleBody None = ⊥
IsVisibleBody (Some text) = IsTrue (list_all is_visible text)

-- the body that goes with what an operation does
abbrev pub FitsOp : Op → Option (List ℕ) → Type 0
FitsOp Get body = body ≡ None
FitsOp Put body = IsVisibleBody body
FitsOp Del body = body ≡ None

-- an operation of one of so many clients
pub record IsOpLine (clients : ℕ) (line : OpLine) : Type 0 where
  pub client : line.client < clients
  pub body : FitsOp line.op line.body

-- the number in an order: of the step from which it is due, or of the pass of its kind
abbrev pub due_number : Order → ℕ
due_number (Admit step key) = step
due_number (Evict step key) = step
due_number (Snap step) = step
due_number (Stop step) = step
due_number (StopAt kind times) = times

abbrev pub is_slot_order : Order → Bool
is_slot_order (Admit step key) = true
is_slot_order (Evict step key) = true
is_slot_order (Snap step) = false
is_slot_order (Stop step) = false
is_slot_order (StopAt kind times) = false

abbrev pub is_snap : Order → Bool
is_snap (Admit step key) = false
is_snap (Evict step key) = false
is_snap (Snap step) = true
is_snap (Stop step) = false
is_snap (StopAt kind times) = false

-- an order to stop the switch, of either form
abbrev pub is_stop : Order → Bool
is_stop (Admit step key) = false
is_stop (Evict step key) = false
is_stop (Snap step) = false
is_stop (Stop step) = true
is_stop (StopAt kind times) = true

-- a plan within all limits, whose operations are of its clients and have the bodies that they need
pub record IsPlan (plan : PlanView) : Type 0 where
  pub config : IsConfig plan.config
  pub count : length plan.ops ≤ OP_LIMIT
  pub ops : AllByRecursion (IsOpLine plan.config.clients) plan.ops
  pub slot_orders : count_by is_slot_order plan.orders ≤ ORDER_LIMIT
  pub snaps : count_by is_snap plan.orders ≤ SNAP_LIMIT
  pub stops : count_by is_stop plan.orders ≤ STOP_LIMIT
  pub steps : AllByRecursion (λ order. due_number order ≤ STEP_LIMIT) plan.orders

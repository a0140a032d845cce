-- A plan as contracts see it.
use Rattle.std.specs.Prelude.{List}
use Rattle.far_base.specs.declared.plan.Config.{Config}
use Rattle.far_base.specs.declared.plan.OpLine.{OpLine}
use Rattle.far_base.specs.declared.plan.Order.{Order}

pub record PlanView : Type 0 where
  pub config : Config
  pub ops : List OpLine
  pub orders : List Order

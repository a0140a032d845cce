use Rattle.std.proofs.Common.{◌≡◌, take, filter}
use Rattle.pipe_fabric.specs.Parts.{takes_order}
use Rattle.pipe_fabric.proofs.parts.orders_in.Given as goal

abbrev pub invariant-loop-order : goal.invariant-loop-order
invariant-loop-order l = l.part.items ≡ filter (takes_order l.pipe l.pipes) (take l.order-index l.orders)

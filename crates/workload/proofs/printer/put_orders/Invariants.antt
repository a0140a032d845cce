use Rattle.std.proofs.Common.{◌≡◌, ◌++◌, map, take, drop}
use Rattle.std.specs.List.{AllByRecursion}
use Rattle.workload.specs.Forms.{OfOrder}
use Rattle.workload.specs.Meaning.{IsWholeOrder}
use Rattle.workload.specs.Spelling.{lines_text}
use Rattle.workload.proofs.printer.put_orders.Given as goal

-- if the others are whole, all are
abbrev pub invariant-loop-order : goal.invariant-loop-order
invariant-loop-order l = record {
  text : l.out.items ≡ l.fn.out.items ++ lines_text (map OfOrder (take l.order-index l.orders));
  whole : AllByRecursion IsWholeOrder (drop l.order-index l.orders) → AllByRecursion IsWholeOrder l.orders;
}

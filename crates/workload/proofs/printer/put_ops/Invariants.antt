use Rattle.std.proofs.Common.{◌≡◌, ◌++◌, map, take, drop}
use Rattle.std.specs.List.{AllByRecursion}
use Rattle.workload.specs.Forms.{OfOp}
use Rattle.workload.specs.Meaning.{IsWholeOp}
use Rattle.workload.specs.Spelling.{lines_text}
use Rattle.workload.proofs.printer.put_ops.Given as goal

-- if the others are whole, all are
abbrev pub invariant-loop-place : goal.invariant-loop-place
invariant-loop-place l = record {
  text : l.out.items ≡ l.fn.out.items ++ lines_text (map OfOp (take l.place l.ops));
  whole : AllByRecursion IsWholeOp (drop l.place l.ops) → AllByRecursion IsWholeOp l.ops;
}

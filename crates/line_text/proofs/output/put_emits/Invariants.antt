use Rattle.std.proofs.Common.{◌≡◌, ◌++◌, take}
use Rattle.line_text.specs.Output.{emit_lines}
use Rattle.line_text.proofs.output.put_emits.Given as goal

-- the lines of the packets so far
abbrev pub invariant-loop-k : goal.invariant-loop-k
invariant-loop-k l = l.text.items ≡ l.fn.text.items ++ emit_lines 1 (take l.k l.emits)

use Rattle.std.proofs.Common.{◌≡◌, ◌≤◌, ◌++◌, take}
use Rattle.line_text.specs.Output.{view_lines, view_count}
use Rattle.line_text.proofs.output.put_views.Given as goal

-- the lines of the slots so far
abbrev pub invariant-loop-slot : goal.invariant-loop-slot
invariant-loop-slot l = record {
  lines : l.text.items ≡ l.fn.text.items ++ view_lines 0 (take l.slot l.switch.slots);
  counted : l.count ≡ view_count (take l.slot l.switch.slots);
  within : l.count ≤ l.slot;
}

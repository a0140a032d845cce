use Rattle.std.proofs.Common.{◌≡◌}
use Rattle.switch_staged.specs.Fronts.{first_bound}
use Rattle.switch_staged.proofs.table.copied_table.Given as goal

-- the first slots have their keys
abbrev pub invariant-loop-slot : goal.invariant-loop-slot
invariant-loop-slot l = l.copy.bound ≡ first_bound l.slot l.from.bound

use Rattle.std.proofs.Common.{◌≤◌}
use Rattle.far_model.specs.Members.{Each}
use Rattle.server_keeper.proofs.table_keeper.records_of.Given as goal

abbrev pub invariant-loop-row : goal.invariant-loop-row
invariant-loop-row l = Each (λ r. r.num ≤ l.ceiling) l.records.items

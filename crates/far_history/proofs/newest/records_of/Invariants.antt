use Rattle.std.proofs.Common.{◌≡◌, ◌++◌, map}
use Rattle.far_history.specs.Newest.{record_of}
use Rattle.far_history.proofs.newest.records_of.Given as goal

abbrev pub invariant-loop-key : goal.invariant-loop-key
invariant-loop-key l = l.records.items ++ map record_of l.key-iterator ≡ map record_of l.newest.entries

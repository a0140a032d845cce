use Rattle.std.proofs.Common.{◌≡◌, ℕ, ◌<◌, ◌≤◌, false, get_or, length}
use Rattle.far_base.specs.declared.record.Record.{Record}
use Rattle.far_model.specs.Log.{same_key}
use Rattle.client_records.proofs.records.place_of.Given as goal

abbrev pub invariant-loop-i : goal.invariant-loop-i
invariant-loop-i l = (k : ℕ) (d : Record) → k < l.i → same_key (get_or l.records k d).key l.key ≡ false

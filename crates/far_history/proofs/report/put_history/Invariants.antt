use Rattle.std.proofs.Common.{◌≡◌, ◌++◌, drop, slice_index_or}
use Rattle.far_history.specs.Told.{unheard}
use Rattle.far_history.specs.Rows.{row_text}
use Rattle.far_history.specs.Report.{texts}
use Rattle.far_history.proofs.report.put_history.Given as goal

abbrev pub invariant-loop-place : goal.invariant-loop-place
invariant-loop-place l = l.out.items ++ texts (λ place. row_text l.bytes place (slice_index_or l.table place.op unheard)) (drop l.place-index l.places) ≡ l.initial.out.items ++ texts (λ place. row_text l.bytes place (slice_index_or l.table place.op unheard)) l.places

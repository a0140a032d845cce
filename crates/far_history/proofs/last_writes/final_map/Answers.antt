use Rattle.std.proofs.Common.{ℕ, List, [], map, get_or, ap, ◌∙◌, sym, subst}
use Rattle.std.proofs.lemmas.Result.{IfOk-weaker}
use Rattle.far_base.specs.declared.log.LogLine.{LogLine}
use Rattle.far_base.specs.declared.log.Placed.{Placed}
use Rattle.far_model.specs.History.{IsHistory, IsFinalMap}
use Rattle.far_history.specs.declared.told.Told.{Told}
use Rattle.far_history.specs.Told.{unheard, IsRow}
use Rattle.std.specs.Prelude.{IfOk}
use Rattle.far_history.specs.declared.stored.Stored.{Stored}
use Rattle.far_history.specs.Stored.{lines_in}
use Rattle.far_history.specs.LastWrites.{entries_after, record_of, IsMapOfHistory}
use Rattle.far_history.proofs.Writes.{is_final_map}
use Rattle.far_history.proofs.last_writes.final_map.Goals as goal

pub returns : goal.returns
returns c =
    let stored : List Stored = c.parts.result.0.now in
    let bytes : List ℕ = c.parts.result.1.now in
    let lines : List LogLine = lines_in bytes stored in
    let table : List Told = c.in_ok-table.table.items in
    let places : List Placed = c.in_ok-places.places.items in
    let rows : (op : ℕ) → IsRow bytes lines op (get_or table op unheard) = c.in_ok-table.ensures.rows.rows bytes in
    let h : IsHistory lines places = c.in_ok-places.ensures bytes in
    subst (λ (ls : List LogLine). IfOk c.last_writes.result (λ records. IsMapOfHistory ls records.items)) (sym c.parts.ensures)
    (IfOk-weaker c.last_writes.result _ _ (λ records e. record {
      history = places;
      is_history = h;
      is_final = subst (IsFinalMap lines places) (sym (e ∙ ap (λ (t : List Told). map (record_of bytes) (entries_after t [] c.deref-3.result.now)) c.deref-2.ensures.value ∙ ap (λ (p : List Placed). map (record_of bytes) (entries_after table [] p)) c.deref-3.ensures.value)) (is_final_map bytes lines table places rows h);
    }) c.last_writes.ensures)

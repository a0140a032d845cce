use Rattle.std.proofs.Common.{◌≡◌, ℕ, List, [], ◌∷◌, ◌++◌, map, get_or, ap, ◌∙◌, sym, subst}
use Rattle.std.specs.Prelude.{codes}
use Rattle.std.specs.Fmt.{decimal}
use Rattle.far_base.specs.declared.log.LogLine.{LogLine}
use Rattle.far_base.specs.declared.log.Placed.{Placed}
use Rattle.far_base.specs.declared.record.Record.{Record}
use Rattle.far_model.specs.History.{IsHistory, IsFinalMap}
use Rattle.far_history.specs.declared.told.Told.{Told}
use Rattle.far_history.specs.Told.{unheard, IsRow}
use Rattle.far_text.specs.Text.{text_line}
use Rattle.far_history.specs.Rows.{history_by_rows}
use Rattle.far_model.specs.Log.{LogView}
use Rattle.far_history.specs.declared.stored.Stored.{Stored}
use Rattle.far_history.specs.Stored.{lines_in}
use Rattle.far_history.specs.Report.{history_text, control_text, map_text, IsReport}
use Rattle.far_history.proofs.Bodies.{control_told}
use Rattle.far_history.specs.LastWrites.{entries_after, record_of}
use Rattle.far_history.proofs.RowTexts.{rows_tell, six_parts}
use Rattle.far_history.proofs.Writes.{is_final_map}
use Rattle.far_history.proofs.report.report_text.Goals as goal

pub returns : goal.returns
returns c =
    let stored : List Stored = c.parts.result.0.now in
    let bytes : List ℕ = c.parts.result.1.now in
    let lines : List LogLine = lines_in bytes stored in
    let table : List Told = c.in_ok-table.table.items in
    let places : List Placed = c.in_ok-places.places.items in
    let records : List Record = c.in_ok-records.records.items in
    let rows : (op : ℕ) → IsRow bytes lines op (get_or table op unheard) = c.in_ok-table.ensures.rows.rows bytes in
    let h : IsHistory lines places = c.in_ok-places.ensures bytes in
    let m : records ≡ map (record_of bytes) (entries_after table [] places) =
    c.in_ok-records.ensures ∙ (ap (λ (t : List Told). map (record_of bytes) (entries_after t [] c.deref-3.result.now)) c.deref-2.ensures.value ∙ ap (λ (p : List Placed). map (record_of bytes) (entries_after table [] p)) c.deref-3.ensures.value) in
    let e1 : c.put_text.new.out.items ≡ c.new-out.result.items ++ text_line (codes "far 1 report" ∷ []) = c.in_ok-put_text.ensures.text in
    let e2 : c.put_count.new.out.items ≡ c.put_text.new.out.items ++ text_line (codes "steps" ∷ decimal c.args.log.now.steps ∷ []) =
    c.in_ok-put_count.ensures ∙ ap (λ (n : ℕ). c.put_text.new.out.items ++ text_line (codes "steps" ∷ decimal n ∷ [])) c.steps.ensures in
    let e3 : c.put_history.new.out.items ≡ c.put_count.new.out.items ++ history_text lines places =
    c.in_ok-put_history.ensures
    ∙ (ap (λ (t : List Told). c.put_count.new.out.items ++ history_by_rows bytes t c.deref-5.result.now) c.deref-4.ensures.value
    ∙ (ap (λ (p : List Placed). c.put_count.new.out.items ++ history_by_rows bytes table p) c.deref-5.ensures.value
    ∙ ap (λ (x : List ℕ). c.put_count.new.out.items ++ x) (rows_tell bytes lines table places rows))) in
    let e4 : c.put_control.new.out.items ≡ c.put_history.new.out.items ++ control_text lines =
    c.in_ok-put_control.ensures ∙ ap (λ (x : List ℕ). c.put_history.new.out.items ++ x) (control_told bytes stored) in
    let e5 : c.put_map.new.out.items ≡ c.put_control.new.out.items ++ map_text records =
    c.in_ok-put_map.ensures ∙ ap (λ (r : List Record). c.put_control.new.out.items ++ map_text r) c.deref-6.ensures.value in
    let e6 : c.put_text-2.new.out.items ≡ c.put_map.new.out.items ++ text_line (codes "end" ∷ []) = c.in_ok-put_text-2.ensures.text in
    let log : LogView = record { steps = c.args.log.now.steps; lines = lines } in
    let done : IsReport log c.put_text-2.new.out.items = record {
      history = places;
      map = records;
      is_history = h;
      is_final = subst (IsFinalMap lines places) (sym m) (is_final_map bytes lines table places rows h);
      is_text = six_parts _ _ _ _ _ _ _ _ _ _ _ _ _ c.new-out.ensures.items e1 e2 e3 e4 e5 e6;
    } in
    subst (λ (ls : List LogLine). IsReport (record { steps = c.args.log.now.steps; lines = ls }) c.put_text-2.new.out.items) (sym c.parts.ensures) done

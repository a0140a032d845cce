use Rattle.std.proofs.Common.{◌≡◌, ℕ, List, [], ◌∷◌, length, map, arith, get_or, ap, ◌∙◌, sym, subst}
use Rattle.far_base.specs.declared.log.LogLine.{LogLine}
use Rattle.far_base.specs.declared.log.Placed.{Placed}
use Rattle.far_base.specs.declared.record.Record.{Record}
use Rattle.far_model.specs.Log.{LogView}
use Rattle.far_model.specs.History.{IsHistory, IsFinalMap}
use Rattle.far_history.specs.declared.stored.Stored.{Stored}
use Rattle.far_history.specs.declared.told.Told.{Told}
use Rattle.far_history.specs.declared.summary.Count.{Count}
use Rattle.far_history.specs.Told.{unheard, IsRow}
use Rattle.far_history.specs.LastWrites.{entries_after, record_of}
use Rattle.far_history.specs.Summary as words
use Rattle.far_history.specs.Stored.{lines_in}
use Rattle.far_history.specs.Tallies.{rows_so}
use Rattle.far_history.proofs.Writes.{is_final_map}
use Rattle.far_history.proofs.Summaries.{Tell, rows_count, count_told, same_told, greatest_told, answer_bodiless, snapshot_bodiless, eviction_bodiless, kept_bodiless, recovery_bodiless, three_parts}
use Rattle.far_history.proofs.summary.summary_text.Goals as goal

pub returns : goal.returns
returns c =
    let stored : List Stored = c.parts.result.0.now in
    let bytes : List ℕ = c.parts.result.1.now in
    let lines : List LogLine = lines_in bytes stored in
    let table : List Told = c.in_ok-table.table.items in
    let places : List Placed = c.in_ok-places.places.items in
    let records : List Record = c.in_ok-records.records.items in
    let rows : (op : ℕ) → IsRow bytes lines op (get_or table op unheard) = c.in_ok-table.ensures.rows.rows bytes in
    let h : IsHistory lines places = c.in_ok-places.ensures bytes in
    let m : records ≡ map (record_of bytes) (entries_after table [] places) =
    c.in_ok-records.ensures ∙ (ap (λ (t : List Told). map (record_of bytes) (entries_after t [] c.deref-3.result.now)) c.deref-2.ensures.value ∙ ap (λ (p : List Placed). map (record_of bytes) (entries_after table [] p)) c.deref-3.ensures.value) in
    let near : c.count_near.result ≡ words.answered_so words.is_near lines places =
    c.count_near.ensures ∙ (ap (λ (t : List Told). rows_so words.is_near t c.deref-5.result.now) c.deref-4.ensures.value
    ∙ (ap (λ (p : List Placed). rows_so words.is_near table p) c.deref-5.ensures.value ∙ rows_count words.is_near bytes lines table places rows)) in
    let far : c.count_far.result ≡ words.answered_so words.is_far lines places =
    c.count_far.ensures ∙ (ap (λ (t : List Told). rows_so words.is_far t c.deref-7.result.now) c.deref-6.ensures.value
    ∙ (ap (λ (p : List Placed). rows_so words.is_far table p) c.deref-7.ensures.value ∙ rows_count words.is_far bytes lines table places rows)) in
    let keys : c.len.result ≡ length records = omega (arith, c.len.ensures, c.in_ok-records.records.ok.0) in
    let written : List Count =
    c.new.result ∷ c.new-2.result ∷ c.new-3.result ∷ c.new-4.result ∷ c.new-5.result ∷ c.new-6.result ∷ c.new-7.result ∷ c.new-8.result ∷ c.new-9.result ∷ c.new-10.result ∷ c.new-11.result ∷ c.new-12.result ∷ c.new-13.result ∷ [] in
    let log : LogView = record { steps = c.args.log.now.steps; lines = lines } in
    let due : List (List ℕ × ℕ) = words.counts log c.args.ops c.args.orders places records in
    let told : Tell written due = (
      c.new.ensures.word,
      c.new.ensures.number ∙ c.from.ensures,
      (
        c.new-2.ensures.word,
        c.new-2.ensures.number ∙ (c.answers.ensures ∙ count_told words.is_answer answer_bodiless bytes stored),
        (
          c.new-3.ensures.word,
          c.new-3.ensures.number ∙ c.from-2.ensures,
          (
            c.new-4.ensures.word,
            c.new-4.ensures.number ∙ (c.from-3.ensures ∙ c.steps.ensures),
            (
              c.new-5.ensures.word,
              c.new-5.ensures.number ∙ near,
              (
                c.new-6.ensures.word,
                c.new-6.ensures.number ∙ far,
                (
                  c.new-7.ensures.word,
                  c.new-7.ensures.number ∙ (c.snapshots.ensures ∙ count_told words.is_snapshot snapshot_bodiless bytes stored),
                  (
                    c.new-8.ensures.word,
                    c.new-8.ensures.number ∙ (c.all_same_parts.ensures ∙ same_told bytes stored),
                    (
                      c.new-9.ensures.word,
                      c.new-9.ensures.number ∙ (c.evictions.ensures ∙ count_told words.is_eviction eviction_bodiless bytes stored),
                      (
                        c.new-10.ensures.word,
                        c.new-10.ensures.number ∙ (c.kept.ensures ∙ count_told words.is_kept kept_bodiless bytes stored),
                        (
                          c.new-11.ensures.word,
                          c.new-11.ensures.number ∙ (c.recoveries.ensures ∙ count_told words.is_recovery recovery_bodiless bytes stored),
                          (
                            c.new-12.ensures.word,
                            c.new-12.ensures.number ∙ (c.from-4.ensures ∙ (c.greatest_given.ensures ∙ greatest_told bytes stored)),
                            (
                              c.new-13.ensures.word,
                              c.new-13.ensures.number ∙ keys,
                              tt,
                            ),
                          ),
                        ),
                      ),
                    ),
                  ),
                ),
              ),
            ),
          ),
        ),
      ),
    ) in
    let done : words.IsSummary log c.args.ops c.args.orders c.put_text-2.new.out.items = record {
      history = places;
      map = records;
      is_history = h;
      is_final = subst (IsFinalMap lines places) (sym m) (is_final_map bytes lines table places rows h);
      is_text = three_parts _ _ _ _ written due told c.new-out.ensures.items c.in_ok-put_text.ensures.text c.in_ok-put_counts.ensures c.in_ok-put_text-2.ensures.text;
    } in
    subst (λ (ls : List LogLine). words.IsSummary (record { steps = c.args.log.now.steps; lines = ls }) c.args.ops c.args.orders c.put_text-2.new.out.items) (sym c.parts.ensures) done

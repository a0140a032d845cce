-- The lines of one packet more, and of one slot more.
use Rattle.std.proofs.Common.{◌≡◌, ℕ, ◌+◌, ◌<◌, List, [], ◌∷◌, ◌++◌, length, take, sym, refl, ap, ◌∙◌, arith}
use Rattle.std.proofs.lemmas.List.{append_assoc, append-nil, take_more, length-take-le}
use Rattle.std.specs.Prelude.{slice_index_or}
use Rattle.far_model.specs.View.{SwitchView, SlotView, empty_slot, held_record, slot_at}
use Rattle.switch_core.specs.declared.switch.Emit.{Emit}
use Rattle.line_text.specs.Output.{out_lines, emit_lines, view_line, view_lines, one_if, view_count}

emits_more : (n : ℕ) (es : List Emit) (e : Emit) → emit_lines n (es ++ e ∷ []) ≡ emit_lines n es ++ (out_lines (n + length es) e.first ++ out_lines (n + length es) e.second)
emits_more n [] e =
    let same : n ≡ n + 0 = omega arith in
    append-nil (out_lines n e.first ++ out_lines n e.second) ∙ ap (λ m. out_lines m e.first ++ out_lines m e.second) same
emits_more n (x ∷ es) e =
    let same : n + 1 + length es ≡ n + length (x ∷ es) = omega arith in
    let tail = emits_more (n + 1) es e ∙ ap (λ m. emit_lines (n + 1) es ++ (out_lines m e.first ++ out_lines m e.second)) same in
    let new = out_lines (n + length (x ∷ es)) e.first ++ out_lines (n + length (x ∷ es)) e.second in
    ap (λ r. out_lines n x.first ++ out_lines n x.second ++ r) tail
    ∙ sym (append_assoc (out_lines n x.first ++ out_lines n x.second) (emit_lines (n + 1) es) new)

pub emits_next : (es : List Emit) (k : ℕ) (d : Emit) → k < length es
    → emit_lines 1 (take (k + 1) es) ≡ emit_lines 1 (take k es) ++ (out_lines (k + 1) (slice_index_or es k d).first ++ out_lines (k + 1) (slice_index_or es k d).second)
emits_next es k d b =
    let count : length (take k es) ≡ k = length-take-at k es b in
    let number : 1 + length (take k es) ≡ k + 1 = omega (arith, count) in
    let e = slice_index_or es k d in
    ap (emit_lines 1) (take_more es k d b) ∙ emits_more 1 (take k es) e
    ∙ ap (λ m. emit_lines 1 (take k es) ++ (out_lines m e.first ++ out_lines m e.second)) number
  where
    length-take-at : (k : ℕ) (es : List Emit) → k < length es → length (take k es) ≡ k
    length-take-at k es b = length-take-le k es (omega (arith, b))

pub ruleset packet_by_packet = (emits_next, append_assoc)

views_more : (n : ℕ) (ss : List SlotView) (s : SlotView) → view_lines n (ss ++ s ∷ []) ≡ view_lines n ss ++ view_line (n + length ss) (held_record s)
views_more n [] s =
    let same : n ≡ n + 0 = omega arith in
    append-nil (view_line n (held_record s)) ∙ ap (λ m. view_line m (held_record s)) same
views_more n (x ∷ ss) s =
    let same : n + 1 + length ss ≡ n + length (x ∷ ss) = omega arith in
    let tail = views_more (n + 1) ss s ∙ ap (λ m. view_lines (n + 1) ss ++ view_line m (held_record s)) same in
    ap (λ r. view_line n (held_record x) ++ r) tail
    ∙ sym (append_assoc (view_line n (held_record x)) (view_lines (n + 1) ss) (view_line (n + length (x ∷ ss)) (held_record s)))

counts_more : (ss : List SlotView) (s : SlotView) → view_count (ss ++ s ∷ []) ≡ view_count ss + one_if (held_record s)
counts_more [] s = omega arith
counts_more (x ∷ ss) s = let more = counts_more ss s in omega (arith, more)

pub views_next : (v : SwitchView) (k : ℕ) → k < length v.slots
    → view_lines 0 (take (k + 1) v.slots) ≡ view_lines 0 (take k v.slots) ++ view_line k (held_record (slot_at v k))
views_next v k b =
    let count : length (take k v.slots) ≡ k = length-take-le k v.slots (omega (arith, b)) in
    let number : 0 + length (take k v.slots) ≡ k = omega (arith, count) in
    ap (view_lines 0) (take_more v.slots k empty_slot b) ∙ views_more 0 (take k v.slots) (slot_at v k)
    ∙ ap (λ m. view_lines 0 (take k v.slots) ++ view_line m (held_record (slot_at v k))) number

pub counts_next : (v : SwitchView) (k : ℕ) → k < length v.slots → view_count (take (k + 1) v.slots) ≡ view_count (take k v.slots) + one_if (held_record (slot_at v k))
counts_next v k b = ap view_count (take_more v.slots k empty_slot b) ∙ counts_more (take k v.slots) (slot_at v k)

pub ruleset slot_by_slot = (views_next, counts_next, append_assoc)

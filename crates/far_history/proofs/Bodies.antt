-- Lines whose bodies stand among the bytes stay as they are when bytes are put behind.
use Rattle.std.proofs.Common.{◌≡◌, ℕ, ◌+◌, ◌≤◌, List, [], ◌∷◌, ◌++◌, length, cond, take, drop, slice_get, refl, inl, inr, ap, sym, arith, Option, None, Some, ◌∙◌}
use Rattle.std.specs.Prelude.{option_map, count_by}
use Rattle.std.proofs.lemmas.List.{take-append-le, drop-append-le, length-drop, length-append, map-append}
use Rattle.std.proofs.Math.Seq.{drop-append_seam, take-length}
use Rattle.std.proofs.lemmas.Option.{slice_get-map}
use Rattle.std.proofs.lemmas.Bool.Decides.{leb_tells}
use Rattle.std.proofs.lemmas.List.Sums.{sum_by-cons}
use Rattle.far_base.specs.Padded.{text_of}
use Rattle.far_base.specs.declared.body.TheConstants.{BODY_LIMIT}
use Rattle.far_base.specs.declared.log.LogLine.{LogLine}
use Rattle.far_base.specs.declared.log.LogEntry.{LogEntry}
use Rattle.far_base.specs.declared.log.LogEntry.TheVariants.{Sent, Numbered, Emitted, Answered, Admitted, Evicted, Kept, Snapped, SnapItem, Stopped, Recovered, RecItem}
use Rattle.far_model.specs.Members.{Each}
use Rattle.far_history.specs.declared.stored.Stretch.{Stretch}
use Rattle.far_history.specs.declared.stored.Stored.{Stored}
use Rattle.far_history.specs.Report.{texts, entry_text, is_control, control_text}
use Rattle.far_history.specs.Rows.{stored_text, stored_control, control_by_stored}
use Rattle.far_history.specs.Stored.{body_in, stretch_of, entry_with, bare_of, entry_body, line_in, lines_in, IsWithin}

part_stays : (bytes more : List ℕ) (at len : ℕ) → at + len ≤ length bytes → take len (drop at (bytes ++ more)) ≡ take len (drop at bytes)
part_stays bytes more at len h =
    ap (take len) (drop-append-le at bytes more (omega arith)) ∙ take-append-le len (drop at bytes) more (omega (arith, length-drop at bytes))

body_stays : (bytes more : List ℕ) (s : Stretch) → s.at + s.len ≤ length bytes → body_in (bytes ++ more) s ≡ body_in bytes s
body_stays bytes more s h = rw (part_stays bytes more s.at s.len h) refl

pub lines_stay : (bytes more : List ℕ) (stored : List Stored) → Each (IsWithin (length bytes)) stored → lines_in (bytes ++ more) stored ≡ lines_in bytes stored
lines_stay bytes more [] h = refl
lines_stay bytes more (s ∷ ss) h = rw (body_stays bytes more s.body h.0, lines_stay bytes more ss h.1) refl

-- the body of an entry is read where it was put
put_there : (bytes : List ℕ) (body : Option (List ℕ)) → length (text_of body) ≤ BODY_LIMIT → body_in (bytes ++ text_of body) (stretch_of (length bytes) body) ≡ body
put_there bytes None h = refl
put_there bytes (Some text) h =
    let a : drop (length bytes) (bytes ++ text) ≡ text = drop-append_seam bytes text in
    let b : take (length text) text ≡ text = take-length text in
    rw (a, b) (elim (leb_tells (length text) BODY_LIMIT) [ inl e ↦ rw e.0 refl | inr e ↦ absurd (omega (arith, e.1, h)) ])

with_its_body : (entry : LogEntry) → entry_with (entry_body entry) (bare_of entry) ≡ entry
with_its_body (Sent op line) = refl
with_its_body (Numbered op num) = refl
with_its_body (Emitted op num body near) = refl
with_its_body (Answered op) = refl
with_its_body (Admitted slot key tag) = refl
with_its_body (Evicted slot key tries) = refl
with_its_body (Kept slot key num) = refl
with_its_body (Snapped id point count same) = refl
with_its_body (SnapItem slot item) = refl
with_its_body Stopped = refl
with_its_body (Recovered counter count) = refl
with_its_body (RecItem item) = refl

-- the line of that moment and entry, whose body is put behind the bytes
abbrev pub stored_line : ℕ → ℕ → LogEntry → Stored
stored_line at moment entry = record { moment = moment; bare = bare_of entry; body = stretch_of at (entry_body entry) }

line_there : (bytes : List ℕ) (moment : ℕ) (entry : LogEntry) → length (text_of (entry_body entry)) ≤ BODY_LIMIT
    → line_in (bytes ++ text_of (entry_body entry)) (stored_line (length bytes) moment entry) ≡ record { moment = moment; entry = entry }
line_there bytes moment entry h =
    ap (λ (b : Option (List ℕ)). record { moment = moment; entry = entry_with b (bare_of entry) }) (put_there bytes (entry_body entry) h)
    ∙ ap (λ (e : LogEntry). record { moment = moment; entry = e }) (with_its_body entry)

pub lines_more : (bytes : List ℕ) (stored : List Stored) (moment : ℕ) (entry : LogEntry) → length (text_of (entry_body entry)) ≤ BODY_LIMIT → Each (IsWithin (length bytes)) stored
    → lines_in (bytes ++ text_of (entry_body entry)) (stored ++ stored_line (length bytes) moment entry ∷ []) ≡ lines_in bytes stored ++ record { moment = moment; entry = entry } ∷ []
lines_more bytes stored moment entry h w =
    rw (map-append (line_in (bytes ++ text_of (entry_body entry))) stored (stored_line (length bytes) moment entry ∷ []), lines_stay bytes (text_of (entry_body entry)) stored w, line_there bytes moment entry h) refl

each_within : (n m : ℕ) (stored : List Stored) → n ≤ m → Each (IsWithin n) stored → Each (IsWithin m) stored
each_within n m [] h w = tt
each_within n m (s ∷ ss) h w = (omega (arith, w.0), each_within n m ss h w.1)

each_more : (n : ℕ) (stored : List Stored) (s : Stored) → Each (IsWithin n) stored → IsWithin n s → Each (IsWithin n) (stored ++ s ∷ [])
each_more n [] s w h = (h, tt)
each_more n (x ∷ xs) s w h = (w.0, each_more n xs s w.1 h)

pub within_more : (bytes : List ℕ) (stored : List Stored) (moment : ℕ) (entry : LogEntry) → Each (IsWithin (length bytes)) stored
    → Each (IsWithin (length (bytes ++ text_of (entry_body entry)))) (stored ++ stored_line (length bytes) moment entry ∷ [])
within_more bytes stored moment entry w =
    let e : length (bytes ++ text_of (entry_body entry)) ≡ length bytes + length (text_of (entry_body entry)) = length-append bytes (text_of (entry_body entry)) in
    each_more (length (bytes ++ text_of (entry_body entry))) stored (stored_line (length bytes) moment entry)
    (each_within (length bytes) (length (bytes ++ text_of (entry_body entry))) stored (omega (arith, e)) w) (omega (arith, e))

pub line_of_lines : (bytes : List ℕ) (stored : List Stored) (place : ℕ) (s : Stored) → slice_get stored place ≡ Some s → slice_get (lines_in bytes stored) place ≡ Some (line_in bytes s)
line_of_lines bytes stored place s e = slice_get-map (line_in bytes) stored place ∙ ap (option_map (line_in bytes)) e

pub texts_stored : (bytes : List ℕ) (stored : List Stored) → texts (stored_text bytes) stored ≡ texts (λ l. entry_text l.moment l.entry) (lines_in bytes stored)
texts_stored bytes [] = refl
texts_stored bytes (s ∷ ss) = ap (λ (x : List ℕ). stored_text bytes s ++ x) (texts_stored bytes ss)

pub count_stored : (bytes : List ℕ) (stored : List Stored) → count_by (stored_control bytes) stored ≡ count_by (λ l. is_control l.entry) (lines_in bytes stored)
count_stored bytes [] = refl
count_stored bytes (s ∷ ss) =
    let f : Stored → ℕ = λ l. cond (stored_control bytes l) 1 0 in
    let g : LogLine → ℕ = λ l. cond (is_control l.entry) 1 0 in
    sum_by-cons f s ss ∙ (ap (λ (n : ℕ). f s + n) (count_stored bytes ss) ∙ sym (sum_by-cons g (line_in bytes s) (lines_in bytes ss)))

pub control_told : (bytes : List ℕ) (stored : List Stored) → control_by_stored bytes stored ≡ control_text (lines_in bytes stored)
control_told bytes stored = rw (texts_stored bytes stored, count_stored bytes stored) refl

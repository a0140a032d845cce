-- The counts of a summary by rows and by stored lines are those by the log, and their text by parts is the text of the summary.
use Rattle.std.proofs.Common.{◌≡◌, ℕ, ◌+◌, Bool, cond, List, [], ◌∷◌, ◌++◌, get_or, refl, ap, sym, ◌∙◌, Option, None, Some}
use Rattle.std.specs.Prelude.{count_by, sum_by, codes}
use Rattle.std.proofs.lemmas.List.Sums.{sum_by-cons}
use Rattle.far_base.specs.declared.log.LogLine.{LogLine}
use Rattle.far_base.specs.declared.log.LogEntry.{LogEntry}
use Rattle.far_base.specs.declared.log.Placed.{Placed}
use Rattle.far_model.specs.Log.{At, Answer, emission, answering}
use Rattle.far_history.specs.declared.stored.Stored.{Stored}
use Rattle.far_history.specs.declared.stored.Bare.{Bare}
use Rattle.far_history.specs.declared.stored.Bare.TheVariants.{Sent, Numbered, Emitted, Answered, Admitted, Evicted, Kept, Snapped, SnapItem, Stopped, Recovered, RecItem}
use Rattle.far_history.specs.declared.told.Reply.{Reply}
use Rattle.far_history.specs.declared.told.Told.{Told}
use Rattle.far_history.specs.declared.summary.Count.{Count}
use Rattle.far_history.specs.Stored.{body_in, entry_with, line_in, lines_in}
use Rattle.far_history.specs.Told.{unheard, answer_told, reply_told, what_of, moment_of, IsRow}
use Rattle.far_history.specs.Report.{texts}
use Rattle.far_history.specs.Summary.{is_answer, is_snapshot, is_eviction, is_kept, is_recovery, count_of, same_parts, all_same_parts, number_given, greatest_given, nearness, answered_so, count_text, summary}
use Rattle.far_history.specs.Tallies.{told_near, row_near, rows_so, bodiless, count_stored, same_parts_stored, greatest_stored}
use Rattle.far_text.specs.Text.{text_line}

near_by_told : (bytes : List ℕ) (r : Option Reply) (m : Option ℕ) (E : Option (At Answer)) (A : Option (At ℕ)) → reply_told bytes r ≡ what_of E → m ≡ moment_of A → told_near r m ≡ nearness E A
near_by_told bytes None m None A e a = refl
near_by_told bytes None m (Some x) A e a = absurd cc
near_by_told bytes (Some r) m None A e a = absurd cc
near_by_told bytes (Some r) None (Some x) None e a = refl
near_by_told bytes (Some r) None (Some x) (Some y) e a = absurd cc
near_by_told bytes (Some r) (Some m) (Some x) None e a = absurd cc
near_by_told bytes (Some r) (Some m) (Some x) (Some y) e a = let f : answer_told bytes r ≡ x.what = cc in ap (λ (t : Answer). Some t.near) f

near_by_row : (bytes : List ℕ) (lines : List LogLine) (row : Told) (op : ℕ) → IsRow bytes lines op row → row_near row ≡ nearness (emission lines op) (answering lines op)
near_by_row bytes lines row op i = near_by_told bytes row.emitted row.answered (emission lines op) (answering lines op) i.emitted i.answered

-- as many operations of the list were answered so by the rows as by the log
pub rows_count : (is : Option Bool → Bool) (bytes : List ℕ) (lines : List LogLine) (table : List Told) (ps : List Placed) → ((op : ℕ) → IsRow bytes lines op (get_or table op unheard))
    → rows_so is table ps ≡ answered_so is lines ps
rows_count is bytes lines table ps rows =
    ap (λ (f : Placed → Bool). count_by f ps) (λ i p. is (near_by_row bytes lines (get_or table p.op unheard) p.op (rows p.op) i))

-- what is told of an entry does not depend on its body
abbrev pub IsBodiless : {X : Type 0} → (LogEntry → X) → Type 0
IsBodiless f = (body : Option (List ℕ)) (b : Bare) → f (entry_with None b) ≡ f (entry_with body b)

-- all that a summary is told of an entry
record Telling : Type 0 where
  answer : Bool
  snapshot : Bool
  eviction : Bool
  kept : Bool
  recovery : Bool
  same : ℕ
  number : ℕ

abbrev telling : LogEntry → Telling
telling e = record {
  answer = is_answer e;
  snapshot = is_snapshot e;
  eviction = is_eviction e;
  kept = is_kept e;
  recovery = is_recovery e;
  same = same_parts e;
  number = number_given e;
}

telling_bodiless : IsBodiless telling
telling_bodiless body (Sent op line) = refl
telling_bodiless body (Numbered op num) = refl
telling_bodiless body (Emitted op num near) = refl
telling_bodiless body (Answered op) = refl
telling_bodiless body (Admitted slot key tag) = refl
telling_bodiless body (Evicted slot key tries) = refl
telling_bodiless body (Kept slot key num) = refl
telling_bodiless body (Snapped id point count same) = refl
telling_bodiless body (SnapItem slot key num) = refl
telling_bodiless body Stopped = refl
telling_bodiless body (Recovered counter count) = refl
telling_bodiless body (RecItem key num) = refl

pub answer_bodiless : IsBodiless is_answer
answer_bodiless body b = ap (λ (t : Telling). t.answer) (telling_bodiless body b)

pub snapshot_bodiless : IsBodiless is_snapshot
snapshot_bodiless body b = ap (λ (t : Telling). t.snapshot) (telling_bodiless body b)

pub eviction_bodiless : IsBodiless is_eviction
eviction_bodiless body b = ap (λ (t : Telling). t.eviction) (telling_bodiless body b)

pub kept_bodiless : IsBodiless is_kept
kept_bodiless body b = ap (λ (t : Telling). t.kept) (telling_bodiless body b)

pub recovery_bodiless : IsBodiless is_recovery
recovery_bodiless body b = ap (λ (t : Telling). t.recovery) (telling_bodiless body b)

same_bodiless : IsBodiless same_parts
same_bodiless body b = ap (λ (t : Telling). t.same) (telling_bodiless body b)

number_bodiless : IsBodiless number_given
number_bodiless body b = ap (λ (t : Telling). t.number) (telling_bodiless body b)

-- the lines count as they do without their bodies
sum_told : (f : LogEntry → ℕ) → IsBodiless f → (bytes : List ℕ) (stored : List Stored) → sum_by (λ s. f (bodiless s)) stored ≡ sum_by (λ l. f l.entry) (lines_in bytes stored)
sum_told f same bytes [] = refl
sum_told f same bytes (s ∷ ss) =
    let g : Stored → ℕ = λ x. f (bodiless x) in
    let h : LogLine → ℕ = λ l. f l.entry in
    sum_by-cons g s ss
    ∙ (ap (λ (n : ℕ). n + sum_by g ss) (same (body_in bytes s.body) s.bare)
    ∙ (ap (λ (n : ℕ). h (line_in bytes s) + n) (sum_told f same bytes ss) ∙ sym (sum_by-cons h (line_in bytes s) (lines_in bytes ss))))

pub count_told : (is : LogEntry → Bool) → IsBodiless is → (bytes : List ℕ) (stored : List Stored) → count_stored is stored ≡ count_of is (lines_in bytes stored)
count_told is same bytes stored = sum_told (λ e. cond (is e) 1 0) (λ body b. ap (λ (x : Bool). cond x 1 0) (same body b)) bytes stored

pub same_told : (bytes : List ℕ) (stored : List Stored) → same_parts_stored stored ≡ all_same_parts (lines_in bytes stored)
same_told bytes stored = sum_told same_parts same_bodiless bytes stored

pub greatest_told : (bytes : List ℕ) (stored : List Stored) → greatest_stored stored ≡ greatest_given (lines_in bytes stored)
greatest_told bytes [] = refl
greatest_told bytes (s ∷ ss) = rw (number_bodiless (body_in bytes s.body) s.bare, greatest_told bytes ss) refl

abbrev pub shown : List Count → List ℕ
shown counts = texts (λ c. count_text (c.word.now, c.number)) counts

-- each count tells its word and its number
abbrev pub Tell : List Count → List (List ℕ × ℕ) → Type 0
Tell [] [] = Unit {0}
Tell [] (y ∷ ys) = ⊥
Tell (x ∷ xs) [] = ⊥
Tell (x ∷ xs) (y ∷ ys) = (x.word.now ≡ y.0) × (x.number ≡ y.1) × Tell xs ys

shown_is : (counts : List Count) (told : List (List ℕ × ℕ)) → Tell counts told → shown counts ≡ texts count_text told
shown_is [] [] t = refl
shown_is [] (y ∷ ys) t = absurd t
shown_is (x ∷ xs) [] t = absurd t
shown_is (x ∷ xs) (y ∷ ys) t = rw (t.0, t.1, shown_is xs ys t.2) refl

-- a text that was written in three parts
pub three_parts : (empty one two three : List ℕ) (counts : List Count) (told : List (List ℕ × ℕ)) → Tell counts told
    → empty ≡ [] → one ≡ empty ++ text_line (codes "far 1 summary" ∷ []) → two ≡ one ++ shown counts → three ≡ two ++ text_line (codes "end" ∷ []) → three ≡ summary told
three_parts empty one two three counts told t h1 h2 h3 h4 =
    let s : shown counts ≡ texts count_text told = shown_is counts told t in
    let first : one ≡ text_line (codes "far 1 summary" ∷ []) = h2 ∙ ap (λ (x : List ℕ). x ++ text_line (codes "far 1 summary" ∷ [])) h1 in cc

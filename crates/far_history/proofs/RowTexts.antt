-- The line of an operation by its row is that by the log.
use Rattle.std.proofs.Common.{◌≡◌, ℕ, List, [], ◌∷◌, ◌++◌, get_or, refl, ap, subst, Option, None, Some, ◌∙◌}
use Rattle.far_base.specs.declared.plan.OpLine.{OpLine}
use Rattle.far_base.specs.declared.log.LogLine.{LogLine}
use Rattle.far_base.specs.declared.log.Placed.{Placed}
use Rattle.far_model.specs.Log.{At, Answer, sending, emission, answering}
use Rattle.far_history.specs.declared.told.Sending.{Sending}
use Rattle.far_history.specs.declared.told.Reply.{Reply}
use Rattle.far_history.specs.declared.told.Told.{Told}
use Rattle.far_history.specs.Told.{unheard, op_told, sending_told, answer_told, reply_told, what_of, moment_of, IsRow}
use Rattle.far_history.specs.Report.{placed_line, placed_text, texts, history_text}
use Rattle.far_history.specs.Rows.{row_line, row_text, history_by_rows}

abbrev sent_at : List ℕ → Sending → Option (At OpLine)
sent_at bytes s = Some (record { moment = s.moment; what = op_told bytes s })

abbrev answer_at : ℕ → Answer → Option (At Answer)
answer_at moment answer = Some (record { moment = moment; what = answer })

abbrev told_at : ℕ → ℕ → Option (At ℕ)
told_at moment op = Some (record { moment = moment; what = op })

same_line : (bytes : List ℕ) (p : Placed) (s : Sending) (r : Reply) (m : ℕ) (e : At Answer) (a : At ℕ) → answer_told bytes r ≡ e.what → m ≡ a.moment
    → row_line bytes p (Some s) (Some r) (Some m) ≡ placed_line p (sent_at bytes s) (Some e) (Some a)
same_line bytes p s r m e a f g =
    ap (λ (x : Answer). placed_line p (sent_at bytes s) (answer_at 0 x) (told_at m 0)) f ∙ ap (λ (x : ℕ). placed_line p (sent_at bytes s) (answer_at e.moment e.what) (told_at x 0)) g

by_told : (bytes : List ℕ) (p : Placed) (s : Sending) (r : Option Reply) (m : Option ℕ) (E : Option (At Answer)) (A : Option (At ℕ)) → reply_told bytes r ≡ what_of E → m ≡ moment_of A
    → row_line bytes p (Some s) r m ≡ placed_line p (sent_at bytes s) E A
by_told bytes p s None m None A e a = refl
by_told bytes p s None m (Some x) A e a = absurd cc
by_told bytes p s (Some r) m None A e a = absurd cc
by_told bytes p s (Some r) None (Some x) None e a = refl
by_told bytes p s (Some r) None (Some x) (Some y) e a = absurd cc
by_told bytes p s (Some r) (Some m) (Some x) None e a = absurd cc
by_told bytes p s (Some r) (Some m) (Some x) (Some y) e a =
    let f : answer_told bytes r ≡ x.what = cc in
    let g : m ≡ y.moment = cc in
    same_line bytes p s r m x y f g

by_row : (bytes : List ℕ) (p : Placed) (s : Option Sending) (r : Option Reply) (m : Option ℕ) (S : Option (At OpLine)) (E : Option (At Answer)) (A : Option (At ℕ)) → sending_told bytes s ≡ S → reply_told bytes r ≡ what_of E → m ≡ moment_of A
    → row_line bytes p s r m ≡ placed_line p S E A
by_row bytes p None r m S E A f e a = subst (λ (x : Option (At OpLine)). [] ≡ placed_line p x E A) f refl
by_row bytes p (Some s) r m S E A f e a = by_told bytes p s r m E A e a ∙ ap (λ (x : Option (At OpLine)). placed_line p x E A) f

pub row_text_is : (bytes : List ℕ) (lines : List LogLine) (row : Told) (p : Placed) → IsRow bytes lines p.op row → row_text bytes p row ≡ placed_text lines p
row_text_is bytes lines row p i = by_row bytes p row.sent row.emitted row.answered (sending lines p.op) (emission lines p.op) (answering lines p.op) i.sent i.emitted i.answered

row_texts : (bytes : List ℕ) (lines : List LogLine) (table : List Told) (ps : List Placed) → ((op : ℕ) → IsRow bytes lines op (get_or table op unheard))
    → texts (λ p. row_text bytes p (get_or table p.op unheard)) ps ≡ texts (placed_text lines) ps
row_texts bytes lines table [] rows = refl
row_texts bytes lines table (p ∷ ps) rows = rw (row_text_is bytes lines (get_or table p.op unheard) p (rows p.op), row_texts bytes lines table ps rows) refl

pub rows_tell : (bytes : List ℕ) (lines : List LogLine) (table : List Told) (ps : List Placed) → ((op : ℕ) → IsRow bytes lines op (get_or table op unheard))
    → history_by_rows bytes table ps ≡ history_text lines ps
rows_tell bytes lines table ps rows = rw (row_texts bytes lines table ps rows) refl

-- a text that was written in six parts
pub six_parts : (empty one two three four five six a b d e f g : List ℕ) → empty ≡ [] → one ≡ empty ++ a → two ≡ one ++ b → three ≡ two ++ d → four ≡ three ++ e → five ≡ four ++ f → six ≡ five ++ g
    → six ≡ a ++ b ++ d ++ e ++ f ++ g
six_parts empty one two three four five six a b d e f g h1 h2 h3 h4 h5 h6 h7 =
    let first : one ≡ a = h2 ∙ ap (λ (x : List ℕ). x ++ a) h1 in cc

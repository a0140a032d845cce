-- Reading line by line, as the reader does.
use Rattle.std.proofs.Common.{◌≡◌, ℕ, suc, ◌+◌, List, [], ◌∷◌, ◌++◌, refl, sym, ap, ◌∙◌, append_assoc}
use Rattle.std.proofs.lemmas.List.{append-nil}
use Rattle.std.specs.Prelude.{Option, Some, None, Result, Ok, Err}
use Rattle.log_audit.specs.Reading.{Blames, ◌andthen◌, history_of, or_bad, with_first}
use Rattle.log_audit.specs.Words.{hist_of, line_as}
use Rattle.log_audit.specs.declared.fault.AuditFault.{AuditFault}
use Rattle.log_audit.specs.declared.fault.AuditFault.TheVariants.{BadLine, TooLarge, Memory}
use Rattle.log_audit.specs.declared.line.HistLine.{HistLine}

abbrev pub Hist : Type 0
Hist = List HistLine × List ℕ

-- the lines read so far stand before those that are read from now on
abbrev pub behind_lines : List HistLine → Hist → Result Hist AuditFault
behind_lines lines r = Ok (lines ++ r.0, r.1)

one_more : (lines : List HistLine) (l : HistLine) (r : Result Hist AuditFault) → ((r andthen with_first l) andthen behind_lines lines) ≡ (r andthen behind_lines (lines ++ l ∷ []))
one_more lines l (Ok r) = ap (λ (ls : List HistLine). Ok (ls, r.1)) (sym (append_assoc lines (l ∷ []) r.0))
one_more lines l (Err fault) = refl

pub history_step : (left less n m : ℕ) (text rest : List ℕ) (lines : List HistLine) (l : HistLine) → left ≡ suc less → m ≡ n + 1 → line_as hist_of text ≡ Some (l, rest)
    → (history_of left n text andthen behind_lines lines) ≡ (history_of less m rest andthen behind_lines (lines ++ l ∷ []))
history_step left less n m text rest lines l e next read =
    let a : history_of (suc less) n text ≡ (history_of less (n + 1) rest andthen with_first l) = ap (λ (o : Option (HistLine × List ℕ)). or_bad n o andthen λ a. history_of less (n + 1) a.1 andthen with_first a.0) read in
    ap (λ (k : ℕ). history_of k n text andthen behind_lines lines) e ∙ ap (λ (r : Result Hist AuditFault). r andthen behind_lines lines) a
    ∙ one_more lines l (history_of less (n + 1) rest) ∙ ap (λ (k : ℕ). history_of less k rest andthen behind_lines (lines ++ l ∷ [])) (sym next)

pub history_stops : (left less n : ℕ) (text : List ℕ) (lines : List HistLine) → left ≡ suc less → line_as hist_of text ≡ None → (history_of left n text andthen behind_lines lines) ≡ Err (BadLine n)
history_stops left less n text lines e read =
    let a : history_of (suc less) n text ≡ Err (BadLine n) = ap (λ (o : Option (HistLine × List ℕ)). or_bad n o andthen λ a. history_of less (n + 1) a.1 andthen with_first a.0) read in
    ap (λ (k : ℕ). history_of k n text andthen behind_lines lines) e ∙ ap (λ (r : Result Hist AuditFault). r andthen behind_lines lines) a

pub history_ends : (left n : ℕ) (text : List ℕ) (lines : List HistLine) → left ≡ 0 → (history_of left n text andthen behind_lines lines) ≡ Ok (lines, text)
history_ends left n text lines e =
    ap (λ (k : ℕ). history_of k n text andthen behind_lines lines) e ∙ ap (λ (ls : List HistLine). Ok (ls, text)) (append-nil lines)

pub none_before : (r : Result Hist AuditFault) → (r andthen behind_lines []) ≡ r
none_before (Ok r) = refl
none_before (Err fault) = refl

-- what is read from the start, where no line was read before
pub from_start : (count n : ℕ) (text : List ℕ) (r : Result Hist AuditFault) → (history_of count n text andthen behind_lines []) ≡ r → history_of count n text ≡ r
from_start count n text r e = sym (none_before (history_of count n text)) ∙ e

-- ---- faults

abbrev pub refused : {A : Type 0} → AuditFault → Result A AuditFault
refused fault = Err fault

pub blames_of : (A : Type 0) (P : AuditFault → Type 0) (fault : AuditFault) → P fault → Blames (refused {A = A} fault) P
blames_of A P (BadLine n) h = h
blames_of A P (TooLarge n) h = h
blames_of A P Memory h = tt

pub blames_on : (A B : Type 0) (P Q : AuditFault → Type 0) (fault : AuditFault) → ((f : AuditFault) → P f → Q f) → Blames (refused {A = A} fault) P → Blames (refused {A = B} fault) Q
blames_on A B P Q (BadLine n) on h = on (BadLine n) h
blames_on A B P Q (TooLarge n) on h = on (TooLarge n) h
blames_on A B P Q Memory on h = tt

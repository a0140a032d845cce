-- Reading a report line by line: the lines of its history, or the first line with a fault.
use Rattle.std.specs.Prelude.{◌≡◌, ℕ, zero, suc, ◌+◌, Bool, true, false, List, [], ◌∷◌, Option, Some, None}
use Rattle.std.specs.Prelude.{Result, Ok, Err, nat_le, bytes_eq, codes, if◌then◌else◌}
use Rattle.far_base.specs.declared.plan.TheConstants.{OP_LIMIT}
use Rattle.far_text.specs.Pieces.{Pieces, pieces}
use Rattle.log_audit.specs.Words.{hist_of, line_as, number_behind, title_of}
use Rattle.log_audit.specs.declared.fault.AuditFault.{AuditFault}
use Rattle.log_audit.specs.declared.fault.AuditFault.TheVariants.{BadLine, TooLarge, Memory}
use Rattle.log_audit.specs.declared.line.HistLine.{HistLine}

-- the next step where the one before found no fault
infixl 10 ◌andthen◌
abbrev pub ◌andthen◌ : {A B : Type 0} → Result A AuditFault → (A → Result B AuditFault) → Result B AuditFault
(Ok x) andthen f = f x
(Err fault) andthen f = Err fault

-- line n has none of the forms, has no end or is missing where nothing was found
abbrev pub or_bad : {A : Type 0} → ℕ → Option A → Result A AuditFault
or_bad n (Some x) = Ok x
or_bad n None = Err (BadLine n)

-- ---- the first three lines

-- the history has not too many lines
abbrev pub few : ℕ × List ℕ → Result (ℕ × List ℕ) AuditFault
few c = if nat_le c.0 OP_LIMIT then Ok c else Err (TooLarge 3)

-- how many lines the history has, and the text behind the first three lines
abbrev pub head_of : List ℕ → Result (ℕ × List ℕ) AuditFault
head_of text = or_bad 1 (line_as title_of text) andthen λ a.
    or_bad 2 (line_as (number_behind (codes "steps")) a.1) andthen λ b.
    or_bad 3 (line_as (number_behind (codes "history")) b.1) andthen few

-- ---- the history

abbrev pub with_first : HistLine → List HistLine × List ℕ → Result (List HistLine × List ℕ) AuditFault
with_first l r = Ok (l ∷ r.0, r.1)

-- so many lines of a history, from line n on, and the text behind them
abbrev pub history_of : ℕ → ℕ → List ℕ → Result (List HistLine × List ℕ) AuditFault
history_of zero n text = Ok ([], text)
history_of (suc more) n text = or_bad n (line_as hist_of text) andthen λ a.
    history_of more (n + 1) a.1 andthen with_first a.0

-- ---- what stands behind it

-- the text ends behind line n with these bytes: where some are left, the next line has no end; where none are left,
-- line n is the last one, if there is one behind the history, and has to be `end`
abbrev pub open_fault : ℕ → Option Bool → List ℕ → Option ℕ
open_fault n last (b ∷ bs) = Some (n + 1)
open_fault n None [] = Some (n + 1)
open_fault n (Some false) [] = Some n
open_fault n (Some true) [] = None

-- the line with a fault, where the text goes on behind line n with these pieces between line ends; of line n it is told
-- whether it is `end`, if it stands behind the history
abbrev pub end_fault : ℕ → Option Bool → Pieces → Option ℕ
end_fault n last [] = Some (n + 1)
end_fault n last (piece ∷ []) = open_fault n last piece
end_fault n last (line ∷ next ∷ more) = end_fault (n + 1) (Some (bytes_eq line (codes "end"))) (next ∷ more)

-- ---- the whole text

abbrev pub unless_bad : List HistLine → Option ℕ → Result (List HistLine) AuditFault
unless_bad lines None = Ok lines
unless_bad lines (Some n) = Err (BadLine n)

-- the lines of the history of the report that a text is, or the first line with a fault
abbrev pub report_of : List ℕ → Result (List HistLine) AuditFault
report_of text = head_of text andthen λ h.
    history_of h.0 4 h.1 andthen λ r.
    unless_bad r.0 (end_fault (h.0 + 3) None (pieces 10 r.1))

-- this is the fault of the first line with a fault
abbrev pub HasReportFault : List ℕ → AuditFault → Type 0
HasReportFault text fault = report_of text ≡ Err fault

-- ---- what a reader answers

-- a fault that is named is there; want of memory says nothing
abbrev pub Blames : {A : Type 0} → Result A AuditFault → (AuditFault → Type 0) → Type 0
Blames (Ok x) P = Unit {0}
Blames (Err (BadLine line)) P = P (BadLine line)
Blames (Err (TooLarge line)) P = P (TooLarge line)
Blames (Err Memory) P = Unit {0}

-- this fault was found, or memory was refused
abbrev pub IsFoundAs : {A : Type 0} → Result A AuditFault → AuditFault → Type 0
IsFoundAs (Ok x) fault = ⊥
IsFoundAs (Err (BadLine line)) fault = BadLine line ≡ fault
IsFoundAs (Err (TooLarge line)) fault = TooLarge line ≡ fault
IsFoundAs (Err Memory) fault = Unit {0}

-- The fault of a report that names a limit names a line of the text.
use Rattle.std.proofs.Common.{arith, ◌≡◌, ℕ, zero, suc, ◌+◌, ◌<◌, Bool, true, false, if◌then◌else◌, nat_le, codes, List, Option, Some, None, Result, Ok, Err, subst}
use Rattle.far_base.specs.declared.plan.TheConstants.{OP_LIMIT}
use Rattle.far_text.specs.Pieces.{pieces}
use Rattle.log_audit.specs.Reading.{HasReportFault, ◌andthen◌, end_fault, few, head_of, history_of, or_bad, report_of, unless_bad, with_first}
use Rattle.log_audit.specs.Words.{hist_of, line_as, number_behind, title_of}
use Rattle.log_audit.specs.declared.fault.AuditFault.{AuditFault}
use Rattle.log_audit.specs.declared.fault.AuditFault.TheVariants.{BadLine as BadReportFault, TooLarge as TooLargeReport, Memory as NoMemory}
use Rattle.log_audit.specs.declared.line.HistLine.{HistLine}

-- a limit is passed in a line that is counted from 1
abbrev NamesLine : AuditFault → Type 0
NamesLine (TooLargeReport line) = 0 < line
NamesLine (BadReportFault line) = Unit {0}
NamesLine NoMemory = Unit {0}

abbrev Places : {A : Type 0} → Result A AuditFault → Type 0
Places (Ok x) = Unit {0}
Places (Err fault) = NamesLine fault

then_places : {A B : Type 0} (r : Result A AuditFault) (f : A → Result B AuditFault) → Places r → ((x : A) → Places (f x)) → Places (r andthen f)
then_places (Ok x) f h k = k x
then_places (Err fault) f h k = h

or_places : {A : Type 0} (n : ℕ) (found : Option A) → Places (or_bad n found)
or_places n None = tt
or_places n (Some x) = tt

few_places : (c : ℕ × List ℕ) → Places (few c)
few_places c = go (nat_le c.0 OP_LIMIT)
  where
    go : (b : Bool) → Places {A = ℕ × List ℕ} (if b then Ok c else Err (TooLargeReport 3))
    go true = tt
    go false = omega arith

head_places : (text : List ℕ) → Places (head_of text)
head_places text =
    then_places (or_bad 1 (line_as title_of text)) _ (or_places 1 _) (λ a.
    then_places (or_bad 2 (line_as (number_behind (codes "steps")) a.1)) _ (or_places 2 _) (λ b.
    then_places (or_bad 3 (line_as (number_behind (codes "history")) b.1)) few (or_places 3 _) few_places))

history_places : (more n : ℕ) (text : List ℕ) → Places (history_of more n text)
history_places zero n text = tt
history_places (suc more) n text =
    then_places (or_bad n (line_as hist_of text)) _ (or_places n _) (λ a.
    then_places (history_of more (n + 1) a.1) (with_first a.0) (history_places more (n + 1) a.1) (λ r. tt))

unless_places : (lines : List HistLine) (bad : Option ℕ) → Places (unless_bad lines bad)
unless_places lines None = tt
unless_places lines (Some n) = tt

report_places : (text : List ℕ) → Places (report_of text)
report_places text =
    then_places (head_of text) _ (head_places text) (λ h.
    then_places (history_of h.0 4 h.1) _ (history_places h.0 4 h.1) (λ r. unless_places r.0 (end_fault (h.0 + 3) None (pieces 10 r.1))))

pub report_placed : (text : List ℕ) (line : ℕ) → HasReportFault text (TooLargeReport line) → 0 < line
report_placed text line fails = subst Places fails (report_places text)

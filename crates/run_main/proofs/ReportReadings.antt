-- What reading and judging says of the input, where this is to be a report.
use Rattle.std.proofs.Common.{◌≡◌, ◌⊎◌, inl, inr, ℕ, ◌+◌, ◌<◌, ◌≤◌, List, length, Option, Result, Ok, Err, refl, sym, ap, ◌∙◌, subst, arith}
use Rattle.std.specs.Prelude.{IfErr, IfSome, OnOk}
use Rattle.far_outside.specs.Reading.{HasReadAll}
use Rattle.log_audit.specs.Form.{IsReportOf}
use Rattle.log_audit.specs.Good.{IsFirstBad, IsGood}
use Rattle.log_audit.specs.Reading.{HasReportFault, IsFoundAs}
use Rattle.log_audit.specs.declared.fault.AuditFault.{AuditFault}
use Rattle.log_audit.specs.declared.fault.AuditFault.TheVariants.{BadLine as BadReportFault, TooLarge as TooLargeReport, Memory as NoMemory}
use Rattle.log_audit.specs.declared.line.HistLine.{HistLine}
use Rattle.log_audit.proofs.Judged.{judged_once, one_first_bad}
use Rattle.workload.specs.declared.fault.Limit.{Limit}
use Rattle.workload.specs.declared.fault.Limit.TheVariants.{Ops}
use Rattle.run_main.proofs.Readings.{told}
use Rattle.run_main.specs.Inputs.{IsApproved, IsRefusedReport, IsTooLong, IsWrongAt, IsPlacedOps}
use Rattle.run_main.specs.Saying.{IsApprovedOnly, IsJudgingFault, IsRefusalOf, IsReportFault, SettlesReport}
use Rattle.run_main.specs.Status.{audit_status_of}
use Rattle.run_main.specs.declared.status.Status.{Status}
use Rattle.run_main.specs.declared.status.Status.TheVariants.{Done, Usage, BadLine, ReadFault, WriteFault, KeeperFault, Memory, TooLarge, BadImage, Conflict, Wrong}
use Rattle.run_main.specs.declared.top.TheConstants.{INPUT_LIMIT}
use Rattle.run_main.proofs.PlacingReports.{report_placed}

not_long : (input : List ℕ) (limit : Limit) (line : ℕ) → length input ≤ INPUT_LIMIT → IsTooLong input limit line → ⊥
not_long input limit line short h = let long : INPUT_LIMIT < length input = h.0 in omega arith

-- ---- a text that is no report

found_status : (fault wanted : AuditFault) → IsFoundAs {A = List HistLine} (Err fault) wanted → (audit_status_of fault ≡ audit_status_of wanted) ⊎ (audit_status_of fault ≡ Memory)
found_status (BadReportFault line) wanted h = inl (ap audit_status_of h)
found_status (TooLargeReport line) wanted h = inl (ap audit_status_of h)
found_status NoMemory wanted h = inr refl

pub faulty_settles : {T : Type 0} (input : List ℕ) (fault : AuditFault) → length input ≤ INPUT_LIMIT → ((lines : List HistLine) → IsReportOf input lines → Unit {0} × (fault ≡ NoMemory))
    → ((wanted : AuditFault) → HasReportFault input wanted → IsFoundAs {A = List HistLine} (Err fault) wanted) → SettlesReport {T = T} input (Err (audit_status_of fault))
faulty_settles {T} input fault short only first = record { approved = λ a. none a.good.lines a.good.is; refused = refused }
  where
    none : (lines : List HistLine) → IsReportOf input lines → audit_status_of fault ≡ Memory
    none lines is = ap audit_status_of (only lines is).1

    refused : (refusal : Status) → IsRefusedReport input refusal → IsRefusalOf {T = T} refusal (Err (audit_status_of fault))
    refused (BadLine line) h = found_status fault (BadReportFault line) (first (BadReportFault line) h.1)
    refused (TooLarge limit line) (inl h) = absurd (not_long input limit line short h)
    refused (TooLarge limit line) (inr h) = on (found_status fault (TooLargeReport line) (first (TooLargeReport line) h.2))
      where
        on : (audit_status_of fault ≡ TooLarge Ops line) ⊎ (audit_status_of fault ≡ Memory) → (audit_status_of fault ≡ TooLarge limit line) ⊎ (audit_status_of fault ≡ Memory)
        on (inl e) = inl (e ∙ ap (λ (l : Limit). TooLarge l line) (sym h.1))
        on (inr e) = inr e
    refused (Wrong line) h = inr (none h.lines h.reads)
    refused Done h = absurd h
    refused Usage h = absurd h
    refused ReadFault h = absurd h
    refused WriteFault h = absurd h
    refused KeeperFault h = absurd h
    refused (BadImage line) h = absurd h
    refused (Conflict line) h = absurd h
    refused Memory h = absurd h

-- ---- a report

module _ (input : List ℕ) (lines : List HistLine) (short : length input ≤ INPUT_LIMIT)
    (only : (other : List HistLine) → IsReportOf input other → (lines ≡ other) × Unit {0}) (first : (wanted : AuditFault) → HasReportFault input wanted → ⊥) where
  -- what is refused is a report whose lines are not good
  unrefused : (P : Status → Type 0) → ((line : ℕ) → IsWrongAt input line → P (Wrong line)) → (refusal : Status) → IsRefusedReport input refusal → P refusal
  unrefused P wrong (BadLine line) h = absurd (first (BadReportFault line) h.1)
  unrefused P wrong (TooLarge limit line) (inl h) = absurd (not_long input limit line short h)
  unrefused P wrong (TooLarge limit line) (inr h) = absurd (first (TooLargeReport line) h.2)
  unrefused P wrong (Wrong line) h = wrong line h
  unrefused P wrong Done h = absurd h
  unrefused P wrong Usage h = absurd h
  unrefused P wrong ReadFault h = absurd h
  unrefused P wrong WriteFault h = absurd h
  unrefused P wrong KeeperFault h = absurd h
  unrefused P wrong (BadImage line) h = absurd h
  unrefused P wrong (Conflict line) h = absurd h
  unrefused P wrong Memory h = absurd h

  bad_here : (line : ℕ) (h : IsWrongAt input line) → IsFirstBad lines h.count
  bad_here line h = subst (λ (l : List HistLine). IsFirstBad l h.count) (sym (only h.lines h.reads).0) h.bad

  pub good_settles : {T : Type 0} (x : T) → IsGood lines → SettlesReport {T = T} input (Ok x)
  good_settles x good = record {
    approved = λ a. tt;
    refused = unrefused (λ refusal. ⊥) (λ line h. judged_once lines h.count good (bad_here line h));
  }

  pub bad_settles : {T : Type 0} (count : ℕ) → IsFirstBad lines count → SettlesReport {T = T} input (Err (Wrong (count + 3)))
  bad_settles {T} count bad = record {
    approved = λ a. absurd (judged_once lines count (subst IsGood (sym (only a.good.lines a.good.is).0) a.good.good) bad);
    refused = unrefused (λ refusal. IsRefusalOf {T = T} refusal (Err (Wrong (count + 3)))) (λ other h.
        let low : count ≤ h.count = one_first_bad lines count h.count bad (bad_here other h) in
        let high : h.count ≤ count = one_first_bad lines h.count count (bad_here other h) bad in
        let there : other ≡ h.count + 3 = h.is in
        let same : count + 3 ≡ other = omega (arith, low, high, there) in
        inl (ap (λ (n : ℕ). Wrong n) same));
  }

-- ---- the text that was read is the input, where the source tells it

placed : (text : List ℕ) (limit : Limit) (line : ℕ) → IsRefusedReport text (TooLarge limit line) → IsPlacedOps limit line
placed text limit line (inl h) = inl h.1
placed text limit line (inr h) = inr (h.1, report_placed text line h.2)

cause_read : (left now : Option (List ℕ)) (text : List ℕ) (rose : Type 0) (status : Status) → HasReadAll left now text → IsJudgingFault text status → IsReportFault left rose status
cause_read left now text rose (BadLine line) read h = told (λ input. IsRefusedReport input (BadLine line)) left now text read h
cause_read left now text rose (TooLarge limit line) read h = (placed text limit line h, told (λ input. IsRefusedReport input (TooLarge limit line)) left now text read h)
cause_read left now text rose (Wrong line) read h = told (λ input. IsRefusedReport input (Wrong line)) left now text read h
cause_read left now text rose Memory read h = tt
cause_read left now text rose Done read h = absurd h
cause_read left now text rose Usage read h = absurd h
cause_read left now text rose ReadFault read h = absurd h
cause_read left now text rose WriteFault read h = absurd h
cause_read left now text rose KeeperFault read h = absurd h
cause_read left now text rose (BadImage line) read h = absurd h
cause_read left now text rose (Conflict line) read h = absurd h

pub err_told : {T : Type 0} (left now : Option (List ℕ)) (text : List ℕ) (rose : Type 0) (result : Result T Status) → HasReadAll left now text → IfErr result (IsJudgingFault text) → IfErr result (IsReportFault left rose)
err_told left now text rose (Ok x) read h = tt
err_told left now text rose (Err status) read h = cause_read left now text rose status read h

pub ok_told : {T : Type 0} (left now : Option (List ℕ)) (text : List ℕ) (result : Result T Status) → HasReadAll left now text → SettlesReport text result → OnOk result (IsApproved text) → OnOk result (IfSome left IsApprovedOnly)
ok_told left now text (Ok x) read s is = told IsApprovedOnly left now text read (record { is = is; unrefused = s.refused })
ok_told left now text (Err status) read s is = tt

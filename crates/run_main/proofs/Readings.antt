-- What reading says of the input.
use Rattle.std.proofs.Common.{◌≡◌, ◌⊎◌, inl, inr, ℕ, ◌<◌, ◌≤◌, List, length, Option, Some, None, Result, Ok, Err, refl, ap, subst, arith}
use Rattle.std.specs.Prelude.{IfErr, IfOk, IfSome}
use Rattle.far_outside.specs.Reading.{HasReadAll}
use Rattle.workload.specs.Faults.{HasFault, IsFoundAs}
use Rattle.workload.specs.Meaning.{IsReading, IsReadAs as IsParsedAs}
use Rattle.workload.specs.WorkView.{WorkView}
use Rattle.workload.specs.declared.fault.WorkFault.{WorkFault}
use Rattle.workload.specs.declared.fault.WorkFault.TheVariants.{BadLine as BadLineFault, TooLarge as TooLargeFault, Memory as NoMemory}
use Rattle.run_main.specs.Inputs.{IsRefusedAs, IsWorkload, IsPlaced}
use Rattle.run_main.specs.Saying.{IsParsingFault, IsRead, IsReadingFault, IsRefusalOf, SettlesReading}
use Rattle.run_main.specs.Status.{status_of}
use Rattle.run_main.specs.declared.status.Status.{Status}
use Rattle.run_main.specs.declared.status.Status.TheVariants.{Done, Usage, BadLine, ReadFault, WriteFault, KeeperFault, Memory, TooLarge, BadImage, Conflict, Wrong}
use Rattle.run_main.specs.declared.top.TheConstants.{INPUT_LIMIT}
use Rattle.run_main.proofs.Placing.{work_placed}
use Rattle.workload.specs.declared.fault.Limit.{Limit}

-- what parsing answered is what a text of that length is
pub settles_ok : (input : List ℕ) (w : WorkView) → length input ≤ INPUT_LIMIT → ((fault : WorkFault) → HasFault input fault → IsFoundAs {A = WorkView} (Ok w) fault) → SettlesReading input (Ok w)
settles_ok input w short first = record {
  workload = λ work is. tt;
  refused = refused;
}
  where
    refused : (refusal : Status) → IsRefusedAs input refusal → IsRefusalOf {T = WorkView} refusal (Ok w)
    refused (BadLine line) h = first (BadLineFault line) h.1
    refused (TooLarge limit line) (inl h) = absurd (let long : INPUT_LIMIT < length input = h.0 in omega arith)
    refused (TooLarge limit line) (inr h) = first (TooLargeFault limit line) h.1
    refused Done h = absurd h
    refused Usage h = absurd h
    refused ReadFault h = absurd h
    refused WriteFault h = absurd h
    refused KeeperFault h = absurd h
    refused (BadImage line) h = absurd h
    refused (Conflict line) h = absurd h
    refused (Wrong line) h = absurd h
    refused Memory h = absurd h

found_status : (fault wanted : WorkFault) → IsFoundAs {A = WorkView} (Err fault) wanted → (status_of fault ≡ status_of wanted) ⊎ (status_of fault ≡ Memory)
found_status (BadLineFault line) wanted h = inl (ap status_of h)
found_status (TooLargeFault limit line) wanted h = inl (ap status_of h)
found_status NoMemory wanted h = inr refl

parsed_none : (fault : WorkFault) (w : WorkView) → IsParsedAs (Err fault) w → status_of fault ≡ Memory
parsed_none (BadLineFault line) w h = absurd h
parsed_none (TooLargeFault limit line) w h = absurd h
parsed_none NoMemory w h = refl

pub settles_err : (input : List ℕ) (fault : WorkFault) → length input ≤ INPUT_LIMIT → ((w : WorkView) → IsReading input w → IsParsedAs (Err fault) w) → ((wanted : WorkFault) → HasFault input wanted → IsFoundAs {A = WorkView} (Err fault) wanted)
    → SettlesReading input (Err (status_of fault))
settles_err input fault short only first = record {
  workload = λ work is. parsed_none fault work (only work is.reads);
  refused = refused;
}
  where
    refused : (refusal : Status) → IsRefusedAs input refusal → IsRefusalOf {T = WorkView} refusal (Err (status_of fault))
    refused (BadLine line) h = found_status fault (BadLineFault line) (first (BadLineFault line) h.1)
    refused (TooLarge limit line) (inl h) = absurd (let long : INPUT_LIMIT < length input = h.0 in omega arith)
    refused (TooLarge limit line) (inr h) = found_status fault (TooLargeFault limit line) (first (TooLargeFault limit line) h.1)
    refused Done h = absurd h
    refused Usage h = absurd h
    refused ReadFault h = absurd h
    refused WriteFault h = absurd h
    refused KeeperFault h = absurd h
    refused (BadImage line) h = absurd h
    refused (Conflict line) h = absurd h
    refused (Wrong line) h = absurd h
    refused Memory h = absurd h

-- ---- the text that was read is the input, where the source tells it

pub told : (P : List ℕ → Type 0) (left now : Option (List ℕ)) (text : List ℕ) → HasReadAll left now text → P text → IfSome left P
told P None now text read h = tt
told P (Some input) None text read h = absurd read
told P (Some input) (Some rest) text read h = subst P read.0 h

placed : (text : List ℕ) (limit : Limit) (line : ℕ) → IsRefusedAs text (TooLarge limit line) → IsPlaced limit line
placed text limit line (inl h) = inl h.1
placed text limit line (inr h) = inr (work_placed text limit line h.1)

cause_read : (left now : Option (List ℕ)) (text : List ℕ) (rose : Type 0) (status : Status) → HasReadAll left now text → IsParsingFault text status → IsReadingFault left rose status
cause_read left now text rose (BadLine line) read h = told (λ input. IsRefusedAs input (BadLine line)) left now text read h
cause_read left now text rose (TooLarge limit line) read h = (placed text limit line h, told (λ input. IsRefusedAs input (TooLarge limit line)) left now text read h)
cause_read left now text rose Memory read h = tt
cause_read left now text rose Done read h = absurd h
cause_read left now text rose Usage read h = absurd h
cause_read left now text rose ReadFault read h = absurd h
cause_read left now text rose WriteFault read h = absurd h
cause_read left now text rose KeeperFault read h = absurd h
cause_read left now text rose (BadImage line) read h = absurd h
cause_read left now text rose (Conflict line) read h = absurd h
cause_read left now text rose (Wrong line) read h = absurd h

pub err_told : (left now : Option (List ℕ)) (text : List ℕ) (rose : Type 0) (result : Result WorkView Status) → HasReadAll left now text → IfErr result (IsParsingFault text) → IfErr result (IsReadingFault left rose)
err_told left now text rose (Ok work) read h = tt
err_told left now text rose (Err status) read h = cause_read left now text rose status read h

pub ok_told : (left now : Option (List ℕ)) (text : List ℕ) (result : Result WorkView Status) → HasReadAll left now text → SettlesReading text result → IfOk result (λ work. IsWorkload text work) → IfOk result (λ work. IfSome left (λ input. IsRead input work))
ok_told left now text (Ok work) read s is = told (λ input. IsRead input work) left now text read (record { is = is; settles = s })
ok_told left now text (Err status) read s is = tt

-- What reading says of the input, where this is to be the events of a link.
use Rattle.std.proofs.Common.{◌≡◌, ◌⊎◌, inl, inr, ℕ, ◌<◌, ◌≤◌, List, length, Option, Some, None, Result, Ok, Err, refl, sym, ap, ◌∙◌, subst, arith}
use Rattle.std.specs.Prelude.{IfErr, IfSome}
use Rattle.far_outside.specs.Reading.{HasReadAll}
use Rattle.link_text.specs.Faults.{HasScriptFault}
use Rattle.link_text.specs.Script.{IsReadAs as IsParsedAs, IsScript}
use Rattle.retry_link.specs.declared.link.LinkEvent.{LinkEvent}
use Rattle.workload.specs.Faults.{IsFoundAs}
use Rattle.workload.specs.declared.fault.Limit.{Limit}
use Rattle.workload.specs.declared.fault.WorkFault.{WorkFault}
use Rattle.workload.specs.declared.fault.WorkFault.TheVariants.{BadLine as BadLineFault, TooLarge as TooLargeFault, Memory as NoMemory}
use Rattle.run_main.proofs.Readings.{told}
use Rattle.run_main.specs.Inputs.{IsLinkScript, IsRefusedScript, IsPlacedOps}
use Rattle.run_main.specs.Saying.{IsReadAs, IsReadScript, IsRefusalOf, IsScriptParsingFault, IsScriptReadingFault, SettlesScript}
use Rattle.run_main.specs.Status.{status_of}
use Rattle.run_main.specs.declared.status.Status.{Status}
use Rattle.run_main.specs.declared.status.Status.TheVariants.{Done, Usage, BadLine, ReadFault, WriteFault, KeeperFault, Memory, TooLarge, BadImage, Conflict, Wrong}
use Rattle.run_main.specs.declared.top.TheConstants.{INPUT_LIMIT}
use Rattle.run_main.proofs.Placing.{script_placed}

-- what parsing answered is what a text of that length is
pub settles_ok : (input : List ℕ) (events : List LinkEvent) → length input ≤ INPUT_LIMIT → ((fault : WorkFault) → HasScriptFault input fault → IsFoundAs {A = List LinkEvent} (Ok events) fault) → SettlesScript input (Ok events)
settles_ok input events short first = record {
  script = λ events is. tt;
  refused = refused;
}
  where
    refused : (refusal : Status) → IsRefusedScript input refusal → IsRefusalOf {T = List LinkEvent} refusal (Ok events)
    refused (BadLine line) h = first (BadLineFault line) h.1
    refused (TooLarge limit line) (inl h) = absurd (let long : INPUT_LIMIT < length input = h.0 in omega arith)
    refused (TooLarge limit line) (inr h) = first (TooLargeFault limit line) h.1
    refused Done h = absurd h
    refused Usage h = absurd h
    refused ReadFault h = absurd h
    refused WriteFault h = absurd h
    refused KeeperFault h = absurd h
    refused (BadImage line) h = absurd h
    refused (Conflict line) h = absurd h
    refused (Wrong line) h = absurd h
    refused Memory h = absurd h

found_status : (fault wanted : WorkFault) → IsFoundAs {A = List LinkEvent} (Err fault) wanted → (status_of fault ≡ status_of wanted) ⊎ (status_of fault ≡ Memory)
found_status (BadLineFault line) wanted h = inl (ap status_of h)
found_status (TooLargeFault limit line) wanted h = inl (ap status_of h)
found_status NoMemory wanted h = inr refl

parsed_none : (fault : WorkFault) (events : List LinkEvent) → IsParsedAs (Err fault) events → status_of fault ≡ Memory
parsed_none (BadLineFault line) events h = absurd h
parsed_none (TooLargeFault limit line) events h = absurd h
parsed_none NoMemory events h = refl

pub settles_err : (input : List ℕ) (fault : WorkFault) → length input ≤ INPUT_LIMIT → ((events : List LinkEvent) → IsScript input events → IsParsedAs (Err fault) events) → ((wanted : WorkFault) → HasScriptFault input wanted → IsFoundAs {A = List LinkEvent} (Err fault) wanted)
    → SettlesScript input (Err (status_of fault))
settles_err input fault short only first = record {
  script = λ events is. parsed_none fault events (only events is.reads);
  refused = refused;
}
  where
    refused : (refusal : Status) → IsRefusedScript input refusal → IsRefusalOf {T = List LinkEvent} refusal (Err (status_of fault))
    refused (BadLine line) h = found_status fault (BadLineFault line) (first (BadLineFault line) h.1)
    refused (TooLarge limit line) (inl h) = absurd (let long : INPUT_LIMIT < length input = h.0 in omega arith)
    refused (TooLarge limit line) (inr h) = found_status fault (TooLargeFault limit line) (first (TooLargeFault limit line) h.1)
    refused Done h = absurd h
    refused Usage h = absurd h
    refused ReadFault h = absurd h
    refused WriteFault h = absurd h
    refused KeeperFault h = absurd h
    refused (BadImage line) h = absurd h
    refused (Conflict line) h = absurd h
    refused (Wrong line) h = absurd h
    refused Memory h = absurd h

-- ---- the text that was read is the input, where the source tells it

placed : (text : List ℕ) (limit : Limit) (line : ℕ) → IsRefusedScript text (TooLarge limit line) → IsPlacedOps limit line
placed text limit line (inl h) = inl h.1
placed text limit line (inr h) = inr (script_placed text limit line h.1)

cause_read : (left now : Option (List ℕ)) (text : List ℕ) (rose : Type 0) (status : Status) → HasReadAll left now text → IsScriptParsingFault text status → IsScriptReadingFault left rose status
cause_read left now text rose (BadLine line) read h = told (λ input. IsRefusedScript input (BadLine line)) left now text read h
cause_read left now text rose (TooLarge limit line) read h = (placed text limit line h, told (λ input. IsRefusedScript input (TooLarge limit line)) left now text read h)
cause_read left now text rose Memory read h = tt
cause_read left now text rose Done read h = absurd h
cause_read left now text rose Usage read h = absurd h
cause_read left now text rose ReadFault read h = absurd h
cause_read left now text rose WriteFault read h = absurd h
cause_read left now text rose KeeperFault read h = absurd h
cause_read left now text rose (BadImage line) read h = absurd h
cause_read left now text rose (Conflict line) read h = absurd h
cause_read left now text rose (Wrong line) read h = absurd h

pub err_told : (left now : Option (List ℕ)) (text : List ℕ) (rose : Type 0) (result : Result (List LinkEvent) Status) → HasReadAll left now text → IfErr result (IsScriptParsingFault text) → IfErr result (IsScriptReadingFault left rose)
err_told left now text rose (Ok events) read h = tt
err_told left now text rose (Err status) read h = cause_read left now text rose status read h

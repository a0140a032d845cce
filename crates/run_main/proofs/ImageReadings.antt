-- What reading says of the input, where this is to be an image.
use Rattle.std.proofs.Common.{◌≡◌, ◌⊎◌, inl, inr, ℕ, ◌<◌, ◌≤◌, List, length, Option, Result, Ok, Err, refl, ap, arith}
use Rattle.std.specs.Prelude.{IfErr}
use Rattle.far_base.specs.declared.kept.KeptItem.{KeptItem}
use Rattle.far_outside.specs.Reading.{HasReadAll}
use Rattle.kept_image.specs.Faults.{HasImageFault, IsFoundAs}
use Rattle.kept_image.specs.Meaning.{IsImage, IsReadAs as IsParsedAs}
use Rattle.kept_image.specs.declared.fault.ImageFault.{ImageFault}
use Rattle.kept_image.specs.declared.fault.ImageFault.TheVariants.{BadLine as BadImageFault, Conflict as ConflictFault, Memory as NoMemory}
use Rattle.run_main.proofs.Readings.{told}
use Rattle.run_main.specs.Inputs.{IsRefusedImage}
use Rattle.run_main.specs.Saying.{IsImageParsingFault, IsImageReadingFault, IsRefusalOf, SettlesImage}
use Rattle.run_main.specs.Status.{image_status_of}
use Rattle.run_main.specs.declared.status.Status.{Status}
use Rattle.run_main.specs.declared.status.Status.TheVariants.{Done, Usage, BadLine, ReadFault, WriteFault, KeeperFault, Memory, TooLarge, BadImage, Conflict, Wrong}
use Rattle.run_main.specs.declared.top.TheConstants.{INPUT_LIMIT}

-- what parsing answered is what a text of that length is
pub settles_ok : (input : List ℕ) (items : List KeptItem) → length input ≤ INPUT_LIMIT → ((fault : ImageFault) → HasImageFault input fault → IsFoundAs {A = List KeptItem} (Ok items) fault) → SettlesImage input (Ok items)
settles_ok input items short first = record {
  image = λ other is. tt;
  refused = refused;
}
  where
    refused : (refusal : Status) → IsRefusedImage input refusal → IsRefusalOf {T = List KeptItem} refusal (Ok items)
    refused (BadImage line) h = first (BadImageFault line) h.1
    refused (Conflict line) h = first (ConflictFault line) h.1
    refused (TooLarge limit line) h = absurd (let long : INPUT_LIMIT < length input = h.0 in omega arith)
    refused Done h = absurd h
    refused Usage h = absurd h
    refused ReadFault h = absurd h
    refused WriteFault h = absurd h
    refused KeeperFault h = absurd h
    refused (BadLine line) h = absurd h
    refused (Wrong line) h = absurd h
    refused Memory h = absurd h

found_status : (fault wanted : ImageFault) → IsFoundAs {A = List KeptItem} (Err fault) wanted → (image_status_of fault ≡ image_status_of wanted) ⊎ (image_status_of fault ≡ Memory)
found_status (BadImageFault line) wanted h = inl (ap image_status_of h)
found_status (ConflictFault line) wanted h = inl (ap image_status_of h)
found_status NoMemory wanted h = inr refl

parsed_none : (fault : ImageFault) (items : List KeptItem) → IsParsedAs (Err fault) items → image_status_of fault ≡ Memory
parsed_none (BadImageFault line) items h = absurd h
parsed_none (ConflictFault line) items h = absurd h
parsed_none NoMemory items h = refl

pub settles_err : (input : List ℕ) (fault : ImageFault) → length input ≤ INPUT_LIMIT → ((items : List KeptItem) → IsImage input items → IsParsedAs (Err fault) items) → ((wanted : ImageFault) → HasImageFault input wanted → IsFoundAs {A = List KeptItem} (Err fault) wanted)
    → SettlesImage input (Err (image_status_of fault))
settles_err input fault short only first = record {
  image = λ items is. parsed_none fault items (only items is.reads);
  refused = refused;
}
  where
    refused : (refusal : Status) → IsRefusedImage input refusal → IsRefusalOf {T = List KeptItem} refusal (Err (image_status_of fault))
    refused (BadImage line) h = found_status fault (BadImageFault line) (first (BadImageFault line) h.1)
    refused (Conflict line) h = found_status fault (ConflictFault line) (first (ConflictFault line) h.1)
    refused (TooLarge limit line) h = absurd (let long : INPUT_LIMIT < length input = h.0 in omega arith)
    refused Done h = absurd h
    refused Usage h = absurd h
    refused ReadFault h = absurd h
    refused WriteFault h = absurd h
    refused KeeperFault h = absurd h
    refused (BadLine line) h = absurd h
    refused (Wrong line) h = absurd h
    refused Memory h = absurd h

-- ---- the text that was read is the input, where the source tells it

cause_read : (left now : Option (List ℕ)) (text : List ℕ) (rose : Type 0) (status : Status) → HasReadAll left now text → IsImageParsingFault text status → IsImageReadingFault left rose status
cause_read left now text rose (BadImage line) read h = told (λ input. IsRefusedImage input (BadImage line)) left now text read h
cause_read left now text rose (Conflict line) read h = told (λ input. IsRefusedImage input (Conflict line)) left now text read h
cause_read left now text rose Memory read h = tt
cause_read left now text rose Done read h = absurd h
cause_read left now text rose Usage read h = absurd h
cause_read left now text rose ReadFault read h = absurd h
cause_read left now text rose WriteFault read h = absurd h
cause_read left now text rose KeeperFault read h = absurd h
cause_read left now text rose (BadLine line) read h = absurd h
cause_read left now text rose (Wrong line) read h = absurd h
cause_read left now text rose (TooLarge limit line) read h = absurd h

pub err_told : (left now : Option (List ℕ)) (text : List ℕ) (rose : Type 0) (result : Result (List KeptItem) Status) → HasReadAll left now text → IfErr result (IsImageParsingFault text) → IfErr result (IsImageReadingFault left rose)
err_told left now text rose (Ok items) read h = tt
err_told left now text rose (Err status) read h = cause_read left now text rose status read h

-- A text is one workload, or has one first fault, and never both.
use Rattle.std.proofs.Common.{◌≡◌, ◌⊎◌, inl, inr, ℕ, List, refl, sym, ◌∙◌}
use Rattle.std.specs.Prelude.{Result, Ok, Err}
use Rattle.workload.specs.Faults.{HasFault}
use Rattle.workload.specs.Meaning.{IsReading}
use Rattle.workload.specs.Reading.{reading}
use Rattle.workload.specs.WorkView.{WorkView}
use Rattle.workload.specs.declared.fault.WorkFault.{WorkFault}
use Rattle.workload.proofs.ByLine.{same_ok, same_err}
use Rattle.workload.proofs.FaultLaws.{fault_takes, fault_again}
use Rattle.workload.proofs.ReadingLaws.{reading_takes, reading_again}

abbrev IsEither : List ℕ → Type 0
IsEither text = ((w : WorkView) × IsReading text w) ⊎ ((fault : WorkFault) × HasFault text fault)

by_reading : (text : List ℕ) (r : Result WorkView WorkFault) → reading text ≡ r → IsEither text
by_reading text (Ok w) e = inl (w, reading_takes text w e)
by_reading text (Err fault) e = inr (fault, fault_takes text fault e)

pub workload_or_fault : (text : List ℕ) → ((w : WorkView) × IsReading text w) ⊎ ((fault : WorkFault) × HasFault text fault)
workload_or_fault text = by_reading text (reading text) refl

pub one_workload : (text : List ℕ) (v w : WorkView) → IsReading text v → IsReading text w → v ≡ w
one_workload text v w h k = same_ok v w (sym (reading_again text v h) ∙ reading_again text w k)

pub one_fault : (text : List ℕ) (a b : WorkFault) → HasFault text a → HasFault text b → a ≡ b
one_fault text a b h k = same_err WorkView a b (sym (fault_again text a h) ∙ fault_again text b k)

pub never_both : (text : List ℕ) (w : WorkView) (fault : WorkFault) → IsReading text w → HasFault text fault → ⊥
never_both text w fault h k =
    let e = sym (reading_again text w h) ∙ fault_again text fault k in
    absurd cc

-- Which counts of faults stay as they were: where a refusal is told, and where a task has no text.
use Rattle.std.proofs.Common.{◌≡◌, ◌⊎◌, inl, inr, ℕ, List, Option, None, refl, sym, ◌∙◌, subst}
use Rattle.std.specs.Prelude.{IfSome}
use Rattle.run_main.specs.FaultCounts.{IsLong, StoppedReading, Unfailed}
use Rattle.run_main.specs.Lines.{refusal_line}
use Rattle.run_main.specs.Saying.{IsAnswer}
use Rattle.run_main.specs.declared.status.Status.{Status}
use Rattle.run_main.specs.declared.status.Status.TheVariants.{Done, Usage, BadLine, ReadFault, WriteFault, KeeperFault, Memory, TooLarge, BadImage, Conflict, Wrong}

abbrev IsFailedWrite : Status → Type 0
IsFailedWrite WriteFault = Unit {0}
IsFailedWrite _ = ⊥

-- what holds of a refusal unless reading stopped before the end holds of its answer too, also where its line was not
-- written
pub refused : (left : Option (List ℕ)) (same : Type 0) (status answer : Status) → (¬ (StoppedReading left status) → same) → IsAnswer status answer → (refusal_line status ≡ None → (answer ≡ status) ⊎ (answer ≡ Memory))
    → ¬ (StoppedReading left answer) → same
refused left same status answer read (inl e) silent whole = read (λ stopped. whole (subst (StoppedReading left) (sym e) stopped))
refused left same status answer read (inr (inr e)) silent whole = absurd (whole (subst (StoppedReading left) (sym e) tt))
refused left same status answer read (inr (inl failed)) silent whole = read (λ stopped. go status silent stopped)
  where
    short : IfSome left IsLong → ⊥
    short long = whole (subst (StoppedReading left) (sym failed) long)

    -- a refusal without a line is not answered by a failed write
    never : (s : Status) → IsFailedWrite s ≡ ⊥ → (answer ≡ s) ⊎ (answer ≡ Memory) → ⊥
    never s other (inl e) = subst (λ (T : Type 0). T) other (subst IsFailedWrite (sym failed ∙ e) tt)
    never s other (inr e) = subst IsFailedWrite (sym failed ∙ e) tt

    go : (s : Status) → (refusal_line s ≡ None → (answer ≡ s) ⊎ (answer ≡ Memory)) → StoppedReading left s → ⊥
    go ReadFault quiet stopped = never ReadFault refl (quiet refl)
    go Memory quiet stopped = never Memory refl (quiet refl)
    go (TooLarge limit line) quiet stopped = short stopped.1
    go WriteFault quiet stopped = short stopped
    go Done quiet stopped = stopped
    go Usage quiet stopped = stopped
    go (BadLine line) quiet stopped = stopped
    go KeeperFault quiet stopped = stopped
    go (BadImage line) quiet stopped = stopped
    go (Conflict line) quiet stopped = stopped
    go (Wrong line) quiet stopped = stopped

-- a fault of the keeper and want of memory are told as such
pub unfailed_fault : (left : Option (List ℕ)) (same_source same_sink same_keeper : Type 0) (status : Status) → same_source → same_sink → (status ≡ KeeperFault) ⊎ (status ≡ Memory) → Unfailed left same_source same_sink same_keeper status
unfailed_fault left same_source same_sink same_keeper status source sink kinds = record {
  source = λ whole. source;
  sink = λ written remembered. sink;
  keeper = λ kept remembered. go kinds kept remembered;
}
  where
    go : (status ≡ KeeperFault) ⊎ (status ≡ Memory) → ¬ (status ≡ KeeperFault) → ¬ (status ≡ Memory) → same_keeper
    go (inl e) kept remembered = absurd (kept e)
    go (inr e) kept remembered = absurd (remembered e)

-- Which counts of faults a top call leaves as they were: each whose fault the answer does not name.
use Rattle.std.specs.Prelude.{◌≢◌, ℕ, ◌<◌, List, length, Option, IfSome}
use Rattle.run_main.specs.Inputs.{IsOfAll}
use Rattle.run_main.specs.declared.status.Status.{Status}
use Rattle.run_main.specs.declared.status.Status.TheVariants.{ReadFault, WriteFault, KeeperFault, Memory, TooLarge}
use Rattle.run_main.specs.declared.top.TheConstants.{INPUT_LIMIT}

-- more bytes than are read
abbrev pub IsLong : List ℕ → Type 0
IsLong input = INPUT_LIMIT < length input

-- reading may have stopped before the end of what the source had left: a read failed, memory was refused, or the input
-- is too long, also where the line that tells so was not written
abbrev pub StoppedReading : Option (List ℕ) → Status → Type 0
StoppedReading left ReadFault = Unit {0}
StoppedReading left Memory = Unit {0}
StoppedReading left (TooLarge limit line) = IsOfAll limit line × IfSome left IsLong
StoppedReading left WriteFault = IfSome left IsLong
StoppedReading left _ = ⊥

-- the counts that are the same as before: that of the source, where reading did not stop before the end; that of the
-- sink, where no write failed; and that of the keeper, where no call of it failed. Where memory was refused, this may
-- have been in a call of theirs
pub record Unfailed (left : Option (List ℕ)) (same_source same_sink same_keeper : Type 0) (status : Status)
    : Type 0 where
  pub source : ¬ (StoppedReading left status) → same_source
  pub sink : status ≢ WriteFault → status ≢ Memory → same_sink
  pub keeper : status ≢ KeeperFault → status ≢ Memory → same_keeper

-- Why a line of a history does not go with the lines before it.
use Rattle.std.specs.Prelude.{◌≡◌, ◌≢◌, ℕ, ◌+◌, ◌<◌, ◌≤◌, true, List, [], ◌∷◌, ◌++◌, take, slice_get, Some}
use Rattle.far_base.specs.declared.record.Versioned.{Versioned}
use Rattle.far_model.specs.History.{nothing}
use Rattle.far_model.specs.Log.{is_read}
use Rattle.log_audit.specs.Good.{held_of}
use Rattle.log_audit.specs.Walk.{map_after}
use Rattle.log_audit.specs.declared.line.HistLine.{HistLine}
use Rattle.log_audit.specs.declared.reason.HistFault.{HistFault}
use Rattle.log_audit.specs.declared.reason.HistFault.TheVariants.{Span, Twice, Early, Unwritten}
use Rattle.log_audit.specs.declared.reason.Reason.{Reason}

-- the line at this place before, counted from 0, is of the same operation
pub record IsTwice (before : List HistLine) (l : HistLine) (place : ℕ) : Type 0 where
  pub earlier : HistLine
  pub stands : slice_get before place ≡ Some earlier
  pub same : earlier.op ≡ l.op

-- the line at this place before was sent later than this one was answered
pub record IsEarly (before : List HistLine) (l : HistLine) (place : ℕ) (earlier : HistLine) : Type 0 where
  pub stands : slice_get before place ≡ Some earlier
  pub later : l.answered < earlier.sent

-- a read has something else than what its key was set to last, which is this; never written it is number 0 and no body
pub record IsUnwritten (before : List HistLine) (l : HistLine) (last : Versioned) : Type 0 where
  pub read : is_read l.kind ≡ true
  pub set : last ≡ map_after (λ key. nothing) before l.key
  pub other : held_of l ≢ last

-- what is said of the line is true of it and of the lines before it
abbrev pub IsHistFault : List HistLine → HistLine → HistFault → Type 0
IsHistFault before l Span = l.answered ≤ l.sent
IsHistFault before l (Twice place) = IsTwice before l place
IsHistFault before l (Early place earlier) = IsEarly before l place earlier
IsHistFault before l (Unwritten last) = IsUnwritten before l last

-- the reason is told of the last of so many first lines, and is true of it; three lines stand before a history
pub record IsReason (lines : List HistLine) (count : ℕ) (reason : Reason) : Type 0 where
  pub before : List HistLine
  pub first : take count lines ≡ before ++ reason.line ∷ []
  pub number : reason.number ≡ count + 3
  pub fault : IsHistFault before reason.line reason.fault

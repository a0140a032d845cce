-- Which line of a text is the first with a fault.
use Rattle.std.specs.Prelude.{◌≡◌, ◌⊎◌, ℕ, ◌+◌, true, List, ◌∷◌, ◌++◌, length, Result, Ok, Err}
use Rattle.workload.specs.Forms.{form_of, step_by}
use Rattle.far_text.specs.Pieces.{pieces, lacks}
use Rattle.workload.specs.Meaning.{IsReading}
use Rattle.workload.specs.Reading.{head_of}
use Rattle.workload.specs.WorkView.{WorkView}
use Rattle.workload.specs.declared.fault.WorkFault.{WorkFault}
use Rattle.workload.specs.declared.fault.WorkFault.TheVariants.{BadLine, TooLarge, Memory}

-- line n is there and has no end
pub record IsOpen (n : ℕ) (rest : List ℕ) (fault : WorkFault) : Type 0 where
  pub first : ℕ
  pub others : List ℕ
  pub some : rest ≡ first ∷ others
  pub no_end : lacks 10 rest ≡ true
  pub named : fault ≡ BadLine n

-- line n is whole, and this is its fault behind the lines of this workload
pub record IsFaulty (n : ℕ) (before : WorkView) (rest : List ℕ) (fault : WorkFault) : Type 0 where
  pub line : List ℕ
  pub others : List ℕ
  pub whole : rest ≡ line ++ 10 ∷ others
  pub one : lacks 10 line ≡ true
  pub fails : step_by n before (form_of line) ≡ Err fault

-- behind whole lines that are a workload comes the first line with a fault
pub record IsFirstFault (text : List ℕ) (fault : WorkFault) : Type 0 where
  pub front : List ℕ
  pub rest : List ℕ
  pub before : WorkView
  pub number : ℕ
  pub whole : text ≡ front ++ rest
  pub read : IsReading front before
  pub behind : number ≡ length read.forms + 6
  pub at : IsOpen number rest fault ⊎ IsFaulty number before rest fault

-- the first line with a fault is one of the first five, or stands behind them
abbrev pub HasFault : List ℕ → WorkFault → Type 0
HasFault text fault = (head_of (pieces 10 text) ≡ Err fault) ⊎ IsFirstFault text fault

-- a fault that is named is there; want of memory says nothing
abbrev pub Blames : {A : Type 0} → Result A WorkFault → (WorkFault → Type 0) → Type 0
Blames (Ok x) P = Unit {0}
Blames (Err (BadLine line)) P = P (BadLine line)
Blames (Err (TooLarge which line)) P = P (TooLarge which line)
Blames (Err Memory) P = Unit {0}

-- this fault was found, or memory was refused
abbrev pub IsFoundAs : {A : Type 0} → Result A WorkFault → WorkFault → Type 0
IsFoundAs (Ok x) fault = ⊥
IsFoundAs (Err (BadLine line)) fault = BadLine line ≡ fault
IsFoundAs (Err (TooLarge which line)) fault = TooLarge which line ≡ fault
IsFoundAs (Err Memory) fault = Unit {0}

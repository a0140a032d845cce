-- What the call that passes a line of packets through a switch does: its answers and their causes, and what it writes.
use Rattle.std.specs.Prelude.{◌≡◌, ◌⊎◌, ℕ, ◌≤◌, List, [], ◌∷◌, ◌++◌, length, take, Option, None, Some, Result, Ok, Err}
use Rattle.std.specs.Prelude.{IfSome, codes}
use Rattle.far_model.specs.View.{opening_view}
use Rattle.line_text.specs.Output.{output_text}
use Rattle.line_text.specs.Reading.{LineView, reading}
use Rattle.switch_staged.specs.Line.{answers, final}
use Rattle.workload.specs.declared.fault.WorkFault.TheVariants.{BadLine as BadLineFault, TooLarge as TooLargeFault}
use Rattle.run_main.specs.Inputs.{IsPlaced, IsTooLong}
use Rattle.run_main.specs.Lines.{bad_line, too_large_line, usage_line}
use Rattle.run_main.specs.Saying.{IsReadAs, IsRefusalOf}
use Rattle.run_main.specs.Top.{IsOrMemory}
use Rattle.run_main.specs.declared.status.Status.{Status}
use Rattle.run_main.specs.declared.status.Status.TheVariants.{Done, Usage, BadLine, ReadFault, WriteFault, Memory}
use Rattle.run_main.specs.declared.status.Status.TheVariants.{TooLarge}
use Rattle.run_main.specs.declared.top.TheConstants.{INPUT_LIMIT}

-- the one word `line`
abbrev pub IsLineWord : List (List ℕ) → Type 0
IsLineWord words = words ≡ codes "line" ∷ []

-- ---- the input

-- the input is not too long, and reads as this line of packets
pub record IsPacketLine (input : List ℕ) (line : LineView) : Type 0 where
  pub short : length input ≤ INPUT_LIMIT
  pub reads : reading input ≡ Ok line

pub record HasPacketLine (input : List ℕ) : Type 0 where
  pub line : LineView
  pub is : IsPacketLine input line

-- the input is refused with this status: it is too long, or else this is the fault of its first faulty line
abbrev pub IsRefusedLine : List ℕ → Status → Type 0
IsRefusedLine input (BadLine line) = (length input ≤ INPUT_LIMIT) × (reading input ≡ Err (BadLineFault line))
IsRefusedLine input (TooLarge limit line) =
    IsTooLong input limit line ⊎ ((length input ≤ INPUT_LIMIT) × (reading input ≡ Err (TooLargeFault limit line)))
IsRefusedLine input _ = ⊥

-- what is answered where no read failed
pub record SettlesLine (input : List ℕ) (result : Result LineView Status) : Type 0 where
  pub line : (line : LineView) → IsPacketLine input line → IsReadAs result
  pub refused : (refusal : Status) → IsRefusedLine input refusal → IsRefusalOf refusal result

-- the input reads as this line, and as nothing else
pub record IsReadLine (input : List ℕ) (line : LineView) : Type 0 where
  pub is : IsPacketLine input line
  pub settles : SettlesLine input (Ok line)

-- why there is no line of packets
abbrev pub IsLineReadingFault : Option (List ℕ) → Type 0 → Status → Type 0
IsLineReadingFault left rose (BadLine line) = IfSome left (λ input. IsRefusedLine input (BadLine line))
IsLineReadingFault left rose (TooLarge limit line) =
    IsPlaced limit line × IfSome left (λ input. IsRefusedLine input (TooLarge limit line))
IsLineReadingFault left rose ReadFault = rose
IsLineReadingFault left rose Memory = Unit {0}
IsLineReadingFault left rose _ = ⊥

abbrev pub IsLineParsingFault : List ℕ → Status → Type 0
IsLineParsingFault input (BadLine line) = IsRefusedLine input (BadLine line)
IsLineParsingFault input (TooLarge limit line) = IsRefusedLine input (TooLarge limit line)
IsLineParsingFault input Memory = Unit {0}
IsLineParsingFault input _ = ⊥

-- ---- the output

-- what leaves a new switch of the first epoch with the packets, one after the other, and what it shows afterwards
abbrev pub line_output : LineView → List ℕ
line_output line = output_text (answers (opening_view line.config 1 0) line.packets)
    (final (opening_view line.config 1 0) line.packets)

-- ---- the answers

-- the cause of each answer, where the source tells what it has left; a count of faults rose in this call, or not. Other
-- answers never come
abbrev pub HasLineCause : List (List ℕ) → Option (List ℕ) → Type 0 → Type 0 → Status → Type 0
HasLineCause words left source_rose sink_rose Done = IsLineWord words × IfSome left HasPacketLine
HasLineCause words left source_rose sink_rose Usage = ¬ (IsLineWord words)
HasLineCause words left source_rose sink_rose (BadLine line) =
    IsLineWord words × IfSome left (λ input. IsRefusedLine input (BadLine line))
HasLineCause words left source_rose sink_rose ReadFault = IsLineWord words × source_rose
HasLineCause words left source_rose sink_rose WriteFault = sink_rose
HasLineCause words left source_rose sink_rose Memory = Unit {0}
HasLineCause words left source_rose sink_rose (TooLarge limit line) =
    IsLineWord words × IsPlaced limit line × IfSome left (λ input. IsRefusedLine input (TooLarge limit line))
HasLineCause words left source_rose sink_rose _ = ⊥

-- where no count rose that could have another cause: the refusal, or the output, memory aside
pub record IsLineSettled (words : List (List ℕ)) (left : Option (List ℕ)) (source_calm sink_calm : Type 0)
    (status : Status) : Type 0 where
  pub other_words : ¬ (IsLineWord words) → sink_calm → IsOrMemory Usage status
  pub refused : IsLineWord words → source_calm → sink_calm
      → IfSome left (λ input. (refusal : Status) → IsRefusedLine input refusal → IsOrMemory refusal status)
  pub passed : IsLineWord words → source_calm → sink_calm
      → IfSome left (λ input. (line : LineView) → IsPacketLine input line → IsOrMemory Done status)

-- ---- what is written

-- the text is the output of the line of packets that the input is
pub record IsLineOutputDue (input text : List ℕ) : Type 0 where
  pub line : LineView
  pub is : IsPacketLine input line
  pub output : text ≡ line_output line

-- the status and the text that are due for these words and for the input that the source tells
abbrev pub IsLineDue : List (List ℕ) → Option (List ℕ) → Status → List ℕ → Type 0
IsLineDue words left Done text = IsLineWord words × IfSome left (λ input. IsLineOutputDue input text)
IsLineDue words left Usage text = (¬ (IsLineWord words)) × (text ≡ usage_line)
IsLineDue words left (BadLine line) text =
    IsLineWord words × IfSome left (λ input. IsRefusedLine input (BadLine line)) × (text ≡ bad_line line)
IsLineDue words left (TooLarge limit line) text =
    IsLineWord words × IfSome left (λ input. IsRefusedLine input (TooLarge limit line))
    × (text ≡ too_large_line limit line)
IsLineDue words left _ text = ⊥

-- some text was due, and a prefix of it was written
pub record LineWrotePrefix (words : List (List ℕ)) (left : Option (List ℕ)) (before now : List ℕ) : Type 0 where
  pub status : Status
  pub text : List ℕ
  pub count : ℕ
  pub due : IsLineDue words left status text
  pub wrote : now ≡ before ++ take count text

pub record LineWroteWhole (words : List (List ℕ)) (left : Option (List ℕ)) (before now : List ℕ) (status : Status)
    : Type 0 where
  pub text : List ℕ
  pub due : IsLineDue words left status text
  pub wrote : now ≡ before ++ text

-- what was written, by the answer: the text that was due; where the write failed a prefix of it; and nothing else
abbrev pub LineWrote : List (List ℕ) → Option (List ℕ) → List ℕ → List ℕ → Status → Type 0
LineWrote words left before now ReadFault = now ≡ before
LineWrote words left before now Memory = now ≡ before
LineWrote words left before now WriteFault = LineWrotePrefix words left before now
LineWrote words left before now status = LineWroteWhole words left before now status

-- the same of a sink that tells what was written, and then goes on telling
abbrev pub LineWroteDue : List (List ℕ) → Option (List ℕ) → Option (List ℕ) → Option (List ℕ) → Status → Type 0
LineWroteDue words left None now status = Unit {0}
LineWroteDue words left (Some before) None status = ⊥
LineWroteDue words left (Some before) (Some now) status = LineWrote words left before now status

-- What an input is to a top call: a workload, an image, a report, the events of a link, or one that is refused.
use Rattle.std.specs.Prelude.{◌≡◌, ◌⊎◌, ℕ, ◌+◌, ◌<◌, ◌≤◌, List, length}
use Rattle.far_base.specs.declared.kept.KeptItem.{KeptItem}
use Rattle.kept_image.specs.Faults.{HasImageFault}
use Rattle.kept_image.specs.Meaning.{IsImage}
use Rattle.kept_image.specs.declared.fault.ImageFault.TheVariants.{BadLine as BadImageFault, Conflict as ConflictFault}
use Rattle.log_audit.specs.Form.{IsReportOf}
use Rattle.log_audit.specs.Good.{IsFirstBad, IsGoodReport}
use Rattle.log_audit.specs.Reading.{HasReportFault}
use Rattle.log_audit.specs.declared.fault.AuditFault.TheVariants.{BadLine as BadReportFault, TooLarge as TooLargeReport}
use Rattle.log_audit.specs.declared.line.HistLine.{HistLine}
use Rattle.link_text.specs.Faults.{HasScriptFault}
use Rattle.link_text.specs.Script.{IsScript}
use Rattle.retry_link.specs.declared.link.LinkEvent.{LinkEvent}
use Rattle.workload.specs.Faults.{HasFault}
use Rattle.workload.specs.Meaning.{IsReading}
use Rattle.workload.specs.WorkView.{WorkView}
use Rattle.workload.specs.declared.fault.Limit.{Limit}
use Rattle.workload.specs.declared.fault.Limit.TheVariants.{Input, Ops}
use Rattle.workload.specs.declared.fault.WorkFault.TheVariants.{BadLine as BadLineFault, TooLarge as TooLargeFault}
use Rattle.run_main.specs.declared.status.Status.{Status}
use Rattle.run_main.specs.declared.status.Status.TheVariants.{BadLine, TooLarge, BadImage, Conflict, Wrong}
use Rattle.run_main.specs.declared.top.TheConstants.{INPUT_LIMIT}

-- the input is not too long, and reads as this workload
pub record IsWorkload (input : List ℕ) (work : WorkView) : Type 0 where
  pub short : length input ≤ INPUT_LIMIT
  pub reads : IsReading input work

pub record HasWorkload (input : List ℕ) : Type 0 where
  pub work : WorkView
  pub is : IsWorkload input work

-- the limit of a whole input, which no line of it passes
abbrev pub IsOfAll : Limit → ℕ → Type 0
IsOfAll limit line = (limit ≡ Input) × (line ≡ 0)

-- the limit of a whole input, or one that a line of it passes; lines are counted from 1
abbrev pub IsPlaced : Limit → ℕ → Type 0
IsPlaced limit line = IsOfAll limit line ⊎ (0 < line)

-- the same, where the only limit of lines is their number
abbrev pub IsPlacedOps : Limit → ℕ → Type 0
IsPlacedOps limit line = IsOfAll limit line ⊎ ((limit ≡ Ops) × (0 < line))

-- more bytes than are read
abbrev pub IsTooLong : List ℕ → Limit → ℕ → Type 0
IsTooLong input limit line = (INPUT_LIMIT < length input) × IsOfAll limit line

-- the input is refused with this status: it is too long, or else this is the fault of its first faulty line
abbrev pub IsRefusedAs : List ℕ → Status → Type 0
IsRefusedAs input (BadLine line) = (length input ≤ INPUT_LIMIT) × HasFault input (BadLineFault line)
IsRefusedAs input (TooLarge limit line) =
    IsTooLong input limit line ⊎ ((length input ≤ INPUT_LIMIT) × HasFault input (TooLargeFault limit line))
IsRefusedAs input _ = ⊥

pub record IsRefused (input : List ℕ) : Type 0 where
  pub status : Status
  pub is : IsRefusedAs input status

-- ---- images

-- the input is not too long, and reads as this kept list
pub record IsKeptList (input : List ℕ) (items : List KeptItem) : Type 0 where
  pub short : length input ≤ INPUT_LIMIT
  pub reads : IsImage input items

-- the input is refused as an image with this status: it is too long, or else this is the fault of its first faulty line
abbrev pub IsRefusedImage : List ℕ → Status → Type 0
IsRefusedImage input (BadImage line) = (length input ≤ INPUT_LIMIT) × HasImageFault input (BadImageFault line)
IsRefusedImage input (Conflict line) = (length input ≤ INPUT_LIMIT) × HasImageFault input (ConflictFault line)
IsRefusedImage input (TooLarge limit line) = IsTooLong input limit line
IsRefusedImage input _ = ⊥

-- ---- reports

-- the input is not too long, and is a report whose lines are good
pub record IsApproved (input : List ℕ) : Type 0 where
  pub short : length input ≤ INPUT_LIMIT
  pub good : IsGoodReport input

-- the input is not too long, and is a report; its lines up to this line of the input, which is the first such, are not
-- good
pub record IsWrongAt (input : List ℕ) (line : ℕ) : Type 0 where
  pub short : length input ≤ INPUT_LIMIT
  pub lines : List HistLine
  pub reads : IsReportOf input lines
  pub count : ℕ
  pub bad : IsFirstBad lines count
  pub is : line ≡ count + 3

-- the input is refused as a report with this status: it is too long, or this is the fault of its first faulty line, or
-- else its lines are not good
abbrev pub IsRefusedReport : List ℕ → Status → Type 0
IsRefusedReport input (BadLine line) = (length input ≤ INPUT_LIMIT) × HasReportFault input (BadReportFault line)
IsRefusedReport input (TooLarge limit line) = IsTooLong input limit line
    ⊎ ((length input ≤ INPUT_LIMIT) × (limit ≡ Ops) × HasReportFault input (TooLargeReport line))
IsRefusedReport input (Wrong line) = IsWrongAt input line
IsRefusedReport input _ = ⊥

-- ---- the events of a link

-- the input is not too long, and tells these events
pub record IsLinkScript (input : List ℕ) (events : List LinkEvent) : Type 0 where
  pub short : length input ≤ INPUT_LIMIT
  pub reads : IsScript input events

-- the input is refused as events with this status: it is too long, or else this is the fault of its first faulty line
abbrev pub IsRefusedScript : List ℕ → Status → Type 0
IsRefusedScript input (BadLine line) = (length input ≤ INPUT_LIMIT) × HasScriptFault input (BadLineFault line)
IsRefusedScript input (TooLarge limit line) =
    IsTooLong input limit line ⊎ ((length input ≤ INPUT_LIMIT) × HasScriptFault input (TooLargeFault limit line))
IsRefusedScript input _ = ⊥

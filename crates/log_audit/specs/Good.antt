-- Which histories are good, by what their lines say alone.
use Rattle.std.specs.Prelude.{◌≡◌, ◌≢◌, ℕ, ◌<◌, ◌≤◌, true, if◌then◌else◌, List, [], ◌∷◌, take, Option, Some, None}
use Rattle.far_base.specs.declared.record.Versioned.{Versioned}
use Rattle.far_model.specs.History.{nothing, with_write}
use Rattle.far_model.specs.Log.{is_read}
use Rattle.far_model.specs.Members.{Each, Pairs}
use Rattle.log_audit.specs.Form.{IsReportOf}
use Rattle.log_audit.specs.declared.line.HistLine.{HistLine}

-- what the line says that its operation wrote or read
abbrev pub held_of : HistLine → Versioned
held_of l = record { num = l.num; body = l.body }

-- what the keys are set to once the operation has taken effect
abbrev pub map_with : (List ℕ → Versioned) → HistLine → List ℕ → Versioned
map_with map l = if is_read l.kind then map else with_write map l.key (held_of l)

-- each read has what its key is set to then
abbrev pub IsLegalFrom : (List ℕ → Versioned) → List HistLine → Type 0
IsLegalFrom map [] = Unit {0}
IsLegalFrom map (l ∷ ls) = (is_read l.kind ≡ true → held_of l ≡ map l.key) × IsLegalFrom (map_with map l) ls

-- no two lines are of one operation; each was sent before it was answered; in the order of the lines each read has what
-- the last write of its key before it wrote, or number 0 and no body; and of two lines the later one was not answered
-- before the earlier one was sent
pub record IsGood (lines : List HistLine) : Type 0 where
  pub differ : Pairs (λ (x y : HistLine). x.op ≢ y.op) lines
  pub spans : Each (λ (l : HistLine). l.sent < l.answered) lines
  pub legal : IsLegalFrom (λ key. nothing) lines
  pub in_time : Pairs (λ (earlier later : HistLine). earlier.sent ≤ later.answered) lines

-- so many lines, and no fewer, are not good
pub record IsFirstBad (lines : List HistLine) (count : ℕ) : Type 0 where
  pub bad : ¬ (IsGood (take count lines))
  pub before : (fewer : ℕ) → fewer < count → IsGood (take fewer lines)

-- the lines are good, or this is the least number of first lines that are not
abbrev pub IsJudged : List HistLine → Option ℕ → Type 0
IsJudged lines None = IsGood lines
IsJudged lines (Some count) = IsFirstBad lines count

-- the text is a report whose lines are good
pub record IsGoodReport (text : List ℕ) : Type 0 where
  pub lines : List HistLine
  pub is : IsReportOf text lines
  pub good : IsGood lines

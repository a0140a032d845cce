-- The form of a report, as far as its history is judged: between the history and the last line stand any lines.
use Rattle.std.specs.Prelude.{◌≡◌, ◌⊎◌, ℕ, ◌<◌, ◌≤◌, List, [], ◌∷◌, ◌++◌, length, codes, decimal, IsTrue}
use Rattle.std.specs.List.{flat_map}
use Rattle.far_base.specs.Key.{key_text}
use Rattle.far_base.specs.declared.plan.TheConstants.{CLIENT_LIMIT, OP_LIMIT}
use Rattle.far_history.specs.Report.{kind_word, source_word}
use Rattle.far_model.specs.Members.{Each}
use Rattle.far_text.specs.Numbers.{IsNumber}
use Rattle.far_text.specs.Text.{body_word, text_line}
use Rattle.far_text.specs.Words.{IsBody, IsKey}
use Rattle.log_audit.specs.Words.{fits_kind, title}
use Rattle.log_audit.specs.declared.line.HistLine.{HistLine}

-- ---- a line of the history

abbrev pub hist_line : HistLine → List ℕ
hist_line l = text_line (decimal l.op ∷ decimal l.client ∷ kind_word l.kind ∷ key_text l.key ∷ decimal l.num
    ∷ body_word l.body ∷ source_word l.near ∷ decimal l.sent ∷ decimal l.answered ∷ [])

-- what a line can say of an operation
pub record IsHistLine (l : HistLine) : Type 0 where
  pub op : IsNumber l.op
  pub above : 0 < l.op
  pub client : l.client < CLIENT_LIMIT
  pub key : IsKey l.key
  pub num : IsNumber l.num
  pub body : IsBody l.body
  pub fits : IsTrue (fits_kind l.kind l.body)
  pub sent : IsNumber l.sent
  pub answered : IsNumber l.answered

abbrev pub hist_lines : List HistLine → List ℕ
hist_lines lines = flat_map hist_line lines

-- ---- the whole text

-- the three lines before a history of so many lines
abbrev pub head_text : ℕ → ℕ → List ℕ
head_text steps count = text_line (title ∷ []) ++ text_line (codes "steps" ∷ decimal steps ∷ [])
    ++ text_line (codes "history" ∷ decimal count ∷ [])

-- nothing, or bytes that end with the end of a line
abbrev pub AreLines : List ℕ → Type 0
AreLines bytes = (bytes ≡ []) ⊎ ((front : List ℕ) × (bytes ≡ front ++ 10 ∷ []))

abbrev pub end_line : List ℕ
end_line = text_line (codes "end" ∷ [])

-- the text is a report with these lines of the history
pub record IsReportOf (text : List ℕ) (lines : List HistLine) : Type 0 where
  pub steps : ℕ
  pub between : List ℕ
  pub spelled : text ≡ head_text steps (length lines) ++ hist_lines lines ++ between ++ end_line
  pub number : IsNumber steps
  pub few : length lines ≤ OP_LIMIT
  pub fit : Each IsHistLine lines
  pub are_lines : AreLines between
